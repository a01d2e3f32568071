use Rattle.cq_journal.proofs.More.{first-waits, apart-open, keys-open, settled-removed}
use Rattle.cq_journal.specs.History.{line}
use Rattle.cq_journal_laws.proofs.Changed.{line-changes, waiting-changes, unacked-changes, settled-changes, acked-one, dropped-one, others-acked, end-undoes-get}
use Rattle.cq_journal_laws.proofs.laws.Goals as goal

pub returns : goal.returns
returns c = record {
  line = line-changes;
  waiting = waiting-changes;
  unacked = unacked-changes;
  acked = record { by_ack = acked-one; by_drop = dropped-one; by_no_other = others-acked };
  settled = settled-changes;
  first_is_free = λ past q id f. first-waits past q id (line past q) f;
  none_pairs_up = apart-open;
  have_keys = keys-open;
  settled_was_acked = settled-removed;
  end_undoes_get = end-undoes-get;
}
