use Rattle.cq_queue_laws.proofs.Keeps.{keeps-published, follows-waiting}
use Rattle.cq_queue_laws.proofs.Elsewhere.{keeps-acked-other, keeps-dropped-other, keeps-ended-other}
use Rattle.cq_queue_laws.proofs.Commits.{keeps-passed, drop-first}
use Rattle.cq_queue_laws.proofs.Settles.{settling-filters, settling-keeps}
use Rattle.cq_queue_laws.proofs.Told.{follows-count, follows-once, follows-out-once, follows-fresh}
use Rattle.cq_queue_laws.proofs.Referred.{refs-published, refs-settled}
use Rattle.cq_queue_laws.proofs.Entries.{entry-keeps, opened-keeps}
use Rattle.cq_queue_laws.proofs.Undecided.{undecided-publish, undecided-passing, undecided-settling, undecided-delivery, undecided-holding}
use Rattle.cq_items.specs.Items.{ack_one, back_one}
use Rattle.cq_queue_laws.proofs.laws.Goals as goal

pub returns : goal.returns
returns c = record {
  entries_keep = record {
    quiet = entry-keeps;
    published = λ items past stamp c n id q len queues body held l there f. keeps-published items past stamp c n id q len queues body held l.3 l.0.1 there f;
    opened = opened-keeps;
  };
  others_stay = record { by_ack = keeps-acked-other; by_drop = keeps-dropped-other; by_end = keeps-ended-other };
  passing_keeps = record { passed = keeps-passed; dropped_first = drop-first };
  settling_keeps = record { filters = settling-filters; settled = settling-keeps };
  items_tell = record {
    waiting_ids = follows-waiting;
    waiting_count = follows-count;
    next_is_fresh = follows-fresh;
    ids_once = follows-once;
    out_once = follows-out-once;
  };
  undecided_changes = record {
    by_publish = undecided-publish;
    by_passing = undecided-passing;
    by_settling = undecided-settling;
    by_delivery = undecided-delivery;
    by_ack = λ items c d. undecided-holding items (ack_one c d);
    by_end = λ items c. undecided-holding items (back_one c);
  };
  refs_count = record { published = refs-published; settled_one = refs-settled };
}
