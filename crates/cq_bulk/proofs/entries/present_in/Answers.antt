use Rattle.std.proofs.lemmas.Bool.{false≢true}
use Rattle.cq_bulk.proofs.entries.present_in.Goals as goal

pub unreachable-requires : goal.unreachable-requires
unreachable-requires c = false≢true (c.in-None.ensures.form.1 c.in-None-broken_at.ensures)
