use Rattle.std.proofs.Common.{◌≡◌, ◌<◌, length}
use Rattle.cq_flying.specs.Words.{seat_ids, opened_of}
use Rattle.cq_flying.proofs.tests.see_all.Given as goal

abbrev pub invariant-loop-delivery : goal.invariant-loop-delivery
invariant-loop-delivery g l = record {
  client : 0 < length (seat_ids l.looker.seats);
  none : length (opened_of l.looker.seats 0) ≡ 0;
}
