use Rattle.std.proofs.Common.{◌≡◌, ◌<◌, length, Contains}
use Rattle.cq_flying.specs.Words.{seat_ids, opened_of}
use Rattle.cq_flying.proofs.tests.until_dropped.Given as goal

abbrev pub invariant-loop : goal.invariant-loop
invariant-loop g l = record {
  client : 0 < length (seat_ids l.looker.seats);
  one : length (opened_of l.looker.seats 0) ≡ 1;
  opened : Contains (opened_of l.looker.seats 0) l.delivery;
}
