use Rattle.std.proofs.Common.{◌≡◌, ◌++◌, length, take}
use Rattle.std.specs.Int.{w64, to_be_bytes}
use Rattle.std.specs.List.{flat_map}
use Rattle.cq_block.specs.Plans.{AllFit, move_bytes}
use Rattle.cq_block.proofs.plan.encode_plan.Given as goal

abbrev pub invariant-loop-step : goal.invariant-loop-step
invariant-loop-step l = record {
  spelled : l.bytes.items ≡ to_be_bytes w64 (length l.moves) ++ flat_map move_bytes (take l.step-index l.moves);
  fit : AllFit (take l.step-index l.moves);
}
