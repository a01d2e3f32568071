use Rattle.std.proofs.Common.{◌≤◌, ◌-◌, length, drop}
use Rattle.cq_block.specs.Blocks.{IsRun}
use Rattle.cq_block.proofs.reader.chain.Given as goal

abbrev pub invariant-loop-offset : goal.invariant-loop-offset
invariant-loop-offset l = record { within : l.offset ≤ length l.content; run : IsRun 128 l.content l.blocks.items (drop l.offset l.content) }

abbrev pub decreases-loop-offset : goal.decreases-loop-offset
decreases-loop-offset l = length l.content - l.offset
