use Rattle.std.proofs.Common.{◌≡◌, ℕ, ◌<◌, ◌≤◌, ◌+◌, ◌%◌, get_or}
use Rattle.cq_memdisk.proofs.altered.raise.Given as goal

abbrev pub invariant-loop-byte : goal.invariant-loop-byte
invariant-loop-byte l = ((k : ℕ) → k < l.byte-index → get_or l.bytes k 0 ≡ (get_or l.initial.bytes k 0 + 1) % 256) × ((k : ℕ) → l.byte-index ≤ k → get_or l.bytes k 0 ≡ get_or l.initial.bytes k 0)
