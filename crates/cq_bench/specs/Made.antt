-- A file in which dead and live records of many lengths take turns.
use Rattle.std.specs.Prelude.{ℕ, zero, suc, ◌+◌, ◌*◌, ◌%◌, List, [], ◌∷◌}
use Rattle.cq_block.specs.declared.layout.Block.{Block}

abbrev pub dead_len : ℕ → ℕ
dead_len k = 25 + k * 104729 % 4000

abbrev pub live_len : ℕ → ℕ
live_len k = 25 + k * 7919 % 2000

-- so many pairs of a dead and a live record, from a number and a place on
abbrev pub blocks_from : ℕ → ℕ → ℕ → List Block
blocks_from zero k at = []
blocks_from (suc n) k at =
    record { at = at; len = dead_len k; id = 2 * k + 1 } ∷ record { at = at + dead_len k; len = live_len k; id = 2 * k + 2 } ∷ blocks_from n (k + 1) (at + dead_len k + live_len k)

-- the ids of the live ones
abbrev pub ids_from : ℕ → ℕ → List ℕ
ids_from zero k = []
ids_from (suc n) k = (2 * k + 2) ∷ ids_from n (k + 1)
