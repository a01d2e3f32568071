use Rattle.std.proofs.Common.{◌≡◌, List, ℕ, [], ◌∷◌, ◌++◌, append_assoc}
use Rattle.cq_block.specs.Blocks.{block_bytes}
use Rattle.cq_block.proofs.batch.spell.Goals as goal

regroup : (old head body : List ℕ) → ((old ++ head) ++ body) ++ 255 ∷ [] ≡ old ++ ((head ++ body) ++ 255 ∷ [])
regroup old head body = simp append_assoc

pub returns-clause-ok : goal.returns-clause-ok
unfolding block_bytes
returns-clause-ok c =
    rw (c.in_ok-push.ensures.items, c.in_ok-extend_from_slice-2.ensures.items, c.in_ok-extend_from_slice.ensures.items, c.in_ok-reserve.ensures.items, c.head.ensures) (regroup _ _ _)
