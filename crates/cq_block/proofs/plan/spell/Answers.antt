use Rattle.std.proofs.Common.{◌≡◌, ℕ, List, ◌++◌, append_assoc}
use Rattle.std.specs.Int.{w64, w128, to_be_bytes}
use Rattle.cq_block.specs.Plans.{move_bytes}
use Rattle.cq_block.proofs.plan.spell.Goals as goal

regroup : (old a b c d : List ℕ) → (((old ++ a) ++ b) ++ c) ++ d ≡ old ++ (((a ++ b) ++ c) ++ d)
regroup old a b c d = simp append_assoc

pub returns-clause-spelled : goal.returns-clause-spelled
unfolding move_bytes
returns-clause-spelled c =
    let m = c.args.step.now in
    rw (c.in_ok-extend_from_slice-4.ensures.items, c.in_ok-extend_from_slice-3.ensures.items, c.in_ok-extend_from_slice-2.ensures.items, c.in_ok-extend_from_slice.ensures.items, c.to_be_bytes-4.ensures, c.to_be_bytes-3.ensures, c.to_be_bytes-2.ensures, c.to_be_bytes.ensures)
    (regroup c.args.bytes.now.items (to_be_bytes w128 m.id) (to_be_bytes w64 m.from) (to_be_bytes w64 m.to) (to_be_bytes w64 m.len))
