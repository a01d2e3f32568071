use Rattle.std.proofs.Common.{◌≤◌, take}
use Rattle.std.specs.Prelude.{vec_capacity}
use Rattle.std.specs.List.{AllZip}
use Rattle.cq_index.specs.Codec.{IsPresent}
use Rattle.cq_index.specs.Opened.{piece_at}
use Rattle.cq_bulk.proofs.entries.pick.Given as goal

abbrev pub invariant-loop-at : goal.invariant-loop-at
invariant-loop-at l =
    AllZip (λ k e. IsPresent (piece_at l.bytes k) e) (take l.at-index l.present) l.entries.items × (vec_capacity l.fn.entries ≤ vec_capacity l.entries)
