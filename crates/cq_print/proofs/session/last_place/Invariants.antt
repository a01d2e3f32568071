use Rattle.std.proofs.Common.{◌≡◌, take, length}
use Rattle.cq_print.specs.Clients.{behind}
use Rattle.cq_print.specs.Lines.{last_place}
use Rattle.cq_print.proofs.session.last_place.Given as goal

abbrev pub invariant-loop-place : goal.invariant-loop-place
invariant-loop-place l = l.last ≡ last_place (length l.entries) l.client (behind (take l.place l.entries))
