use Rattle.std.proofs.Common.{◌≡◌, take}
use Rattle.std.specs.Prelude.{filter}
use Rattle.cq_back_q.specs.Folder.{is_of}
use Rattle.cq_back_q.proofs.own.names_of.Given as goal

abbrev pub invariant-loop-name : goal.invariant-loop-name
invariant-loop-name l = l.own.items ≡ filter (is_of l.queue) (take l.name-index l.names)
