use Rattle.std.proofs.Common.{rules, ◌≡◌, ◌∙◌, refl, sym, arith}
use Rattle.cq_entry.specs.declared.entry.EntryKind.TheVariants.{Small}
use Rattle.cq_queue.specs.Values.{value_of}
use Rattle.cq_queue_tests.proofs.Goes.{can_read}
use Rattle.cq_queue_tests.proofs.cores.first_body.Goals as goal

pub read-requires-clause-can : goal.read-requires-clause-can
read-requires-clause-can g c =
    let first = c.in-Some.first in
    let small : first.kind ≡ Small = search in
    let long : first.len ≡ 2 = search in
    can_read (value_of c.args.core.now) first first.id 2 c.requires.running (sym c.in-Some.is ∙ c.first_waiting.ensures) small refl long
