use Rattle.std.proofs.Common.{◌≡◌, ◌∙◌, ℕ, List, [], length, sym, ap, refl, subst}
use mathlib.Core.Option.{some}
use lib.ListN.{get_elem?}
use Rattle.atomic_table.proofs.Lists.{at_last}
use Rattle.cq_inbox.specs.declared.request.Request.{Request}
use Rattle.cq_inbox.proofs.Shown.{map_at}
use Rattle.cq_lane.specs.Lanes.{OneSender, sent_by}
use Rattle.cq_bench.proofs.lanes.one_lane.Goals as goal

pub beside-requires-clause-fresh : goal.beside-requires-clause-fresh
beside-requires-clause-fresh g c κs _ =
    let n : ℕ = length c.pop.new.self.items in
    let senders : List OneSender = c.in_ok-made.made.senders.items in
    let at : get_elem? senders n ≡ some c.in-Some.sender = subst (λ (l : List OneSender). get_elem? l n ≡ some c.in-Some.sender) (sym c.in-Some.ensures.items) (at_last c.pop.new.self.items c.in-Some.sender n refl) in
    ap (λ (l : List Request). length l) (sym (map_at sent_by senders n c.in-Some.sender [] at) ∙ (c.in_ok-made.ensures.fresh n).0)
