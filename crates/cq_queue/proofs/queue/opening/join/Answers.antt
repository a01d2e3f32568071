use Rattle.std.proofs.Common.{◌≡◌, ◌∙◌, ◌++◌, ◌∷◌, [], List, length, sym, ap, subst, arith}
use Rattle.cq_index.specs.declared.segment.Segment.{Segment}
use Rattle.cq_index.specs.Places.{index_name}
use Rattle.cq_folder.specs.Queue.{RiseAs, indexes_of}
use Rattle.cq_queue.specs.declared.segment.QueueSegment.{QueueSegment}
use Rattle.cq_queue.proofs.Finding.{nothing_left}
use Rattle.cq_queue.proofs.Joining.{JoinsTo, all_joined, join_next, last_index_named}
use Rattle.cq_queue.proofs.queue.opening.join.Goals as goal

pub join_last-joined-requires-clause-index : goal.join_last-joined-requires-clause-index
join_last-joined-requires-clause-index c =
    last_index_named c.args.queue c.pop.new.self.items c.in-Some.segment (subst (λ (ss : List Segment). RiseAs (index_name c.args.queue) (indexes_of ss)) c.in-Some.ensures.items c.loop-segment.invariant.files.rise)

pub loop-segment-preserved : goal.loop-segment-preserved
loop-segment-preserved c = let l = c.loop-segment in
    let q = c.join_last-joined.result in
    let new = c.join_last-joined.new.stores.items in
    let was = subst (λ (ss : List Segment). JoinsTo c.args.queue c.args.segments.items c.args.stores.items ss l.stores.items l.list.items) c.in-Some.ensures.items l.invariant in
    subst (JoinsTo c.args.queue c.args.segments.items c.args.stores.items c.pop.new.self.items new) (sym (c.push_front_reserved.ensures.items ∙ ap (λ (qs : List QueueSegment). q ∷ qs) c.reserve.ensures.items))
    (join_next c.args.queue c.args.segments.items c.args.stores.items c.pop.new.self.items c.in-Some.segment l.stores.items new l.list.items q was c.join_last-joined.ensures.index c.join_last-joined.ensures.taken)

pub returns : goal.returns
returns c = let l = c.loop-segment in
    let empty : l.segments.items ≡ [] = nothing_left l.segments.items (let none = c.in_default.ensures.cases.0 in let size = l.segments.ok.0 in omega (arith, none, size)) in
    all_joined c.args.queue c.args.segments.items c.args.stores.items l.stores.items l.list.items (subst (λ (ss : List Segment). JoinsTo c.args.queue c.args.segments.items c.args.stores.items ss l.stores.items l.list.items) empty l.invariant)
