use Rattle.std.proofs.Common.{rules, subst}
use Rattle.std.proofs.lemmas.List.Sorted.{answers_always}
use Rattle.std.specs.List.Sorted.{IsSearchInRange}
use Rattle.cq_queue.specs.declared.segment.QueueSegment.{QueueSegment}
use Rattle.cq_queue.proofs.Over.{rise_by}
use Rattle.cq_queue.proofs.Searching.{search_position}
use Rattle.cq_queue.proofs.segments.Segments.place_of.Goals as goal

-- the closure gives a segment's number
pub returns : goal.returns
returns c =
    let s = c.args.self.now in
    let facts = c.binary_search_by_key.ensures in
    let long = s.list.ok.0 in
    search_position (λ (p : QueueSegment). p.number) c.args.number s.list.items c.binary_search_by_key.result c.ok.result (rise_by s.list.items s.are.1) (subst (IsSearchInRange c.binary_search_by_key.result) long facts.bound) (facts.position (λ p. p.number) (answers_always _ _ _ (λ f a r g called. search rules))) c.ok.ensures.value
