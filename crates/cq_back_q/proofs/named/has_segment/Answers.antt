use Rattle.std.proofs.Common.{rules, ◌∙◌}
use Rattle.std.proofs.lemmas.List.Sorted.{answers_always}
use Rattle.cq_back_q.proofs.Searching.{has_search, number_of}
use Rattle.cq_back_q.proofs.named.has_segment.Goals as goal

-- the closure gives a segment's number
pub returns : goal.returns
returns c = let facts = c.binary_search_by_key.ensures in
    c.is_ok.ensures.value
    ∙ has_search c.args.number c.args.segments.now c.binary_search_by_key.result c.requires facts.bound (facts.position number_of (answers_always _ _ _ (λ f a r g called. search rules)))
