use Rattle.std.proofs.Common.{rules}
use Rattle.std.proofs.lemmas.List.Sorted.{answers_always}
use Rattle.cq_back_q.proofs.Numbered.{number_of, search_store}
use Rattle.cq_back_q.proofs.segment.store_of.Goals as goal

-- the closure gives a store's number
pub returns : goal.returns
returns c =
    let facts = c.binary_search_by_key.ensures in
    search_store c.args.number c.args.stores.now c.binary_search_by_key.result c.ok.result c.requires facts.bound (facts.position number_of (answers_always _ _ _ (λ f a r g called. search rules))) c.ok.ensures.value
