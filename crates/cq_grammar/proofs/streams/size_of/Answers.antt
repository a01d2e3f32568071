use Rattle.std.proofs.Common.{ℕ, ◌≤◌, List, length, arith, subst, sym}
use Rattle.cq_bytes.specs.Numbers.{AreQueues}
use Rattle.cq_grammar.proofs.Sizes.{product-small}
use Rattle.cq_grammar.proofs.streams.size_of.Goals as goal

pub overflow_mul-result : goal.overflow_mul-result
overflow_mul-result c = omega (arith, product-small c.numbers.result.now c.bytes.result.now (subst AreQueues (sym c.numbers.ensures.same) c.numbers.ensures.queues) (subst (λ (xs : List ℕ). length xs ≤ 1048576) (sym c.bytes.ensures.same) c.bytes.ensures.short))

pub returns-in-Publish-clause-small : goal.returns-in-Publish-clause-small
returns-in-Publish-clause-small c = product-small c.numbers.result.now c.bytes.result.now (subst AreQueues (sym c.numbers.ensures.same) c.numbers.ensures.queues) (subst (λ (xs : List ℕ). length xs ≤ 1048576) (sym c.bytes.ensures.same) c.bytes.ensures.short)
