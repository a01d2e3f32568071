use Rattle.std.proofs.Common.{ℕ, subst}
use Rattle.cq_queue.specs.Opening.{TakesStore}
use Rattle.cq_queue.proofs.queue.opening.join_last.Goals as goal

pub returns-clause-taken : goal.returns-clause-taken
returns-clause-taken c = subst (λ (n : ℕ). TakesStore n c.args.stores.now.items c.take_store-small.new.stores.items c.take_store-small.result) c.number-number.ensures c.take_store-small.ensures.taken
