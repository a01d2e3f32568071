use Rattle.std.proofs.Common.{◌∙◌, List, sym, ap, subst}
use Rattle.cq_small.specs.declared.store.SmallStore.{SmallStore}
use Rattle.cq_small.specs.Store.{small_name}
use Rattle.cq_folder.specs.Queue.{RiseAs, stores_of}
use Rattle.cq_queue.specs.Opening.TakesStore.{Other}
use Rattle.cq_queue.proofs.Joining.{last_named}
use Rattle.cq_queue.proofs.queue.opening.take_store.Goals as goal

pub returns-then-number-clause-name : goal.returns-then-number-clause-name
returns-then-number-clause-name c =
    last_named c.args.queue c.pop.new.self.items c.in-Some.store (subst (λ (ts : List SmallStore). RiseAs (small_name c.args.queue) (stores_of ts)) c.in-Some.ensures.items c.requires)
    ∙ ap (small_name c.args.queue) (sym c.number.ensures ∙ c.if-number.true)

pub returns-else-number-clause-taken : goal.returns-else-number-clause-taken
returns-else-number-clause-taken c = Other c.pop.new.self.items c.in-Some.store c.in-Some.ensures.items (λ same. c.if-number.false (c.number.ensures ∙ same)) (c.push_reserved.ensures.items ∙ sym c.in-Some.ensures.items) c.vacant.ensures.vacant
