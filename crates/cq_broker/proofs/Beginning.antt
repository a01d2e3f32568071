-- What is in memory where the folder held nothing.
use Prim.Native.Nat.{zero, suc}
use Rattle.std.proofs.Common.{◌≡◌, ℕ, ◌+◌, ◌<◌, ◌≤◌, Bool, false, cond, List, [], refl, sym, ap, ◌∙◌, subst, arith, inl, inr}
use Rattle.std.specs.Ordering.{nat_cmp}
use Rattle.std.specs.FinMap.{FinMap, empty, get, get-empty}
use Rattle.std.proofs.lemmas.Bool.{cases_lt}
use Rattle.std.proofs.lemmas.Option.{slice_get_past}
use Rattle.cq_entry.specs.declared.entry.EntryKind.TheVariants.{Small}
use Rattle.cq_journal.specs.declared.event.Event.TheVariants as event
use Rattle.cq_journal.specs.declared.event.Entry.{Entry}
use Rattle.cq_items.specs.Item.{Item}
use Rattle.cq_items.specs.Items.{has_item, undecided_items}
use Rattle.cq_queue_laws.specs.Refs.{count_below}
use Rattle.cq_confirm.specs.declared.lack.Lack.{Lack}
use Rattle.cq_confirm.specs.Lacking.{count_of}
use Rattle.cq_stored.specs.InStep.{IsInStep}
use Rattle.cq_stored.proofs.InStep.{in_step_laws}
use Rattle.cq_queue.specs.Values.{QueueValue, empty_queue}
use Rattle.cq_queues.specs.declared.queues.NodeQueues.{NodeQueues}
use Rattle.cq_queues.specs.Queues.{items_at, queue_at}
use Rattle.cq_queues.specs.Values.{value_at}
use Rattle.cq_history.specs.Steps.{noted}
use Rattle.cq_broker.specs.InMemory.{IsInMemory, is_undecided}

pub count-none : (n : ℕ) (p : ℕ → Bool) → ((k : ℕ) → k < n → p k ≡ false) → count_below n p ≡ 0
unfolding count_below
count-none zero p h = refl
count-none (suc n) p h = ap (λ b. count_below n p + cond b 1 0) (h n (omega arith)) ∙ omega (arith, count-none n p (λ k l. h k (omega arith)))

-- past the last queue there is no message
pub beyond-empty : (queues : NodeQueues) (q : ℕ) → 256 ≤ q → items_at queues q ≡ []
beyond-empty queues q far = ap (λ o. (value_at o).items) (slice_get_past queues.cores.items q (omega (arith, queues.count, far)))

-- no queue has a message, whatever its number
pub all-empty : (queues : NodeQueues) (most : ℕ) → ((q : ℕ) → q < 256 → queue_at queues q ≡ empty_queue q most) → (q : ℕ) → items_at queues q ≡ []
all-empty queues most is q = elim (cases_lt q 256) [
  | inl near ↦ ap (λ (v : QueueValue). v.items) (is q near)
  | inr far ↦ beyond-empty queues q (omega (arith, far))
]

pub begins : (queues : NodeQueues) (stamp : ℕ) (past : List Entry) (lacks : FinMap nat_cmp Lack) → past ≡ noted (event.Opened []) stamp [] → lacks ≡ empty → ((q : ℕ) → items_at queues q ≡ []) → IsInMemory (items_at queues) past lacks
begins queues stamp past lacks is none all = record {
  lines = λ q. [];
  in_step = λ q.
      subst (λ (l : List Entry). IsInStep (λ m. Small) (items_at queues q) l q []) (sym is)
      (subst (λ (l : List Item). IsInStep (λ m. Small) l (noted (event.Opened []) stamp []) q []) (sym (all q)) (in_step_laws.opened (λ m. Small) [] stamp q [] tt));
  lacking = λ x.
      ap (λ l. count_of l) (ap (λ (m : FinMap nat_cmp Lack). get m x) none ∙ get-empty nat_cmp x)
      ∙ sym (count-none 256 (is_undecided (items_at queues) x) (λ r near. ap (λ (l : List Item). has_item (undecided_items l) x) (all r)));
}
