-- Each entry keeps that the items of each queue follow the history.
use Rattle.std.proofs.Common.{◌≡◌, ℕ, false, not, cond, List, [], ◌∷◌, refl, sym, ap, ◌∙◌, subst, inl, inr}
use Rattle.std.specs.Prelude.{◌==◌, filter, map}
use Rattle.std.proofs.lemmas.Bool.{cond-true, cond-false, eqb-true, cases_Bool}
use Rattle.cq_bytes.specs.Numbers.{contains}
use Rattle.cq_journal.specs.declared.event.Event.{Event}
use Rattle.cq_journal.specs.declared.event.Event.TheVariants as event
use Rattle.cq_journal.specs.declared.event.Entry.{Entry}
use Rattle.cq_journal.specs.declared.event.Message.{Message}
use Rattle.cq_journal.specs.declared.lines.Line.{Line}
use Rattle.cq_journal.specs.History.{adds, opened_in, settled}
use Rattle.cq_journal.specs.Legal.{Allowed, Legal}
use Rattle.cq_items.specs.Item.{Item}
use Rattle.cq_items.specs.declared.item.Holder.TheVariants.{Waiting}
use Rattle.cq_items.specs.Items.{hand_out}
use Rattle.cq_queue_laws.specs.Follows.{bare, stands, is_unsettled, Follows}
use Rattle.cq_queue_laws.specs.Laws.{items_after}
use Rattle.cq_queue_laws.proofs.Keeps.{keeps-acked, keeps-dropped, keeps-ended, keeps-quiet, keeps-delivered, keeps-delivered-other, keeps-settled}

-- an item list that depends on whether the queue is the entry's
at-queue : (items now : List Item) (past : List Entry) (e : Entry) (queue q : ℕ) → ((queue ≡ q) → Follows now (e ∷ past) q) → ((queue == q) ≡ false → Follows items (e ∷ past) q)
    → Follows (cond (queue == q) now items) (e ∷ past) q
at-queue items now past e queue q here other = elim (cases_Bool (queue == q)) [
  | inl t ↦ subst (λ (is : List Item). Follows is (e ∷ past) q) (sym (cond-true (queue == q) now items t)) (here (eqb-true queue q t))
  | inr f ↦ subst (λ (is : List Item). Follows is (e ∷ past) q) (sym (cond-false (queue == q) now items f)) (other f)
]

event-keeps : (items : List Item) (past : List Entry) (stamp : ℕ) (e : Event) (q : ℕ) → Legal past → Allowed past e → adds q e ≡ [] → Follows items past q
    → Follows (items_after e q items) (record { event = e; stamp = stamp } ∷ past) q
event-keeps items past stamp (event.Opened lines) q l a n f = keeps-quiet items past (record { event = event.Opened lines; stamp = stamp }) q refl refl n refl f
event-keeps items past stamp (event.Published c k id queues body) q l a n f = keeps-quiet items past (record { event = event.Published c k id queues body; stamp = stamp }) q refl refl n refl f
event-keeps items past stamp (event.Delivered c k queue id) q l a n f =
    at-queue items (hand_out c k items) past (record { event = event.Delivered c k queue id; stamp = stamp }) queue q
    (λ same. subst (λ p. Follows (hand_out c k items) (record { event = event.Delivered c k p id; stamp = stamp } ∷ past) q) (sym same) (keeps-delivered items past stamp c k id q l (subst (λ p. Allowed past (event.Delivered c k p id)) same a) f))
    (λ other. keeps-delivered-other items past stamp c k id queue q l a other f)
event-keeps items past stamp (event.Empty c queue) q l a n f = keeps-quiet items past (record { event = event.Empty c queue; stamp = stamp }) q refl refl refl refl f
event-keeps items past stamp (event.Busy c queue) q l a n f = keeps-quiet items past (record { event = event.Busy c queue; stamp = stamp }) q refl refl refl refl f
event-keeps items past stamp (event.Acked c k) q l a n f = keeps-acked items past stamp c k q l f
event-keeps items past stamp (event.Unknown c k) q l a n f = keeps-quiet items past (record { event = event.Unknown c k; stamp = stamp }) q refl refl refl refl f
event-keeps items past stamp (event.Dropped c k) q l a n f = keeps-dropped items past stamp c k q l f
event-keeps items past stamp (event.Ended c) q l a n f = keeps-ended items past stamp c q l f
event-keeps items past stamp (event.Confirmed c k id) q l a n f = keeps-quiet items past (record { event = event.Confirmed c k id; stamp = stamp }) q refl refl refl refl f
event-keeps items past stamp (event.Settled queue id) q l a n f =
    at-queue items (filter (λ i. not (i.id == id)) items) past (record { event = event.Settled queue id; stamp = stamp }) queue q
    (λ same. subst (λ p. Follows (filter (λ i. not (i.id == id)) items) (record { event = event.Settled p id; stamp = stamp } ∷ past) q) (sym same) (keeps-settled items past stamp id q f))
    (λ other. keeps-quiet items past (record { event = event.Settled queue id; stamp = stamp }) q refl refl refl (ap (λ b. cond b (id ∷ []) []) other) f)

pub entry-keeps : (items : List Item) (past : List Entry) (e : Entry) (q : ℕ) → Legal (e ∷ past) → adds q e.event ≡ [] → Follows items past q → Follows (items_after e.event q items) (e ∷ past) q
entry-keeps items past e q l n f = event-keeps items past e.stamp e.event q l.3 l.0 n f

all-unsettled : (past : List Entry) (q : ℕ) → settled past q ≡ [] → (ms : List Message) → filter (is_unsettled past q) ms ≡ ms
all-unsettled past q none [] = refl
all-unsettled past q none (m ∷ ms) =
    ap (λ b. cond b (m ∷ filter (is_unsettled past q) ms) (filter (is_unsettled past q) ms)) (ap (λ xs. not (contains xs m.id)) none) ∙ ap (λ (ys : List Message). m ∷ ys) (all-unsettled past q none ms)

-- the messages of an opening wait
pub opened-keeps : (items : List Item) (stamp q : ℕ) (lines : List Line) → map bare items ≡ map (λ m. record { id = m.id; holder = Waiting }) (opened_in q lines)
    → Follows items (record { event = event.Opened lines; stamp = stamp } ∷ []) q
opened-keeps items stamp q lines e =
    let past : List Entry = record { event = event.Opened lines; stamp = stamp } ∷ [] in
    e ∙ ap (map (stands past q)) (sym (all-unsettled past q refl (opened_in q lines)))
