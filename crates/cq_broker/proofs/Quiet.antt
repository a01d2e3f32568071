-- An entry that brings no message, confirms nothing and settles nothing keeps what is in memory in step.
use Rattle.std.proofs.Common.{◌≡◌, ℕ, Bool, true, false, cond, List, [], ◌∷◌, filter, map, refl, sym, ap, ◌∙◌, subst, inl, inr}
use Rattle.std.specs.Prelude.{◌==◌, ◌||◌, ◌&&◌}
use Rattle.std.specs.List.{list_any}
use Rattle.std.proofs.Math.Logic.{∥∥₁_map}
use Rattle.std.proofs.lemmas.Bool.{cases_Bool, cases_eq, cond-false, cond-true, eq-eqb, ne_eqb}
use Rattle.std.specs.Ordering.{nat_cmp}
use Rattle.std.specs.FinMap.{FinMap}
use Rattle.cq_bytes.specs.Numbers.{contains}
use Rattle.cq_entry.specs.declared.entry.EntryKind.TheVariants.{Small}
use Rattle.cq_journal.specs.declared.event.Event.{Event}
use Rattle.cq_journal.specs.declared.event.Event.TheVariants as event
use Rattle.cq_journal.specs.declared.event.Entry.{Entry}
use Rattle.cq_journal.specs.History.{Delivery, adds, is_delivery, open_deliveries, unacked}
use Rattle.cq_journal.specs.Legal.{Legal}
use Rattle.cq_folder.specs.Standing.{IsQuiet}
use Rattle.cq_items.specs.Item.{Item}
use Rattle.cq_items.specs.Items.{ack, ack_one, back_one, give_back, hand_out, has_item, undecided_items}
use Rattle.cq_queue_laws.specs.Follows.{Follows}
use Rattle.cq_queue_laws.specs.Laws.{items_after}
use Rattle.cq_queue_laws.proofs.Elsewhere.{ack-elsewhere, back-elsewhere}
use Rattle.cq_queue_laws.proofs.Referred.{count-same}
use Rattle.cq_queue_laws.proofs.Undecided.{undecided-delivery, undecided-holding}
use Rattle.cq_confirm.specs.declared.lack.Lack.{Lack}
use Rattle.cq_stored.specs.Queues.{AreInStep}
use Rattle.cq_stored.proofs.Queues.{queues_laws, quiet_each}
use Rattle.cq_queue.specs.Values.{QueueValue}
use Rattle.cq_client.specs.declared.open.OpenDelivery.{OpenDelivery}
use Rattle.cq_history.specs.Kept.{open_of}
use Rattle.cq_queues.specs.Changes.{HasGivenBack, OthersStay, StayOnDisk, given_back}
use Rattle.cq_broker.specs.InMemory.{IsInMemory, KeepsInStep, is_undecided, items_of, small_sharing}

abbrev ids : List Item → List ℕ
ids is = map (λ (i : Item). i.id) is

pub has-ids : (is : List Item) (x : ℕ) → has_item is x ≡ contains (ids is) x
has-ids [] x = refl
has-ids (i ∷ is) x = ap (λ b. i.id == x || b) (has-ids is x)

-- the ids of what is undecided stay
undecided-after : (e : Event) (r : ℕ) (is : List Item) → IsQuiet e → ids (undecided_items (items_after e r is)) ≡ ids (undecided_items is)
undecided-after (event.Opened lines) r is quiet = absurd quiet
undecided-after (event.Published client n id queues body) r is quiet = refl
undecided-after (event.Delivered client n queue id) r is quiet =
    elim (queue == r) as (λ b. ids (undecided_items (cond b (hand_out client n is) is)) ≡ ids (undecided_items is)) [ true ↦ undecided-delivery is client n | false ↦ refl ]
undecided-after (event.Empty client queue) r is quiet = refl
undecided-after (event.Busy client queue) r is quiet = refl
undecided-after (event.Acked client n) r is quiet = undecided-holding is (ack_one client n)
undecided-after (event.Unknown client n) r is quiet = refl
undecided-after (event.Dropped client n) r is quiet = undecided-holding is (ack_one client n)
undecided-after (event.Ended client) r is quiet = undecided-holding is (back_one client)
undecided-after (event.Confirmed client n id) r is quiet = absurd quiet
undecided-after (event.Settled queue id) r is quiet = absurd quiet

-- each queue in memory follows the journal
abbrev pub AllFollow : (ℕ → QueueValue) → List Entry → Type 0
AllFollow queues past = (r : ℕ) → Follows (items_of queues r) past r

pub quiet-memory : (old new : ℕ → QueueValue) (past : List Entry) (e : Entry) (lacks : FinMap nat_cmp Lack) → Legal (e ∷ past) → IsQuiet e.event → ((r : ℕ) → adds r e.event ≡ [])
    → ((r : ℕ) → items_of new r ≡ items_after e.event r (items_of old r)) → IsInMemory (items_of old) past lacks → IsInMemory (items_of new) (e ∷ past) lacks
quiet-memory old new past e lacks legal quiet none changes m = record {
  lines = m.lines;
  in_step = quiet_each (λ m. Small) (items_of old) (items_of new) past e m.lines legal quiet none m.in_step changes;
  lacking = λ x. m.lacking x ∙ count-same 256 (is_undecided (items_of old) x) (is_undecided (items_of new) x) (λ r near.
      has-ids (undecided_items (items_of old r)) x
      ∙ ap (λ (xs : List ℕ). contains xs x) (sym (ap (λ (is : List Item). ids (undecided_items is)) (changes r) ∙ undecided-after e.event r (items_of old r) quiet))
      ∙ sym (has-ids (undecided_items (items_of new r)) x));
}

-- the same where the entry is told by an equation
pub quiet-kept : (old new : ℕ → QueueValue) (past now : List Entry) (e : Entry) (lacks after : FinMap nat_cmp Lack) → now ≡ e ∷ past → after ≡ lacks → Legal now → IsQuiet e.event → ((r : ℕ) → adds r e.event ≡ [])
    → (AllFollow old past → (r : ℕ) → items_of new r ≡ items_after e.event r (items_of old r)) → ∥ IsInMemory (items_of old) past lacks ∥₁ → ∥ IsInMemory (items_of new) now after ∥₁
quiet-kept old new past now e lacks after is same legal quiet none changes kept = ∥∥₁_map kept (λ m.
    subst (λ (l : FinMap nat_cmp Lack). IsInMemory (items_of new) now l) (sym same)
    (subst (λ (j : List Entry). IsInMemory (items_of new) j lacks) (sym is)
    (quiet-memory old new past e lacks (subst Legal is legal) quiet none (changes (λ r. (m.in_step r).follows)) m)))

pub quiet-keeps : (old new : ℕ → QueueValue) (past now : List Entry) (e : Entry) → now ≡ e ∷ past → Legal now → IsQuiet e.event → ((r : ℕ) → adds r e.event ≡ [])
    → (AllFollow old past → (r : ℕ) → items_of new r ≡ items_after e.event r (items_of old r)) → StayOnDisk old new → KeepsInStep old new past now
quiet-keeps old new past now e is legal quiet none changes stay = record {
  files = stay;
  standing = λ files shelves lines s.
      subst (λ (j : List Entry). AreInStep files (small_sharing shelves) (items_of new) j j lines) (sym is)
      (queues_laws.quiet files (small_sharing shelves) (items_of old) (items_of new) past e lines (subst Legal is legal) quiet none s (changes (λ r. (s.in_step r).follows)));
}

-- queues that are the same are on the disk as before
pub stay-same : (queues : ℕ → QueueValue) → StayOnDisk queues queues
stay-same queues q files at = at

-- the messages of one queue changed
pub changed-at : (queue : ℕ) (f : List Item → List Item) (old new : ℕ → QueueValue) → new queue ≡ record (old queue) { items = f (old queue).items } → OthersStay queue old new
    → (r : ℕ) → items_of new r ≡ cond (queue == r) (f (items_of old r)) (items_of old r)
changed-at queue f old new is others r = elim (cases_eq queue r) [
  | inl same ↦
      ap (items_of new) (sym same) ∙ ap (λ (v : QueueValue). v.items) is ∙ ap (λ k. f (items_of old k)) same
      ∙ sym (cond-true (queue == r) (f (items_of old r)) (items_of old r) (eq-eqb queue r same))
  | inr apart ↦
      ap (λ (v : QueueValue). v.items) (others r (λ e. apart (sym e))) ∙ sym (cond-false (queue == r) (f (items_of old r)) (items_of old r) (ne_eqb queue r apart))
]

-- and of a queue whose messages alone an acknowledgement concerns
pub acked-everywhere : (queue client number : ℕ) (past : List Entry) (old new : ℕ → QueueValue) → Legal past → list_any (λ d. is_delivery client number d && d.queue == queue) (open_deliveries past) ≡ true
    → new queue ≡ record (old queue) { items = ack client number (old queue).items } → OthersStay queue old new → AllFollow old past → (r : ℕ) → items_of new r ≡ ack client number (items_of old r)
acked-everywhere queue client number past old new legal there is others follow r = elim (cases_eq queue r) [
  | inl same ↦ ap (items_of new) (sym same) ∙ ap (λ (v : QueueValue). v.items) is ∙ ap (λ k. ack client number (items_of old k)) same
  | inr apart ↦
      ap (λ (v : QueueValue). v.items) (others r (λ e. apart (sym e))) ∙ sym (ack-elsewhere (items_of old r) past client number queue r legal there (ne_eqb queue r apart) (follow r))
]

-- ---- what a client gives back at its end

open-somewhere : (ds : List Delivery) (client r : ℕ) → contains (map (λ (o : OpenDelivery). o.queue) (map open_of (filter (λ d. d.client == client) ds))) r ≡ list_any (λ d. d.client == client && d.queue == r) ds
open-somewhere [] client r = refl
open-somewhere (d ∷ ds) client r =
    elim (d.client == client) as (λ b. contains (map (λ (o : OpenDelivery). o.queue) (map open_of (cond b (d ∷ filter (λ d. d.client == client) ds) (filter (λ d. d.client == client) ds)))) r
    ≡ (b && d.queue == r || list_any (λ d. d.client == client && d.queue == r) ds))
    [ true ↦ ap (λ b. d.queue == r || b) (open-somewhere ds client r) | false ↦ open-somewhere ds client r ]

-- what is given back where the client has something open is given back everywhere
pub given-everywhere : (client : ℕ) (opens : List OpenDelivery) (past : List Entry) (old new : ℕ → QueueValue) → opens ≡ map open_of (unacked past client)
    → HasGivenBack client (map (λ (o : OpenDelivery). o.queue) opens) old new → AllFollow old past → (r : ℕ) → items_of new r ≡ give_back client (items_of old r)
given-everywhere client opens past old new are given follow r =
    let tells : contains (map (λ (o : OpenDelivery). o.queue) opens) r ≡ list_any (λ d. d.client == client && d.queue == r) (open_deliveries past) =
    ap (λ (os : List OpenDelivery). contains (map (λ (o : OpenDelivery). o.queue) os) r) are ∙ open-somewhere (open_deliveries past) client r in
    ap (λ (v : QueueValue). v.items) (given r) ∙ (elim (cases_Bool (contains (map (λ (o : OpenDelivery). o.queue) opens) r)) [
      | inl there ↦ ap (λ (b : Bool). (cond b (given_back client (old r)) (old r)).items) there
      | inr none ↦ ap (λ (b : Bool). (cond b (given_back client (old r)) (old r)).items) none ∙ sym (back-elsewhere (items_of old r) past client r (sym tells ∙ none) (follow r))
    ])
