-- An acknowledgement and an end leave the queues that they don't concern.
use Rattle.std.proofs.Common.{◌≡◌, ℕ, Bool, true, false, cond, List, [], ◌∷◌, map, refl, ap, ◌∙◌, inl, inr}
use Rattle.std.specs.Prelude.{◌==◌, ◌&&◌, filter}
use Rattle.std.specs.List.{AllByRecursion, list_any}
use Rattle.std.proofs.lemmas.Bool.{or_parts, and_cases, and_parts, cond-false, both_ways}
use Rattle.cq_bytes.specs.Numbers.{contains}
use Rattle.cq_journal.specs.declared.event.Event.TheVariants as event
use Rattle.cq_journal.specs.declared.event.Entry.{Entry}
use Rattle.cq_journal.specs.declared.event.Message.{Message}
use Rattle.cq_journal.specs.History.{Delivery, open_deliveries, is_delivery, acked, line}
use Rattle.cq_journal.specs.Legal.{Legal}
use Rattle.cq_journal.proofs.More.{is_open_for, one-queue, keys-open}
use Rattle.cq_items.specs.Item.{Item}
use Rattle.cq_items.specs.declared.item.Holder.{Holder}
use Rattle.cq_items.specs.declared.item.Holder.TheVariants.{Waiting, Out, Gone}
use Rattle.cq_items.specs.Items.{is_out, is_with, ack, ack_one, back_one, give_back, holding}
use Rattle.cq_queue_laws.specs.Follows.{Whereabouts, bare, is_unsettled, outside, standing, stands, Follows}
use Rattle.cq_queue_laws.proofs.Standing.{standing-acked, standing-dropped, standing-ended}
use Rattle.cq_queue_laws.proofs.Keeps.{keeps-same}

outside-elsewhere : (t : Holder → Bool) (p : Delivery → Bool) → t Waiting ≡ false → ((d : Delivery) → t (Out d.client d.number) ≡ p d) → (ds : List Delivery) (q x : ℕ) → list_any (λ d. p d && d.queue == q) ds ≡ false → t (outside ds q x) ≡ false
outside-elsewhere t p w h [] q x n = w
outside-elsewhere t p w h (d ∷ ds) q x n =
    let parts = or_parts _ _ n in
    (elim (d.queue == q && d.id == x) as (λ b. (d.queue == q && d.id == x) ≡ b → t (cond b (Out d.client d.number) (outside ds q x)) ≡ false) [
      | true ↦ λ here. h d ∙ (elim (and_cases _ _ parts.0) [ inl f ↦ f | inr f ↦ absurd (both_ways _ f (and_parts _ _ here).0) ])
      | false ↦ λ _. outside-elsewhere t p w h ds q x parts.1
    ]) refl

standing-elsewhere : (t : Holder → Bool) (p : Delivery → Bool) → t Waiting ≡ false → t Gone ≡ false → ((d : Delivery) → t (Out d.client d.number) ≡ p d) → (past : List Entry) (q x : ℕ) → list_any (λ d. p d && d.queue == q) (open_deliveries past) ≡ false → t (standing past q x) ≡ false
standing-elsewhere t p w g h past q x n =
    elim (contains (acked past q) x) as (λ b. t (cond b Gone (outside (open_deliveries past) q x)) ≡ false) [ true ↦ g | false ↦ outside-elsewhere t p w h (open_deliveries past) q x n ]

ack-stays : (s : Holder) (c n : ℕ) → is_out c n s ≡ false → ack_one c n s ≡ s
ack-stays (Out x y) c n h = cond-false (x == c && y == n) Gone (Out x y) h
ack-stays Waiting c n h = refl
ack-stays Gone c n h = refl

back-stays : (s : Holder) (c : ℕ) → is_with c s ≡ false → back_one c s ≡ s
back-stays (Out x y) c h = cond-false (x == c) Waiting (Out x y) h
back-stays Waiting c h = refl
back-stays Gone c h = refl

-- the delivery is open for queue p, and q is another
pub keeps-acked-other : (items : List Item) (past : List Entry) (stamp c n p q : ℕ) → Legal past → is_open_for (open_deliveries past) c n p ≡ true → (p == q) ≡ false
    → Follows items past q → Follows items (record { event = event.Acked c n; stamp = stamp } ∷ past) q
keeps-acked-other items past stamp c n p q l o d =
    keeps-same items past (record { event = event.Acked c n; stamp = stamp }) q (λ x. standing-acked past stamp c n q x l
    ∙ ack-stays (standing past q x) c n (standing-elsewhere (is_out c n) (is_delivery c n) refl refl (λ d. refl) past q x (one-queue (open_deliveries past) c n p q (keys-open past l) o d))) refl refl

-- the client has nothing open for the queue
pub keeps-ended-other : (items : List Item) (past : List Entry) (stamp c q : ℕ) → Legal past → list_any (λ d. d.client == c && d.queue == q) (open_deliveries past) ≡ false
    → Follows items past q → Follows items (record { event = event.Ended c; stamp = stamp } ∷ past) q
keeps-ended-other items past stamp c q l n =
    keeps-same items past (record { event = event.Ended c; stamp = stamp }) q (λ x. standing-ended past stamp c q x l
    ∙ back-stays (standing past q x) c (standing-elsewhere (is_with c) (λ d. d.client == c) refl refl (λ d. refl) past q x n)) refl refl

pub keeps-dropped-other : (items : List Item) (past : List Entry) (stamp c n p q : ℕ) → Legal past → is_open_for (open_deliveries past) c n p ≡ true → (p == q) ≡ false
    → Follows items past q → Follows items (record { event = event.Dropped c n; stamp = stamp } ∷ past) q
keeps-dropped-other items past stamp c n p q l o d =
    keeps-same items past (record { event = event.Dropped c n; stamp = stamp }) q (λ x. standing-dropped past stamp c n q x l
    ∙ ack-stays (standing past q x) c n (standing-elsewhere (is_out c n) (is_delivery c n) refl refl (λ d. refl) past q x (one-queue (open_deliveries past) c n p q (keys-open past l) o d))) refl refl

-- no item is held so, where no message of the queue is
held-nowhere : (t : Holder → Bool) (past : List Entry) (q : ℕ) (items : List Item) (ms : List Message) → map bare items ≡ map (stands past q) ms → ((x : ℕ) → t (standing past q x) ≡ false)
    → AllByRecursion (λ (i : Item). t i.holder ≡ false) items
held-nowhere t past q [] ms e none = tt
held-nowhere t past q (i ∷ is) [] e none = cc
held-nowhere t past q (i ∷ is) (m ∷ ms) e none =
    let here : bare i ≡ stands past q m = cc in
    let rest : map bare is ≡ map (stands past q) ms = cc in
    (ap (λ (w : Whereabouts). t w.holder) here ∙ none m.id, held-nowhere t past q is ms rest none)

holding-same : (f : Holder → Holder) (t : Holder → Bool) → ((s : Holder) → t s ≡ false → f s ≡ s) → (items : List Item) → AllByRecursion (λ (i : Item). t i.holder ≡ false) items → map (holding f) items ≡ items
holding-same f t stays [] none = refl
holding-same f t stays (i ∷ is) none =
    ap (λ (h : Holder). (record i { holder = h }) ∷ map (holding f) is) (stays i.holder none.0) ∙ ap (λ (l : List Item). i ∷ l) (holding-same f t stays is none.1)

-- an acknowledgement of a delivery from another queue, and the end of a client that has nothing open there, change no item
pub ack-elsewhere : (items : List Item) (past : List Entry) (c n p q : ℕ) → Legal past → is_open_for (open_deliveries past) c n p ≡ true → (p == q) ≡ false → Follows items past q → ack c n items ≡ items
ack-elsewhere items past c n p q l o d follows =
    holding-same (ack_one c n) (is_out c n) (λ s. ack-stays s c n) items (held-nowhere (is_out c n) past q items (filter (is_unsettled past q) (line past q)) follows
    (λ x. standing-elsewhere (is_out c n) (is_delivery c n) refl refl (λ d. refl) past q x (one-queue (open_deliveries past) c n p q (keys-open past l) o d)))

pub back-elsewhere : (items : List Item) (past : List Entry) (c q : ℕ) → list_any (λ d. d.client == c && d.queue == q) (open_deliveries past) ≡ false → Follows items past q → give_back c items ≡ items
back-elsewhere items past c q n follows =
    holding-same (back_one c) (is_with c) (λ s. back-stays s c) items (held-nowhere (is_with c) past q items (filter (is_unsettled past q) (line past q)) follows
    (λ x. standing-elsewhere (is_with c) (λ d. d.client == c) refl refl (λ d. refl) past q x n))
