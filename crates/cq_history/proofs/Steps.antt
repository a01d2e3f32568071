-- Each answer keeps what is kept in memory beside the journal.
use Rattle.std.proofs.Common.{◌≡◌, ℕ, ◌+◌, ◌<◌, ◌≤◌, Bool, true, false, cond, List, [], ◌∷◌, ◌++◌, map, length, refl, sym, ap, ◌∙◌, subst, arith, append-nil, inl, inr}
use Rattle.std.specs.Prelude.{◌==◌, ◌||◌, None, is_some}
use Rattle.std.specs.Ordering.{nat_cmp}
use Rattle.std.specs.FinMap.{FinMap}
use Rattle.std.proofs.lemmas.Bool.{or_right, or_from, or_parts, cases_Bool, eq-eqb, eqb-true, cond-true, cond-false}
use Rattle.std.proofs.lemmas.List.{map-append}
use Rattle.cq_bytes.specs.Numbers.{contains}
use Rattle.cq_journal.specs.declared.event.Event.{Event}
use Rattle.cq_journal.specs.declared.event.Event.TheVariants as event
use Rattle.cq_journal.specs.declared.event.Entry.{Entry}
use Rattle.cq_journal.specs.declared.event.Message.{Message}
use Rattle.cq_journal.specs.declared.reply.Reply.{Reply}
use Rattle.cq_journal.specs.declared.reply.Reply.TheVariants as reply
use Rattle.cq_journal.specs.History.{Delivery, line, unacked, open_deliveries, waiting, acked, settled}
use Rattle.cq_journal.specs.Legal.{StartsWithOpened, newest, brings, has, is_publish, is_confirmed_by, publish_count, published, delivers, delivered, IsFirst, Legal}
use Rattle.cq_journal.specs.Asks.{own, replies, reply_of, body_of}
use Rattle.cq_journal.proofs.Laws.{body_of-first}
use Rattle.cq_journal_laws.specs.Changes.{unacked_after}
use Rattle.cq_journal_laws.proofs.Changed.{unacked-changes}
use Rattle.cq_confirm.specs.declared.lack.Lack.{Lack}
use Rattle.cq_core.specs.Answers.{bodiless}
use Rattle.cq_core.specs.Core.{TakesNextId}
use Rattle.cq_core.specs.Ids.{Numbering}
use Rattle.cq_client.specs.declared.open.OpenDelivery.{OpenDelivery}
use Rattle.cq_client.specs.Client.{Account, queue_of, without}
use Rattle.cq_history.specs.Accounts.{after_reply, after_delivery, after_end}
use Rattle.cq_history.specs.Kept.{open_of, IsAccount, HaveIds, IsHistory}
use Rattle.cq_history.specs.Steps.{noted, MayGet, IsFirstMessage}
use Rattle.cq_history.proofs.Lists.{open-found, open-none, opens-without, opens-more, all-without, all-more}

pub not-first : (journal : List Entry) (e : Event) → 0 < length journal → StartsWithOpened journal e
not-first [] e l = absurd (omega arith)
not-first (x ∷ xs) e l = tt

-- ---- events that bring, publish and confirm nothing

abbrev pub is_step : Event → Bool
is_step (event.Opened lines) = false
is_step (event.Published client number id queues body) = false
is_step (event.Confirmed client number id) = false
is_step _ = true

step-brings : (e : Event) → is_step e ≡ true → (x : ℕ) → brings x e ≡ false
step-brings (event.Opened lines) s x = cc
step-brings (event.Published c n id queues body) s x = cc
step-brings _ s x = refl

step-publish : (e : Event) → is_step e ≡ true → (c n x : ℕ) → is_publish c n x e ≡ false
step-publish (event.Published c n id queues body) s k m x = cc
step-publish _ s k m x = refl

step-confirms : (e : Event) → is_step e ≡ true → (x : ℕ) → is_confirmed_by x e ≡ false
step-confirms (event.Confirmed c n id) s x = cc
step-confirms _ s x = refl

step-takes : (past : List Entry) (e : Event) → is_step e ≡ true → TakesNextId past e
step-takes past (event.Published c n id queues body) s = cc
step-takes past _ s = tt

-- ---- the accounts of the clients that an event doesn't concern

-- whether an event is one of a client
abbrev pub is_of : ℕ → Event → Bool
is_of c (event.Published client number id queues body) = client == c
is_of c (event.Delivered client number queue id) = client == c
is_of c (event.Empty client queue) = client == c
is_of c (event.Busy client queue) = client == c
is_of c (event.Acked client number) = client == c
is_of c (event.Unknown client number) = client == c
is_of c (event.Ended client) = client == c
is_of c _ = false

other-unacked : (past : List Entry) (e : Event) (c : ℕ) → is_of c e ≡ false → unacked_after past e c ≡ unacked past c
other-unacked past (event.Delivered client number queue id) c o = cond-false (client == c) _ (unacked past c) o
other-unacked past (event.Acked client number) c o = cond-false (client == c) _ (unacked past c) o
other-unacked past (event.Ended client) c o = cond-false (client == c) [] (unacked past c) o
other-unacked past _ c o = refl

other-publishes : (e : Event) (c : ℕ) → is_of c e ≡ false → publish_count c e ≡ 0
other-publishes (event.Published client number id queues body) c o = cond-false (client == c) 1 0 o
other-publishes _ c o = refl

other-delivers : (e : Event) (c : ℕ) → is_of c e ≡ false → delivers c e ≡ 0
other-delivers (event.Delivered client number queue id) c o = cond-false (client == c) 1 0 o
other-delivers _ c o = refl

other-reply : (past : List Entry) (e : Event) (c : ℕ) → is_of c e ≡ false → reply_of past c e ≡ []
other-reply past (event.Published client number id queues body) c o = cond-false (client == c) _ [] o
other-reply past (event.Delivered client number queue id) c o = cond-false (client == c) _ [] o
other-reply past (event.Empty client queue) c o = cond-false (client == c) _ [] o
other-reply past (event.Busy client queue) c o = cond-false (client == c) _ [] o
other-reply past (event.Acked client number) c o = cond-false (client == c) _ [] o
other-reply past (event.Unknown client number) c o = cond-false (client == c) _ [] o
other-reply past (event.Ended client) c o = cond-false (client == c) _ [] o
other-reply past _ c o = refl

pub other-replies : (e : Entry) (past : List Entry) (c : ℕ) → is_of c e.event ≡ false → replies (e ∷ past) c ≡ replies past c
other-replies e past c o = ap (λ l. replies past c ++ l) (other-reply past e.event c o) ∙ append-nil (replies past c)

pub other-account : (e : Entry) (past : List Entry) (c : ℕ) (a : Account) → Legal (e ∷ past) → is_of c e.event ≡ false → IsAccount past c a → IsAccount (e ∷ past) c a
other-account e past c a l o k = record {
  opens_are = ap (map open_of) (unacked-changes past e c l ∙ other-unacked past e.event c o) ∙ k.opens_are;
  below = k.below;
  published_is = ap (λ n. published past c + n) (other-publishes e.event c o) ∙ omega (arith, k.published_is);
  delivered_is = ap (λ n. delivered past c + n) (other-delivers e.event c o) ∙ omega (arith, k.delivered_is);
  replies_are = ap (map bodiless) (other-replies e past c o) ∙ k.replies_are;
}

-- the one reply to the client itself
own-same : {A : Type 0} (c : ℕ) (x : A) → own c c x ≡ x ∷ []
own-same c x = cond-true (c == c) (x ∷ []) [] (eq-eqb c c refl)

-- one reply more on both sides, whose bodies may differ
pub replied : (past : List Entry) (c : ℕ) (rs : List Reply) (r s : Reply) → bodiless r ≡ bodiless s → map bodiless (replies past c) ≡ map bodiless rs → map bodiless (replies past c ++ own c c r) ≡ map bodiless (rs ++ s ∷ [])
replied past c rs r s one same =
    ap (λ l. map bodiless (replies past c ++ l)) (own-same c r)
    ∙ map-append bodiless (replies past c) (r ∷ []) ∙ ap (λ l. l ++ bodiless r ∷ []) same ∙ ap (λ (x : Reply). map bodiless rs ++ x ∷ []) one
    ∙ sym (map-append bodiless rs (s ∷ []))

-- ---- a step keeps it, where the client's own account is right

pub ids-step : (e : Entry) (journal : List Entry) (ids : Numbering) → ((x : ℕ) → brings x e.event ≡ false) → HaveIds journal ids → HaveIds (e ∷ journal) ids
ids-step e journal ids none are = record {
  free = are.free;
  some = are.some;
  taken = λ x there. or_right _ _ (are.taken x there);
  below = λ x some below. or_right _ _ (are.below x some below);
  above = λ x above free. or_from _ _ (none x) (are.above x above free);
  given = omega (arith, are.given);
}

-- the accounts, once that of one client changed
pub accounts-step : {journal : List Entry} {accounts : ℕ → Account} {n : ℕ} {lacks : FinMap nat_cmp Lack} {ids : Numbering} (e : Entry) (c : ℕ) (a : Account) (count : ℕ) (now : ℕ → Account)
    → IsHistory journal accounts n lacks ids → Legal (e ∷ journal)
    → ((k : ℕ) → (c == k) ≡ false → is_of k e.event ≡ false) → IsAccount (e ∷ journal) c a
    → count ≡ n → ((k : ℕ) → now k ≡ cond (c == k) a (accounts k))
    → (k : ℕ) → k < count → IsAccount (e ∷ journal) k (now k)
accounts-step {journal} {accounts} {n} {lacks} {ids} e c a count now h legal others own_account long are k below = elim (cases_Bool (c == k)) [
  | inl this ↦ subst (λ (p : ℕ × Account). IsAccount (e ∷ journal) p.0 p.1) (λ i. (eqb-true c k this i, sym (are k ∙ cond-true (c == k) a (accounts k) this) i)) own_account
  | inr other ↦ subst (IsAccount (e ∷ journal) k) (sym (are k ∙ cond-false (c == k) a (accounts k) other)) (other-account e journal k (accounts k) legal (others k other) (h.accounts_are k (subst (λ m. k < m) long below)))
]

pub kept-step : {journal : List Entry} {accounts : ℕ → Account} {n : ℕ} {lacks : FinMap nat_cmp Lack} {ids : Numbering} (e : Entry) (c : ℕ) (a : Account) (count : ℕ) (now : ℕ → Account)
    → IsHistory journal accounts n lacks ids → Legal (e ∷ journal) → is_step e.event ≡ true
    → ((k : ℕ) → (c == k) ≡ false → is_of k e.event ≡ false) → IsAccount (e ∷ journal) c a
    → count ≡ n → ((k : ℕ) → now k ≡ cond (c == k) a (accounts k))
    → IsHistory (e ∷ journal) now count lacks ids
kept-step {journal} {accounts} {n} {lacks} {ids} e c a count now h legal step others own_account long are = record {
  legal = legal;
  some = omega arith;
  next_ids = (step-takes journal e.event step, h.next_ids);
  ids_are = ids-step e journal ids (step-brings e.event step) h.ids_are;
  each_lacks = h.each_lacks;
  owed = λ x l there. let o = h.owed x l there in (or_right _ _ o.0, or_from _ _ (step-confirms e.event step x) o.1);
  decided = λ k m x is. elim (h.decided k m x (sym (ap (λ t. t || has (is_publish k m x) journal) (step-publish e.event step k m x)) ∙ is)) [
    | inl done ↦ inl (or_right _ _ done)
    | inr waits ↦ inr waits
  ];
  unbrought = λ x none. or_from _ _ (step-confirms e.event step x) (h.unbrought x (or_parts _ _ none).1);
  few = omega (arith, h.few, long);
  accounts_are = accounts-step e c a count now h legal others own_account long are;
}

-- ---- a get that finds nothing, or may not be made

pub kept-busy : {journal : List Entry} {accounts : ℕ → Account} {n : ℕ} {lacks : FinMap nat_cmp Lack} {ids : Numbering} (c queue stamp : ℕ) (count : ℕ) (now : ℕ → Account)
    → IsHistory journal accounts n lacks ids → c < n → newest journal ≤ stamp → length (unacked journal c) ≡ 64
    → count ≡ n → ((k : ℕ) → now k ≡ cond (c == k) (after_reply (reply.Busy queue) (accounts c)) (accounts k))
    → IsHistory (noted (event.Busy c queue) stamp journal) now count lacks ids
kept-busy {journal} {accounts} {n} {lacks} {ids} c queue stamp count now h near later full long are =
    let k = h.accounts_are c near in
    kept-step (record { event = event.Busy c queue; stamp = stamp }) c (after_reply (reply.Busy queue) (accounts c)) count now h (full, not-first journal _ h.some, later, h.legal) refl (λ k other. other)
    (record {
      opens_are = k.opens_are;
      below = k.below;
      published_is = omega (arith, k.published_is);
      delivered_is = omega (arith, k.delivered_is);
      replies_are = replied journal c (accounts c).replies (reply.Busy queue) (reply.Busy queue) refl k.replies_are;
    })
    long are

pub kept-empty : {journal : List Entry} {accounts : ℕ → Account} {n : ℕ} {lacks : FinMap nat_cmp Lack} {ids : Numbering} (c queue stamp : ℕ) (count : ℕ) (now : ℕ → Account)
    → IsHistory journal accounts n lacks ids → c < n → newest journal ≤ stamp → length (unacked journal c) < 64 → waiting journal queue ≡ []
    → count ≡ n → ((k : ℕ) → now k ≡ cond (c == k) (after_reply (reply.Empty queue) (accounts c)) (accounts k))
    → IsHistory (noted (event.Empty c queue) stamp journal) now count lacks ids
kept-empty {journal} {accounts} {n} {lacks} {ids} c queue stamp count now h near later room none long are =
    let k = h.accounts_are c near in
    kept-step (record { event = event.Empty c queue; stamp = stamp }) c (after_reply (reply.Empty queue) (accounts c)) count now h ((room, none), not-first journal _ h.some, later, h.legal) refl (λ k other. other)
    (record {
      opens_are = k.opens_are;
      below = k.below;
      published_is = omega (arith, k.published_is);
      delivered_is = omega (arith, k.delivered_is);
      replies_are = replied journal c (accounts c).replies (reply.Empty queue) (reply.Empty queue) refl k.replies_are;
    })
    long are

-- ---- a delivery

pub first-body : (journal : List Entry) (q id : ℕ) (body : List ℕ) (ms : List Message) → Legal journal → waiting journal q ≡ ms → IsFirstMessage id body ms → body_of id (line journal q) ≡ body
first-body journal q id body [] legal waits first = absurd first
first-body journal q id body (m ∷ ms) legal waits first = ap (λ x. body_of x (line journal q)) (sym first.0) ∙ body_of-first journal q m ms legal waits ∙ first.1

pub legal-delivered : {journal : List Entry} {accounts : ℕ → Account} {n : ℕ} {lacks : FinMap nat_cmp Lack} {ids : Numbering} (c queue id stamp : ℕ)
    → IsHistory journal accounts n lacks ids → c < n → newest journal ≤ stamp → MayGet c journal → IsFirst id (waiting journal queue)
    → Legal (noted (event.Delivered c (accounts c).delivered queue id) stamp journal)
legal-delivered {journal} {accounts} {n} {lacks} {ids} c queue id stamp h near later may first =
    ((may.open_, first, sym (h.accounts_are c near).delivered_is), not-first journal _ h.some, later, h.legal)

pub kept-delivered : {journal : List Entry} {accounts : ℕ → Account} {n : ℕ} {lacks : FinMap nat_cmp Lack} {ids : Numbering} (c queue id stamp : ℕ) (body : List ℕ) (count : ℕ) (now : ℕ → Account)
    → IsHistory journal accounts n lacks ids → c < n → queue < 256 → newest journal ≤ stamp → MayGet c journal → IsFirst id (waiting journal queue)
    → count ≡ n → ((k : ℕ) → now k ≡ cond (c == k) (after_delivery queue body (accounts c)) (accounts k))
    → IsHistory (noted (event.Delivered c (accounts c).delivered queue id) stamp journal) now count lacks ids
kept-delivered {journal} {accounts} {n} {lacks} {ids} c queue id stamp body count now h near below later may first long are =
    let d : ℕ = (accounts c).delivered in
    let e : Entry = record { event = event.Delivered c d queue id; stamp = stamp } in
    let k = h.accounts_are c near in
    let legal : Legal (e ∷ journal) = legal-delivered c queue id stamp h near later may first in
    let delivery : Delivery = record { client = c; number = d; queue = queue; id = id } in
    kept-step e c (after_delivery queue body (accounts c)) count now h legal refl (λ k other. other)
    (record {
      opens_are = ap (map open_of) (unacked-changes journal e c legal ∙ cond-true (c == c) (unacked journal c ++ delivery ∷ []) (unacked journal c) (eq-eqb c c refl)) ∙ opens-more (unacked journal c) delivery ∙ ap (λ (l : List OpenDelivery). l ++ (record { delivery = d; queue = queue }) ∷ []) k.opens_are;
      below = all-more (λ (o : OpenDelivery). o.queue < 256) (accounts c).opens (record { delivery = d; queue = queue }) k.below below;
      published_is = omega (arith, k.published_is);
      delivered_is = ap (λ m. delivered journal c + m) (cond-true (c == c) 1 0 (eq-eqb c c refl)) ∙ ap (λ m. m + 1) k.delivered_is;
      replies_are = replied journal c (accounts c).replies (reply.Got d queue (body_of id (line journal queue))) (reply.Got d queue body) refl k.replies_are;
    })
    long are

-- ---- acknowledgements

pub legal-acked : {journal : List Entry} {accounts : ℕ → Account} {n : ℕ} {lacks : FinMap nat_cmp Lack} {ids : Numbering} (c d stamp : ℕ)
    → IsHistory journal accounts n lacks ids → c < n → newest journal ≤ stamp → is_some (queue_of d (accounts c).opens) ≡ true
    → Legal (noted (event.Acked c d) stamp journal)
legal-acked {journal} {accounts} {n} {lacks} {ids} c d stamp h near later there =
    (open-found (open_deliveries journal) c d (ap (λ (os : List OpenDelivery). is_some (queue_of d os)) (h.accounts_are c near).opens_are ∙ there), not-first journal _ h.some, later, h.legal)

pub kept-acked : {journal : List Entry} {accounts : ℕ → Account} {n : ℕ} {lacks : FinMap nat_cmp Lack} {ids : Numbering} (c d stamp : ℕ) (count : ℕ) (now : ℕ → Account)
    → IsHistory journal accounts n lacks ids → c < n → newest journal ≤ stamp → is_some (queue_of d (accounts c).opens) ≡ true
    → count ≡ n → ((k : ℕ) → now k ≡ cond (c == k) (record (accounts c) { opens = without d (accounts c).opens; replies = (accounts c).replies ++ reply.Acked d ∷ [] }) (accounts k))
    → IsHistory (noted (event.Acked c d) stamp journal) now count lacks ids
kept-acked {journal} {accounts} {n} {lacks} {ids} c d stamp count now h near later there long are =
    let e : Entry = record { event = event.Acked c d; stamp = stamp } in
    let k = h.accounts_are c near in
    let legal : Legal (e ∷ journal) = legal-acked c d stamp h near later there in
    kept-step e c (record (accounts c) { opens = without d (accounts c).opens; replies = (accounts c).replies ++ reply.Acked d ∷ [] }) count now h legal refl (λ k other. other)
    (record {
      opens_are = ap (map open_of) (unacked-changes journal e c legal ∙ cond-true (c == c) _ (unacked journal c) (eq-eqb c c refl)) ∙ opens-without (unacked journal c) d ∙ ap (without d) k.opens_are;
      below = all-without (λ (o : OpenDelivery). o.queue < 256) (accounts c).opens d k.below;
      published_is = omega (arith, k.published_is);
      delivered_is = omega (arith, k.delivered_is);
      replies_are = replied journal c (accounts c).replies (reply.Acked d) (reply.Acked d) refl k.replies_are;
    })
    long are

pub legal-unknown : {journal : List Entry} {accounts : ℕ → Account} {n : ℕ} {lacks : FinMap nat_cmp Lack} {ids : Numbering} (c d stamp : ℕ)
    → IsHistory journal accounts n lacks ids → c < n → newest journal ≤ stamp → queue_of d (accounts c).opens ≡ None
    → Legal (noted (event.Unknown c d) stamp journal)
legal-unknown {journal} {accounts} {n} {lacks} {ids} c d stamp h near later none = (open-none (open_deliveries journal) c d (ap (queue_of d) (h.accounts_are c near).opens_are ∙ none), not-first journal _ h.some, later, h.legal)

pub kept-unknown : {journal : List Entry} {accounts : ℕ → Account} {n : ℕ} {lacks : FinMap nat_cmp Lack} {ids : Numbering} (c d stamp : ℕ) (count : ℕ) (now : ℕ → Account)
    → IsHistory journal accounts n lacks ids → c < n → newest journal ≤ stamp → queue_of d (accounts c).opens ≡ None
    → count ≡ n → ((k : ℕ) → now k ≡ cond (c == k) (after_reply (reply.Unknown d) (accounts c)) (accounts k))
    → IsHistory (noted (event.Unknown c d) stamp journal) now count lacks ids
kept-unknown {journal} {accounts} {n} {lacks} {ids} c d stamp count now h near later none long are =
    let k = h.accounts_are c near in
    kept-step (record { event = event.Unknown c d; stamp = stamp }) c (after_reply (reply.Unknown d) (accounts c)) count now h (legal-unknown c d stamp h near later none) refl (λ k other. other)
    (record {
      opens_are = k.opens_are;
      below = k.below;
      published_is = omega (arith, k.published_is);
      delivered_is = omega (arith, k.delivered_is);
      replies_are = replied journal c (accounts c).replies (reply.Unknown d) (reply.Unknown d) refl k.replies_are;
    })
    long are

-- ---- an end

pub kept-ended : {journal : List Entry} {accounts : ℕ → Account} {n : ℕ} {lacks : FinMap nat_cmp Lack} {ids : Numbering} (c stamp : ℕ) (count : ℕ) (now : ℕ → Account)
    → IsHistory journal accounts n lacks ids → c < n → newest journal ≤ stamp
    → count ≡ n → ((k : ℕ) → now k ≡ cond (c == k) (after_end (accounts c)) (accounts k))
    → IsHistory (noted (event.Ended c) stamp journal) now count lacks ids
kept-ended {journal} {accounts} {n} {lacks} {ids} c stamp count now h near later long are =
    let e : Entry = record { event = event.Ended c; stamp = stamp } in
    let k = h.accounts_are c near in
    let legal : Legal (e ∷ journal) = (tt, not-first journal _ h.some, later, h.legal) in
    kept-step e c (after_end (accounts c)) count now h legal refl (λ k other. other)
    (record {
      opens_are = ap (map open_of) (unacked-changes journal e c legal ∙ cond-true (c == c) [] (unacked journal c) (eq-eqb c c refl));
      below = tt;
      published_is = omega (arith, k.published_is);
      delivered_is = omega (arith, k.delivered_is);
      replies_are = replied journal c (accounts c).replies reply.Ended reply.Ended refl k.replies_are;
    })
    long are

-- ---- a settling

pub kept-settled : {journal : List Entry} {accounts : ℕ → Account} {n : ℕ} {lacks : FinMap nat_cmp Lack} {ids : Numbering} (queue id stamp : ℕ)
    → IsHistory journal accounts n lacks ids → newest journal ≤ stamp → contains (acked journal queue) id ≡ true → contains (settled journal queue) id ≡ false
    → IsHistory (noted (event.Settled queue id) stamp journal) accounts n lacks ids
kept-settled {journal} {accounts} {n} {lacks} {ids} queue id stamp h later gone here =
    let e : Entry = record { event = event.Settled queue id; stamp = stamp } in
    let legal : Legal (e ∷ journal) = ((gone, here), not-first journal _ h.some, later, h.legal) in
    record {
      legal = legal;
      some = omega arith;
      next_ids = (tt, h.next_ids);
      ids_are = ids-step e journal ids (λ y. refl) h.ids_are;
      each_lacks = h.each_lacks;
      owed = h.owed;
      decided = h.decided;
      unbrought = h.unbrought;
      few = h.few;
      accounts_are = λ c below. other-account e journal c (accounts c) legal refl (h.accounts_are c below);
    }

-- the same, with what the fields are then
pub kept_at : {journal now : List Entry} {accounts : ℕ → Account} {n : ℕ} {lacks : FinMap nat_cmp Lack} {ids : Numbering} → now ≡ journal
    → IsHistory journal accounts n lacks ids → IsHistory now accounts n lacks ids
kept_at {journal} {now} {accounts} {n} {lacks} {ids} e h = subst (λ (l : List Entry). IsHistory l accounts n lacks ids) (sym e) h

-- the same accounts
pub kept_same : {journal : List Entry} {accounts : ℕ → Account} {n : ℕ} {lacks : FinMap nat_cmp Lack} {ids : Numbering} {count : ℕ} {now : ℕ → Account}
    → count ≡ n → ((k : ℕ) → now k ≡ accounts k) → IsHistory journal accounts n lacks ids → IsHistory journal now count lacks ids
kept_same {journal} {accounts} {n} {lacks} {ids} {count} {now} long same h = subst (λ (x : ℕ × (ℕ → Account)). IsHistory journal x.1 x.0 lacks ids) (λ i. (sym long i, λ k. sym (same k) i)) h
