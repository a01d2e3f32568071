-- Clients at their places, and what a client's open deliveries tell.
use Rattle.std.proofs.Common.{Result, Ok, Err, ◌≡◌, ℕ, ◌<◌, true, false, not, cond, List, [], ◌∷◌, ◌++◌, map, length, get_or, set, refl, sym, ap, ◌∙◌, subst, inl, inr, get_or-set_other, get_or-set_same}
use Rattle.std.specs.Prelude.{◌==◌, ◌&&◌, ◌||◌, filter, None, Some, is_some, is_err, OnOk}
use Rattle.std.specs.List.{list_any, AllByRecursion}
use Rattle.std.proofs.lemmas.Bool.{cases_eq, eq-eqb, ne_eqb, cond-true, cond-false, or_left}
use Rattle.std.proofs.lemmas.List.{get_or_default}
use Rattle.cq_journal.specs.History.{Delivery, is_delivery}
use Rattle.cq_client.specs.declared.open.OpenDelivery.{OpenDelivery}
use Rattle.cq_client.specs.Client.{Account, ClientValue, queue_of, without}
use Rattle.cq_history.specs.History.{no_client, account_at}
use Rattle.cq_history.specs.Kept.{open_of}

-- the accounts, once what is kept of one client is replaced
pub accounts-set : (clients : List ClientValue) (i : ℕ) (new : ClientValue) → i < length clients → (c : ℕ) → account_at (set clients i new) c ≡ (cond (i == c) new.account (account_at clients c))
accounts-set clients i new l c = elim (cases_eq i c) [
  | inl same ↦
      ap (λ (k : ℕ). account_at (set clients i new) k) (sym same) ∙ ap (λ (x : ClientValue). x.account) (get_or-set_same clients i new no_client l) ∙ sym (cond-true (i == c) new.account (account_at clients c) (eq-eqb i c same))
  | inr other ↦
      ap (λ (x : ClientValue). x.account) (get_or-set_other clients i c new no_client (λ e. other (sym e))) ∙ sym (cond-false (i == c) new.account (account_at clients c) (ne_eqb i c other))
]

-- the open deliveries of a client, as its account has them
abbrev pub opens_in : ℕ → List Delivery → List OpenDelivery
opens_in c ds = map open_of (filter (λ d. d.client == c) ds)

-- one is found
pub open-found : (ds : List Delivery) (c n : ℕ) → is_some (queue_of n (opens_in c ds)) ≡ true → list_any (is_delivery c n) ds ≡ true
open-found [] c n e = cc
open-found (d ∷ ds) c n e =
    (elim (d.client == c) as (λ b. is_some (queue_of n (map open_of (cond b (d ∷ filter (λ d. d.client == c) ds) (filter (λ d. d.client == c) ds)))) ≡ true → ((b && d.number == n) || list_any (is_delivery c n) ds) ≡ true) [
      | true ↦ λ e. (elim (d.number == n) as (λ b. is_some (cond b (Some d.queue) (queue_of n (opens_in c ds))) ≡ true → (b || list_any (is_delivery c n) ds) ≡ true) [
        | true ↦ λ e. refl
        | false ↦ λ e. open-found ds c n e
      ]) e
      | false ↦ λ e. open-found ds c n e
    ]) e

-- none is
pub open-from : (ds : List Delivery) (c n q : ℕ) → queue_of n (opens_in c ds) ≡ Some q → list_any (λ d. is_delivery c n d && d.queue == q) ds ≡ true
open-from [] c n q e = cc
open-from (d ∷ ds) c n q e =
    (elim (d.client == c) as (λ b. queue_of n (map open_of (cond b (d ∷ filter (λ d. d.client == c) ds) (filter (λ d. d.client == c) ds))) ≡ Some q → (((b && d.number == n) && d.queue == q) || list_any (λ d. is_delivery c n d && d.queue == q) ds) ≡ true) [
      | true ↦ λ e. (elim (d.number == n) as (λ b. cond b (Some d.queue) (queue_of n (opens_in c ds)) ≡ Some q → ((b && d.queue == q) || list_any (λ d. is_delivery c n d && d.queue == q) ds) ≡ true) [
        | true ↦ λ e. or_left (d.queue == q) (list_any (λ d. is_delivery c n d && d.queue == q) ds) (eq-eqb d.queue q (let same : d.queue ≡ q = cc in same))
        | false ↦ λ e. open-from ds c n q e
      ]) e
      | false ↦ λ e. open-from ds c n q e
    ]) e

pub open-below : (os : List OpenDelivery) (n q : ℕ) → AllByRecursion (λ o. o.queue < 256) os → queue_of n os ≡ Some q → q < 256
open-below [] n q a e = cc
open-below (o ∷ os) n q a e =
    (elim (o.delivery == n) as (λ b. cond b (Some o.queue) (queue_of n os) ≡ Some q → q < 256) [
      | true ↦ λ e. subst (λ x. x < 256) (let same : o.queue ≡ q = cc in same) a.0
      | false ↦ λ e. open-below os n q a.1 e
    ]) e

pub open-none : (ds : List Delivery) (c n : ℕ) → queue_of n (opens_in c ds) ≡ None → list_any (is_delivery c n) ds ≡ false
open-none [] c n e = refl
open-none (d ∷ ds) c n e =
    (elim (d.client == c) as (λ b. queue_of n (map open_of (cond b (d ∷ filter (λ d. d.client == c) ds) (filter (λ d. d.client == c) ds))) ≡ None → ((b && d.number == n) || list_any (is_delivery c n) ds) ≡ false) [
      | true ↦ λ e. (elim (d.number == n) as (λ b. cond b (Some d.queue) (queue_of n (opens_in c ds)) ≡ None → (b || list_any (is_delivery c n) ds) ≡ false) [
        | true ↦ λ e. cc
        | false ↦ λ e. open-none ds c n e
      ]) e
      | false ↦ λ e. open-none ds c n e
    ]) e

-- all but one stay
pub opens-without : (ds : List Delivery) (n : ℕ) → map open_of (filter (λ d. not (d.number == n)) ds) ≡ without n (map open_of ds)
opens-without [] n = refl
opens-without (d ∷ ds) n =
    elim (d.number == n) as (λ b. map open_of (cond (not b) (d ∷ filter (λ d. not (d.number == n)) ds) (filter (λ d. not (d.number == n)) ds)) ≡ cond (not b) (open_of d ∷ without n (map open_of ds)) (without n (map open_of ds)))
    [ true ↦ opens-without ds n | false ↦ ap (λ (os : List OpenDelivery). open_of d ∷ os) (opens-without ds n) ]

pub opens-more : (ds : List Delivery) (d : Delivery) → map open_of (ds ++ d ∷ []) ≡ map open_of ds ++ open_of d ∷ []
opens-more [] d = refl
opens-more (x ∷ ds) d = ap (λ (os : List OpenDelivery). open_of x ∷ os) (opens-more ds d)

pub all-without : (P : OpenDelivery → Type 0) (os : List OpenDelivery) (n : ℕ) → AllByRecursion P os → AllByRecursion P (without n os)
all-without P [] n a = tt
all-without P (o ∷ os) n a = elim (o.delivery == n) as (λ b. AllByRecursion P (cond (not b) (o ∷ without n os) (without n os))) [ true ↦ all-without P os n a.1 | false ↦ (a.0, all-without P os n a.1) ]

pub all-more : {A : Type 0} (P : A → Type 0) (xs : List A) (x : A) → AllByRecursion P xs → P x → AllByRecursion P (xs ++ x ∷ [])
all-more P [] x a p = (p, tt)
all-more P (y ∷ xs) x a p = (a.0, all-more P xs x a.1 p)

-- the accounts, once one client's were changed
pub changed : (clients : List ClientValue) (i : ℕ) (was new : ClientValue) (f : Account → Account) → i < length clients → was ≡ get_or clients i was → new.account ≡ f was.account
    → (k : ℕ) → account_at (set clients i new) k ≡ cond (i == k) (f (account_at clients i)) (account_at clients k)
changed clients i was new f l read is k =
    accounts-set clients i new l k
    ∙ ap (λ (b : Account). cond (i == k) b (account_at clients k)) (is ∙ ap (λ (x : ClientValue). f x.account) (read ∙ get_or_default clients i was no_client l))

pub changed-same : (clients : List ClientValue) (i : ℕ) (was new : ClientValue) → i < length clients → was ≡ get_or clients i was → new.account ≡ was.account → (k : ℕ) → account_at (set clients i new) k ≡ account_at clients k
changed-same clients i was new l read is k = changed clients i was new (λ b. b) l read is k ∙ elim (cases_eq i k) [
  | inl same ↦ cond-true (i == k) (account_at clients i) (account_at clients k) (eq-eqb i k same) ∙ ap (account_at clients) same
  | inr other ↦ cond-false (i == k) (account_at clients i) (account_at clients k) (ne_eqb i k other)
]

-- how many deliveries were read
pub number_is : (clients : List ClientValue) (i : ℕ) (was : ClientValue) {n : ℕ} → i < length clients → was ≡ get_or clients i was → n ≡ was.account.delivered → n ≡ (account_at clients i).delivered
number_is clients i was l read is = is ∙ ap (λ (k : ClientValue). k.account.delivered) (read ∙ get_or_default clients i was no_client l)

pub published_number : (clients : List ClientValue) (i : ℕ) (was : ClientValue) {n : ℕ} → i < length clients → was ≡ get_or clients i was → n ≡ was.account.published → n ≡ (account_at clients i).published
published_number clients i was l read is = is ∙ ap (λ (k : ClientValue). k.account.published) (read ∙ get_or_default clients i was no_client l)

-- what holds of an answer that is no error
pub no_error : {T E P : Type 0} (result : Result T E) → is_err result ≡ false → OnOk result P → P
no_error (Ok v) none has = has
no_error (Err e) none has = let bad : true ≡ false = none in cc
