-- Ids in order and a map of their bodies, as messages.
use Rattle.std.proofs.Common.{◌≡◌, ℕ, Bool, true, false, cond, ◌||◌, List, [], ◌∷◌, ◌++◌, drop, Option, None, Some, is_some, unwrap_or, refl, sym, ap, subst, ◌∙◌, nat_eq, arith}
use Rattle.std.specs.Ordering.{nat_cmp}
use Rattle.std.specs.Cmp.{nat_cmp_total, unsigned_tied}
use Rattle.std.specs.FinMap.{FinMap, empty, insert, remove, get, get-empty, get-insert, get-remove}
use Rattle.std.proofs.lemmas.Bool.Decides.{nat_tests}
use Rattle.cq_bytes.specs.Numbers.{contains}
use Rattle.cq_pending.specs.Messages.{body_of, ids_of, AreDifferent, messages, IsHeld}

turned : (a b : ℕ) → nat_eq a b ≡ nat_eq b a
turned a b = grind (arith, nat_tests)

itself : (a : ℕ) → nat_eq a a ≡ true
itself a = grind (arith, nat_tests)

equal : (a b : ℕ) → nat_eq a b ≡ true → b ≡ a
equal a b h = grind (arith, nat_tests)

neither : (a b : Bool) → (a || b) ≡ false → (a ≡ false) × (b ≡ false)
neither true b h = cc
neither false b h = (refl, h)

pub get_put : (m : FinMap nat_cmp (List ℕ)) (k : ℕ) (v : List ℕ) (q : ℕ) → get (insert m k v) q ≡ cond (nat_eq q k) (Some v) (get m q)
get_put m k v q = get-insert nat_cmp_total m k v q ∙ ap (λ b. cond b (Some v) (get m q)) (unsigned_tied q k)

pub get_without : (m : FinMap nat_cmp (List ℕ)) (k q : ℕ) → get (remove m k) q ≡ cond (nat_eq q k) None (get m q)
get_without m k q = get-remove nat_cmp_total m k q ∙ ap (λ b. cond b None (get m q)) (unsigned_tied q k)

module _ (m n : FinMap nat_cmp (List ℕ)) (k : ℕ) (same : (q : ℕ) → nat_eq q k ≡ false → get n q ≡ get m q) where
  -- messages whose ids lack a key don't depend on its body
  pub messages_alike : (ids : List ℕ) → contains ids k ≡ false → messages ids n ≡ messages ids m
  messages_alike [] h = refl
  messages_alike (x ∷ xs) h =
      let apart = neither (nat_eq x k) (contains xs k) h in
      λ i. (x, unwrap_or (same x apart.0 i) []) ∷ messages_alike xs apart.1 i

pub ids_of-messages : (ids : List ℕ) (m : FinMap nat_cmp (List ℕ)) → ids_of (messages ids m) ≡ ids
ids_of-messages [] m = refl
ids_of-messages (x ∷ xs) m = λ i. x ∷ ids_of-messages xs m i

messages-append : (xs ys : List ℕ) (m : FinMap nat_cmp (List ℕ)) → messages (xs ++ ys) m ≡ messages xs m ++ messages ys m
messages-append [] ys m = refl
messages-append (x ∷ xs) ys m = ap (λ l. (x, unwrap_or (get m x) []) ∷ l) (messages-append xs ys m)

body-cases : (ids : List ℕ) (m : FinMap nat_cmp (List ℕ)) (q : ℕ) → body_of (messages ids m) q ≡ cond (contains ids q) (Some (unwrap_or (get m q) [])) None
body-cases [] m q = refl
body-cases (x ∷ xs) m q = by (nat_eq q x) refl (body-cases xs m q)
  where
    by : (b : Bool) → nat_eq q x ≡ b → body_of (messages xs m) q ≡ cond (contains xs q) (Some (unwrap_or (get m q) [])) None
        → body_of (messages (x ∷ xs) m) q ≡ cond (nat_eq x q || contains xs q) (Some (unwrap_or (get m q) [])) None
    by true e rest =
        ap (λ b. cond b (Some (unwrap_or (get m x) [])) (body_of (messages xs m) q)) e
        ∙ ap (λ y. Some (unwrap_or (get m y) [])) (equal q x e)
        ∙ sym (ap (λ b. cond (b || contains xs q) (Some (unwrap_or (get m q) [])) None) (turned x q ∙ e))
    by false e rest =
        ap (λ b. cond b (Some (unwrap_or (get m x) [])) (body_of (messages xs m) q)) e
        ∙ rest
        ∙ sym (ap (λ b. cond (b || contains xs q) (Some (unwrap_or (get m q) [])) None) (turned x q ∙ e))

chosen : {A : Type 0} (o : Option A) (d : A) → cond (is_some o) (Some (unwrap_or o d)) None ≡ o
chosen None d = refl
chosen (Some x) d = refl

-- a message's body is that of the map
pub body_of-messages : (ids : List ℕ) (m : FinMap nat_cmp (List ℕ)) → IsHeld ids m → (q : ℕ) → body_of (messages ids m) q ≡ get m q
body_of-messages ids m held q =
    body-cases ids m q
    ∙ ap (λ b. cond b (Some (unwrap_or (get m q) [])) None) (sym (held.bodied q))
    ∙ chosen (get m q) []

pub different : (ids : List ℕ) (m : FinMap nat_cmp (List ℕ)) → IsHeld ids m → AreDifferent (ids_of (messages ids m))
different ids m held = subst AreDifferent (sym (ids_of-messages ids m)) held.different

contains-push : (xs : List ℕ) (y q : ℕ) → contains (xs ++ y ∷ []) q ≡ (contains xs q || nat_eq y q)
contains-push [] y q = elim (nat_eq y q) as (λ b. (b || false) ≡ b) [ true ↦ refl | false ↦ refl ]
contains-push (x ∷ xs) y q =
    ap (λ b. nat_eq x q || b) (contains-push xs y q)
    ∙ elim (nat_eq x q) as (λ b. (b || (contains xs q || nat_eq y q)) ≡ ((b || contains xs q) || nat_eq y q)) [ true ↦ refl | false ↦ refl ]

different-push : (xs : List ℕ) (y : ℕ) → AreDifferent xs → contains xs y ≡ false → AreDifferent (xs ++ y ∷ [])
different-push [] y are new = (refl, tt)
different-push (x ∷ xs) y are new =
    let apart = neither (nat_eq x y) (contains xs y) new in (
      contains-push xs y x ∙ ap (λ b. b || nat_eq y x) are.0 ∙ turned y x ∙ apart.0,
      different-push xs y are.1 apart.1,
    )

or_cases : (c a : Bool) → cond c true a ≡ (a || c)
or_cases true true = refl
or_cases true false = refl
or_cases false true = refl
or_cases false false = refl

or_of : (q y : ℕ) (a : Bool) → cond (nat_eq q y) true a ≡ (a || nat_eq y q)
or_of q y a = or_cases (nat_eq q y) a ∙ ap (λ c. a || c) (turned q y)

is_some-cond : {A : Type 0} (b : Bool) (x y : Option A) → is_some (cond b x y) ≡ cond b (is_some x) (is_some y)
is_some-cond true x y = refl
is_some-cond false x y = refl

module _ (ids : List ℕ) (m : FinMap nat_cmp (List ℕ)) (held : IsHeld ids m) where
  module _ (id : ℕ) (body : List ℕ) (new : get m id ≡ None) where
    absent : contains ids id ≡ false
    absent = sym (held.bodied id) ∙ ap is_some new

    -- a new message goes last
    pub held_push : IsHeld (ids ++ id ∷ []) (insert m id body)
    held_push = record {
      different = different-push ids id held.different absent;
      bodied = λ q. ap is_some (get_put m id body q) ∙ is_some-cond (nat_eq q id) (Some body) (get m q) ∙ ap (cond (nat_eq q id) true) (held.bodied q) ∙ or_of q id (contains ids q) ∙ sym (contains-push ids id q);
    }

    pub messages_push : messages (ids ++ id ∷ []) (insert m id body) ≡ messages ids m ++ (id, body) ∷ []
    messages_push =
        messages-append ids (id ∷ []) (insert m id body)
        ∙ ap (λ l. l ++ (id, unwrap_or (get (insert m id body) id) []) ∷ []) (messages_alike m (insert m id body) id (λ q e. get_put m id body q ∙ ap (λ b. cond b (Some body) (get m q)) e) ids absent)
        ∙ ap (λ o. messages ids m ++ (id, unwrap_or o []) ∷ []) (get_put m id body id ∙ ap (λ b. cond b (Some body) (get m id)) (itself id))

and_not : (q x : ℕ) (a b : Bool) → (nat_eq q x ≡ true → b ≡ false) → a ≡ (nat_eq x q || b) → cond (nat_eq q x) false a ≡ b
and_not q x a b gone is = by (nat_eq q x) refl
  where
    by : (c : Bool) → nat_eq q x ≡ c → cond (nat_eq q x) false a ≡ b
    by true e = ap (λ d. cond d false a) e ∙ sym (gone e)
    by false e = ap (λ d. cond d false a) e ∙ is ∙ ap (λ d. d || b) (turned x q ∙ e)

module _ (x : ℕ) (ids : List ℕ) (m : FinMap nat_cmp (List ℕ)) (held : IsHeld (x ∷ ids) m) where
  -- without the first id
  pub held_rest : IsHeld ids (remove m x)
  held_rest = record {
    different = held.different.1;
    bodied = λ q. ap is_some (get_without m x q) ∙ is_some-cond (nat_eq q x) None (get m q) ∙ and_not q x (is_some (get m q)) (contains ids q) (λ e. ap (contains ids) (sym (equal q x e)) ∙ held.different.0) (held.bodied q);
  }

  pub messages_rest : messages ids (remove m x) ≡ drop 1 (messages (x ∷ ids) m)
  messages_rest = messages_alike m (remove m x) x (λ q e. get_without m x q ∙ ap (λ b. cond b None (get m q)) e) ids held.different.0

pub held_none : IsHeld [] empty
held_none = record { different = tt; bodied = λ q. ap is_some (get-empty nat_cmp q) }
