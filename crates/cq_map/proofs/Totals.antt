-- Sums over the values of a map, and its entries in any order.
use Rattle.std.proofs.Common.{◌≡◌, ℕ, ◌+◌, Bool, true, false, cond, List, [], ◌∷◌, map, length, None, Some, refl, sym, ap, subst, ◌∙◌, nat_eq, arith}
use Rattle.std.specs.declared.cmp.Ordering.TheVariants.{Less, Equal, Greater}
use Rattle.std.specs.Ordering.{nat_cmp, is_eq}
use Rattle.std.specs.Cmp.{nat_cmp_total, unsigned_tied}
use Rattle.std.specs.List.{IsDistinct, AllByRecursion}
use Rattle.std.specs.List.Sorted.{IsPermutation}
use Rattle.std.proofs.lemmas.Bool.Decides.{nat_tests}
use Rattle.std.proofs.lemmas.List.Sorted.{IsPermutation-refl, IsPermutation-cons, IsPermutation-trans, IsPermutation-middle}
use Rattle.std.specs.FinMap.{FinMap, nat_cmp-IsAntisymmetric, same_map, entries, empty, from_entries, insert, remove, get, find, get-from_entries, get-entries, get-insert, get-remove, entries-insert, len-entries, len-empty}
use Rattle.std.specs.FinMap.Entries.{put, by_order}
use Rattle.cq_map.specs.Totals.{sum_of, total}

no_some : {A : Type 0} (x : A) {P : Type 0} → Some x ≡ None → P
no_some x e = cc

twice : {A : Type 0} (b : Bool) (x y z : A) → cond b x (cond b y z) ≡ cond b x z
twice true x y z = refl
twice false x y z = refl

pub itself : (k : ℕ) → nat_eq k k ≡ true
itself k = grind (arith, nat_tests)

pub equal : (a b : ℕ) → nat_eq a b ≡ true → b ≡ a
equal a b h = grind (arith, nat_tests)

module _ {V : Type 0} where
  sum_put : (w : V → ℕ) (k : ℕ) (v : V) (es : List (ℕ × V)) → find nat_cmp k es ≡ None → sum_of w (put nat_cmp k v es) ≡ sum_of w es + w v
  sum_put w k v [] none = omega arith
  sum_put w k v (e ∷ es) none =
      elim (nat_cmp k e.0) as (λ r. cond (is_eq r) (Some e.1) (find nat_cmp k es) ≡ None → sum_of w (by_order r ((k, v) ∷ e ∷ es) ((e.0, v) ∷ es) (e ∷ put nat_cmp k v es)) ≡ sum_of w (e ∷ es) + w v) [
        | Less ↦ λ n. omega arith
        | Equal ↦ λ n. no_some e.1 n
        | Greater ↦ λ n. let rest = sum_put w k v es n in omega (arith, rest)
      ] none

  put_permuted : (k : ℕ) (v : V) (es : List (ℕ × V)) → find nat_cmp k es ≡ None → IsPermutation (put nat_cmp k v es) ((k, v) ∷ es)
  put_permuted k v [] none = IsPermutation-refl ((k, v) ∷ [])
  put_permuted k v (e ∷ es) none =
      elim (nat_cmp k e.0) as (λ r. cond (is_eq r) (Some e.1) (find nat_cmp k es) ≡ None → IsPermutation (by_order r ((k, v) ∷ e ∷ es) ((e.0, v) ∷ es) (e ∷ put nat_cmp k v es)) ((k, v) ∷ e ∷ es)) [
        | Less ↦ λ n. IsPermutation-refl ((k, v) ∷ e ∷ es)
        | Equal ↦ λ n. no_some e.1 n
        | Greater ↦ λ n. IsPermutation-trans (e ∷ put nat_cmp k v es) (e ∷ (k, v) ∷ es) ((k, v) ∷ e ∷ es) (IsPermutation-cons e (put nat_cmp k v es) ((k, v) ∷ es) (put_permuted k v es n)) (IsPermutation-middle (e ∷ []) (k, v) es)
      ] none

  -- no key of entries stands twice
  abbrev pub AreUnique : List (ℕ × V) → Type 0
  AreUnique [] = Unit {0}
  AreUnique (e ∷ es) = (find nat_cmp e.0 es ≡ None) × AreUnique es

  nothing : (es : List (ℕ × V)) → length es ≡ 0 → es ≡ []
  nothing [] e = refl
  nothing (x ∷ es) e = absurd (omega arith)

  -- the entries of a map are those that it was made of, in another order
  pub entries_permuted : (es : List (ℕ × V)) → AreUnique es → IsPermutation (entries (from_entries {R = nat_cmp} es)) es
  entries_permuted [] unique = subst (λ (l : List (ℕ × V)). IsPermutation l []) (sym (nothing (entries (empty {X = V} {R = nat_cmp})) (sym (len-entries (empty {X = V} {R = nat_cmp})) ∙ len-empty nat_cmp V))) (IsPermutation-refl [])
  entries_permuted (e ∷ es) unique =
      let m = from_entries {R = nat_cmp} es in
      let none : find nat_cmp e.0 (entries m) ≡ None = sym (get-entries m e.0) ∙ get-from_entries nat_cmp_total es e.0 ∙ unique.0 in
      subst (λ (l : List (ℕ × V)). IsPermutation l (e ∷ es)) (sym (entries-insert nat_cmp_total m e.0 e.1))
      (IsPermutation-trans (put nat_cmp e.0 e.1 (entries m)) (e ∷ entries m) (e ∷ es) (put_permuted e.0 e.1 (entries m) none) (IsPermutation-cons e (entries m) es (entries_permuted es unique.1)))

  pub get_put : (m : FinMap nat_cmp V) (k : ℕ) (v : V) (q : ℕ) → get (insert m k v) q ≡ cond (nat_eq q k) (Some v) (get m q)
  get_put m k v q = get-insert nat_cmp_total m k v q ∙ ap (λ b. cond b (Some v) (get m q)) (unsigned_tied q k)

  pub get_without : (m : FinMap nat_cmp V) (k q : ℕ) → get (remove m k) q ≡ cond (nat_eq q k) None (get m q)
  get_without m k q = get-remove nat_cmp_total m k q ∙ ap (λ b. cond b None (get m q)) (unsigned_tied q k)

  -- maps that answer alike are equal
  pub alike : (m n : FinMap nat_cmp V) → ((q : ℕ) → get m q ≡ get n q) → m ≡ n
  alike m n same = same_map nat_cmp_total nat_cmp-IsAntisymmetric m n same

  absent_stays : (m : FinMap nat_cmp V) (k : ℕ) → get m k ≡ None → (q : ℕ) → cond (nat_eq q k) None (get m q) ≡ get m q
  absent_stays m k none q = by (nat_eq q k) refl
    where
      by : (b : Bool) → nat_eq q k ≡ b → cond (nat_eq q k) None (get m q) ≡ get m q
      by true e = ap (λ b. cond b None (get m q)) e ∙ sym (ap (get m) (sym (equal q k e)) ∙ none)
      by false e = ap (λ b. cond b None (get m q)) e

  -- to remove a key that isn't there changes nothing
  pub remove_absent : (m : FinMap nat_cmp V) (k : ℕ) → get m k ≡ None → remove m k ≡ m
  remove_absent m k none = alike (remove m k) m (λ q. get_without m k q ∙ absent_stays m k none q)

  -- a value put after another at the key, or after its removal
  pub insert_removed : (m : FinMap nat_cmp V) (k : ℕ) (v : V) → insert (remove m k) k v ≡ insert m k v
  insert_removed m k v = alike _ _ (λ q. get_put (remove m k) k v q ∙ ap (cond (nat_eq q k) (Some v)) (get_without m k q) ∙ twice (nat_eq q k) (Some v) None (get m q) ∙ sym (get_put m k v q))

  pub remove_inserted : (m : FinMap nat_cmp V) (k : ℕ) (v : V) → get m k ≡ None → remove (insert m k v) k ≡ m
  remove_inserted m k v none = alike _ _ (λ q. get_without (insert m k v) k q ∙ ap (cond (nat_eq q k) None) (get_put m k v q) ∙ twice (nat_eq q k) None (Some v) (get m q) ∙ absent_stays m k none q)

  present_stays : (m : FinMap nat_cmp V) (k : ℕ) (v : V) → get m k ≡ Some v → (q : ℕ) → cond (nat_eq q k) (Some v) (get m q) ≡ get m q
  present_stays m k v some q = by (nat_eq q k) refl
    where
      by : (b : Bool) → nat_eq q k ≡ b → cond (nat_eq q k) (Some v) (get m q) ≡ get m q
      by true e = ap (λ b. cond b (Some v) (get m q)) e ∙ sym (ap (get m) (sym (equal q k e)) ∙ some)
      by false e = ap (λ b. cond b (Some v) (get m q)) e

  pub insert_same : (m : FinMap nat_cmp V) (k : ℕ) (v : V) → get m k ≡ Some v → insert m k v ≡ m
  insert_same m k v some = alike _ _ (λ q. get_put m k v q ∙ present_stays m k v some q)

  pub get_removed : (m : FinMap nat_cmp V) (k : ℕ) → get (remove m k) k ≡ None
  get_removed m k = get_without m k k ∙ ap (λ b. cond b None (get m k)) (itself k)

  pub get_inserted : (m : FinMap nat_cmp V) (k : ℕ) (v : V) → get (insert m k v) k ≡ Some v
  get_inserted m k v = get_put m k v k ∙ ap (λ b. cond b (Some v) (get m k)) (itself k)

  -- a new key adds what its value is worth
  pub total-insert : (w : V → ℕ) (m : FinMap nat_cmp V) (k : ℕ) (v : V) → get m k ≡ None → total w (insert m k v) ≡ total w m + w v
  total-insert w m k v none = ap (sum_of w) (entries-insert nat_cmp_total m k v) ∙ sum_put w k v (entries m) (sym (get-entries m k) ∙ none)

  -- a key that goes takes away what its value was worth
  pub total-remove : (w : V → ℕ) (m : FinMap nat_cmp V) (k : ℕ) (v : V) → get m k ≡ Some v → total w (remove m k) + w v ≡ total w m
  total-remove w m k v some = sym (total-insert w (remove m k) k v (get_removed m k)) ∙ ap (total w) (insert_removed m k v ∙ insert_same m k v some)

  apart : (ks : List (ℕ × V)) (k : ℕ) → AllByRecursion (λ (y : ℕ). nat_eq k y ≡ false) (map (λ (e : ℕ × V). e.0) ks) → find nat_cmp k ks ≡ None
  apart [] k all = refl
  apart (e ∷ es) k all = ap (λ b. cond b (Some e.1) (find nat_cmp k es)) (unsigned_tied k e.0 ∙ all.0) ∙ apart es k all.1

  -- keys that are different by a test of equality
  pub unique : (es : List (ℕ × V)) → IsDistinct nat_eq (map (λ (e : ℕ × V). e.0) es) → AreUnique es
  unfolding IsDistinct
  unique [] h = tt
  unique (e ∷ es) h = (apart es e.0 h.0, unique es h.1)
