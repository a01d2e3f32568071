-- Numbers that rise, taken from names.
use Rattle.std.proofs.Common.{◌≡◌, ⊎_elim, ℕ, zero, suc, ◌+◌, ◌-◌, ◌<◌, List, [], ◌∷◌, ◌++◌, Some, None, length, get_or, take, refl, sym, ◌∙◌, ap, subst, arith}
use Rattle.std.specs.Prelude.{◌↔◌, Contains, slice_get}
use Rattle.std.specs.List.{AllByRecursion}
use Rattle.std.specs.List.Sorted.{IsStrictlySortedBy}
use Rattle.std.specs.declared.cmp.Ordering.{Ordering}
use Rattle.std.specs.declared.cmp.Ordering.TheVariants.{Less, Equal, Greater}
use Rattle.std.specs.Ordering.{MatchOrdering, nat_cmp, ordering_then}
use Rattle.std.proofs.lemmas.Cmp.{ranked}
use Rattle.std.proofs.lemmas.List.{take_more}
use Rattle.std.proofs.lemmas.List.Elements.{Contains-append_left, Contains-push, Contains-push_cases}
use Rattle.cq_disk.specs.declared.name.Name.{Name}
use Rattle.cq_disk.specs.declared.name.Kind.{Kind}
use Rattle.cq_disk.specs.declared.name.Kind.TheVariants.{Index, Small, Shared}
use Rattle.cq_disk.specs.Names.{name_cmp}
use Rattle.cq_disk.specs.contracts.name.KindOrd.TheImpl as kind_ord
use Rattle.cq_folder.proofs.Below.{all_append}
use Rattle.cq_back_q.specs.Numbers.{Rise, AreBelow, name_with, IsNext, AreNumbersOf}

-- ---- what holds of each element

pub all_wider : {A : Type 0} (P Q : A → Type 0) (xs : List A) → ((x : A) → P x → Q x) → AllByRecursion P xs → AllByRecursion Q xs
all_wider P Q [] step all = tt
all_wider P Q (x ∷ xs) step all = (step x all.0, all_wider P Q xs step all.1)

pub all_front : {A : Type 0} (P : A → Type 0) (xs ys : List A) → AllByRecursion P (xs ++ ys) → AllByRecursion P xs × AllByRecursion P ys
all_front P [] ys all = (tt, all)
all_front P (x ∷ xs) ys all = let rest = all_front P xs ys all.1 in ((all.0, rest.0), rest.1)

pub all_at : {A : Type 0} (P : A → Type 0) (xs : List A) (i : ℕ) (d : A) → i < length xs → AllByRecursion P xs → P (get_or xs i d)
all_at P [] i d lt all = absurd (omega (arith, lt))
all_at P (x ∷ xs) zero d lt all = all.0
all_at P (x ∷ xs) (suc i) d lt all = all_at P xs i d (omega (arith, lt)) all.1

pub all_has : {A : Type 0} (P : A → Type 0) (xs : List A) (x : A) → AllByRecursion P xs → Contains xs x → P x
all_has P xs x all (i, lt, is) = subst P is (all_at P xs i x lt all)

-- ---- numbers that rise

pub rise_more : (ns : List ℕ) (n : ℕ) → Rise ns → AreBelow n ns → Rise (ns ++ n ∷ [])
rise_more [] n rise below = (tt, tt)
rise_more (m ∷ ns) n rise below = (all_append (λ k. m < k) ns (n ∷ []) rise.0 (below.0, tt), rise_more ns n rise.1 below.1)

none_some : (n : ℕ) → None ≡ Some n → ⊥
none_some n e = cc

some_same : (a b : ℕ) → Some a ≡ Some b → a ≡ b
some_same a b e = cc

-- where the last of them is below a number, all are
below_at : (ns : List ℕ) (i last n : ℕ) → Rise ns → i + 1 ≡ length ns → slice_get ns i ≡ Some last → last < n → AreBelow n ns
below_at [] i last n rise end is low = tt
below_at (m ∷ []) zero last n rise end is low = let same = some_same m last is in (omega (arith, same, low), tt)
below_at (m ∷ []) (suc i) last n rise end is low = absurd (omega (arith, end))
below_at (m ∷ k ∷ ns) zero last n rise end is low = absurd (omega (arith, end))
below_at (m ∷ k ∷ ns) (suc i) last n rise end is low =
    let rest = below_at (k ∷ ns) i last n rise.1 (omega (arith, end)) is low in
    let first = rise.0.0 in
    let second = rest.0 in
    (omega (arith, first, second), rest)

get_within : (ns : List ℕ) (i : ℕ) → slice_get ns i ≡ None → i < length ns → ⊥
get_within [] i none lt = omega (arith, lt)
get_within (m ∷ ns) zero none lt = none_some m (sym none)
get_within (m ∷ ns) (suc i) none lt = get_within ns i none (omega (arith, lt))

get_all : (P : ℕ → Type 0) (ns : List ℕ) (i last : ℕ) → slice_get ns i ≡ Some last → AllByRecursion P ns → P last
get_all P [] i last is all = absurd (none_some last is)
get_all P (m ∷ ns) zero last is all = subst P (some_same m last is) all.0
get_all P (m ∷ ns) (suc i) last is all = get_all P ns i last is all.1

pub last_below : (ns : List ℕ) (last n : ℕ) → Rise ns → slice_get ns (length ns - 1) ≡ Some last → (last < n) ↔ AreBelow n ns
last_below [] last n rise is = absurd (none_some last is)
last_below (m ∷ ns) last n rise is = (
  λ low. below_at (m ∷ ns) (length (m ∷ ns) - 1) last n rise (omega arith) is low,
  λ below. get_all (λ k. k < n) (m ∷ ns) (length (m ∷ ns) - 1) last is below,
)

pub none_below : (ns : List ℕ) (n : ℕ) → slice_get ns (length ns - 1) ≡ None → AreBelow n ns
none_below [] n none = tt
none_below (m ∷ ns) n none = absurd (get_within (m ∷ ns) (length (m ∷ ns) - 1) none (omega arith))

-- ---- among names in order

sorted_front : {K : Type 0} (c : K → K → Ordering) (xs : List K) (y : K) → IsStrictlySortedBy c (xs ++ y ∷ []) → IsStrictlySortedBy c xs × AllByRecursion (λ x. c x y ≡ Less) xs
unfolding IsStrictlySortedBy
sorted_front c [] y sorted = (tt, tt)
sorted_front c (x ∷ xs) y sorted =
    let rest = sorted_front c xs y sorted.1 in
    let first = all_front (λ z. c x z ≡ Less) xs (y ∷ []) sorted.0 in
    ((first.0, rest.0), (first.1.0, rest.1))

kind_same : (kind : Kind) → (kind_ord.ghosts).cmp kind kind ≡ Equal
kind_same Index = refl
kind_same Small = refl
kind_same Shared = refl

number_same : (n : ℕ) → nat_cmp n n ≡ Equal
number_same n = is (nat_cmp n n) (ranked n n (nat_cmp n n) refl)
  where
    is : (o : Ordering) → MatchOrdering o (n < n) (n ≡ n) (n < n) → o ≡ Equal
    is Less lt = absurd (omega (arith, lt))
    is Equal same = refl
    is Greater lt = absurd (omega (arith, lt))

-- of two names of a queue's files of one kind, the first in order has the lower number
lower : (kind : Kind) (queue m n : ℕ) → name_cmp (name_with kind queue m) (name_with kind queue n) ≡ Less → m < n
lower kind queue m n less =
    ranked m n Less (sym (sym (ap (λ (o : Ordering). ordering_then o (nat_cmp m n)) (number_same queue))
    ∙ sym (ap (λ (o : Ordering). ordering_then o (ordering_then (nat_cmp queue queue) (nat_cmp m n))) (kind_same kind)) ∙ less))

module _ (kind : Kind) (queue : ℕ) (names : List Name) (name : Name) (numbers : List ℕ) (are : AreNumbersOf kind queue names numbers) where
  wider : AllByRecursion (λ n. Contains (names ++ name ∷ []) (name_with kind queue n)) numbers
  wider = all_wider (λ n. Contains names (name_with kind queue n)) (λ n. Contains (names ++ name ∷ []) (name_with kind queue n)) numbers
      (λ n has. Contains-append_left names (name ∷ []) (name_with kind queue n) has) are.named

  -- one more name whose number comes next
  pub numbers_next : IsNext kind queue numbers name → AreNumbersOf kind queue (names ++ name ∷ []) (numbers ++ name.number ∷ [])
  numbers_next next =
      let is : name ≡ name_with kind queue name.number = λ i. record { kind = next.kind_is i; queue = next.queue_is i; number = name.number } in
      record {
        rise = rise_more numbers name.number are.rise next.above;
        named = all_append (λ n. Contains (names ++ name ∷ []) (name_with kind queue n)) numbers (name.number ∷ []) wider
            (subst (Contains (names ++ name ∷ [])) is (Contains-push names name), tt);
        all = λ sorted n has. ⊎_elim
            (λ before. Contains-append_left numbers (name.number ∷ []) n (are.all (sorted_front name_cmp names name sorted).0 n before))
            (λ same. subst (Contains (numbers ++ name.number ∷ [])) (ap (λ (m : Name). m.number) same) (Contains-push numbers name.number))
            (Contains-push_cases names name (name_with kind queue n) has);
      }

  -- one more name that isn't taken
  pub numbers_same : (IsNext kind queue numbers name → ⊥) → AreNumbersOf kind queue (names ++ name ∷ []) numbers
  numbers_same other = record {
    rise = are.rise;
    named = wider;
    all = λ sorted n has. ⊎_elim
        (λ before. are.all (sorted_front name_cmp names name sorted).0 n before)
        (λ same. absurd (other (taken sorted n same)))
        (Contains-push_cases names name (name_with kind queue n) has);
  }
    where
      taken : IsStrictlySortedBy name_cmp (names ++ name ∷ []) → (n : ℕ) → name ≡ name_with kind queue n → IsNext kind queue numbers name
      taken sorted n same = record {
        kind_is = ap (λ (m : Name). m.kind) same;
        queue_is = ap (λ (m : Name). m.queue) same;
        above = all_wider (λ m. Contains names (name_with kind queue m)) (λ m. m < name.number) numbers
            (λ m has. subst (λ (k : ℕ). m < k) (sym (ap (λ (l : Name). l.number) same)) (lower kind queue m n
            (subst (λ (l : Name). name_cmp (name_with kind queue m) l ≡ Less) same (all_has (λ l. name_cmp l name ≡ Less) names (name_with kind queue m) (sorted_front name_cmp names name sorted).1 has)))) are.named;
      }

-- ---- names gone through

pub numbers_none : (kind : Kind) (queue : ℕ) → AreNumbersOf kind queue [] []
numbers_none kind queue = record { rise = tt; named = tt; all = λ sorted n has. absurd (omega (arith, has.1)) }

pub taken_more : {A : Type 0} (P : List A → Type 0) (xs : List A) (i : ℕ) (d : A) → i < length xs → P (take i xs ++ get_or xs i d ∷ []) → P (take (i + 1) xs)
taken_more P xs i d lt has = subst P (sym (take_more xs i d lt)) has
