-- Which deliveries are open, after one is written into a word or taken out of it.
use Rattle.std.proofs.Common.{◌≡◌, ◌≢◌, ◌⊎◌, inl, inr, ℕ, zero, suc, ◌+◌, ◌<◌, ◌≤◌, List, [], ◌∷◌, length, get_or, set, Contains, sym, refl, ap, ◌∙◌, subst, ⊎_elim, arith, length-set, get_or-set_same, get_or-set_other}
use Rattle.std.specs.List.{AllWithin}
use Rattle.std.proofs.lemmas.Bool.{cases_eq, cases_lt}
use Rattle.std.proofs.lemmas.List.{get_or_past}
use Rattle.cq_inbox.specs.Flags.{Joins, Leaves}
use Rattle.cq_flying.specs.Rule.{IsOnce}
use Rattle.cq_flying.specs.Ends.{opened}

none_in : (d : ℕ) → Contains [] d → ⊥
none_in d h = let near : h.0 < 0 = h.1 in absurd (omega arith)

cons_at : (e d : ℕ) (xs : List ℕ) (k : ℕ) → k < length (e ∷ xs) → get_or (e ∷ xs) k d ≡ d → ((e ≡ d) ⊎ Contains xs d)
cons_at e d xs zero near is = inl is
cons_at e d xs (suc k) near is = inr (k, omega arith, is)

-- an open delivery is written into a word
pub opened_at : (ns : List ℕ) (d : ℕ) → Contains (opened ns) d → (i : ℕ) × (i < length ns) × (get_or ns i 0 ≡ d + 1)
unfolding opened
opened_at [] d h = absurd (none_in d h)
opened_at (zero ∷ ns) d h = let r = opened_at ns d h in let near : r.0 < length ns = r.1 in (suc r.0, omega arith, r.2)
opened_at (suc e ∷ ns) d h =
    ⊎_elim
    (λ (is : e ≡ d). (0, omega arith, (let g : suc e ≡ d + 1 = omega arith in g)))
    (λ (rest : Contains (opened ns) d). let r = opened_at ns d rest in let near : r.0 < length ns = r.1 in (suc r.0, omega arith, r.2))
    (cons_at e d (opened ns) h.0 h.1 h.2)

-- a delivery that is written into a word is open
pub opened_from : (ns : List ℕ) (d i : ℕ) → i < length ns → get_or ns i 0 ≡ d + 1 → Contains (opened ns) d
unfolding opened
opened_from [] d i near is = absurd (omega arith)
opened_from (zero ∷ ns) d zero near is = absurd (omega arith)
opened_from (zero ∷ ns) d (suc i) near is = opened_from ns d i (omega arith) is
opened_from (suc e ∷ ns) d zero near is = (0, omega arith, (let g : e ≡ d = omega arith in g))
opened_from (suc e ∷ ns) d (suc i) near is = let r = opened_from ns d i (omega arith) is in let near' : r.0 < length (opened ns) = r.1 in (suc r.0, omega arith, r.2)

-- no word has the delivery where it isn't open
pub fresh_name : (ns : List ℕ) (d : ℕ) → ¬ Contains (opened ns) d → (j : ℕ) → get_or ns j 0 ≢ d + 1
fresh_name ns d fresh j is =
    ⊎_elim
    (λ (near : j < length ns). fresh (opened_from ns d j near is))
    (λ (past : length ns ≤ j). let z : get_or ns j 0 ≡ 0 = get_or_past ns j 0 past in absurd (omega arith))
    (cases_lt j (length ns))

one_more : (ns : List ℕ) (i d : ℕ) → i < length ns → get_or ns i 0 ≡ 0 → length (opened (set ns i (suc d))) ≡ length (opened ns) + 1
unfolding opened
one_more [] i d near is = absurd (omega arith)
one_more (zero ∷ ns) zero d near is = let g : suc (length (opened ns)) ≡ length (opened ns) + 1 = omega arith in g
one_more (suc e ∷ ns) zero d near is = absurd (omega arith)
one_more (zero ∷ ns) (suc i) d near is = one_more ns i d (omega arith) is
one_more (suc e ∷ ns) (suc i) d near is = let h = one_more ns i d (omega arith) is in let g : suc (length (opened (set ns i (suc d)))) ≡ suc (length (opened ns)) + 1 = omega arith in g

one_less : (ns : List ℕ) (i d : ℕ) → i < length ns → get_or ns i 0 ≡ suc d → length (opened ns) ≡ length (opened (set ns i 0)) + 1
unfolding opened
one_less [] i d near is = absurd (omega arith)
one_less (zero ∷ ns) zero d near is = absurd (omega arith)
one_less (suc e ∷ ns) zero d near is = let g : suc (length (opened ns)) ≡ length (opened ns) + 1 = omega arith in g
one_less (zero ∷ ns) (suc i) d near is = one_less ns i d (omega arith) is
one_less (suc e ∷ ns) (suc i) d near is = let h = one_less ns i d (omega arith) is in let g : suc (length (opened ns)) ≡ suc (length (opened (set ns i 0))) + 1 = omega arith in g

-- where no word is 0, as many deliveries are open as there are words
pub all_open : (ns : List ℕ) → AllWithin (λ (n : ℕ). 0 < n) ns 0 (length ns) → length (opened ns) ≡ length ns
unfolding opened
all_open [] all = refl
all_open (zero ∷ ns) all = absurd (let h : 0 < 0 = all 0 0 (omega arith) (omega arith) in omega arith)
all_open (suc e ∷ ns) all = ap suc (all_open ns (λ k d _ lt. all (suc k) d (omega arith) (omega arith)))

-- no delivery stands twice after one is written that no word has
pub once_set : (ns : List ℕ) (i n : ℕ) → i < length ns → IsOnce ns → (0 < n → (j : ℕ) → get_or ns j 0 ≢ n) → IsOnce (set ns i n)
once_set ns i n home once fresh j k pos e =
    let here : get_or (set ns i n) i 0 ≡ n = get_or-set_same ns i n 0 home in
    ⊎_elim
    (λ (ji : j ≡ i). ⊎_elim
    (λ (ki : k ≡ i). ji ∙ sym ki)
    (λ (nk : k ≢ i).
    let a : get_or (set ns i n) j 0 ≡ n = ap (λ (z : ℕ). get_or (set ns i n) z 0) ji ∙ here in
    let b : get_or (set ns i n) k 0 ≡ get_or ns k 0 = get_or-set_other ns i k n 0 nk in
    let p : 0 < n = omega arith in
    absurd (fresh p k (let g : get_or ns k 0 ≡ n = omega arith in g)))
    (cases_eq k i))
    (λ (nj : j ≢ i).
    let a : get_or (set ns i n) j 0 ≡ get_or ns j 0 = get_or-set_other ns i j n 0 nj in ⊎_elim
    (λ (ki : k ≡ i).
    let b : get_or (set ns i n) k 0 ≡ n = ap (λ (z : ℕ). get_or (set ns i n) z 0) ki ∙ here in
    let p : 0 < n = omega arith in
    absurd (fresh p j (let g : get_or ns j 0 ≡ n = omega arith in g)))
    (λ (nk : k ≢ i).
    let b : get_or (set ns i n) k 0 ≡ get_or ns k 0 = get_or-set_other ns i k n 0 nk in
    once j k (let g : 0 < get_or ns j 0 = omega arith in g) (let g : get_or ns j 0 ≡ get_or ns k 0 = omega arith in g))
    (cases_eq k i))
    (cases_eq j i)

pub name_joins : (ns : List ℕ) (i d : ℕ) → i < length ns → get_or ns i 0 ≡ 0 → Joins d (opened ns) (opened (set ns i (d + 1)))
name_joins ns i d near is =
    let next : d + 1 ≡ suc d = omega arith in
    let new : List ℕ = set ns i (d + 1) in
    let long : length new ≡ length ns = length-set ns i (d + 1) in
    let here : get_or new i 0 ≡ d + 1 = get_or-set_same ns i (d + 1) 0 near in record {
      more = subst (λ (n : ℕ). length (opened (set ns i n)) ≡ length (opened ns) + 1) (sym next) (one_more ns i d near is);
      each = λ x. (
        (λ h.
            let at = opened_at new x h in
            let k : ℕ = at.0 in
            let at_k : get_or new k 0 ≡ x + 1 = at.2 in
            ⊎_elim
            (λ (e : k ≡ i). let same : get_or new k 0 ≡ d + 1 = ap (λ (z : ℕ). get_or new z 0) e ∙ here in inr (let g : x ≡ d = omega arith in g))
            (λ (ne : k ≢ i). inl (opened_from ns x k (subst (λ (n : ℕ). k < n) long at.1) (sym (get_or-set_other ns i k (d + 1) 0 ne) ∙ at_k)))
            (cases_eq k i)),
        (λ h. ⊎_elim
            (λ (old : Contains (opened ns) x).
            let at = opened_at ns x old in
            let k : ℕ = at.0 in
            let ne : k ≢ i = λ e. let same : get_or ns k 0 ≡ 0 = ap (λ (z : ℕ). get_or ns z 0) e ∙ is in let at_k : get_or ns k 0 ≡ x + 1 = at.2 in omega arith in
            opened_from new x k (subst (λ (n : ℕ). k < n) (sym long) at.1) (get_or-set_other ns i k (d + 1) 0 ne ∙ at.2))
            (λ (e : x ≡ d). opened_from new x i (subst (λ (n : ℕ). i < n) (sym long) near) (here ∙ ap (λ (z : ℕ). z + 1) (sym e)))
            h),
      );
    }

pub name_leaves : (ns : List ℕ) (i d : ℕ) → IsOnce ns → i < length ns → get_or ns i 0 ≡ d + 1 → Leaves d (opened ns) (opened (set ns i 0))
name_leaves ns i d once near is =
    let next : d + 1 ≡ suc d = omega arith in
    let new : List ℕ = set ns i 0 in
    let long : length new ≡ length ns = length-set ns i 0 in
    let here : get_or new i 0 ≡ 0 = get_or-set_same ns i 0 0 near in record {
      fewer = one_less ns i d near (is ∙ next);
      each = λ x. (
        (λ h.
            let at = opened_at new x h in
            let k : ℕ = at.0 in
            let at_k : get_or new k 0 ≡ x + 1 = at.2 in
            let ne : k ≢ i = λ e. let same : get_or new k 0 ≡ 0 = ap (λ (z : ℕ). get_or new z 0) e ∙ here in omega arith in
            let was : get_or ns k 0 ≡ x + 1 = sym (get_or-set_other ns i k 0 0 ne) ∙ at_k in
            let pos : 0 < get_or ns k 0 = omega arith in (
              opened_from ns x k (subst (λ (n : ℕ). k < n) long at.1) was,
              λ (e : x ≡ d). ne (once k i pos (was ∙ (ap (λ (z : ℕ). z + 1) e ∙ sym is))),
            )),
        (λ h.
            let at = opened_at ns x h.0 in
            let k : ℕ = at.0 in
            let at_k : get_or ns k 0 ≡ x + 1 = at.2 in
            let ne : k ≢ i = λ e. let same : get_or ns k 0 ≡ d + 1 = ap (λ (z : ℕ). get_or ns z 0) e ∙ is in h.1 (let g : x ≡ d = omega arith in g) in
            opened_from new x k (subst (λ (n : ℕ). k < n) (sym long) at.1) (get_or-set_other ns i k 0 0 ne ∙ at_k)),
      );
    }
