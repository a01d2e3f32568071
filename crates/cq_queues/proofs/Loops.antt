-- One queue more, in the loops over queues.
use Rattle.std.proofs.Common.{◌≡◌, ◌≢◌, ℕ, zero, suc, ◌+◌, ◌<◌, Bool, true, false, cond, List, [], ◌∷◌, ◌++◌, length, take, drop, get_or, refl, sym, ap, ◌∙◌, subst, arith, inl, inr}
use Rattle.std.specs.Prelude.{◌==◌, ◌||◌}
use Rattle.std.specs.List.{AllByRecursion}
use Rattle.std.proofs.lemmas.Bool.{or_from, or_left, or_right, or_parts, cases_eq, eq-eqb, ne_eqb, eqb-false}
use Rattle.std.proofs.lemmas.List.Folds.{list_any-append}
use Rattle.cq_bytes.specs.Numbers.{contains, AreQueues}
use Rattle.cq_items.specs.Item.{Item}
use Rattle.cq_items.specs.declared.item.Holder.{Holder}
use Rattle.cq_items.specs.declared.item.Holder.TheVariants.{Waiting, Out, Gone}
use Rattle.cq_items.specs.Items.{back_one, holding, give_back}
use Rattle.cq_queue.specs.Values.{QueueValue, StaysOnDisk}
use Rattle.cq_queues.specs.Changes.{ChangesRoom, HasGivenBack, HasJoined, OthersStay, StayOnDisk, given_back, joined_by}

-- a change of one queue
pub at_one : (x : ℕ) (old new : ℕ → QueueValue) (f : QueueValue → QueueValue) → new x ≡ f (old x) → OthersStay x old new → (q : ℕ) → new q ≡ cond (contains (x ∷ []) q) (f (old q)) (old q)
at_one x old new f is others q = elim (cases_eq q x) [
  | inl e ↦ subst (λ (k : ℕ). new k ≡ cond (contains (x ∷ []) k) (f (old k)) (old k)) (sym e) (is ∙ sym (ap (λ (b : Bool). cond b (f (old x)) (old x)) (or_left _ _ (eq-eqb x x refl))))
  | inr other ↦ others q other ∙ sym (ap (λ (b : Bool). cond b (f (old q)) (old q)) (or_from _ _ (ne_eqb x q (λ e. other (sym e))) refl))
]

pub all_last : {A : Type 0} (P : A → Type 0) (xs : List A) (x : A) → AllByRecursion P (xs ++ x ∷ []) → AllByRecursion P xs × P x
all_last P [] x a = (tt, a.0)
all_last P (y ∷ xs) x a = let r = all_last P xs x a.1 in ((a.0, r.0), r.1)

pub all_more : {A : Type 0} (P : A → Type 0) (xs : List A) (x : A) → AllByRecursion P xs → P x → AllByRecursion P (xs ++ x ∷ [])
all_more P [] x a p = (p, tt)
all_more P (y ∷ xs) x a p = (a.0, all_more P xs x a.1 p)

pub all_map : {A : Type 0} (P Q : A → Type 0) (xs : List A) → ((x : A) → P x → Q x) → AllByRecursion P xs → AllByRecursion Q xs
all_map P Q [] h a = tt
all_map P Q (x ∷ xs) h a = (h x a.0, all_map P Q xs h a.1)

-- what holds at each other number stays
pub all_others : (P Q : ℕ → Type 0) (x : ℕ) (xs : List ℕ) → contains xs x ≡ false → ((q : ℕ) → q ≢ x → P q → Q q) → AllByRecursion P xs → AllByRecursion Q xs
all_others P Q x [] none h a = tt
all_others P Q x (y ∷ xs) none h a = let parts = or_parts _ _ none in (h y (eqb-false y x parts.0) a.0, all_others P Q x xs parts.1 h a.1)

contains-push : (xs : List ℕ) (x q : ℕ) → contains (xs ++ x ∷ []) q ≡ (contains xs q || contains (x ∷ []) q)
contains-push xs x q = list_any-append (λ y. y == q) xs (x ∷ [])

-- one queue more has changed so, where none of those that have is it
pub changed_more : (f : QueueValue → QueueValue) (x : ℕ) (done : List ℕ) (a b d : ℕ → QueueValue) → contains done x ≡ false
    → ((q : ℕ) → b q ≡ cond (contains done q) (f (a q)) (a q)) → ((q : ℕ) → d q ≡ cond (contains (x ∷ []) q) (f (b q)) (b q))
    → (q : ℕ) → d q ≡ cond (contains (done ++ x ∷ []) q) (f (a q)) (a q)
changed_more f x done a b d other before now q = elim (cases_eq q x) [
  | inl e ↦
      let here : contains (x ∷ []) q ≡ true = or_left _ _ (eq-eqb x q (sym e)) in
      let not_yet : contains done q ≡ false = subst (λ (k : ℕ). contains done k ≡ false) (sym e) other in
      now q ∙ ap (λ (u : Bool). cond u (f (b q)) (b q)) here ∙ ap f (before q ∙ ap (λ (u : Bool). cond u (f (a q)) (a q)) not_yet)
      ∙ sym (ap (λ (u : Bool). cond u (f (a q)) (a q)) (contains-push done x q ∙ or_right _ _ here))
  | inr off ↦
      let not_here : contains (x ∷ []) q ≡ false = or_from _ _ (ne_eqb x q (λ e. off (sym e))) refl in
      now q ∙ ap (λ (u : Bool). cond u (f (b q)) (b q)) not_here ∙ before q
      ∙ ap (λ (u : Bool). cond u (f (a q)) (a q)) (sym (contains-push done x q ∙ ap (λ (u : Bool). contains done q || u) not_here ∙ or_false (contains done q)))
]
  where
    or_false : (u : Bool) → (u || false) ≡ u
    or_false true = refl
    or_false false = refl

-- another queue is as it was
pub joined_off : (id len x : ℕ) (body : List ℕ) (a b : ℕ → QueueValue) → HasJoined id body len (x ∷ []) a b → (q : ℕ) → q ≢ x → b q ≡ a q
joined_off id len x body a b is q off = is q ∙ ap (λ (u : Bool). cond u (joined_by id body len (a q)) (a q)) (or_from _ _ (ne_eqb x q (λ e. off (sym e))) refl)

-- ---- what came back once stays

back-twice : (c : ℕ) (h : Holder) → back_one c (back_one c h) ≡ back_one c h
back-twice c Waiting = refl
back-twice c Gone = refl
back-twice c (Out x y) =
    (elim (x == c) as (λ b. (x == c) ≡ b → back_one c (cond b Waiting (Out x y)) ≡ cond b Waiting (Out x y)) [
      | true ↦ λ e. refl
      | false ↦ λ e. ap (λ b. cond b Waiting (Out x y)) e
    ]) refl

pub give_back-twice : (c : ℕ) (is : List Item) → give_back c (give_back c is) ≡ give_back c is
give_back-twice c [] = refl
give_back-twice c (i ∷ is) = ap (λ h. record i { holder = h } ∷ give_back c (give_back c is)) (back-twice c i.holder) ∙ ap (λ (js : List Item). holding (back_one c) i ∷ js) (give_back-twice c is)

pub gave_more : (client x : ℕ) (done : List ℕ) (a b d : ℕ → QueueValue) → HasGivenBack client done a b → HasGivenBack client (x ∷ []) b d → HasGivenBack client (done ++ x ∷ []) a d
gave_more client x done a b d before now q =
    now q
    ∙ ap (λ (v : QueueValue). cond (contains (x ∷ []) q) (given_back client v) v) (before q)
    ∙ (elim (contains done q) as (λ u. cond (contains (x ∷ []) q) (given_back client (cond u (given_back client (a q)) (a q))) (cond u (given_back client (a q)) (a q)) ≡ cond (u || contains (x ∷ []) q) (given_back client (a q)) (a q)) [
      | true ↦ elim (contains (x ∷ []) q) as (λ w. cond w (given_back client (given_back client (a q))) (given_back client (a q)) ≡ given_back client (a q)) [
        | true ↦ ap (λ (is : List Item). record (a q) { items = is }) (give_back-twice client (a q).items)
        | false ↦ refl
      ]
      | false ↦ refl
    ])
    ∙ ap (λ b. cond b (given_back client (a q)) (a q)) (sym (contains-push done x q))

-- ---- from step to step

pub stay_more : (a b d : ℕ → QueueValue) → StayOnDisk a b → StayOnDisk b d → StayOnDisk a d
stay_more a b d before now q files at = now q files (before q files at)

pub room_more : (a b d : ℕ → QueueValue) → ChangesRoom a b → ChangesRoom b d → ChangesRoom a d
room_more a b d before now q = now q ∙ ap (λ (v : QueueValue). record v { reserved = (d q).reserved }) (before q)

pub room_stays : (a b : ℕ → QueueValue) → ChangesRoom a b → StayOnDisk a b
room_stays a b room q = subst (StaysOnDisk (a q)) (sym (room q)) (λ files at. at)

-- ---- different queues, place by place

there : (qs : List ℕ) (i : ℕ) → i < length qs → contains qs (get_or qs i 0) ≡ true
there [] i l = absurd (omega (arith, l))
there (q ∷ qs) zero l = or_left _ _ (eq-eqb q q refl)
there (q ∷ qs) (suc i) l = or_right _ _ (there qs i (omega (arith, l)))

pub queue_below : (qs : List ℕ) (i : ℕ) → AreQueues qs → i < length qs → get_or qs i 0 < 256
queue_below [] i a l = absurd (omega (arith, l))
queue_below (q ∷ qs) zero a l = a.0
queue_below (q ∷ qs) (suc i) a l = queue_below qs i a.2 (omega (arith, l))

not_both : (b : Bool) → b ≡ true → b ≡ false → ⊥
not_both b t f = cc

pub queue_before : (qs : List ℕ) (i : ℕ) → AreQueues qs → i < length qs → contains (take i qs) (get_or qs i 0) ≡ false
queue_before [] i a l = absurd (omega (arith, l))
queue_before (q ∷ qs) zero a l = refl
queue_before (q ∷ qs) (suc i) a l =
    let near : i < length qs = omega (arith, l) in
    or_from _ _ (ne_eqb q (get_or qs i 0) (λ e. not_both (contains qs q) (ap (contains qs) e ∙ there qs i near) a.1)) (queue_before qs i a.2 near)

pub queue_behind : (qs : List ℕ) (i : ℕ) → AreQueues qs → i < length qs → contains (drop (i + 1) qs) (get_or qs i 0) ≡ false
queue_behind [] i a l = absurd (omega (arith, l))
queue_behind (q ∷ qs) zero a l = a.1
queue_behind (q ∷ qs) (suc i) a l =
    let e : suc i + 1 ≡ suc (i + 1) = omega arith in
    ap (λ n. contains (drop n (q ∷ qs)) (get_or qs i 0)) e ∙ queue_behind qs i a.2 (omega (arith, l))
