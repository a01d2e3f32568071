-- Each step keeps the rule of a client's words.
use Rattle.std.proofs.Common.{◌≡◌, ℕ, ◌+◌, ◌-◌, ◌*◌, ◌/◌, ◌<◌, ◌≢◌, inl, inr, eqb, true, List, [], ◌∷◌, ◌++◌, length, get_or, set, Contains, sym, refl, ap, ◌∙◌, subst, ⊎_elim, arith, length-set, get_or-set_other, get_or-set_same}
use mathlib.Core.Logic.{dite}
use mathlib.Core.Option.{none, some}
use native.Mathlib.Decide.{ℕ_discrete}
use lib.ListN.{get_elem?}
use lib.Seq.{set-get_or}
use prog.Atomic.{either}
use Rattle.atomic_table.specs.Table.{State, Me, step, Act, keeps, Valid, carried_after, stepped, Allows}
use Rattle.atomic_table.proofs.Lists.{at_set, exchanged}
use Rattle.std.proofs.lemmas.List.Elements.{Contains-append_left, Contains-push, Contains-push_cases}
use Rattle.cq_flying.specs.declared.view.View.{View}
use Rattle.cq_flying.proofs.Opened.{once_set}
use Rattle.cq_flying.specs.Rule.{Flight, Fits, IsWord, named, loaded, drops, misses, saw_drop, names_it, loads_it, tries_it, looks_at, settles}

abbrev V : Type 0
V = View

abbrev St : Type 0
St = State ℕ V

abbrev M : Type 0
M = Me ℕ V

abbrev Goes : St → ℕ → ℕ → M → (ℕ → M → Type 0) → ℕ → Type 0
Goes s i id me then y = (w : V) × (a : Act ℕ) × Valid s.homes me.1 a × Flight (stepped s i y id me.1 w a) × then (get_or s.words i 0) (w, carried_after me.1 a)

pub fits_set : (F : ℕ → V → Type 0) (views : List V) (id : ℕ) (w : V) → F id w → ((j : ℕ) (u : V) → j ≢ id → get_elem? views j ≡ some u → F j u) → (j : ℕ) (u : V) → get_elem? (set views id w) j ≡ some u → F j u
fits_set F views id w mine others j u e =
    ⊎_elim
    (λ (x : (j ≡ id) × (w ≡ u)). subst (λ (y : ℕ × V). F y.0 y.1) (λ i. (sym x.0 i, x.1 i)) mine)
    (λ (x : (j ≢ id) × (get_elem? views j ≡ some u)). others j u x.0 x.1)
    (at_set views id j w u e)

word_more : (dropped : List ℕ) (a n w : ℕ) → IsWord dropped n w → IsWord (dropped ++ a ∷ []) n w
word_more dropped a n w h = ⊎_elim (λ x. inl x) (λ x. inr (x.0, x.1, Contains-append_left dropped (a ∷ []) (n - 1) x.2)) h

-- what was seen is within what was dropped, after one more is seen
seen_more : (l m : List ℕ) (a : ℕ) → ((d : ℕ) → Contains l d → Contains m d) → Contains m a → (d : ℕ) → Contains (l ++ a ∷ []) d → Contains m d
seen_more l m a old new d h = ⊎_elim (λ (x : Contains l d). old d x) (λ (x : a ≡ d). subst (Contains m) x new) (Contains-push_cases l a d h)

-- nothing changes but a view
same_words : (s : St) (r : Flight s) (i id : ℕ) (w : V) (seen : List ℕ) → ((d : ℕ) → Contains seen d → Contains r.dropped d)
    → ((j : ℕ) (u : V) → get_elem? (set s.views id w) j ≡ some u → Fits r.owner r.looker r.names r.dropped seen j u)
    → Flight record { words = set s.words i (get_or s.words i 0); homes = s.homes; views = set s.views id w }
same_words s r i id w seen within views = subst (λ (ws : List ℕ). Flight record { words = ws; homes = s.homes; views = set s.views id w }) (sym (set-get_or s.words i 0)) record {
  owner = r.owner;
  looker = r.looker;
  names = r.names;
  dropped = r.dropped;
  seen = seen;
  wide = r.wide;
  long = r.long;
  each = r.each;
  once = r.once;
  within = within;
  views = views;
}

pub loads_allowed : (m id : ℕ) (me : M) (i : ℕ) → Allows Flight m id me i (λ n. n) (loads_it (step m i 0 0 none) me)
loads_allowed m id me i s r deep at _ =
    let x : ℕ = get_or s.words i 0 in
    let mine = r.views id me.0 at in
    (loaded me.0 i x, keeps, tt, same_words s r i id (loaded me.0 i x) r.seen r.within (fits_set (Fits r.owner r.looker r.names r.dropped r.seen) s.views id (loaded me.0 i x) record { owns = mine.owns; looks = mine.looks } (λ j u _ e. r.views j u e)), refl)

pub settles_allowed : (m id : ℕ) (me : M) (i : ℕ) → me.0.owns ≡ true → me.0.looks ≡ true → Allows Flight m id me i (λ n. n) (settles (step m i 0 0 none) me)
settles_allowed m id me i a b s r deep at _ =
    let mine = r.views id me.0 at in (
      me.0,
      keeps,
      tt,
      same_words s r i id me.0 r.seen r.within (fits_set (Fits r.owner r.looker r.names r.dropped r.seen) s.views id me.0 mine (λ j u _ e. r.views j u e)),
      (refl, λ d h. subst (λ (l : List ℕ). Contains l d) (sym (mine.owns a).1) (r.within d (subst (λ (l : List ℕ). Contains l d) (mine.looks b).2 h))),
    )

-- the looker stores twice what it names there
pub names_allowed : (m id : ℕ) (me : M) (i n new : ℕ) → i < 64 → new ≡ 2 * n → n ≡ new / 2 → (0 < n → (j : ℕ) → get_or me.0.names j 0 ≢ n) → me.0.looks ≡ true → Allows Flight m id me i (λ _. new) (λ _. names_it (step m i new 0 none) me new)
names_allowed m id me i n new near is half fresh may s r deep at _ =
    let mine = (r.views id me.0 at).looks may in
    let here : i < length s.words = subst (λ (z : ℕ). i < z) (sym r.wide) near in
    let home : i < length r.names = subst (λ (z : ℕ). i < z) (sym r.long) near in
    let h : ℕ = new / 2 in
    let at_i : get_or (set r.names i h) i 0 ≡ h = get_or-set_same r.names i h 0 home in
    let half' : n ≡ h = half in
    let is' : new ≡ 2 * n = is in
    let fresh' : 0 < n → (j : ℕ) → get_or r.names j 0 ≢ n = λ p j. subst (λ (l : List ℕ). get_or l j 0 ≢ n) mine.1 (fresh p j) in (
      named me.0 i h,
      keeps,
      tt,
      record {
        owner = r.owner;
        looker = r.looker;
        names = set r.names i h;
        dropped = r.dropped;
        seen = r.seen;
        wide = length-set s.words i new ∙ r.wide;
        long = length-set r.names i h ∙ r.long;
        each = λ j lt. dite (ℕ_discrete j i)
            (λ e. subst (λ (k : ℕ). IsWord r.dropped (get_or (set r.names i h) k 0) (get_or (set s.words i new) k 0)) (sym e)
            (inl (get_or-set_same s.words i new 0 here ∙ (let g : new ≡ 2 * h = omega arith in g) ∙ ap (λ (z : ℕ). 2 * z) (sym at_i))))
            (λ ne. subst (λ (y : ℕ × ℕ). IsWord r.dropped y.0 y.1) (λ k. (sym (get_or-set_other r.names i j h 0 ne) k, sym (get_or-set_other s.words i j new 0 ne) k)) (r.each j lt));
        once = once_set r.names i h home r.once (λ p j. let p' : 0 < n = omega arith in λ e. fresh' p' j (e ∙ sym half'));
        within = r.within;
        views = fits_set (Fits r.owner r.looker (set r.names i h) r.dropped r.seen) s.views id (named me.0 i h)
            record { owns = (r.views id me.0 at).owns; looks = (λ _. (mine.0, ap (λ (l : List ℕ). set l i h) mine.1, mine.2)) }
            (λ j u other e. record { owns = (r.views j u e).owns; looks = (λ p. absurd (other (((r.views j u e).looks p).0 ∙ sym mine.0))) });
      },
      refl,
    )

-- the owner turns the word from out to dropped
pub tries_allowed : (m id : ℕ) (me : M) (i d old new : ℕ) → i < 64 → old ≡ 2 * (d + 1) → d ≡ old / 2 - 1 → new ≡ old + 1 → me.0.owns ≡ true → Allows Flight m id me i (λ n. either (eqb n old) new n) (tries_it (step m i old new none) me)
tries_allowed m id me i d old new near is half next may s r deep at _ =
    let x : ℕ = get_or s.words i 0 in
    let mine = (r.views id me.0 at).owns may in
    let told = tries_it (step m i old new none) me in
    let h : ℕ = old / 2 - 1 in
    let half' : d ≡ h = half in
    let is' : old ≡ 2 * (d + 1) = is in
    let next' : new ≡ old + 1 = next in
    let n : ℕ = get_or r.names i 0 in
    let here : i < length s.words = subst (λ (z : ℕ). i < z) (sym r.wide) near in
    exchanged x old new (Goes s i id me told)
    (λ hit.
    let hit' : x ≡ old = hit in
    let out : n ≡ d + 1 = ⊎_elim (λ (e : x ≡ 2 * n). let g : n ≡ d + 1 = omega arith in g) (λ (e : (x ≡ 2 * n + 1) × (0 < n) × Contains r.dropped (n - 1)). let q = e.0 in absurd (omega arith)) (r.each i near) in (
      drops me.0 i x h,
      keeps,
      tt,
      record {
        owner = r.owner;
        looker = r.looker;
        names = r.names;
        dropped = r.dropped ++ h ∷ [];
        seen = r.seen;
        wide = length-set s.words i new ∙ r.wide;
        long = r.long;
        each = λ j lt. dite (ℕ_discrete j i)
            (λ e. subst (λ (k : ℕ). IsWord (r.dropped ++ h ∷ []) (get_or r.names k 0) (get_or (set s.words i new) k 0)) (sym e)
            (inr (get_or-set_same s.words i new 0 here ∙ (let g : new ≡ 2 * n + 1 = omega arith in g), (let g : 0 < n = omega arith in g), subst (Contains (r.dropped ++ h ∷ [])) (let g : h ≡ n - 1 = omega arith in g) (Contains-push r.dropped h))))
            (λ ne. subst (IsWord (r.dropped ++ h ∷ []) (get_or r.names j 0)) (sym (get_or-set_other s.words i j new 0 ne)) (word_more r.dropped h (get_or r.names j 0) (get_or s.words j 0) (r.each j lt)));
        once = r.once;
        within = (λ k has. Contains-append_left r.dropped (h ∷ []) k (r.within k has));
        views = fits_set (Fits r.owner r.looker r.names (r.dropped ++ h ∷ []) r.seen) s.views id (drops me.0 i x h)
            record { owns = (λ _. (mine.0, ap (λ (l : List ℕ). l ++ h ∷ []) mine.1)); looks = (r.views id me.0 at).looks }
            (λ j u other e. record { owns = (λ p. absurd (other (((r.views j u e).owns p).0 ∙ sym mine.0))); looks = (r.views j u e).looks });
      },
      ((λ _. refl), λ miss. absurd (miss hit)),
    ))
    (λ miss. (
      misses me.0 i x,
      keeps,
      tt,
      same_words s r i id (misses me.0 i x) r.seen r.within (fits_set (Fits r.owner r.looker r.names r.dropped r.seen) s.views id (misses me.0 i x) record { owns = (r.views id me.0 at).owns; looks = (r.views id me.0 at).looks } (λ j u _ e. r.views j u e)),
      ((λ hit. absurd (miss hit)), λ _. refl),
    ))

-- the looker's load finds what it wrote, or that it was dropped
pub looks_allowed : (m id : ℕ) (me : M) (i : ℕ) → i < 64 → me.0.looks ≡ true → Allows Flight m id me i (λ n. n) (looks_at (step m i 0 0 none) me)
looks_allowed m id me i near may s r deep at _ =
    let x : ℕ = get_or s.words i 0 in
    let mine = (r.views id me.0 at).looks may in
    let n : ℕ = get_or me.0.names i 0 in
    let n_is : n ≡ get_or r.names i 0 = ap (λ (l : List ℕ). get_or l i 0) mine.1 in
    let word : IsWord r.dropped n x = subst (λ (k : ℕ). IsWord r.dropped k x) (sym n_is) (r.each i near) in
    let new : List ℕ = r.seen ++ (n - 1) ∷ [] in
    ⊎_elim
    (λ (e : x ≡ 2 * n). (
      loaded me.0 i x,
      keeps,
      tt,
      same_words s r i id (loaded me.0 i x) r.seen r.within (fits_set (Fits r.owner r.looker r.names r.dropped r.seen) s.views id (loaded me.0 i x) record { owns = (r.views id me.0 at).owns; looks = (r.views id me.0 at).looks } (λ j u _ e'. r.views j u e')),
      ((λ (hit : x ≡ 2 * n + 1). absurd (omega arith)), λ _. (e, refl)),
    ))
    (λ (e : (x ≡ 2 * n + 1) × (0 < n) × Contains r.dropped (n - 1)). (
      saw_drop me.0 i x (n - 1),
      keeps,
      tt,
      same_words s r i id (saw_drop me.0 i x (n - 1)) new (seen_more r.seen r.dropped (n - 1) r.within e.2)
          (fits_set (Fits r.owner r.looker r.names r.dropped new) s.views id (saw_drop me.0 i x (n - 1))
          record { owns = (r.views id me.0 at).owns; looks = (λ _. (mine.0, mine.1, ap (λ (l : List ℕ). l ++ (n - 1) ∷ []) mine.2)) }
          (λ j u other e'. record { owns = (r.views j u e').owns; looks = (λ p. absurd (other (((r.views j u e').looks p).0 ∙ sym mine.0))) })),
      ((λ _. (e.1, refl)), λ miss. absurd (miss e.0)),
    ))
    word
