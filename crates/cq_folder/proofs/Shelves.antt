-- The records of shared files: what is held stays held where records join one, and where one has others that count.
use Rattle.std.proofs.Common.{◌≡◌, ◌≢◌, ◌⊎◌, inl, inr, ⊎_elim, ℕ, Bool, true, false, List, [], ◌∷◌, ◌++◌, refl, sym, ap, ◌∙◌, subst}
use Rattle.std.specs.Prelude.{◌==◌, ◌||◌}
use Rattle.std.proofs.lemmas.Bool.{cases_eq, cases_Bool}
use Rattle.std.proofs.lemmas.List.Folds.{list_any-append}
use Rattle.cq_entry.specs.declared.entry.EntryKind.TheVariants.{Shared as SharedEntry}
use Rattle.cq_journal.specs.declared.event.Message.{Message}
use Rattle.cq_journal.specs.History.{has_id}
use Rattle.cq_journal.specs.Lists.{HasDistinctIds, IsIn}
use Rattle.std.specs.List.{AllZip}
use Rattle.cq_folder.specs.Holding.{AreNew, MayReplace}
use Rattle.cq_folder.specs.Folder.{present, spots, below, Folder, AreApart, IsShelved, IsMessageOf, HoldsIn, Holds, sharing_of, shelf_in, shelf_joined}
use Rattle.cq_folder.proofs.Sublists.{in_has, any_both, clash}
use Rattle.cq_folder.proofs.Members.{in_front}
use Rattle.cq_folder.proofs.Images.{at_shelf, off_shelf}

-- a AllZip whose pairs are weakened only where the second one is in its list
zip_within : {A B : Type 0} (R S : A → B → Type 0) (xs : List A) (ys : List B) → ((x : A) (y : B) → IsIn ys y → R x y → S x y) → AllZip R xs ys → AllZip S xs ys
zip_within R S [] [] step z = tt
zip_within R S [] (y ∷ ys) step z = absurd z
zip_within R S (x ∷ xs) [] step z = absurd z
zip_within R S (x ∷ xs) (y ∷ ys) step z = (step x y (inl refl) z.0, zip_within R S xs ys (λ a b there. step a b (inr there)) z.1)

-- the same contents and kinds, where each held message of a shared entry still has a record
pub shelves_hold : (F : Folder) (S : ℕ → List Message) (q : ℕ) (l : List Message) → ((m : Message) → IsIn l m → F.kinds m ≡ SharedEntry → IsShelved F.shelves m → IsShelved S m) → HoldsIn F q l → HoldsIn (record F { shelves = S }) q l
shelves_hold F S q l still h = record {
  seen = h.seen;
  entries = h.entries;
  short = h.short;
  most = h.most;
  none = h.none;
  each = zip_within (IsMessageOf F q) (IsMessageOf (record F { shelves = S }) q) (below (λ n. spots n (present (h.seen n))) h.most) l
      (λ s m held was. record { id = was.id; len = was.len; kind = was.kind; stands = was.stands; shelved = λ shared. still m held (sym was.kind ∙ shared) (was.shelved shared) }) h.each;
}

-- ---- records join

distinct_append : (xs ys : List Message) → HasDistinctIds xs → HasDistinctIds ys → ((x : ℕ) → has_id ys x ≡ true → has_id xs x ≡ false) → HasDistinctIds (xs ++ ys)
distinct_append [] ys a b fresh = b
distinct_append (m ∷ xs) ys a b fresh = (
  any_both (λ k. k.id == m.id) xs ys a.0 (⊎_elim
      (λ (there : has_id ys m.id ≡ true). clash (has_id (m ∷ xs) m.id) (fresh m.id there) (in_has (m ∷ xs) m (inl refl)))
      (λ none. none)
      (cases_Bool (has_id ys m.id))),
  distinct_append xs ys a.1 b (λ x there. later x (fresh x there)),
)
  where
    later : (x : ℕ) → has_id (m ∷ xs) x ≡ false → has_id xs x ≡ false
    later x none = ⊎_elim
        (λ (there : has_id xs x ≡ true). absurd_or (m.id == x) (has_id xs x) there none)
        (λ out. out)
        (cases_Bool (has_id xs x))
      where
        absurd_or : (p q : Bool) → q ≡ true → (p || q) ≡ false → q ≡ false
        absurd_or true q there none = clash true none refl
        absurd_or false q there none = none

module _ (F : Folder) (k : ℕ) (ms : List Message) (new : AreNew (sharing_of F) ms) where
  abbrev G : Folder
  G = shelf_joined F k ms

  at_k : G.shelves k ≡ F.shelves k ++ ms
  at_k = at_shelf F k (F.shelves k ++ ms)

  off_k : (j : ℕ) → j ≢ k → G.shelves j ≡ F.shelves j
  off_k = off_shelf F k (F.shelves k ++ ms)

  still_there : (m : Message) → IsShelved F.shelves m → IsShelved G.shelves m
  still_there m there = (
    there.0,
    ⊎_elim
        (λ here. subst (λ (l : List Message). IsIn l m) (sym (ap G.shelves here ∙ at_k)) (in_front (F.shelves k) ms m (subst (λ (j : ℕ). IsIn (F.shelves j) m) here there.1)))
        (λ other. subst (λ (l : List Message). IsIn l m) (sym (off_k there.0 other)) there.1)
        (cases_eq there.0 k),
  )

  pub records_hold : (lines : ℕ → List Message) → Holds F lines → Holds G lines
  records_hold lines holds q = shelves_hold F G.shelves q (lines q) (λ m held kind was. still_there m was) (holds q)

  -- who has an id now, had it before, or is new
  from : (j x : ℕ) → has_id (G.shelves j) x ≡ true → (has_id (F.shelves j) x ≡ true) ⊎ ((j ≡ k) × (has_id ms x ≡ true))
  from j x there = ⊎_elim
      (λ here. (let both : (has_id (F.shelves k) x || has_id ms x) ≡ true = sym (list_any-append (λ m. m.id == x) (F.shelves k) ms) ∙ ap (λ (l : List Message). has_id l x) (sym (ap G.shelves here ∙ at_k)) ∙ there in
      either (has_id (F.shelves k) x) (has_id ms x) both (λ old. inl (ap (λ (i : ℕ). has_id (F.shelves i) x) here ∙ old)) (λ own. inr (here, own))))
      (λ other. inl (ap (λ (l : List Message). has_id l x) (sym (off_k j other)) ∙ there))
      (cases_eq j k)
    where
      either : {A : Type 0} (a b : Bool) → (a || b) ≡ true → (a ≡ true → A) → (b ≡ true → A) → A
      either true b any left right = left refl
      either false b any left right = right any

  pub records_apart : AreApart F.shelves → AreApart G.shelves
  records_apart a = record {
    once = λ j. ⊎_elim
        (λ here. subst HasDistinctIds (sym (ap G.shelves here ∙ at_k)) (distinct_append (F.shelves k) ms (a.once k) new.once (new.fresh k)))
        (λ other. subst HasDistinctIds (sym (off_k j other)) (a.once j))
        (cases_eq j k);
    apart = λ i j x one two. ⊎_elim
        (λ old. ⊎_elim (λ also. a.apart i j x old also) (λ own. clash (has_id (F.shelves i) x) (new.fresh i x own.1) old) (from j x two))
        (λ own. ⊎_elim (λ old. clash (has_id (F.shelves j) x) (new.fresh j x own.1) old) (λ also. own.0 ∙ sym also.0) (from j x two))
        (from i x one);
  }

-- ---- one shared file is replaced

module _ (F : Folder) (lines : ℕ → List Message) (k : ℕ) (ms : List Message) (may : MayReplace (sharing_of F) lines k ms) where
  abbrev H : Folder
  H = shelf_in F k ms

  at_new : H.shelves k ≡ ms
  at_new = at_shelf F k ms

  off_new : (j : ℕ) → j ≢ k → H.shelves j ≡ F.shelves j
  off_new = off_shelf F k ms

  found_again : (q : ℕ) (m : Message) → IsIn (lines q) m → F.kinds m ≡ SharedEntry → IsShelved F.shelves m → IsShelved H.shelves m
  found_again q m held kind was = (
    was.0,
    ⊎_elim
        (λ here. subst (λ (l : List Message). IsIn l m) (sym (ap H.shelves here ∙ at_new)) (may.named q m held kind (subst (λ (j : ℕ). IsIn (F.shelves j) m) here was.1)))
        (λ other. subst (λ (l : List Message). IsIn l m) (sym (off_new was.0 other)) was.1)
        (cases_eq was.0 k),
  )

  pub replaced_hold : Holds F lines → Holds H lines
  replaced_hold holds q = shelves_hold F H.shelves q (lines q) (found_again q) (holds q)

  down : (j x : ℕ) → has_id (H.shelves j) x ≡ true → has_id (F.shelves j) x ≡ true
  down j x there = ⊎_elim
      (λ here. ap (λ (i : ℕ). has_id (F.shelves i) x) here ∙ may.among x (ap (λ (l : List Message). has_id l x) (sym (ap H.shelves here ∙ at_new)) ∙ there))
      (λ other. ap (λ (l : List Message). has_id l x) (sym (off_new j other)) ∙ there)
      (cases_eq j k)

  pub replaced_apart : AreApart F.shelves → AreApart H.shelves
  replaced_apart a = record {
    once = λ j. ⊎_elim (λ here. subst HasDistinctIds (sym (ap H.shelves here ∙ at_new)) may.once) (λ other. subst HasDistinctIds (sym (off_new j other)) (a.once j)) (cases_eq j k);
    apart = λ i j x one two. a.apart i j x (down i x one) (down j x two);
  }
