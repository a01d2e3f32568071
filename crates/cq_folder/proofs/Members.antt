-- Each present entry is that of a message that is held, and each message that is held has one.
use Rattle.cq_folder.proofs.Names.{index_own}
use Rattle.cq_folder.specs.Folder.{AreEntries, present, Spot, spots, below, IsMessageOf, HoldsIn, Folder}
use Rattle.cq_journal.specs.Lists.{IsIn}
use Rattle.std.specs.List.{AllZip}
use Rattle.std.proofs.Common.{◌≡◌, inl, inr, ⊎_elim, ℕ, zero, suc, ◌≤◌, ◌<◌, List, [], ◌∷◌, ◌++◌, ap, subst, arith}
use Rattle.std.proofs.lemmas.Bool.{cases_lt, cases_eq}
use Rattle.cq_entry.specs.declared.entry.Entry.{Entry}
use Rattle.cq_entry.specs.declared.entry.Seen.{Seen}
use Rattle.cq_index.specs.Places.{index_name}
use Rattle.cq_journal.specs.declared.event.Message.{Message}
use Rattle.cq_folder.specs.Laws.{EntryOf, EntriesAreHeld, HeldHaveEntries}
use Rattle.cq_folder.proofs.Entries.{entries_one}
use Rattle.cq_folder.proofs.Sublists.{in_append}

pub in_front : {A : Type 0} (xs ys : List A) (x : A) → IsIn xs x → IsIn (xs ++ ys) x
in_front [] ys x there = absurd there
in_front (y ∷ xs) ys x there = ⊎_elim (λ here. inl here) (λ later. inr (in_front xs ys x later)) there

pub in_behind : {A : Type 0} (xs ys : List A) (x : A) → IsIn ys x → IsIn (xs ++ ys) x
in_behind [] ys x there = there
in_behind (y ∷ xs) ys x there = inr (in_behind xs ys x there)

pub below_in : {A : Type 0} (f : ℕ → List A) (bound n : ℕ) (x : A) → n < bound → IsIn (f n) x → IsIn (below f bound) x
below_in f zero n x lt there = absurd (omega (arith, lt))
below_in f (suc k) n x lt there = ⊎_elim
    (λ (same : n ≡ k). in_behind (below f k) (f k) x (subst (λ (j : ℕ). IsIn (f j) x) same there))
    (λ other. in_front (below f k) (f k) x (below_in f k n x (omega (arith, lt, other)) there))
    (cases_eq n k)

pub in_below : {A : Type 0} (f : ℕ → List A) (bound : ℕ) (x : A) → IsIn (below f bound) x → (n : ℕ) × IsIn (f n) x
in_below f zero x there = absurd there
in_below f (suc k) x there = ⊎_elim (λ before. in_below f k x before) (λ here. (k, here)) (in_append (below f k) (f k) x there)

pub spot_in : (n : ℕ) (es : List Entry) (e : Entry) → IsIn es e → IsIn (spots n es) (record { segment = n; entry = e })
spot_in n [] e there = absurd there
spot_in n (x ∷ es) e there = ⊎_elim (λ here. inl (λ i. record { segment = n; entry = here i })) (λ later. inr (spot_in n es e later)) there

pub in_spot : (n : ℕ) (es : List Entry) (s : Spot) → IsIn (spots n es) s → (n ≡ s.segment) × IsIn es s.entry
in_spot n [] s there = absurd there
in_spot n (x ∷ es) s there = ⊎_elim
    (λ here. (ap (λ (t : Spot). t.segment) here, inl (ap (λ (t : Spot). t.entry) here)))
    (λ later. let rest = in_spot n es s later in (rest.0, inr rest.1)) there

pub zip_right : {A B : Type 0} (R : A → B → Type 0) (xs : List A) (ys : List B) (x : A) → AllZip R xs ys → IsIn xs x → (y : B) × (IsIn ys y × R x y)
zip_right R [] ys x z there = absurd there
zip_right R (a ∷ xs) [] x z there = absurd z
zip_right R (a ∷ xs) (b ∷ ys) x z there = ⊎_elim
    (λ here. (b, (inl (λ i. b), subst (λ (c : _). R c b) here z.0)))
    (λ later. let rest = zip_right R xs ys x z.1 later in (rest.0, (inr rest.1.0, rest.1.1))) there

pub zip_left : {A B : Type 0} (R : A → B → Type 0) (xs : List A) (ys : List B) (y : B) → AllZip R xs ys → IsIn ys y → (x : A) × (IsIn xs x × R x y)
zip_left R [] [] y z there = absurd there
zip_left R [] (b ∷ ys) y z there = absurd z
zip_left R (a ∷ xs) [] y z there = absurd z
zip_left R (a ∷ xs) (b ∷ ys) y z there = ⊎_elim
    (λ here. (a, (inl (λ i. a), subst (λ (c : _). R a c) here z.0)))
    (λ later. let rest = zip_left R xs ys y z.1 later in (rest.0, (inr rest.1.0, rest.1.1))) there

module _ (F : Folder) (q : ℕ) (l : List Message) (h : HoldsIn F q l) where
  -- each present entry is that of a message
  pub entry_held : (n : ℕ) (seen : List Seen) (e : Entry) → AreEntries (F.contents (index_name q n)) seen → IsIn (present seen) e → (m : Message) × (IsIn l m × IsMessageOf F q (record { segment = n; entry = e }) m)
  entry_held n seen e are there =
      let own : IsIn (present (h.seen n)) e = subst (λ (s : List Seen). IsIn (present s) e) (entries_one (F.contents (index_name q n)) seen (h.seen n) are (h.entries n)) there in
      ⊎_elim
      (λ (lt : n < h.most). zip_right (IsMessageOf F q) (below (λ k. spots k (present (h.seen k))) h.most) l (record { segment = n; entry = e }) h.each
      (below_in (λ k. spots k (present (h.seen k))) h.most n (record { segment = n; entry = e }) lt (spot_in n (present (h.seen n)) e own)))
      (λ (ge : h.most ≤ n). absurd (subst (λ (es : List Entry). IsIn es e) (h.none n ge) own))
      (cases_lt n h.most)

  -- each message has its entry
  pub held_entry : (m : Message) → IsIn l m → EntryOf F q m
  held_entry m there =
      let s = zip_left (IsMessageOf F q) (below (λ k. spots k (present (h.seen k))) h.most) l m h.each there in
      let n = in_below (λ k. spots k (present (h.seen k))) h.most s.0 s.1.0 in
      let e = in_spot n.0 (present (h.seen n.0)) s.0 n.1 in
      record {
        spot = s.0;
        seen = h.seen s.0.segment;
        are = h.entries s.0.segment;
        there = subst (λ (k : ℕ). IsIn (present (h.seen k)) s.0.entry) e.0 e.1;
        is = s.1.1;
      }

pub entries_are_held : EntriesAreHeld
entries_are_held image lines q n seen e h are there =
    entry_held h.folder q (lines q) (h.holds q) n seen e (subst (λ (c : List ℕ). AreEntries c seen) ((h.shows.each (index_name q n)).content (index_own q n)) are) there

pub held_have_entries : HeldHaveEntries
held_have_entries image lines q m h there = held_entry h.folder q (lines q) (h.holds q) m there
