-- What ties the messages of a queue to its segments doesn't ask who has a message.
use Rattle.std.proofs.Common.{◌≡◌, ◌∙◌, ℕ, ◌+◌, ◌<◌, ◌≤◌, Bool, true, false, not, cond, List, [], ◌∷◌, ◌++◌, length, filter, map, Option, Some, None, refl, sym, ap, subst, arith, inl, inr}
use Rattle.std.specs.Prelude.{is_some}
use Rattle.std.specs.List.{AllByRecursion, AllZip}
use Rattle.std.proofs.lemmas.Bool.{cond-true, cond-false, cases_Bool, false≢true}
use Rattle.std.proofs.lemmas.List.{append-nil, append_assoc}
use Rattle.std.proofs.lemmas.List.Elements.{filter-append}
use Rattle.cq_disk.specs.declared.name.Name.{Name}
use Rattle.cq_disk.specs.File.{File}
use Rattle.cq_entry.specs.declared.entry.Entry.{Entry as IndexEntry}
use Rattle.cq_entry.specs.declared.entry.EntryKind.TheVariants.{Small}
use Rattle.cq_small.specs.Store.{small_name}
use Rattle.cq_index.specs.Places.{index_name}
use Rattle.cq_folder.specs.Queue.{content_in}
use Rattle.cq_folder.specs.Holding.{IsAt}
use Rattle.cq_items.specs.Item.{Item}
use Rattle.cq_items.specs.declared.item.Stand.{Stand}
use Rattle.cq_items.specs.declared.item.Holder.{Holder}
use Rattle.cq_items.specs.declared.item.Holder.TheVariants.{Out}
use Rattle.cq_items.specs.Items.{ack, ack_one, back_one, give_back, hand_out, holding, new_item, put_first, taken_by, undecided, undecided_items, waits}
use Rattle.cq_queue.specs.declared.segment.QueueSegment.{QueueSegment}
use Rattle.cq_queue.specs.QueueSegment.{small_len}
use Rattle.cq_queue.specs.Passing.{HasLength, IsReady}
use Rattle.cq_queue.specs.Tied.{AreInPlace, AreSplit, IsInPlace, IsQueueAt, IsTied, IsWholeRecord, IsWithin, entry_at, listed, listing_of, standing_at}
use Rattle.cq_queue.specs.Values.{SuitsLength}
use Rattle.cq_queue.proofs.Changes.{all_append}

-- the same message, whoever has it
pub record IsAlike (i j : Item) : Type 0 where
  pub id : j.id ≡ i.id
  pub kind : j.kind ≡ i.kind
  pub len : j.len ≡ i.len
  pub body : j.body ≡ i.body
  pub stand : j.stand ≡ i.stand

abbrev pub AreAlike : List Item → List Item → Type 0
AreAlike old new = AllZip IsAlike old new

-- ---- all of what a test keeps

unfiltered : {A : Type 0} (P : A → Type 0) (p : A → Bool) (xs : List A) → AllByRecursion P (filter p xs) → AllByRecursion (λ x. p x ≡ true → P x) xs
unfiltered P p [] all = tt
unfiltered P p (x ∷ xs) all = elim (cases_Bool (p x)) [
  | inl t ↦ let a = subst (AllByRecursion P) (cond-true (p x) (x ∷ filter p xs) (filter p xs) t) all in ((λ _. a.0), unfiltered P p xs a.1)
  | inr f ↦ ((λ t. absurd (false≢true (sym f ∙ t))), unfiltered P p xs (subst (AllByRecursion P) (cond-false (p x) (x ∷ filter p xs) (filter p xs) f) all))
]

filtered : {A : Type 0} (P : A → Type 0) (p : A → Bool) (xs : List A) → AllByRecursion (λ x. p x ≡ true → P x) xs → AllByRecursion P (filter p xs)
filtered P p [] all = tt
filtered P p (x ∷ xs) all = elim (cases_Bool (p x)) [
  | inl t ↦ subst (AllByRecursion P) (sym (cond-true (p x) (x ∷ filter p xs) (filter p xs) t)) (all.0 t, filtered P p xs all.1)
  | inr f ↦ subst (AllByRecursion P) (sym (cond-false (p x) (x ∷ filter p xs) (filter p xs) f)) (filtered P p xs all.1)
]

-- ---- each part of the tie

alike_standing : (old new : List Item) → AreAlike old new → standing_at new ≡ standing_at old
alike_standing [] [] alike = refl
alike_standing [] (j ∷ js) alike = absurd alike
alike_standing (i ∷ is) [] alike = absurd alike
alike_standing (i ∷ is) (j ∷ js) alike = ap (λ (s : Option Stand). listing_of s ++ standing_at js) alike.0.stand ∙ ap (λ (xs : List (ℕ × ℕ)). listing_of i.stand ++ xs) (alike_standing is js alike.1)

alike_within : (list : List QueueSegment) (old new : List Item) → AreAlike old new → AllByRecursion (IsWithin list) old → AllByRecursion (IsWithin list) new
alike_within list [] [] alike within = tt
alike_within list [] (j ∷ js) alike within = absurd alike
alike_within list (i ∷ is) [] alike within = absurd alike
alike_within list (i ∷ is) (j ∷ js) alike within = (
  (λ s stands small. subst (λ (len : ℕ). AllByRecursion (λ (p : QueueSegment). p.number ≡ s.segment → s.place + len + 5 ≤ small_len p) list) (sym alike.0.len) (within.0 s (sym alike.0.stand ∙ stands) (sym alike.0.kind ∙ small))),
  alike_within list is js alike.1 within.1,
)

alike_undecided : (old new : List Item) → AreAlike old new → AllByRecursion (λ (i : Item). is_some i.stand ≡ false) old → AllByRecursion (λ (i : Item). is_some i.stand ≡ false) new
alike_undecided [] [] alike all = tt
alike_undecided [] (j ∷ js) alike all = absurd alike
alike_undecided (i ∷ is) [] alike all = absurd alike
alike_undecided (i ∷ is) (j ∷ js) alike all = (ap is_some alike.0.stand ∙ all.0, alike_undecided is js alike.1 all.1)

alike_split : (old new : List Item) → AreAlike old new → AreSplit old → AreSplit new
alike_split [] [] alike split = tt
alike_split [] (j ∷ js) alike split = absurd alike
alike_split (i ∷ is) [] alike split = absurd alike
alike_split (i ∷ is) (j ∷ js) alike split = (
  (λ none. alike_undecided is js alike.1 (split.0 (sym (ap is_some alike.0.stand) ∙ none))),
  alike_split is js alike.1 split.1,
)

one_ready : (i j : Item) → IsAlike i j → IsReady i → IsReady j
one_ready i j alike ready = record {
  named = subst (λ (n : ℕ). 0 < n) (sym alike.id) ready.named;
  short = subst (λ (n : ℕ). n ≤ 1048576) (sym alike.len) ready.short;
  body = λ small. subst (λ (len : ℕ). HasLength j.body len) (sym alike.len) (subst (λ (b : Option (List ℕ)). HasLength b i.len) (sym alike.body) (ready.body (sym alike.kind ∙ small)));
}

alike_ready : (old new : List Item) → AreAlike old new → AllByRecursion (λ (i : Item). undecided i ≡ true → IsReady i) old → AllByRecursion (λ (i : Item). undecided i ≡ true → IsReady i) new
alike_ready [] [] alike all = tt
alike_ready [] (j ∷ js) alike all = absurd alike
alike_ready (i ∷ is) [] alike all = absurd alike
alike_ready (i ∷ is) (j ∷ js) alike all = (
  (λ left. one_ready i j alike.0 (all.0 (ap (λ (s : Option Stand). not (is_some s)) (sym alike.0.stand) ∙ left))),
  alike_ready is js alike.1 all.1,
)

pub alike_tied : (old new : List Item) (list : List QueueSegment) → AreAlike old new → IsTied old list → IsTied new list
alike_tied old new list alike tied = record {
  listing = alike_standing old new alike ∙ tied.listing;
  made = tied.made;
  within = alike_within list old new alike tied.within;
  split = alike_split old new alike tied.split;
  ready = filtered IsReady undecided new (alike_ready old new alike (unfiltered IsReady undecided old tied.ready));
}

-- ---- what stands in the files

entry_same : (i j : Item) (s : Stand) → j.kind ≡ i.kind → j.len ≡ i.len → j.id ≡ i.id → entry_at i s ≡ entry_at j s
entry_same i j s kind len id = cc

alike_places : (queue : ℕ) (files : Name → Option File) (old new : List Item) → AreAlike old new → AreInPlace queue files old → AreInPlace queue files new
alike_places queue files [] [] alike stand = tt
alike_places queue files [] (j ∷ js) alike stand = absurd alike
alike_places queue files (i ∷ is) [] alike stand = absurd alike
alike_places queue files (i ∷ is) (j ∷ js) alike stand = (
  (λ s stands. one_place s (stand.0 s (sym alike.0.stand ∙ stands))),
  alike_places queue files is js alike.1 stand.1,
)
  where
    one_place : (s : Stand) → IsInPlace queue files i s → IsInPlace queue files j s
    one_place s is_in = record {
      entry = subst (λ (e : IndexEntry). IsAt (content_in (files (index_name queue s.segment))) s.at e) (entry_same i j s alike.0.kind alike.0.len alike.0.id) is_in.entry;
      record_is = λ small. subst (λ (len : ℕ). IsWholeRecord (content_in (files (small_name queue s.segment))) s.place len) (sym alike.0.len) (is_in.record_is (sym alike.0.kind ∙ small));
    }

pub alike_at : (queue : ℕ) (list : List QueueSegment) (old new : List Item) (files : Name → Option File) → AreAlike old new → IsQueueAt queue list old files → IsQueueAt queue list new files
alike_at queue list old new files alike at = record { segments = at.segments; stands = alike_places queue files old new alike at.stands }

-- ---- who has a message changes

itself : (i : Item) → IsAlike i i
itself i = record { id = refl; kind = refl; len = refl; body = refl; stand = refl }

themselves : (is : List Item) → AreAlike is is
themselves [] = tt
themselves (i ∷ is) = (itself i, themselves is)

pub held_alike : (f : Holder → Holder) (is : List Item) → AreAlike is (map (holding f) is)
held_alike f [] = tt
held_alike f (i ∷ is) = (record { id = refl; kind = refl; len = refl; body = refl; stand = refl }, held_alike f is)

pub put_alike : (h : Holder) (is : List Item) → AreAlike is (put_first h is)
put_alike h [] = tt
put_alike h (i ∷ is) = elim (cases_Bool (waits i)) [
  | inl t ↦ subst (λ (js : List Item). AreAlike (i ∷ is) js) (sym (cond-true (waits i) (taken_by h i ∷ is) (i ∷ put_first h is) t)) (record { id = refl; kind = refl; len = refl; body = refl; stand = refl }, themselves is)
  | inr f ↦ subst (λ (js : List Item). AreAlike (i ∷ is) js) (sym (cond-false (waits i) (taken_by h i ∷ is) (i ∷ put_first h is) f)) (itself i, put_alike h is)
]

-- ---- a message joins

pub standing_append : (is js : List Item) → standing_at (is ++ js) ≡ standing_at is ++ standing_at js
standing_append [] js = refl
standing_append (i ∷ is) js = ap (λ (xs : List (ℕ × ℕ)). listing_of i.stand ++ xs) (standing_append is js) ∙ sym (append_assoc (listing_of i.stand) (standing_at is) (standing_at js))

split_append : (is : List Item) (i : Item) → i.stand ≡ None → AreSplit is → AreSplit (is ++ i ∷ [])
split_append [] i none split = ((λ _. tt), tt)
split_append (j ∷ js) i none split = (
  (λ left. all_append (λ (k : Item). is_some k.stand ≡ false) js (i ∷ []) (split.0 left) (ap is_some none, tt)),
  split_append js i none split.1,
)

pub published_tied : (items : List Item) (list : List QueueSegment) (id len : ℕ) (body : Option (List ℕ)) → 0 < id → len ≤ 1048576 → SuitsLength body len
    → IsTied items list → IsTied (items ++ new_item id body len ∷ []) list
published_tied items list id len body named short sized tied =
    let new : Item = new_item id body len in
    record {
      listing = standing_append items (new ∷ []) ∙ append-nil (standing_at items) ∙ tied.listing;
      made = tied.made;
      within = all_append (IsWithin list) items (new ∷ []) tied.within ((λ s stands. absurd (none_some s stands)), tt);
      split = split_append items new refl tied.split;
      ready = subst (AllByRecursion IsReady) (sym (filter-append undecided items (new ∷ []))) (all_append IsReady (undecided_items items) (new ∷ []) tied.ready (record { named = named; short = short; body = suits body sized }, tt));
    }
  where
    none_some : (s : Stand) → None ≡ Some s → ⊥
    none_some s e = cc

    suits : (b : Option (List ℕ)) → SuitsLength b len → (new_item id b len).kind ≡ Small → HasLength b len
    suits None sized small = cc
    suits (Some b) sized small = sized

pub published_at : (queue : ℕ) (list : List QueueSegment) (items : List Item) (id len : ℕ) (body : Option (List ℕ)) (files : Name → Option File)
    → IsQueueAt queue list items files → IsQueueAt queue list (items ++ new_item id body len ∷ []) files
published_at queue list items id len body files at = record {
  segments = at.segments;
  stands = all_append (λ (i : Item). (s : Stand) → i.stand ≡ Some s → IsInPlace queue files i s) items (new_item id body len ∷ []) at.stands ((λ s stands. absurd (none_is s stands)), tt);
}
  where
    none_is : (s : Stand) → None ≡ Some s → ⊥
    none_is s e = cc
