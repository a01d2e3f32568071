-- From one segment to the next.
use Rattle.std.proofs.Common.{◌≡◌, ◌∙◌, inl, ℕ, zero, suc, ◌+◌, ◌<◌, true, List, [], ◌∷◌, ◌++◌, take, Option, Some, sym, ap, subst, arith}
use Rattle.std.specs.Prelude.{slice_get, ◌==◌}
use Rattle.std.specs.List.{AllByRecursion}
use Rattle.std.proofs.lemmas.Bool.{eq-eqb, or_left, or_right}
use Rattle.std.proofs.lemmas.List.{append-nil, append_assoc}
use Rattle.std.proofs.lemmas.Option.{none-some, same_Some}
use Rattle.cq_disk.specs.declared.name.Name.{Name}
use Rattle.cq_disk.specs.File.{File}
use Rattle.cq_small.specs.declared.store.SmallStore.{SmallStore}
use Rattle.cq_small.specs.Store as small
use Rattle.cq_index.specs.declared.segment.Segment.{Segment}
use Rattle.cq_index.specs.Places.{index_name}
use Rattle.cq_index.specs.Segments.{name_of, present_of}
use Rattle.cq_folder.specs.Queue.{AreIndexes, IsIndexAt, IsSmallAt, RiseAs, has_number, indexes_of, listed_in}
use Rattle.cq_folder.proofs.Below.{all_append}
use Rattle.cq_back_q.specs.declared.found.HeldEntry.{HeldEntry}
use Rattle.cq_back_q.specs.declared.taken.Taken.{Taken}
use Rattle.cq_back_q.specs.Found.{listed, places_of}
use Rattle.cq_back_q.specs.Read.{AreReadFiles}
use Rattle.cq_back_q.specs.Damage.{IsBefore}
use Rattle.cq_back_q.specs.Reading.{KnowAmong, ReadsMore}
use Rattle.cq_back_q.proofs.Numbered.{all_at, all_unmap, names_are}

-- ---- the entries that were read stand in earlier segments

listed_below : (n b : ℕ) (ks : List ℕ) → n < b → AllByRecursion (λ p. p.0 < b) (listed_in n ks)
listed_below n b [] lt = tt
listed_below n b (k ∷ ks) lt = (lt, listed_below n b ks lt)

all_earlier : (queue : ℕ) (segments : List Segment) (i : ℕ) (s : Segment) → RiseAs (index_name queue) (indexes_of segments) → slice_get segments i ≡ Some s → AllByRecursion (λ p. p.0 < (name_of s).number) (listed (take i segments))
all_earlier queue [] i s rise is = absurd (none-some s is)
all_earlier queue (x ∷ segments) zero s rise is = tt
all_earlier queue (x ∷ segments) (suc i) s rise is =
    let lt : (name_of x).number < (name_of s).number = all_at (λ (y : Segment). (name_of x).number < (name_of y).number) segments i s is (all_unmap name_of (λ (n : Name). (name_of x).number < n.number) segments rise.1) in
    all_append (λ p. p.0 < (name_of s).number) (listed_in (name_of x).number (present_of x)) (listed (take i segments)) (listed_below (name_of x).number (name_of s).number (present_of x) lt) (all_earlier queue segments i s rise.2 is)

held_below : (b : ℕ) (held : List HeldEntry) → AllByRecursion (λ p. p.0 < b) (places_of held) → AllByRecursion (λ h. IsBefore h b 0) held
held_below b [] below = tt
held_below b (h ∷ held) below = (inl below.0, held_below b held below.1)

pub are_earlier : (queue : ℕ) (segments : List Segment) (i : ℕ) (s : Segment) (taken : Taken) → AreIndexes queue segments → slice_get segments i ≡ Some s → places_of taken.held.items ≡ listed (take i segments) → AllByRecursion (λ h. IsBefore h (name_of s).number 0) taken.held.items
are_earlier queue segments i s taken are is listing = held_below (name_of s).number taken.held.items (subst (AllByRecursion (λ p. p.0 < (name_of s).number)) (sym listing) (all_earlier queue segments i s are.rise is))

-- ---- they are those of one segment more

listed_next : (segments : List Segment) (i : ℕ) (s : Segment) → slice_get segments i ≡ Some s → listed (take (suc i) segments) ≡ listed (take i segments) ++ listed_in (name_of s).number (present_of s)
listed_next [] i s is = absurd (none-some s is)
listed_next (x ∷ segments) zero s is = append-nil (listed_in (name_of x).number (present_of x)) ∙ ap (λ (y : Segment). listed_in (name_of y).number (present_of y)) (same_Some x s is)
listed_next (x ∷ segments) (suc i) s is =
    let here = listed_in (name_of x).number (present_of x) in
    ap (λ (ps : List (ℕ × ℕ)). here ++ ps) (listed_next segments i s is) ∙ sym (append_assoc here (listed (take i segments)) (listed_in (name_of s).number (present_of s)))

pub listing_next : (Told : Type 0) (queue : ℕ) (files : Name → Option File) (segments : List Segment) (i : ℕ) (s : Segment) (old new : Taken) → slice_get segments i ≡ Some s → places_of old.held.items ≡ listed (take i segments) → ReadsMore Told queue files (listed_in (name_of s).number (present_of s)) old new
    → places_of new.held.items ≡ listed (take (i + 1) segments)
listing_next Told queue files segments i s old new is so_far more =
    let up : suc i ≡ i + 1 = omega arith in
    more.listing ∙ ap (λ (ps : List (ℕ × ℕ)). ps ++ listed_in (name_of s).number (present_of s)) so_far ∙ sym (listed_next segments i s is) ∙ ap (λ (m : ℕ). listed (take m segments)) up

-- ---- a segment of these knows its file, and the small stores theirs

pub index_named : (queue : ℕ) (segments : List Segment) (i : ℕ) (s : Segment) → AreIndexes queue segments → slice_get segments i ≡ Some s → name_of s ≡ index_name queue (name_of s).number
index_named queue segments i s are is = all_at (λ (y : Segment). name_of y ≡ index_name queue (name_of y).number) segments i s is (names_are name_of (index_name queue) segments are.rise)

is_there : (segments : List Segment) (i : ℕ) (s : Segment) → slice_get segments i ≡ Some s → has_number (indexes_of segments) (name_of s).number ≡ true
is_there [] i s is = absurd (none-some s is)
is_there (x ∷ segments) zero s is = or_left ((name_of x).number == (name_of s).number) (has_number (indexes_of segments) (name_of s).number) (eq-eqb (name_of x).number (name_of s).number (ap (λ (y : Segment). (name_of y).number) (same_Some x s is)))
is_there (x ∷ segments) (suc i) s is = or_right ((name_of x).number == (name_of s).number) (has_number (indexes_of segments) (name_of s).number) (is_there segments i s is)

smalls_know : (files : Name → Option File) (stores : List SmallStore) → AllByRecursion (λ t. IsSmallAt t (files (small.name_of t))) stores → AllByRecursion (λ t. small.IsSmallStore t (files (small.name_of t))) stores
smalls_know files [] each = tt
smalls_know files (t ∷ stores) each = (each.0.knows, smalls_know files stores each.1)

pub know_among : (queue : ℕ) (segments : List Segment) (stores : List SmallStore) (i : ℕ) (s : Segment) (files now : Name → Option File) → now ≡ files → slice_get segments i ≡ Some s → AreReadFiles queue segments stores files → KnowAmong queue s stores now
know_among queue segments stores i s files now same is read = subst (KnowAmong queue s stores) (sym same) (record {
  index_knows = (all_at (λ (y : Segment). IsIndexAt y (files (name_of y))) segments i s is read.indexes.at.each).knows;
  small_know = smalls_know files stores read.smalls.at.each;
  none = read.smalls.at.none (name_of s).number (is_there segments i s is);
})
