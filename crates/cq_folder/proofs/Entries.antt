-- Entries one after another in a content.
use Rattle.std.proofs.Common.{◌≡◌, ℕ, zero, suc, ◌+◌, ◌*◌, ◌≤◌, ◌<◌, List, [], ◌∷◌, ◌++◌, length, take, drop, get_or, map, refl, sym, ap, ◌∙◌, subst, arith, length-append, length-drop}
use Rattle.cq_folder.specs.Folder.{AreEntries, present}
use Rattle.std.specs.List.{AllByRecursion}
use Rattle.std.proofs.lemmas.List.{take-append-le, drop-append-le, take-append-drop, drop-take, take-take, length-take-le, drop_all, drop-drop}
use Rattle.std.proofs.lemmas.List.Concat.{flat_map-cons}
use Rattle.cq_entry.specs.declared.entry.Entry.{Entry}
use Rattle.cq_entry.specs.declared.entry.Seen.{Seen}
use Rattle.cq_entry.specs.declared.entry.Seen.TheVariants.{Gone, Present}
use Rattle.cq_entry.specs.Entry.{entry_bytes, IsPresent, IsSeen, IsForm}
use Rattle.cq_entry.specs.EntryLemmas.{one_entry, present_holds}
use Rattle.cq_index.specs.Codec.{entry_len}
use Rattle.cq_index.specs.Places.{entries_bytes}

-- the entries of one content and of another behind it
pub entries_append : (a b : List ℕ) (xs ys : List Seen) → AreEntries a xs → AreEntries b ys → AreEntries (a ++ b) (xs ++ ys)
entries_append a b [] ys none rest = subst (λ (c : List ℕ). AreEntries (c ++ b) ys) (sym none) rest
entries_append a b (s ∷ xs) ys has rest = (
  omega (arith, has.0, length-append a b),
  subst (λ (c : List ℕ). IsSeen c s) (sym (take-append-le entry_len a b has.0)) has.1,
  subst (λ (c : List ℕ). AreEntries c (xs ++ ys)) (sym (drop-append-le entry_len a b has.0)) (entries_append (drop entry_len a) b xs ys has.2 rest),
)

-- the bytes of entries are these entries
pub entries_are : (es : List Entry) → AllByRecursion (λ e. IsPresent (entry_bytes e) e) es → AreEntries (entries_bytes es) (map Present es)
entries_are [] valid = refl
entries_are (e ∷ es) valid =
    subst (λ (c : List ℕ). AreEntries c (map Present (e ∷ es))) (sym (flat_map-cons entry_bytes e es))
    (entries_append (entry_bytes e) (entries_bytes es) (Present e ∷ []) (map Present es) (omega arith, (refl, valid.0), refl) (entries_are es valid.1))

pub present_append : (xs : List Seen) (es : List Entry) → present (xs ++ map Present es) ≡ present xs ++ es
present_append [] [] = refl
present_append [] (e ∷ es) = ap (λ (l : List Entry). e ∷ l) (present_append [] es)
present_append (Gone ∷ xs) es = present_append xs es
present_append (Present e ∷ xs) es = ap (λ (l : List Entry). e ∷ l) (present_append xs es)

-- one entry more, where a content is read from its start
pub entries_push : (content : List ℕ) (k : ℕ) (seen : List Seen) (s : Seen) → entry_len * k + entry_len ≤ length content → AreEntries (take (entry_len * k) content) seen → IsSeen (take entry_len (drop (entry_len * k) content)) s
    → AreEntries (take (entry_len * k + entry_len) content) (seen ++ s ∷ [])
entries_push content k seen s inside so_far here =
    let piece = take entry_len (drop (entry_len * k) content) in
    let len : length piece ≡ entry_len = length-take-le entry_len (drop (entry_len * k) content) (omega (arith, inside, length-drop (entry_len * k) content)) in
    let whole : take entry_len piece ≡ piece = take-take entry_len entry_len (drop (entry_len * k) content) (omega arith) in
    let split : take (entry_len * k + entry_len) content ≡ take (entry_len * k) content ++ piece =
    sym (take-append-drop (entry_len * k) (take (entry_len * k + entry_len) content))
    ∙ ap (λ (l : List ℕ). l ++ drop (entry_len * k) (take (entry_len * k + entry_len) content)) (take-take (entry_len * k) (entry_len * k + entry_len) content (omega arith))
    ∙ ap (λ (l : List ℕ). take (entry_len * k) content ++ l) (drop-take (entry_len * k) entry_len content) in
    subst (λ (c : List ℕ). AreEntries c (seen ++ s ∷ [])) (sym split)
    (entries_append (take (entry_len * k) content) piece seen (s ∷ []) so_far (omega (arith, len), subst (λ (c : List ℕ). IsSeen c s) (sym whole) here, none_left piece len))
  where
    none_left : (piece : List ℕ) → length piece ≡ entry_len → drop entry_len piece ≡ []
    none_left piece len = drop_all entry_len piece (omega (arith, len))

-- ---- one reading

seen_same : (bytes : List ℕ) (x y : Seen) → IsSeen bytes x → IsSeen bytes y → x ≡ y
seen_same bytes Gone Gone a b = refl
seen_same bytes Gone (Present f) a b = absurd (a b.0)
seen_same bytes (Present e) Gone a b = absurd (b a.0)
seen_same bytes (Present e) (Present f) a b = ap Present (one_entry bytes e f a.1 b.1)

-- a content is entries in one way
pub entries_one : (content : List ℕ) (xs ys : List Seen) → AreEntries content xs → AreEntries content ys → xs ≡ ys
entries_one content [] [] a b = refl
entries_one content [] (y ∷ ys) a b = let none : length content ≡ 0 = ap length a in absurd (omega (arith, none, b.0))
entries_one content (x ∷ xs) [] a b = let none : length content ≡ 0 = ap length b in absurd (omega (arith, none, a.0))
entries_one content (x ∷ xs) (y ∷ ys) a b =
    let head = seen_same (take entry_len content) x y a.1 b.1 in
    let rest = entries_one (drop entry_len content) xs ys a.2 b.2 in
    λ i. head i ∷ rest i

-- so many entries, so many bytes
pub length-seen : (content : List ℕ) (xs : List Seen) → AreEntries content xs → length content ≡ entry_len * length xs
length-seen content [] a = ap length a
length-seen content (x ∷ xs) a = omega (arith, a.0, length-seen (drop entry_len content) xs a.2, length-drop entry_len content)

-- ---- entry by entry

-- the entry at a place
pub entry_seen : (content : List ℕ) (xs : List Seen) (k : ℕ) → AreEntries content xs → k < length xs → IsSeen (take entry_len (drop (entry_len * k) content)) (get_or xs k Gone)
entry_seen content [] k a lt = absurd (omega (arith, lt))
entry_seen content (x ∷ xs) zero a lt = a.1
entry_seen content (x ∷ xs) (suc k) a lt =
    let next : entry_len + entry_len * k ≡ entry_len * suc k = omega arith in
    subst (λ (n : ℕ). IsSeen (take entry_len (drop n content)) (get_or xs k Gone)) next
    (subst (λ (c : List ℕ). IsSeen (take entry_len c) (get_or xs k Gone)) (drop-drop (entry_len * k) entry_len content) (entry_seen (drop entry_len content) xs k a.2 (omega (arith, lt))))

-- what is seen there is of the form
pub seen_formed : (bytes : List ℕ) (s : Seen) → IsSeen bytes s → IsForm bytes
seen_formed bytes Gone is one = absurd (is one)
seen_formed bytes (Present e) is one = present_holds bytes e is.1

-- so each place of a content that is entries is of the form
pub entries_formed : (content : List ℕ) (xs : List Seen) (k : ℕ) → AreEntries content xs → k < length xs → IsForm (take entry_len (drop (entry_len * k) content))
entries_formed content xs k a lt = seen_formed (take entry_len (drop (entry_len * k) content)) (get_or xs k Gone) (entry_seen content xs k a lt)
