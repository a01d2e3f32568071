-- The entries of a content, by their places.
use Prim.Native.Nat.{zero, suc}
use Rattle.std.proofs.Common.{◌≡◌, ◌≢◌, ⊎_elim, ℕ, ◌+◌, ◌*◌, ◌≤◌, ◌<◌, Bool, true, false, List, [], ◌∷◌, length, take, drop, get_or, refl, sym, ◌∙◌, ap, subst, arith, length-drop}
use Rattle.std.specs.Prelude.{◌==◌, if◌then◌else◌, slice_index}
use Rattle.std.specs.List.{AllByRecursion, AllZip}
use Rattle.std.proofs.lemmas.Bool.{cases_eq, eq-eqb, ne_eqb, eqb-true, eqb-false}
use Rattle.std.proofs.lemmas.List.{drop_all, drop-drop, length-take-le, get_or-drop}
use Rattle.cq_journal.specs.Lists.{IsIn}
use Rattle.cq_entry.specs.declared.entry.Entry.{Entry}
use Rattle.cq_entry.specs.declared.entry.Seen.{Seen}
use Rattle.cq_entry.specs.declared.entry.Seen.TheVariants.{Gone, Present}
use Rattle.cq_entry.specs.Entry.{IsPresent, IsSeen, entry_of}
use Rattle.cq_entry.specs.EntryLemmas.{fields_spell, read_back}
use Rattle.cq_index.specs.Codec.{IsForm, entry_len}
use Rattle.cq_index.specs.Opened.{piece_at}
use Rattle.cq_folder.specs.Folder.{AreEntries, present}
use Rattle.cq_folder.specs.Holding.{IsAt}

-- what stands in bytes of the form
abbrev pub seen_of : List ℕ → Seen
seen_of bytes = if slice_index bytes 0 == 1 then Present (entry_of bytes) else Gone

-- so many entries of a content, from one of them on
abbrev pub seen_from : List ℕ → ℕ → ℕ → List Seen
seen_from c i zero = []
seen_from c i (suc n) = seen_of (piece_at c i) ∷ seen_from c (suc i) n

-- each number is a byte
abbrev pub AreSmall : List ℕ → Type 0
AreSmall bytes = (i : ℕ) → get_or bytes i 0 < 256

pub length-from : (c : List ℕ) (i n : ℕ) → length (seen_from c i n) ≡ n
length-from c i zero = refl
length-from c i (suc n) = let rest = length-from c (suc i) n in omega (arith, rest)

is_seen : (bytes : List ℕ) → length bytes ≡ entry_len → AreSmall bytes → IsForm bytes → IsSeen bytes (seen_of bytes)
is_seen bytes len small form = (elim (slice_index bytes 0 == 1) as (λ (b : Bool). (slice_index bytes 0 == 1) ≡ b → IsSeen bytes (if b then Present (entry_of bytes) else Gone)) [
  | true ↦ λ one. let status = eqb-true (slice_index bytes 0) 1 one in (status, fields_spell bytes len small status (form status))
  | false ↦ λ other. eqb-false (slice_index bytes 0) 1 other
]) refl

seen_gone : (bytes : List ℕ) → slice_index bytes 0 ≢ 1 → seen_of bytes ≡ Gone
seen_gone bytes other = ap (λ (b : Bool). if b then Present (entry_of bytes) else Gone) (ne_eqb (slice_index bytes 0) 1 other)

pub status_of : (bytes : List ℕ) (e : Entry) → IsPresent bytes e → slice_index bytes 0 ≡ 1
status_of bytes e is = ap (λ (l : List ℕ). slice_index l 0) is.spelled

seen_present : (bytes : List ℕ) (e : Entry) → IsPresent bytes e → seen_of bytes ≡ Present e
seen_present bytes e is =
    ap (λ (b : Bool). if b then Present (entry_of bytes) else Gone) (eq-eqb (slice_index bytes 0) 1 (status_of bytes e is))
    ∙ ap Present (read_back bytes e is)

pub small_drop : (m : ℕ) (xs : List ℕ) → AreSmall xs → AreSmall (drop m xs)
small_drop m xs small i = let e = get_or-drop m xs i 0 in let lt = small (m + i) in omega (arith, e, lt)

pub small_take : (m : ℕ) (xs : List ℕ) → AreSmall xs → AreSmall (take m xs)
small_take zero xs small i = omega arith
small_take (suc m) [] small i = omega arith
small_take (suc m) (x ∷ xs) small zero = small 0
small_take (suc m) (x ∷ xs) small (suc i) = small_take m xs (λ j. small (suc j)) i

small_piece : (c : List ℕ) (k : ℕ) → AreSmall c → AreSmall (piece_at c k)
small_piece c k small = small_take entry_len (drop (entry_len * k) c) (small_drop (entry_len * k) c small)

-- a content of entries of the form is the entries that stand in it
pub entries_from : (c : List ℕ) (i n : ℕ) → length c ≡ entry_len * (i + n) → AreSmall c → ((k : ℕ) → k < i + n → IsForm (piece_at c k)) → AreEntries (drop (entry_len * i) c) (seen_from c i n)
entries_from c i zero len small form = drop_all (entry_len * i) c (omega (arith, len))
entries_from c i (suc n) len small form =
    let rest = length-drop (entry_len * i) c in
    let inside : entry_len ≤ length (drop (entry_len * i) c) = omega (arith, rest, len) in
    let next : entry_len * i + entry_len ≡ entry_len * suc i = omega arith in (
      inside,
      is_seen (piece_at c i) (length-take-le entry_len (drop (entry_len * i) c) inside) (small_piece c i small) (form i (omega arith)),
      subst (λ (l : List ℕ). AreEntries l (seen_from c (suc i) n)) (sym (drop-drop entry_len (entry_len * i) c ∙ ap (λ (m : ℕ). drop m c) next))
          (entries_from c (suc i) n (omega (arith, len)) small (λ k lt. form k (omega (arith, lt)))),
    )

-- ---- those that are present

-- each is below those behind it
abbrev pub Rises : List ℕ → Type 0
Rises [] = Unit {0}
Rises (k ∷ ks) = AllByRecursion (λ (j : ℕ). k < j) ks × Rises ks

pub all_in : {A : Type 0} (P : A → Type 0) (xs : List A) (x : A) → AllByRecursion P xs → IsIn xs x → P x
all_in P [] x all there = absurd there
all_in P (y ∷ xs) x all there = ⊎_elim (λ here. subst P here all.0) (λ later. all_in P xs x all.1 later) there

pub all_wider : {A : Type 0} (P Q : A → Type 0) (xs : List A) → ((x : A) → P x → Q x) → AllByRecursion P xs → AllByRecursion Q xs
all_wider P Q [] step all = tt
all_wider P Q (x ∷ xs) step all = (step x all.0, all_wider P Q xs step all.1)

-- Entries that stand at places which rise, and these are all places of present entries: they are the present ones.
pub present_from : (c : List ℕ) (i n : ℕ) (ks : List ℕ) (es : List Entry) → AllZip (IsAt c) ks es → Rises ks → AllByRecursion (λ k. i ≤ k) ks → AllByRecursion (λ k. k < i + n) ks
    → ((k : ℕ) → i ≤ k → k < i + n → slice_index (piece_at c k) 0 ≡ 1 → IsIn ks k) → present (seen_from c i n) ≡ es
present_from c i zero [] [] zip rise low high listed = refl
present_from c i n [] (e ∷ es) zip rise low high listed = absurd zip
present_from c i zero (k ∷ ks) es zip rise low high listed = let above = low.0 in let below = high.0 in absurd (omega (arith, above, below))
present_from c i (suc n) [] [] zip rise low high listed =
    ap (λ (s : Seen). present (s ∷ seen_from c (suc i) n)) (seen_gone (piece_at c i) (λ one. listed i (omega arith) (omega arith) one))
    ∙ present_from c (suc i) n [] [] tt tt tt tt (λ k from to one. listed k (omega (arith, from)) (omega (arith, to)) one)
present_from c i (suc n) (k ∷ ks) [] zip rise low high listed = absurd zip
present_from c i (suc n) (k ∷ ks) (e ∷ es) zip rise low high listed =
    let below : AllByRecursion (λ j. j < suc i + n) (k ∷ ks) = all_wider (λ j. j < i + suc n) (λ j. j < suc i + n) (k ∷ ks) (λ j lt. omega (arith, lt)) high in
    let above = low.0 in
    ⊎_elim
    (λ (same : k ≡ i).
    let at : IsPresent (piece_at c i) e = subst (λ (j : ℕ). IsPresent (piece_at c j) e) same zip.0.is in
    ap (λ (s : Seen). present (s ∷ seen_from c (suc i) n)) (seen_present (piece_at c i) e at)
    ∙ ap (λ (l : List Entry). e ∷ l) (present_from c (suc i) n ks es zip.1 rise.1
    (all_wider (λ j. k < j) (λ j. suc i ≤ j) ks (λ j lt. omega (arith, lt, same)) rise.0) below.1
    (λ j from to one. ⊎_elim (λ first. absurd (omega (arith, first, same, from))) (λ rest. rest) (listed j (omega (arith, from)) (omega (arith, to)) one))))
    (λ (other : k ≢ i).
    let lt : i < k = omega (arith, above, other) in
    let behind : AllByRecursion (λ j. suc i ≤ j) ks = all_wider (λ j. k < j) (λ j. suc i ≤ j) ks (λ j more. omega (arith, more, lt)) rise.0 in
    ap (λ (s : Seen). present (s ∷ seen_from c (suc i) n)) (seen_gone (piece_at c i) (λ one. ⊎_elim (λ first. other first)
    (λ rest. let past : suc i ≤ i = all_in (λ j. suc i ≤ j) ks i behind rest in omega (arith, past)) (listed i (omega arith) (omega arith) one)))
    ∙ present_from c (suc i) n (k ∷ ks) (e ∷ es) zip rise (lt, behind) below (λ j from to one. listed j (omega (arith, from)) (omega (arith, to)) one))
    (cases_eq k i)
