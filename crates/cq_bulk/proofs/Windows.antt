-- Records in a window, and in the file.
use Rattle.std.proofs.Common.{◌≡◌, ◌≢◌, ℕ, ◌+◌, ◌-◌, ◌<◌, ◌≤◌, true, List, [], ◌∷◌, length, take, drop, get_or, Option, Some, None, refl, sym, ◌∙◌, ap, subst, arith, length-append, length-drop}
use Rattle.std.specs.Prelude.{MatchOption, nat_le}
use Rattle.std.proofs.lemmas.List.{drop-take, take-take, drop-drop, length-take-le, take_all}
use Rattle.std.proofs.lemmas.Bool.{and_parts}
use Rattle.std.proofs.lemmas.Bool.Decides.{nat_tests}
use Rattle.cq_disk.specs.declared.disk.Disk.{Ghosts}
use Rattle.cq_disk.specs.File.{File}
use Rattle.cq_disk.specs.Files.{Among}
use Rattle.cq_disk.specs.There.{there_among}
use Rattle.cq_gate.specs.declared.gate.Gate.{Gate}
use Rattle.cq_gate.specs.Format.{content}
use Rattle.cq_gate.specs.Gate.{IsGate}
use Rattle.cq_gate.specs.Opened.{gate_end, gate_len}
use Rattle.cq_gate.proofs.Contents.{content_range}
use Rattle.cq_gate.proofs.Gates.{end_is}
use Rattle.cq_small.specs.Record.{small_record, StandsAt, IsWhole}
use Rattle.cq_small.specs.Store.{IsSmallStore, name_of}
use Rattle.cq_small.specs.declared.store.SmallStore.{SmallStore}
use Rattle.cq_small.proofs.Records.{record_there}
use Rattle.cq_bulk.specs.Ranges.{IsRecord, is_range}
use Rattle.cq_bulk.specs.Bodies.{IsFound, IsWindow, bytes_of, has_record, lies_in, range_of, reach_of, start_of}
use Rattle.cq_bulk.specs.declared.bodies.Bodies.{Bodies}

long_of : (body : List ℕ) → length (small_record body) ≡ length body + 5
long_of body = omega (arith, length-append body (255 ∷ []))

-- bytes that begin with their length and end with 255 are the record of what stands between
pub spelled : (bytes : List ℕ) → ((i : ℕ) → get_or bytes i 0 < 256) → 5 ≤ length bytes → IsRecord bytes → bytes ≡ small_record (take (length bytes - 5) (drop 4 bytes))
spelled bytes small long is =
    let n = length bytes - 5 in
    let body = take n (drop 4 bytes) in
    let body_len : length body ≡ n = length-take-le n (drop 4 bytes) (omega (arith, long, length-drop 4 bytes)) in
    let place : 0 + 4 + n ≡ n + 4 = omega arith in
    let there : take (length body + 5) bytes ≡ small_record body = record_there bytes 0 n small (omega (arith, long)) is.number (ap (λ (m : ℕ). get_or bytes m 0) place ∙ is.last) in
    sym (take_all (length body + 5) bytes (omega (arith, body_len, long))) ∙ there

-- a range lies between its ends
range_inside : (from to place len : ℕ) → is_range from to place len ≡ true → (from ≤ place) × (place + len + 5 ≤ to)
range_inside from to place len is =
    let parts = and_parts (nat_le from place) (nat_le (place + len + 5) to) is in
    let low = parts.0 in
    let high = parts.1 in
    (grind (arith, nat_tests, low), grind (arith, nat_tests, high))

-- a range of a range
range_in : (xs : List ℕ) (start m at n : ℕ) → at + n ≤ m → take n (drop at (take m (drop start xs))) ≡ take n (drop (start + at) xs)
range_in xs start m at n inside =
    let split : m ≡ at + (m - at) = omega (arith, inside) in
    ap (λ (k : ℕ). take n (drop at (take k (drop start xs)))) split
    ∙ ap (take n) (drop-take at (m - at) (drop start xs))
    ∙ take-take n (m - at) (drop at (drop start xs)) (omega (arith, inside))
    ∙ ap (take n) (drop-drop at start xs)

module _ (bodies : Bodies) (place len : ℕ) (has : has_record bodies place len ≡ true) where
  inside : (start_of bodies ≤ place) × (place + len + 5 ≤ start_of bodies + length (bytes_of bodies))
  inside = range_inside (start_of bodies) (start_of bodies + length (bytes_of bodies)) place len has

  range_long : length (range_of bodies place len) ≡ len + 5
  range_long = length-take-le (len + 5) (drop (place - start_of bodies) (bytes_of bodies)) (omega (arith, length-drop (place - start_of bodies) (bytes_of bodies), inside.0, inside.1))

  range_file : (file : List ℕ) → bytes_of bodies ≡ take (length (bytes_of bodies)) (drop (start_of bodies) file) → range_of bodies place len ≡ take (len + 5) (drop place file)
  range_file file window =
      let at : start_of bodies + (place - start_of bodies) ≡ place = omega (arith, inside.0) in
      ap (λ (l : List ℕ). take (len + 5) (drop (place - start_of bodies) l)) window
      ∙ range_in file (start_of bodies) (length (bytes_of bodies)) (place - start_of bodies) (len + 5) (omega (arith, inside.0, inside.1))
      ∙ ap (λ (n : ℕ). take (len + 5) (drop n file)) at

-- a range of the file that lies in its content
in_content : (gate : Gate) (f : File) (place len : ℕ) → IsGate gate f → 128 ≤ place → place + len + 5 ≤ gate.end → take (len + 5) (drop place f.reads) ≡ take (len + 5) (drop (place - 128) (content f.reads))
in_content gate f place len is from to =
    let at : 128 + (place - 128) ≡ place = omega (arith, from) in
    sym (content_range gate f is (place - 128) (len + 5) (omega (arith, end_is gate f is, from, to)) ∙ ap (λ (n : ℕ). take (len + 5) (drop n f.reads)) at)

-- these bytes stand in the file's content in the place of a record
abbrev Stands : Option File → ℕ → ℕ → List ℕ → Type 0
Stands slot place len bytes = Among slot (λ f. bytes ≡ take (len + 5) (drop (place - 128) (content f.reads)))

range_stands : (slot : Option File) (store : SmallStore) (bodies : Bodies) (place len : ℕ) → lies_in store place len ≡ true → has_record bodies place len ≡ true → IsSmallStore store slot → IsWindow bodies slot → Stands slot place len (range_of bodies place len)
range_stands slot store bodies place len lies has is window = by store.gate refl
  where
    low : (128 ≤ place) × (place + len + 5 ≤ reach_of store)
    low = range_inside 128 (reach_of store) place len lies

    among : (o : Option File) (gate : Gate) → gate_end store.gate ≡ gate.end → Among o (IsGate gate) → IsWindow bodies o → Stands o place len (range_of bodies place len)
    among None gate end none window = none
    among (Some f) gate end gated window = range_file bodies place len has f.reads (window f refl) ∙ in_content gate f place len gated low.0 (omega (arith, low.1, end))

    by : (o : Option Gate) → store.gate ≡ o → Stands slot place len (range_of bodies place len)
    by None none =
        let end : gate_end store.gate ≡ 128 = ap gate_end none in
        let len_is : gate_len store.gate ≡ 0 = ap gate_len none in
        absurd (omega (arith, low.0, low.1, end, len_is))
    by (Some gate) open_with = among slot gate (ap gate_end open_with) (there_among slot (IsGate gate) (is.there gate open_with)) window

stands_in : (slot : Option File) (place len : ℕ) (bytes body : List ℕ) → 128 ≤ place → length body ≡ len → bytes ≡ small_record body → Stands slot place len bytes → Among slot (λ f. StandsAt f.reads place body)
stands_in None place len bytes body from long is none = none
stands_in (Some f) place len bytes body from long is same = record { from = from; is = ap (λ (n : ℕ). take (n + 5) (drop (place - 128) (content f.reads))) long ∙ sym same ∙ is }

none_in : (slot : Option File) (place len : ℕ) (bytes : List ℕ) → ((body : List ℕ) → bytes ≢ small_record body) → Stands slot place len bytes → Among slot (λ f. IsWhole f.reads place len) → ⊥
none_in None place len bytes differs none whole = none
none_in (Some f) place len bytes differs same whole = differs whole.0 (same ∙ ap (λ (n : ℕ). take (n + 5) (drop (place - 128) (content f.reads))) (sym whole.1.0) ∙ whole.1.1.is)

-- what the window tells of a record that lies in the store
pub found_in : {D : Type 0} (g : Ghosts D) (store : SmallStore) (disk : D) (bodies : Bodies) (place len : ℕ) (bytes : List ℕ) (body : Option (List ℕ)) → lies_in store place len ≡ true → has_record bodies place len ≡ true → bytes ≡ range_of bodies place len → (g.tells → IsSmallStore store (g.files disk (name_of store)))
    → (g.tells → IsWindow bodies (g.files disk (name_of store))) → MatchOption body ((b : List ℕ) → bytes ≢ small_record b) (λ b. bytes ≡ small_record b) → IsFound g store disk place len body
found_in g store disk bodies place len bytes None lies has range is window differs = record {
  long = tt;
  inside = tt;
  stands = tt;
  none = λ none told whole. none_in (g.files disk (name_of store)) place len bytes differs (subst (Stands (g.files disk (name_of store)) place len) (sym range) (range_stands (g.files disk (name_of store)) store bodies place len lies has (is told) (window told))) whole;
}
found_in g store disk bodies place len bytes (Some b) lies has range is window spelled_as =
    let low = range_inside 128 (reach_of store) place len lies in
    let long : length b ≡ len = let all : length (small_record b) ≡ len + 5 = ap length (sym spelled_as ∙ range) ∙ range_long bodies place len has in omega (arith, all, long_of b) in
    record {
      long = long;
      inside = low.1;
      stands = λ told. stands_in (g.files disk (name_of store)) place len bytes b low.0 long spelled_as (subst (Stands (g.files disk (name_of store)) place len) (sym range) (range_stands (g.files disk (name_of store)) store bodies place len lies has (is told) (window told)));
      none = λ clash told whole. let other : Some b ≡ None = clash in cc;
    }
