-- Entries that are taken one after another out of bytes that were read.
use Rattle.std.proofs.Common.{◌≡◌, ℕ, zero, suc, ◌+◌, ◌*◌, ◌<◌, List, [], ◌∷◌, ◌++◌, length, take, drop, get_or, Option, Some, None, refl, ◌∙◌, ap, subst, arith, length-drop}
use Rattle.std.specs.Prelude.{All, Contains}
use Rattle.std.specs.List.{AllZip}
use Rattle.std.proofs.lemmas.List.{length-take-le}
use Rattle.std.proofs.lemmas.List.Elements.{All-contains}
use Rattle.cq_disk.specs.File.{File}
use Rattle.cq_disk.specs.Files.{Among, Reads}
use Rattle.cq_disk.specs.There.{there_among}
use Rattle.cq_gate.specs.declared.gate.Gate.{Gate}
use Rattle.cq_index.specs.Codec.{Entry, IsEntry, IsPresent, entry_len}
use Rattle.cq_index.specs.Opened.{piece_at}
use Rattle.cq_index.specs.Places.{entry_at}
use Rattle.cq_index.specs.Segments.{Holds, IsFiled, present_of}
use Rattle.cq_index.specs.declared.segment.Segment.{Segment}
use Rattle.cq_index.proofs.Known.{of_filed}
use Rattle.cq_index.proofs.Looked.{piece_of}
use Rattle.cq_index.proofs.Reading.{never_wrong}
use Rattle.cq_bulk.specs.Entries.{IsMisreadOf, IsWrongAmong}

zip_suc : {A B : Type 0} (R : A → B → Type 0) (xs : List A) (ys : List B) (k : ℕ) (d : A) (y : B) → k < length xs → AllZip R (take k xs) ys → R (get_or xs k d) y → AllZip R (take (suc k) xs) (ys ++ y ∷ [])
zip_suc R [] ys k d y lt zip r = absurd (omega (arith, lt))
zip_suc R (x ∷ xs) [] zero d y lt zip r = (r, tt)
zip_suc R (x ∷ xs) (z ∷ ys) zero d y lt zip r = absurd zip
zip_suc R (x ∷ xs) [] (suc k) d y lt zip r = absurd zip
zip_suc R (x ∷ xs) (z ∷ ys) (suc k) d y lt zip r = (zip.0, zip_suc R xs ys k d y (omega (arith, lt)) zip.1 r)

-- one more of the first list with one more behind the second
pub zip_more : {A B : Type 0} (R : A → B → Type 0) (xs : List A) (ys : List B) (k : ℕ) (d : A) (y : B) → k < length xs → AllZip R (take k xs) ys → R (get_or xs k d) y → AllZip R (take (k + 1) xs) (ys ++ y ∷ [])
zip_more {A} {B} R xs ys k d y lt zip r = let next : suc k ≡ k + 1 = omega arith in subst (λ (n : ℕ). AllZip R (take n xs) (ys ++ y ∷ [])) next (zip_suc R xs ys k d y lt zip r)

-- entries that stand in their pieces are valid
pub zip_valid : (pieces : ℕ → List ℕ) (ks : List ℕ) (es : List Entry) → AllZip (λ k e. IsPresent (pieces k) e) ks es → All IsEntry es
zip_valid pieces ks [] zip i d lt = absurd (omega (arith, lt))
zip_valid pieces [] (e ∷ es) zip i d lt = absurd zip
zip_valid pieces (k ∷ ks) (e ∷ es) zip zero d lt = zip.0.valid
zip_valid pieces (k ∷ ks) (e ∷ es) zip (suc i) d lt = zip_valid pieces ks es zip.1 i d (omega (arith, lt))

-- a piece of the content that was read is the file's entry
piece_among : (slot : Option File) (bytes : List ℕ) (count k : ℕ) → length bytes ≡ entry_len * count → k < count → Reads slot 128 bytes → Among slot (λ f. piece_at bytes k ≡ entry_at f.reads k)
piece_among None bytes count k len lt none = none
piece_among (Some f) bytes count k len lt reads = ap (λ (l : List ℕ). piece_at l k) (reads ∙ ap (λ (n : ℕ). take n (drop 128 f.reads)) len) ∙ piece_of f.reads count k lt

present_among : (slot : Option File) (bytes : List ℕ) (k : ℕ) (e : Entry) → Among slot (λ f. piece_at bytes k ≡ entry_at f.reads k) → IsPresent (piece_at bytes k) e → Among slot (λ f. IsPresent (entry_at f.reads k) e)
present_among None bytes k e none is = none
present_among (Some f) bytes k e same is = subst (λ (l : List ℕ). IsPresent l e) same is

pub zip_stands : (slot : Option File) (bytes : List ℕ) (count : ℕ) (ks : List ℕ) (es : List Entry) → length bytes ≡ entry_len * count → Reads slot 128 bytes → All (λ k. k < count) ks → AllZip (λ k e. IsPresent (piece_at bytes k) e) ks es → AllZip (λ k e. Among slot (λ f. IsPresent (entry_at f.reads k) e)) ks es
zip_stands slot bytes count [] [] len reads below zip = tt
zip_stands slot bytes count [] (e ∷ es) len reads below zip = absurd zip
zip_stands slot bytes count (k ∷ ks) [] len reads below zip = absurd zip
zip_stands slot bytes count (k ∷ ks) (e ∷ es) len reads below zip = (
  present_among slot bytes k e (piece_among slot bytes count k len (below zero 0 (omega arith)) reads) zip.0,
  zip_stands slot bytes count ks es len reads (λ i d lt. below (suc i) d (omega (arith, lt))) zip.1,
)

-- a segment that lists an entry is open
holds_of : (segment : Segment) (slot : Option File) (at : ℕ) → IsFiled segment slot → Contains (present_of segment) at → (gate : Gate) × Among slot (Holds gate segment.count segment.present.items)
holds_of segment slot at filed has = by segment.gate refl
  where
    by : (o : Option Gate) → segment.gate ≡ o → (gate : Gate) × Among slot (Holds gate segment.count segment.present.items)
    by None is =
        let low : at < segment.count = All-contains (λ k. k < segment.count) segment.present.items at segment.below has in
        let none = segment.vacant is in
        absurd (omega (arith, low, none.0))
    by (Some gate) is = (gate, there_among slot (Holds gate segment.count segment.present.items) ((of_filed segment slot filed).there gate is))

-- the entry that isn't a present one: where the file is told, there is none
pub misread : (Told : Type 0) (slot : Option File) (segment : Segment) (bytes : List ℕ) (place found : ℕ) → length bytes ≡ entry_len * segment.count → (Told → Reads slot 128 bytes) → (Told → IsFiled segment slot) → IsWrongAmong bytes (present_of segment) place found → IsMisreadOf Told (present_of segment) place found
misread Told slot segment bytes place found len reads filed is =
    let lt : is.at < segment.count = All-contains (λ k. k < segment.count) segment.present.items is.at segment.below is.listed in
    record {
      at = is.at;
      listed = is.listed;
      misread = record {
        broken = record {
          bytes = piece_at bytes is.at;
          len = length-take-le entry_len (drop (entry_len * is.at) bytes) (omega (arith, length-drop (entry_len * is.at) bytes, len, lt));
          byte = is.wrong.byte;
          inside = is.wrong.inside;
          wrong = is.wrong.wrong;
          place_is = is.wrong.place_is;
          found_is = is.wrong.found_is;
        };
        untold = λ told.
            let holds = holds_of segment slot is.at (filed told) is.listed in
            never_wrong slot holds.0 segment.count segment.present.items is.at (piece_at bytes is.at) is.wrong.byte lt is.listed holds.1 (piece_among slot bytes segment.count is.at len lt (reads told)) is.wrong.wrong;
      };
    }
