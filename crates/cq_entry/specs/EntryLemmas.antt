-- An entry's bytes and its fields say the same.
use Rattle.std.proofs.Common.{◌≡◌, ◌≢◌, ◌⊎◌, inl, inr, ℕ, ◌<◌, ◌≤◌, List, ◌∷◌, ◌++◌, length, take, drop, get_or, append-nil, if◌then◌else◌, ◌==◌, refl, sym, ◌∙◌, ap, subst, arith}
use Rattle.std.specs.Prelude.{slice_index}
use Rattle.std.specs.Int.{w16, w32, w64, w128, to_be_bytes}
use Rattle.std.proofs.lemmas.Nat.{be_bytes_2, be_bytes_4, be_bytes_8, from_be_bytes-to_be_bytes_4, from_be_bytes-to_be_bytes_8}
use Rattle.std.proofs.lemmas.List.{drop_more, drop_all}
use Rattle.cq_bytes.specs.Field.{number_at}
use Rattle.cq_bytes.specs.FieldLemmas.{be_bytes_16, from_be_bytes-to_be_bytes_16, put_back, wide_fits, word_fits, take_small, drop_small}
use Rattle.cq_entry.specs.declared.entry.Entry.{Entry}
use Rattle.cq_entry.specs.declared.entry.EntryKind.{EntryKind}
use Rattle.cq_entry.specs.declared.entry.EntryKind.TheVariants.{Small, Shared}
use Rattle.cq_entry.specs.Entry.{kind_byte, entry_bytes, entry_of, IsPresent, FieldHolds}

-- each rule in turn
pub holds : (bytes : List ℕ) → (slice_index bytes 1 ≡ 1) ⊎ (slice_index bytes 1 ≡ 2) → number_at w16 bytes 2 ≡ 0 → number_at w32 bytes 4 ≤ 1048576 → number_at w128 bytes 8 ≢ 0 → (slice_index bytes 1 ≡ 2 → number_at w64 bytes 24 ≡ 0) → (at : ℕ) → FieldHolds bytes at
holds bytes kind zeros len id place at = record { kind = λ is. kind; zeros = λ is. zeros; len = λ is. len; id = λ is. id; place = λ is. place }

kind_spells : (bytes : List ℕ) → (slice_index bytes 1 ≡ 1) ⊎ (slice_index bytes 1 ≡ 2) → kind_byte (entry_of bytes).kind ≡ slice_index bytes 1
kind_spells bytes (inl one) = ap (λ (n : ℕ). kind_byte (if n == 1 then Small else Shared)) one ∙ sym one
kind_spells bytes (inr two) = ap (λ (n : ℕ). kind_byte (if n == 1 then Small else Shared)) two ∙ sym two

small≢shared : Small ≢ Shared
small≢shared same = cc

unplaced : (bytes : List ℕ) → (slice_index bytes 1 ≡ 1) ⊎ (slice_index bytes 1 ≡ 2) → (slice_index bytes 1 ≡ 2 → number_at w64 bytes 24 ≡ 0) → (entry_of bytes).kind ≡ Shared → number_at w64 bytes 24 ≡ 0
unplaced bytes (inl one) none shared = absurd (small≢shared (sym (ap (λ (n : ℕ). if n == 1 then Small else Shared) one) ∙ shared))
unplaced bytes (inr two) none shared = none two

-- where each field keeps its rule, the bytes are those of the entry that the fields give
pub fields_spell : (bytes : List ℕ) → length bytes ≡ 32 → ((i : ℕ) → get_or bytes i 0 < 256) → slice_index bytes 0 ≡ 1 → ((at : ℕ) → FieldHolds bytes at) → IsPresent bytes (entry_of bytes)
fields_spell bytes len small present holds =
    let kind = (holds 1).kind refl in
    let zeros : 0 ∷ 0 ∷ drop 4 bytes ≡ drop 2 bytes = ap (λ (n : ℕ). to_be_bytes w16 n ++ drop 4 bytes) (sym ((holds 2).zeros refl)) ∙ put_back w16 bytes 2 be_bytes_2 small (omega (arith, len)) in
    let body : to_be_bytes w32 (number_at w32 bytes 4) ++ drop 8 bytes ≡ drop 4 bytes = put_back w32 bytes 4 be_bytes_4 small (omega (arith, len)) in
    let id : to_be_bytes w128 (number_at w128 bytes 8) ++ drop 24 bytes ≡ drop 8 bytes = put_back w128 bytes 8 be_bytes_16 small (omega (arith, len)) in
    let place : to_be_bytes w64 (number_at w64 bytes 24) ++ drop 32 bytes ≡ drop 24 bytes = put_back w64 bytes 24 be_bytes_8 small (omega (arith, len)) in
    let tail : to_be_bytes w64 (number_at w64 bytes 24) ≡ drop 24 bytes = sym (append-nil (to_be_bytes w64 (number_at w64 bytes 24))) ∙ ap (λ (xs : List ℕ). to_be_bytes w64 (number_at w64 bytes 24) ++ xs) (sym (drop_all 32 bytes (omega (arith, len)))) ∙ place in
    record {
      valid = record { short = (holds 4).len refl; named = omega (arith, (holds 8).id refl); unplaced = unplaced bytes kind ((holds 24).place refl) };
      id = wide_fits (take 16 (drop 8 bytes)) (λ i. take_small 16 (drop 8 bytes) i (λ j. drop_small 8 bytes j small));
      place = word_fits (take 8 (drop 24 bytes)) (λ i. take_small 8 (drop 24 bytes) i (λ j. drop_small 24 bytes j small));
      spelled = drop_more bytes 0 0 (omega (arith, len)) ∙ ap (λ (n : ℕ). n ∷ drop 1 bytes) present ∙ ap (λ (xs : List ℕ). 1 ∷ xs)
          (drop_more bytes 1 0 (omega (arith, len)) ∙ ap (λ (n : ℕ). n ∷ drop 2 bytes) (sym (kind_spells bytes kind)) ∙ ap (λ (xs : List ℕ). kind_byte (entry_of bytes).kind ∷ xs)
          (sym zeros ∙ ap (λ (xs : List ℕ). 0 ∷ 0 ∷ xs)
          (sym body ∙ ap (λ (xs : List ℕ). to_be_bytes w32 (number_at w32 bytes 4) ++ xs)
          (sym id ∙ ap (λ (xs : List ℕ). to_be_bytes w128 (number_at w128 bytes 8) ++ xs) (sym tail)))));
    }

kind_back : (kind : EntryKind) → (if kind_byte kind == 1 then Small else Shared) ≡ kind
kind_back Small = refl
kind_back Shared = refl

kind_in : (kind : EntryKind) → (kind_byte kind ≡ 1) ⊎ (kind_byte kind ≡ 2)
kind_in Small = inl refl
kind_in Shared = inr refl

shared_is : (kind : EntryKind) → kind_byte kind ≡ 2 → kind ≡ Shared
shared_is Small two = absurd (omega (arith, two))
shared_is Shared two = refl

-- the fields of a present entry's bytes give the entry
pub read_back : (bytes : List ℕ) (e : Entry) → IsPresent bytes e → entry_of bytes ≡ e
read_back bytes e is = subst (λ (b : List ℕ). entry_of b ≡ e) (sym is.spelled) (λ i. record {
  kind = kind_back e.kind i;
  len = from_be_bytes-to_be_bytes_4 e.len (omega (arith, is.valid.short)) i;
  id = from_be_bytes-to_be_bytes_16 e.id is.id i;
  place = from_be_bytes-to_be_bytes_8 e.place is.place i;
})

-- a present entry's bytes keep each rule
pub present_holds : (bytes : List ℕ) (e : Entry) → IsPresent bytes e → (at : ℕ) → FieldHolds bytes at
present_holds bytes e is = subst (λ (b : List ℕ). (at : ℕ) → FieldHolds b at) (sym is.spelled) (holds (entry_bytes e) (kind_in e.kind) refl
    (let l : number_at w32 (entry_bytes e) 4 ≡ e.len = from_be_bytes-to_be_bytes_4 e.len (omega (arith, is.valid.short)) in omega (arith, l, is.valid.short))
    (λ none. let n : number_at w128 (entry_bytes e) 8 ≡ e.id = from_be_bytes-to_be_bytes_16 e.id is.id in omega (arith, n, none, is.valid.named))
    (λ two. let p : number_at w64 (entry_bytes e) 24 ≡ e.place = from_be_bytes-to_be_bytes_8 e.place is.place in p ∙ is.valid.unplaced (shared_is e.kind two)))

-- bytes of two present entries are those of one
pub one_entry : (bytes : List ℕ) (e f : Entry) → IsPresent bytes e → IsPresent bytes f → e ≡ f
one_entry bytes e f first second = sym (read_back bytes e first) ∙ read_back bytes f second

-- the rules of the fields before a byte
pub before : (bytes : List ℕ) (at i : ℕ) → i < at → (1 < at → (slice_index bytes 1 ≡ 1) ⊎ (slice_index bytes 1 ≡ 2)) → (2 < at → number_at w16 bytes 2 ≡ 0) → (4 < at → number_at w32 bytes 4 ≤ 1048576) → (8 < at → number_at w128 bytes 8 ≢ 0) → at ≤ 24 → FieldHolds bytes i
before bytes at i lt kind zeros len id to = record {
  kind = λ is. kind (omega (arith, is, lt));
  zeros = λ is. zeros (omega (arith, is, lt));
  len = λ is. len (omega (arith, is, lt));
  id = λ is. id (omega (arith, is, lt));
  place = λ is. absurd (omega (arith, is, lt, to));
}
