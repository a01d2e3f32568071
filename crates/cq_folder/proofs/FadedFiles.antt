-- From the statuses that a file may have lost to its content.
use Rattle.std.proofs.Common.{◌≡◌, ◌≢◌, ◌⊎◌, inl, inr, ⊎_elim, ℕ, zero, suc, ◌+◌, ◌*◌, ◌-◌, ◌≤◌, ◌<◌, min, Bool, true, false, List, [], length, take, drop, refl, sym, ap, ◌∙◌, subst, arith, length-drop, length-take}
use Rattle.std.specs.Prelude.{◌==◌, if◌then◌else◌, nat_lt, Contains, slice_index}
use Rattle.std.proofs.lemmas.Bool.{cases_lt, cases_eq, false≢true}
use Rattle.std.proofs.lemmas.Bool.Decides.{nat_tests}
use Rattle.std.proofs.lemmas.List.{drop-drop, drop-take, take-take, get_or-take, get_or-drop, get_or_default, same_lists}
use Rattle.cq_bytes.specs.Numbers.{contains}
use Rattle.cq_gate.specs.Format.{word_at, slot_of, IsGated, content, content_to}
use Rattle.cq_gate.proofs.Formats.{same_word, same_formed, slot_place, bare_content}
use Rattle.cq_index.specs.Codec.{entry_len}
use Rattle.cq_index.specs.Gone.{IsStatus}
use Rattle.cq_index.specs.Opened.{piece_at}
use Rattle.cq_index.specs.Places.{entry_at, place_of}
use Rattle.cq_index.proofs.Rising.{stands}
use Rattle.cq_folder.proofs.Fading.{Fades}

-- a piece of the bytes behind the header
pub piece_is : (file : List ℕ) (m k : ℕ) → entry_len * k + entry_len ≤ m → piece_at (take m (drop 128 file)) k ≡ entry_at file k
piece_is file m k inside =
    let split : m ≡ entry_len * k + (m - entry_len * k) = omega (arith, inside) in
    ap (λ (n : ℕ). take entry_len (drop (entry_len * k) (take n (drop 128 file)))) split
    ∙ ap (take entry_len) (drop-take (entry_len * k) (m - entry_len * k) (drop 128 file))
    ∙ take-take entry_len (m - entry_len * k) (drop (entry_len * k) (drop 128 file)) (omega (arith, inside))
    ∙ ap (take entry_len) (drop-drop (entry_len * k) 128 file)

-- two files of one length that agree on the bytes of an entry
same_piece : (c d : List ℕ) (k : ℕ) → length c ≡ length d → ((i : ℕ) → i < entry_len → slice_index c (place_of k + i) ≡ slice_index d (place_of k + i)) → entry_at c k ≡ entry_at d k
same_piece c d k len same = same_lists (entry_at c k) (entry_at d k) long (λ i e lt.
    let inside : i < entry_len = omega (arith, lt, bytes c) in
    let in_c : place_of k + i < length c = omega (arith, lt, bytes c, length-drop (place_of k) c) in
    get_or-take entry_len (drop (place_of k) c) i e inside
    ∙ get_or-drop (place_of k) c i e
    ∙ get_or_default c (place_of k + i) e 0 in_c
    ∙ same i inside
    ∙ get_or_default d (place_of k + i) 0 e (omega (arith, in_c, len))
    ∙ sym (get_or-drop (place_of k) d i e)
    ∙ sym (get_or-take entry_len (drop (place_of k) d) i e inside))
  where
    bytes : (file : List ℕ) → length (entry_at file k) ≡ min entry_len (length (drop (place_of k) file))
    bytes file = length-take entry_len (drop (place_of k) file)

    long : length (entry_at c k) ≡ length (entry_at d k)
    long = omega (arith, bytes c, bytes d, length-drop (place_of k) c, length-drop (place_of k) d, len)

module _ (kind : ℕ) (at before c : List ℕ) (len : length c ≡ length before) (same : (i : ℕ) → (IsStatus at i → ⊥) → slice_index c i ≡ slice_index before i) (gated : IsGated kind before) where
  header : (i : ℕ) → i < 128 → slice_index c i ≡ slice_index before i
  header i lt = same i (λ s. let is = s.1.1 in absurd (omega (arith, lt, is)))

  -- it stays of the form
  pub faded_gated : IsGated kind c
  faded_gated long = same_formed kind c before (omega (arith, long, len)) len header (gated (omega (arith, long, len)))

  abbrev end : ℕ
  end = word_at before (slot_of before)

  module _ (long : 128 < length before) where
    place : slot_of c ≡ slot_of before
    place = ap (λ (b : ℕ). if b == 0 then 32 else 64) (header 16 (omega arith))

    word : word_at c (slot_of before) ≡ end
    word = ⊎_elim
        (λ first. same_word c before (slot_of before) (omega (arith, first, long, len)) (omega (arith, first, long)) (λ i from to. header i (omega (arith, to, first))))
        (λ second. same_word c before (slot_of before) (omega (arith, second, long, len)) (omega (arith, second, long)) (λ i from to. header i (omega (arith, to, second))))
        (slot_place before)

    content_before : content before ≡ content_to end before
    content_before = let test : nat_lt 128 (length before) ≡ true = grind (arith, nat_tests) in ap (λ (b : Bool). if b then content_to end before else []) test

    content_now : content c ≡ content_to end c
    content_now =
        let test : nat_lt 128 (length c) ≡ true = grind (arith, nat_tests) in
        ap (λ (b : Bool). if b then content_to (word_at c (slot_of c)) c else []) test ∙ ap (λ (p : ℕ). content_to (word_at c p) c) place ∙ ap (λ (e : ℕ). content_to e c) word

    same_len : length (content c) ≡ length (content before)
    same_len = ap length content_now ∙ length-take (end - 128) (drop 128 c) ∙ (let d : length (drop 128 c) ≡ length (drop 128 before) = omega (arith, length-drop 128 c, length-drop 128 before, len) in ap (min (end - 128)) d)
        ∙ sym (length-take (end - 128) (drop 128 before)) ∙ sym (ap length content_before)

    inside_end : (k : ℕ) → entry_len * k + entry_len ≤ length (content before) → entry_len * k + entry_len ≤ end - 128
    inside_end k inside = let l = ap length content_before ∙ length-take (end - 128) (drop 128 before) in omega (arith, inside, l)

    before_entry : (k : ℕ) → entry_len * k + entry_len ≤ length (content before) → piece_at (content before) k ≡ entry_at before k
    before_entry k inside = ap (λ (l : List ℕ). piece_at l k) content_before ∙ piece_is before (end - 128) k (inside_end k inside)

    now_entry : (k : ℕ) → entry_len * k + entry_len ≤ length (content before) → piece_at (content c) k ≡ entry_at c k
    now_entry k inside = ap (λ (l : List ℕ). piece_at l k) content_now ∙ piece_is c (end - 128) k (inside_end k inside)

    module _ (present : (k : ℕ) → Contains at k → slice_index (piece_at (content before) k) 0 ≡ 1) (k : ℕ) (inside : entry_len * k + entry_len ≤ length (content before)) where
      abbrev Either : Type 0
      Either = (piece_at (content c) k ≡ piece_at (content before) k) ⊎ (Contains at k × (slice_index (piece_at (content c) k) 0 ≢ 1))

      first_byte : (file : List ℕ) → slice_index (entry_at file k) 0 ≡ slice_index file (place_of k + 0)
      first_byte file = get_or-take entry_len (drop (place_of k) file) 0 0 (omega arith) ∙ get_or-drop (place_of k) file 0 0

      by_status : Contains at k → slice_index (piece_at (content c) k) 0 ≡ 1 → piece_at (content c) k ≡ piece_at (content before) k
      by_status has one = now_entry k inside ∙ same_piece c before k len byte ∙ sym (before_entry k inside)
        where
          byte : (i : ℕ) → i < entry_len → slice_index c (place_of k + i) ≡ slice_index before (place_of k + i)
          byte zero lt = sym (first_byte c) ∙ ap (λ (l : List ℕ). slice_index l 0) (sym (now_entry k inside)) ∙ one ∙ sym (present k has) ∙ ap (λ (l : List ℕ). slice_index l 0) (before_entry k inside) ∙ first_byte before
          byte (suc i) lt = same (place_of k + suc i) (λ s. let is = s.1.1 in absurd (omega (arith, lt, is)))

      by_place : (b : Bool) → contains at k ≡ b → Either
      by_place true is = let has = (stands at k).0 is in ⊎_elim (λ one. inl (by_status has one)) (λ ne. inr (has, ne)) (cases_eq (slice_index (piece_at (content c) k) 0) 1)
      by_place false is =
          let none : Contains at k → ⊥ = λ has. false≢true (sym is ∙ (stands at k).1 has) in
          inl (now_entry k inside ∙ same_piece c before k len (λ i lt. same (place_of k + i) (λ s. let e = s.1.1 in let own : s.0 ≡ k = omega (arith, lt, e) in none (subst (Contains at) own s.1.0))) ∙ sym (before_entry k inside))

      pub each_piece : Either
      each_piece = by_place (contains at k) refl

  -- of the content these entries may be gone, and nothing else has changed
  pub faded_content : ((k : ℕ) → Contains at k → slice_index (piece_at (content before) k) 0 ≡ 1) → Fades (Contains at) (content before) (content c)
  faded_content present = ⊎_elim
      (λ (long : 128 < length before). record { len = same_len long; each = λ k inside. each_piece long present k inside })
      (λ (short : length before ≤ 128).
      let b = bare_content before short in let n = bare_content c (omega (arith, short, len)) in
      record { len = ap length n ∙ sym (ap length b); each = λ k inside. let none = ap length b in absurd (omega (arith, inside, none)) })
      (cases_lt 128 (length before))

  -- an entry of the content, in the file as it is now
  pub now_piece : (k : ℕ) → entry_len * k + entry_len ≤ length (content before) → piece_at (content c) k ≡ entry_at c k
  now_piece k inside = ⊎_elim
      (λ (long : 128 < length before). now_entry long k inside)
      (λ (short : length before ≤ 128). let none = ap length (bare_content before short) in absurd (omega (arith, inside, none)))
      (cases_lt 128 (length before))
