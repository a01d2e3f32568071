-- Runs of blocks: each byte string has one chain at most, and runs are joined.
use Rattle.std.proofs.Common.{◌≡◌, ℕ, ◌+◌, ◌-◌, ◌^◌, ◌<◌, ◌≤◌, true, List, [], ◌∷◌, ◌++◌, length, take, drop, slice_index, replicate, refl, sym, ap, subst, ◌∙◌, inl, inr, true≢false, arith, length-append, length-drop, add_assoc}
use Rattle.std.specs.Prelude.{◌&&◌, ◌||◌, ◌==◌, nat_le}
use Rattle.std.specs.Int.{w64, w128, to_be_bytes}
use Rattle.std.proofs.lemmas.Bool.Decides.{nat_tests}
use Rattle.std.proofs.lemmas.List.{drop-append-le}
use Rattle.std.proofs.Math.Seq.{drop-length}
use Rattle.cq_block.specs.Blocks.{told_len, told_id, has_head, block_bytes, IsFront, IsRun, IsChain, NoFront, moved_by}
use Rattle.cq_block.specs.declared.layout.Block.{Block}
use Rattle.std.proofs.lemmas.List.{get_or_append_left, take-append-drop}
use Rattle.std.proofs.Math.Seq.{get_or-append_seam}
use Rattle.cq_block.proofs.Fields.{number_8, number_16, number_behind, number_before}

-- the length of the block at the front of bytes
pub front_len : (at : ℕ) (bytes : List ℕ) (b : Block) → IsFront at bytes b → b.len ≡ told_len bytes
front_len at bytes b front = ap (λ (x : Block). x.len) front.block

pub front_within : (at : ℕ) (bytes : List ℕ) (b : Block) → IsFront at bytes b → (25 ≤ b.len) × (b.len ≤ length bytes)
front_within at bytes b front =
    let len = front_len at bytes b front in
    let head = front.head in
    (grind (arith, nat_tests), grind (arith, nat_tests))

one_front : (at : ℕ) (bytes : List ℕ) (a b : Block) → IsFront at bytes a → IsFront at bytes b → b ≡ a
one_front at bytes a b x y = y.block ∙ sym x.block

no_front_empty : (at : ℕ) (b : Block) → IsFront at [] b → ⊥
no_front_empty at b front = let w = front_within at [] b front in omega (arith, w.0, w.1)

-- bytes are one chain at most
pub one_run : (at : ℕ) (bytes : List ℕ) (xs ys : List Block) → IsRun at bytes xs [] → IsRun at bytes ys [] → ys ≡ xs
one_run at bytes [] [] x y = refl
one_run at bytes [] (b ∷ bs) x y = absurd (no_front_empty at b (subst (λ l. IsFront at l b) x y.0))
one_run at bytes (a ∷ es) [] x y = absurd (no_front_empty at a (subst (λ l. IsFront at l a) y x.0))
one_run at bytes (a ∷ es) (b ∷ bs) x y =
    let same : b ≡ a = one_front at bytes a b x.0 y.0 in
    let rest = one_run (at + a.len) (drop a.len bytes) es bs x.1 (subst (λ (c : Block). IsRun (at + c.len) (drop c.len bytes) bs []) same y.1) in
    λ i. same i ∷ rest i

no_front : (at : ℕ) (bytes : List ℕ) (b : Block) (at' place found : ℕ) → IsFront at bytes b → NoFront at' bytes place found → ⊥
no_front at bytes b at' place found front none = elim none [ inl h ↦ true≢false (sym front.head ∙ h.0) | inr h ↦ h.1 front.end ]

-- bytes in which no block stands after some blocks are no chain
pub no_run : (at : ℕ) (bytes : List ℕ) (xs ys : List Block) (rest : List ℕ) (at' place found : ℕ) → IsRun at bytes xs rest → 0 < length rest → NoFront at' rest place found
    → IsRun at bytes ys [] → ⊥
no_run at bytes [] [] rest at' place found run more none whole = omega (arith, ap length run, ap length whole)
no_run at bytes [] (b ∷ bs) rest at' place found run more none whole = no_front at rest b at' place found (subst (λ l. IsFront at l b) run whole.0) none
no_run at bytes (a ∷ es) [] rest at' place found run more none whole = no_front_empty at a (subst (λ l. IsFront at l a) whole run.0)
no_run at bytes (a ∷ es) (b ∷ bs) rest at' place found run more none whole =
    let same : b ≡ a = one_front at bytes a b run.0 whole.0 in
    no_run (at + a.len) (drop a.len bytes) es bs rest at' place found run.1 more none (subst (λ (c : Block). IsRun (at + c.len) (drop c.len bytes) bs []) same whole.1)

pub run_length : (at : ℕ) (bytes : List ℕ) (bs : List Block) (rest : List ℕ) → IsRun at bytes bs rest → length rest ≤ length bytes
run_length at bytes [] rest run = omega (arith, ap length run)
run_length at bytes (b ∷ bs) rest run = omega (arith, run_length (at + b.len) (drop b.len bytes) bs rest run.1, length-drop b.len bytes)

-- runs one after another
pub run_join : (at : ℕ) (bytes : List ℕ) (xs ys : List Block) (middle rest : List ℕ) → IsRun at bytes xs middle → IsRun (at + (length bytes - length middle)) middle ys rest → IsRun at bytes (xs ++ ys) rest
run_join at bytes [] ys middle rest run then =
    let stays : at + (length bytes - length middle) ≡ at = omega (arith, ap length run) in
    subst (λ l. IsRun at l ys rest) (sym run) (subst (λ n. IsRun n middle ys rest) stays then)
run_join at bytes (b ∷ bs) ys middle rest run then =
    let within = front_within at bytes b run.0 in
    let left = run_length (at + b.len) (drop b.len bytes) bs middle run.1 in
    let place : at + (length bytes - length middle) ≡ at + b.len + (length (drop b.len bytes) - length middle) = omega (arith, within.0, within.1, left, length-drop b.len bytes) in
    (run.0, run_join (at + b.len) (drop b.len bytes) bs ys middle rest run.1 (subst (λ n. IsRun n middle ys rest) place then))

pub run_push : (at : ℕ) (bytes : List ℕ) (bs : List Block) (rest : List ℕ) (b : Block) → IsRun at bytes bs rest → IsFront (at + (length bytes - length rest)) rest b
    → IsRun at bytes (bs ++ b ∷ []) (drop b.len rest)
run_push at bytes bs rest b run front = run_join at bytes bs (b ∷ []) rest (drop b.len rest) run (front, refl)

told_len-before : (bytes more : List ℕ) → 25 ≤ length bytes → told_len (bytes ++ more) ≡ told_len bytes
unfolding told_len
told_len-before bytes more long = ap (λ n. n + 9) (number_before w64 bytes more 0 (omega arith))

told_id-before : (bytes more : List ℕ) → 25 ≤ length bytes → told_id (bytes ++ more) ≡ told_id bytes
unfolding told_id
told_id-before bytes more long = number_before w128 bytes more 8 (omega arith)

head_len : (bytes : List ℕ) → has_head bytes ≡ true → (25 ≤ length bytes) × (25 ≤ told_len bytes) × (told_len bytes ≤ length bytes)
head_len bytes h = (grind (arith, nat_tests), grind (arith, nat_tests), grind (arith, nat_tests))

head-before : (bytes more : List ℕ) → has_head bytes ≡ true → has_head (bytes ++ more) ≡ true
head-before bytes more h =
    let long = head_len bytes h in
    let len = told_len-before bytes more long.0 in
    let id = told_id-before bytes more long.0 in
    let all = length-append bytes more in
    rw (len, id, all) (grind (arith, nat_tests))

-- a block stays at the front of bytes that go on
pub front_before : (at : ℕ) (bytes more : List ℕ) (b : Block) → IsFront at bytes b → IsFront at (bytes ++ more) b
front_before at bytes more b front =
    let long = head_len bytes front.head in
    let len = told_len-before bytes more long.0 in
    let id = told_id-before bytes more long.0 in
    record {
      head = head-before bytes more front.head;
      end = ap (slice_index (bytes ++ more)) (ap (λ n. n - 1) len) ∙ get_or_append_left bytes more 0 (told_len bytes - 1) (omega (arith, long.1, long.2)) ∙ front.end;
      block = front.block ∙ (λ i. record { at = at; len = sym len i; id = sym id i });
    }

pub run_before : (at : ℕ) (bytes more : List ℕ) (bs : List Block) (rest : List ℕ) → IsRun at bytes bs rest → IsRun at (bytes ++ more) bs (rest ++ more)
run_before at bytes more [] rest run = ap (λ l. l ++ more) run
run_before at bytes more (b ∷ bs) rest run =
    let within = front_within at bytes b run.0 in
    (front_before at bytes more b run.0, subst (λ l. IsRun (at + b.len) l bs (rest ++ more)) (sym (drop-append-le b.len bytes more within.1)) (run_before (at + b.len) (drop b.len bytes) more bs rest run.1))

-- what begins where bytes end goes on with their chain
pub run_append : (at : ℕ) (bytes more : List ℕ) (xs ys : List Block) → IsRun at bytes xs [] → IsRun (at + length bytes) more ys [] → IsRun at (bytes ++ more) (xs ++ ys) []
run_append at bytes more xs ys first then =
    let whole : at + (length (bytes ++ more) - length more) ≡ at + length bytes = omega (arith, length-append bytes more) in
    run_join at (bytes ++ more) xs ys more [] (run_before at bytes more xs [] first) (subst (λ n. IsRun n more ys []) (sym whole) then)

front_moved : (distance at : ℕ) (bytes : List ℕ) (b : Block) → IsFront at bytes b → IsFront (distance + at) bytes (record b { at = distance + b.at })
front_moved distance at bytes b front = record {
  head = front.head;
  end = front.end;
  block = ap (λ (x : Block). record x { at = distance + x.at }) front.block;
}

-- the same bytes, further on
pub run_moved : (distance at : ℕ) (bytes : List ℕ) (bs : List Block) (rest : List ℕ) → IsRun at bytes bs rest → IsRun (distance + at) bytes (moved_by distance bs) rest
run_moved distance at bytes [] rest run = run
run_moved distance at bytes (b ∷ bs) rest run = (
  front_moved distance at bytes b run.0,
  subst (λ n. IsRun n (drop b.len bytes) (moved_by distance bs) rest) (sym (add_assoc distance at b.len)) (run_moved distance (at + b.len) (drop b.len bytes) bs rest run.1),
)

-- what follows a content, and is counted from its own first byte, makes its chain longer
pub chain_longer : (bytes : List ℕ) (blocks : List Block) → IsRun 0 bytes blocks [] → (content : List ℕ) (before : List Block) → IsChain content before → IsChain (content ++ bytes) (before ++ moved_by (128 + length content) blocks)
chain_longer bytes blocks run content before chain =
    let place : 128 + length content + 0 ≡ 128 + length content = omega arith in
    run_append 128 content bytes before _ chain (subst (λ n. IsRun n bytes (moved_by (128 + length content) blocks) []) place (run_moved (128 + length content) 0 bytes blocks [] run))

told_len-block : (id : ℕ) (body : List ℕ) → length body < 2 ^ 63 → told_len (block_bytes id body) ≡ length body + 25
unfolding told_len block_bytes
told_len-block id body small = ap (λ n. n + 9) (number_8 (16 + length body) (to_be_bytes w128 id ++ body ++ 255 ∷ []) (omega arith)) ∙ omega arith

told_id-block : (id : ℕ) (body : List ℕ) → id < 2 ^ 128 → told_id (block_bytes id body) ≡ id
unfolding told_id block_bytes
told_id-block id body fits =
    number_behind w128 (to_be_bytes w64 (16 + length body)) (to_be_bytes w128 id ++ body ++ 255 ∷ []) 0 ∙ number_16 id (body ++ 255 ∷ []) fits

seam : (head body : List ℕ) → slice_index ((head ++ body) ++ 255 ∷ []) (length head + length body) ≡ 255
seam head body = ap (slice_index ((head ++ body) ++ 255 ∷ [])) (sym (length-append head body)) ∙ get_or-append_seam (head ++ body) 255 [] 0

told_end-block : (id : ℕ) (body : List ℕ) → slice_index (block_bytes id body) (length body + 24) ≡ 255
unfolding block_bytes
told_end-block id body =
    let place : length body + 24 ≡ 24 + length body = omega arith in
    ap (slice_index (block_bytes id body)) place ∙ seam (to_be_bytes w64 (16 + length body) ++ to_be_bytes w128 id) body

pub length-block : (id : ℕ) (body : List ℕ) → length (block_bytes id body) ≡ length body + 25
unfolding block_bytes
length-block id body = length-append (((to_be_bytes w64 (16 + length body) ++ to_be_bytes w128 id) ++ body)) (255 ∷ []) ∙ ap (λ n. n + 1) (length-append (to_be_bytes w64 (16 + length body) ++ to_be_bytes w128 id) body) ∙ omega arith

-- the bytes of a record are that record
pub front_block : (at id : ℕ) (body : List ℕ) → id < 2 ^ 128 → length body ≤ 1048576 → IsFront at (block_bytes id body) (record { at = at; len = length body + 25; id = id })
front_block at id body fits small =
    let len = told_len-block id body (omega arith) in
    let name = told_id-block id body fits in
    let all = length-block id body in
    record {
      head = rw (len, name, all) (grind (arith, nat_tests));
      end = ap (slice_index (block_bytes id body)) (ap (λ n. n - 1) len ∙ omega arith) ∙ told_end-block id body;
      block = λ i. record { at = at; len = sym len i; id = sym name i };
    }

pub run_block : (at id : ℕ) (body : List ℕ) → id < 2 ^ 128 → length body ≤ 1048576 → IsRun at (block_bytes id body) (record { at = at; len = length body + 25; id = id } ∷ []) []
run_block at id body fits small =
    (front_block at id body fits small, ap (λ n. drop n (block_bytes id body)) (sym (length-block id body)) ∙ drop-length (block_bytes id body))

filler_tests : (all told id len : ℕ) → 25 ≤ len → all ≡ len → told ≡ len → id ≡ 0 → (nat_le 25 all && (nat_le 25 told && (nat_le told all && (id == 0 || nat_le told 1048601)))) ≡ true
filler_tests all told id len long is-all is-told is-id = rw (is-all, is-told, is-id) (grind (arith, nat_tests))

-- bytes with the head of a filler and 255 at their end are that filler
pub front_filler : (at len : ℕ) (bytes : List ℕ) → 25 ≤ len → len < 2 ^ 64 → length bytes ≡ len → take 24 bytes ≡ to_be_bytes w64 (len - 9) ++ replicate 16 0 → slice_index bytes (len - 1) ≡ 255
    → IsFront at bytes (record { at = at; len = len; id = 0 })
unfolding told_len told_id
front_filler at len bytes long fits all front last =
    let is : bytes ≡ (to_be_bytes w64 (len - 9) ++ replicate 16 0) ++ drop 24 bytes = sym (take-append-drop 24 bytes) ∙ ap (λ (l : List ℕ). l ++ drop 24 bytes) front in
    let whole : len - 9 + 9 ≡ len = omega arith in
    let told : told_len bytes ≡ len = ap told_len is ∙ ap (λ n. n + 9) (number_8 (len - 9) (replicate 16 0 ++ drop 24 bytes) (omega arith)) ∙ whole in
    let name : told_id bytes ≡ 0 = ap told_id is ∙ number_behind w128 (to_be_bytes w64 (len - 9)) (to_be_bytes w128 0 ++ drop 24 bytes) 0 ∙ number_16 0 (drop 24 bytes) (omega arith) in
    record {
      head = filler_tests (length bytes) (told_len bytes) (told_id bytes) len long all told name;
      end = ap (λ n. slice_index bytes (n - 1)) told ∙ last;
      block = λ i. record { at = at; len = sym told i; id = sym name i };
    }
