-- What is spelled is cut into its lines and words again.
use Rattle.std.proofs.Common.{◌≡◌, ℕ, ◌+◌, ◌-◌, ◌^◌, ◌<◌, ◌≤◌, Bool, true, false, not, cond, List, [], ◌∷◌, ◌++◌, refl, ap, ◌∙◌, sym, length, length-append, take, map, arith, Result, Ok, Err, None, Some}
use Rattle.std.specs.Prelude.{◌==◌, ◌&&◌, ◌||◌, nat_le, codes, slice_index, All, is_some}
use Rattle.std.specs.List.{AllByRecursion, AllPass, list_all, slice_split, join_with_byte}
use Rattle.std.specs.Char.{is_ascii_digit}
use Rattle.std.specs.Fmt.{decimal}
use Rattle.std.proofs.lemmas.Bool.{leb-true, le-leb, and_parts, ne_eqb}
use Rattle.std.proofs.lemmas.Fmt.{decimal_nonempty}
use Rattle.std.proofs.lemmas.List.Splits.{slice_split_none, slice_split_at}
use Rattle.std.proofs.lemmas.List.Sums.{list_all-from_AllPass}
use Rattle.std.proofs.lemmas.List.Folds.{list_all-append}
use Rattle.std.proofs.lemmas.List.Elements.{All-from_recursion}
use Rattle.std.proofs.Math.Seq.{take-append_seam, get_or-append_seam}
use Rattle.hex.specs.Hex.{decode_of, decode_pairs, encode_lower, is_hex_digit, IsBytes}
use Rattle.hex.proofs.HexLemmas.{decode_of-encode_lower, length-encode_with, decode_pairs-encode_with, decode_pairs-ok, IsDigits-lower_digits}
use Rattle.hex.specs.Hex.{lower_digits}
use Rattle.cq_bytes.specs.Numbers.{AreQueues}
use Rattle.cq_bytes.specs.Texts.{is_visible}
use Rattle.cq_inbox.specs.declared.request.Request.{Request}
use Rattle.cq_inbox.specs.declared.request.Request.TheVariants.{Publish, Get, Ack, End}
use Rattle.cq_grammar.specs.declared.script.StepWord.{StepWord}
use Rattle.cq_grammar.specs.declared.script.StepWord.TheVariants as step
use Rattle.cq_grammar.specs.declared.script.Halt.{Halt}
use Rattle.cq_grammar.specs.declared.script.Halt.TheVariants as halt
use Rattle.cq_grammar.specs.declared.script.Why.{Why}
use Rattle.cq_grammar.specs.declared.script.Why.TheVariants as why
use Rattle.cq_grammar.specs.declared.reading.Reading.{Reading}
use Rattle.cq_grammar.specs.Words.{words, script_lines, without_last_newline, is_printable, is_spaced}
use Rattle.cq_grammar.specs.Steps.{IsHalt, IsStep}
use Rattle.cq_grammar.specs.Requests.{IsServable}
use Rattle.cq_grammar.specs.Grammar.{read_line, take_words, is_passed_over}
use Rattle.cq_grammar.specs.Spelling.{body_words, numbers_word, request_words, halt_word, step_word, HasBytes}
use Rattle.cq_grammar.proofs.Decimals.{decimal-all_digits}

-- ---- words that can be seen

-- a word of bytes from 0x21 to 0x7e, with one at least
pub record IsSeen (w : List ℕ) : Type 0 where
  pub visible : list_all is_visible w ≡ true
  pub some : 0 < length w

digits-visible : (w : List ℕ) → list_all is_ascii_digit w ≡ true → list_all is_visible w ≡ true
digits-visible [] h = refl
digits-visible (x ∷ xs) h =
    let parts = and_parts (is_ascii_digit x) (list_all is_ascii_digit xs) h in
    let range = and_parts (nat_le 48 x) (nat_le x 57) parts.0 in
    let low : 48 ≤ x = leb-true 48 x range.0 in
    let high : x ≤ 57 = leb-true x 57 range.1 in
    ap (λ b. (b && nat_le x 126) && list_all is_visible xs) (le-leb 33 x (omega arith))
    ∙ ap (λ b. b && list_all is_visible xs) (le-leb x 126 (omega arith))
    ∙ digits-visible xs parts.1

number-visible : (n : ℕ) → n < 2 ^ 64 → list_all is_visible (decimal n) ≡ true
number-visible n small = digits-visible (decimal n) (decimal-all_digits n small)

pub number-seen : (n : ℕ) → n < 2 ^ 64 → IsSeen (decimal n)
number-seen n small = record { visible = number-visible n small; some = decimal_nonempty n small }

both-visible : (v w : List ℕ) → list_all is_visible v ≡ true → list_all is_visible w ≡ true → list_all is_visible (v ++ w) ≡ true
both-visible v w a b = list_all-append is_visible v w ∙ ap (λ c. c && list_all is_visible w) a ∙ b

-- a visible byte before a visible word
marked : (x : ℕ) (w : List ℕ) → is_visible x ≡ true → list_all is_visible w ≡ true → IsSeen (x ∷ w)
marked x w v h = record { visible = ap (λ b. b && list_all is_visible w) v ∙ h; some = omega arith }

joined-visible : (qs : List ℕ) → AllByRecursion (λ q. q < 2 ^ 64) qs → list_all is_visible (numbers_word qs) ≡ true
joined-visible [] a = refl
joined-visible (q ∷ []) a = number-visible q a.0
joined-visible (q ∷ r ∷ qs) a = both-visible (decimal q) (44 ∷ numbers_word (r ∷ qs)) (number-visible q a.0) (joined-visible (r ∷ qs) a.1)

pub numbers-small : (qs : List ℕ) → AreQueues qs → AllByRecursion (λ q. q < 2 ^ 64) qs
numbers-small [] a = tt
numbers-small (q ∷ qs) a = (omega (arith, a.0), numbers-small qs a.2)

numbers-seen : (qs : List ℕ) → 0 < length qs → AreQueues qs → IsSeen (numbers_word qs)
numbers-seen [] h a = absurd (omega (arith, h))
numbers-seen (q ∷ []) h a = number-seen q (omega (arith, a.0))
numbers-seen (q ∷ r ∷ qs) h a = record { visible = joined-visible (q ∷ r ∷ qs) (numbers-small (q ∷ r ∷ qs) a); some = omega (arith, length-append (decimal q) (44 ∷ numbers_word (r ∷ qs))) }

digit-visible : (x : ℕ) → is_hex_digit x ≡ true → is_visible x ≡ true
digit-visible x h = grind arith

hexes-visible : (w : List ℕ) → list_all is_hex_digit w ≡ true → list_all is_visible w ≡ true
hexes-visible [] h = refl
hexes-visible (x ∷ xs) h =
    let parts = and_parts (is_hex_digit x) (list_all is_hex_digit xs) h in
    ap (λ b. b && list_all is_visible xs) (digit-visible x parts.0) ∙ hexes-visible xs parts.1

hex-seen : (b : ℕ) (bytes : List ℕ) → IsBytes (b ∷ bytes) → IsSeen (encode_lower (b ∷ bytes))
hex-seen b bytes h =
    let text = encode_lower (b ∷ bytes) in
    let read = decode_pairs-ok 0 text (b ∷ bytes) (decode_pairs-encode_with lower_digits IsDigits-lower_digits 0 (b ∷ bytes) h) in
    record { visible = hexes-visible text (list_all-from_AllPass is_hex_digit text read.0); some = omega (arith, read.1) }

-- ---- each word of a request and of a step can be seen

body-seen : (body : List ℕ) → IsBytes body → AllByRecursion IsSeen (body_words body)
body-seen [] h = (record { visible = refl; some = omega arith }, tt)
body-seen (b ∷ bytes) h = (record { visible = refl; some = omega arith }, (hex-seen b bytes h, tt))

pub request-seen : (threshold : ℕ) (r : Request) → IsServable threshold r → HasBytes r → AllByRecursion IsSeen (request_words r)
request-seen threshold (Publish queues body) s h = (record { visible = refl; some = omega arith }, (numbers-seen queues s.0 s.1, body-seen body h))
request-seen threshold (Get queue) s h = (record { visible = refl; some = omega arith }, (number-seen queue (omega (arith, s)), tt))
request-seen threshold (Ack delivery) s h = (record { visible = refl; some = omega arith }, (number-seen delivery (omega (arith, s)), tt))
request-seen threshold End s h = (record { visible = refl; some = omega arith }, tt)

halt-visible : (clients : ℕ) (t : Halt) → clients ≤ 64 → IsHalt clients t → list_all is_visible (halt_word t) ≡ true
halt-visible clients (halt.Turn c) few a = number-visible c (omega (arith, a, few))
halt-visible clients halt.Write few a = refl
halt-visible clients halt.Shift few a = refl

step-seen : (clients : ℕ) (s : StepWord) → clients ≤ 64 → IsStep clients s → IsSeen (step_word s)
step-seen clients (step.Client c) few a = marked 99 (decimal c) refl (number-visible c (omega (arith, a, few)))
step-seen clients (step.Turn c) few a = marked 116 (decimal c) refl (number-visible c (omega (arith, a, few)))
step-seen clients step.Write few a = record { visible = refl; some = omega arith }
step-seen clients step.Shift few a = record { visible = refl; some = omega arith }
step-seen clients (step.Crash image) few a = marked 33 (decimal image) refl (number-visible image a)
step-seen clients (step.Stop image calls t) few a =
    marked 33 (decimal image ++ 47 ∷ (decimal calls ++ 58 ∷ halt_word t)) refl
    (both-visible (decimal image) (47 ∷ (decimal calls ++ 58 ∷ halt_word t)) (number-visible image a.0)
    (both-visible (decimal calls) (58 ∷ halt_word t) (number-visible calls a.1) (halt-visible clients t few a.2)))

pub steps-seen : (clients : ℕ) (ss : List StepWord) → clients ≤ 64 → AllByRecursion (IsStep clients) ss → AllByRecursion IsSeen (map step_word ss)
steps-seen clients [] few a = tt
steps-seen clients (s ∷ ss) few a = (step-seen clients s few a.0, steps-seen clients ss few a.1)

-- ---- bytes that aren't in a word

pub without : (p : ℕ → Bool) (c : ℕ) → ((x : ℕ) → p x ≡ true → (x == c) ≡ false) → (w : List ℕ) → list_all p w ≡ true → AllByRecursion (λ x. (x == c) ≡ false) w
without p c f [] h = tt
without p c f (x ∷ xs) h = let parts = and_parts (p x) (list_all p xs) h in (f x parts.0, without p c f xs parts.1)

not-below : (x c : ℕ) (low : ℕ) → c < low → low ≤ x → (x == c) ≡ false
not-below x c low h l = ne_eqb x c (λ e. omega (arith, e, h, l))

no-space : (w : List ℕ) → list_all is_visible w ≡ true → All (λ x. (x == 32) ≡ false) w
no-space w h = All-from_recursion (λ x. (x == 32) ≡ false) w (without is_visible 32
    (λ x v. not-below x 32 33 (omega arith) (leb-true 33 x (and_parts (nat_le 33 x) (nat_le x 126) v).0)) w h)

no-newline : (w : List ℕ) → list_all is_printable w ≡ true → All (λ x. (x == 10) ≡ false) w
no-newline w h = All-from_recursion (λ x. (x == 10) ≡ false) w (without is_printable 10
    (λ x v. not-below x 10 32 (omega arith) (leb-true 32 x (and_parts (nat_le 32 x) (nat_le x 126) v).0)) w h)

no-comma : (n : ℕ) → n < 2 ^ 64 → All (λ x. (x == 44) ≡ false) (decimal n)
no-comma n small = All-from_recursion (λ x. (x == 44) ≡ false) (decimal n) (without is_ascii_digit 44
    (λ x v. not-below x 44 48 (omega arith) (leb-true 48 x (and_parts (nat_le 48 x) (nat_le x 57) v).0)) (decimal n) (decimal-all_digits n small))

-- ---- what is joined is cut again

pub split-joined : (c : ℕ) (w : List ℕ) (ws : List (List ℕ)) → (c == c) ≡ true → AllByRecursion (λ v. All (λ x. (x == c) ≡ false) v) (w ∷ ws) → slice_split (λ b. b == c) (join_with_byte c (w ∷ ws)) ≡ w ∷ ws
split-joined c w [] e a = slice_split_none (λ b. b == c) w a.0
split-joined c w (v ∷ ws) e a = slice_split_at (λ b. b == c) w c (join_with_byte c (v ∷ ws)) a.0 e ∙ ap (λ vs. w ∷ vs) (split-joined c v ws e a.1)

numbers-apart : (qs : List ℕ) → AllByRecursion (λ q. q < 2 ^ 64) qs → AllByRecursion (λ v. All (λ x. (x == 44) ≡ false) v) (map decimal qs)
numbers-apart [] a = tt
numbers-apart (q ∷ qs) a = (no-comma q a.0, numbers-apart qs a.1)

pub numbers-back : (qs : List ℕ) → 0 < length qs → AreQueues qs → slice_split (λ b. b == 44) (numbers_word qs) ≡ map decimal qs
numbers-back [] h a = absurd (omega (arith, h))
numbers-back (q ∷ qs) h a = split-joined 44 (decimal q) (map decimal qs) refl (numbers-apart (q ∷ qs) (numbers-small (q ∷ qs) a))

-- ---- a line of words that can be seen

words-apart : (ws : List (List ℕ)) → AllByRecursion IsSeen ws → AllByRecursion (λ v. All (λ x. (x == 32) ≡ false) v) ws
words-apart [] a = tt
words-apart (w ∷ ws) a = (no-space w a.0.visible, words-apart ws a.1)

visible-printable : (w : List ℕ) → list_all is_visible w ≡ true → list_all is_printable w ≡ true
visible-printable [] h = refl
visible-printable (x ∷ xs) h =
    let parts = and_parts (is_visible x) (list_all is_visible xs) h in
    let range = and_parts (nat_le 33 x) (nat_le x 126) parts.0 in
    let low : 33 ≤ x = leb-true 33 x range.0 in
    let more : nat_le 32 x ≡ true = le-leb 32 x (omega arith) in
    ap (λ b. (b && nat_le x 126) && list_all is_printable xs) more
    ∙ ap (λ b. b && list_all is_printable xs) range.1
    ∙ visible-printable xs parts.1

pub line-printable : (ws : List (List ℕ)) → AllByRecursion IsSeen ws → list_all is_printable (join_with_byte 32 ws) ≡ true
line-printable [] a = refl
line-printable (w ∷ []) a = visible-printable w a.0.visible
line-printable (w ∷ v ∷ ws) a =
    list_all-append is_printable w (32 ∷ join_with_byte 32 (v ∷ ws))
    ∙ ap (λ b. b && list_all is_printable (join_with_byte 32 (v ∷ ws))) (visible-printable w a.0.visible)
    ∙ line-printable (v ∷ ws) a.1

not-empty : (w : List ℕ) → 0 < length w → (length w == 0) ≡ false
not-empty w some = ne_eqb (length w) 0 (λ e. omega (arith, e))

words-spaced : (ws : List (List ℕ)) → AllByRecursion IsSeen ws → is_spaced ws ≡ true
words-spaced [] a = refl
words-spaced (w ∷ ws) a = ap (λ b. not b && is_spaced ws) (not-empty w a.0.some) ∙ words-spaced ws a.1

-- the first byte of a line of words is that of the first word
pub line-starts : (x : ℕ) (w : List ℕ) (ws : List (List ℕ)) → (x == 35) ≡ false → is_passed_over (join_with_byte 32 ((x ∷ w) ∷ ws)) ≡ false
line-starts x w [] h = h
line-starts x w (v ∷ ws) h = h

-- a line of words that can be seen is read by its words
pub line-read : (n : ℕ) (r : Reading) (x : ℕ) (w : List ℕ) (ws : List (List ℕ)) → (x == 35) ≡ false → AllByRecursion IsSeen ((x ∷ w) ∷ ws)
    → read_line n r (join_with_byte 32 ((x ∷ w) ∷ ws)) ≡ take_words n r ((x ∷ w) ∷ ws)
line-read n r x w ws h a =
    let line = join_with_byte 32 ((x ∷ w) ∷ ws) in
    let cut : words line ≡ (x ∷ w) ∷ ws = split-joined 32 (x ∷ w) ws refl (words-apart ((x ∷ w) ∷ ws) a) in
    ap (λ b. cond b (Ok r) (cond (not (list_all is_printable line) || not (is_spaced (words line))) (Err why.Word) (take_words n r (words line)))) (line-starts x w ws h)
    ∙ ap (λ b. cond (not b || not (is_spaced (words line))) (Err why.Word) (take_words n r (words line))) (line-printable ((x ∷ w) ∷ ws) a)
    ∙ ap (λ vs. cond (not (is_spaced vs)) (Err why.Word) (take_words n r vs)) cut
    ∙ ap (λ b. cond (not b) (Err why.Word) (take_words n r ((x ∷ w) ∷ ws))) (words-spaced ((x ∷ w) ∷ ws) a)

-- ---- the lines of a text

lines-apart : (ls : List (List ℕ)) → AllByRecursion (λ l. list_all is_printable l ≡ true) ls → AllByRecursion (λ v. All (λ x. (x == 10) ≡ false) v) ls
lines-apart [] a = tt
lines-apart (l ∷ ls) a = (no-newline l a.0, lines-apart ls a.1)

without-end : (xs : List ℕ) → without_last_newline (xs ++ 10 ∷ []) ≡ xs
without-end xs =
    let short : length (xs ++ 10 ∷ []) - 1 ≡ length xs = omega (arith, length-append xs (10 ∷ [])) in
    ap (λ n. cond (slice_index (xs ++ 10 ∷ []) n == 10) (take n (xs ++ 10 ∷ [])) (xs ++ 10 ∷ [])) short
    ∙ ap (λ n. cond (n == 10) (take (length xs) (xs ++ 10 ∷ [])) (xs ++ 10 ∷ [])) (get_or-append_seam xs 10 [] 0)
    ∙ take-append_seam xs (10 ∷ [])

cut-last : (xs : List ℕ) → script_lines (xs ++ 10 ∷ []) ≡ slice_split (λ c. c == 10) (without_last_newline (xs ++ 10 ∷ []))
cut-last [] = refl
cut-last (x ∷ xs) = refl

pub lines-back : (l : List ℕ) (ls : List (List ℕ)) → AllByRecursion (λ k. list_all is_printable k ≡ true) (l ∷ ls) → script_lines (join_with_byte 10 (l ∷ ls) ++ 10 ∷ []) ≡ l ∷ ls
lines-back l ls a =
    cut-last (join_with_byte 10 (l ∷ ls)) ∙ ap (slice_split (λ c. c == 10)) (without-end (join_with_byte 10 (l ∷ ls))) ∙ split-joined 10 l ls refl (lines-apart (l ∷ ls) a)
