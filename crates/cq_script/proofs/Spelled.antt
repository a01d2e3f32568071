-- What is spelled reads back.
use Rattle.std.proofs.Common.{◌≡◌, ℕ, ◌+◌, ◌-◌, ◌*◌, ◌<◌, ◌≤◌, Bool, true, false, not, cond, List, [], ◌∷◌, ◌++◌, refl, ap, ◌∙◌, sym, length, length-append, append-nil, append_assoc, take, map, arith, Result, Ok, Err, None, Some}
use Rattle.std.specs.Prelude.{◌==◌, ◌&&◌, ◌||◌, nat_le, nat_lt, codes, slice_index, All}
use Rattle.std.specs.List.{AllByRecursion, list_all, slice_split, flat_map}
use Rattle.std.proofs.lemmas.Bool.{leb-true, le-leb, and_parts, ne_eqb}
use Rattle.std.proofs.lemmas.Bool.Decides.{nat_tests}
use Rattle.std.proofs.lemmas.List.Splits.{slice_split_none, slice_split_at}
use Rattle.std.proofs.lemmas.List.Sums.{sum_by-append}
use Rattle.std.proofs.lemmas.List.Folds.{list_all-append}
use Rattle.std.proofs.lemmas.List.Elements.{All-from_recursion}
use Rattle.std.proofs.Math.Seq.{take-append_seam, get_or-append_seam}
use Rattle.cq_inbox.specs.declared.request.Request.{Request}
use Rattle.cq_inbox.specs.declared.request.Request.TheVariants.{Publish, Get, Ack, End}
use Rattle.cq_inbox.specs.Requests.{publishes}
use Rattle.cq_script.specs.declared.script.StepWord.{StepWord}
use Rattle.cq_script.specs.declared.script.Why.{Why}
use Rattle.cq_script.specs.declared.script.Why.TheVariants as why
use Rattle.cq_script.specs.declared.script.Script.{Script}
use Rattle.cq_script.specs.declared.script.ScriptError.{ScriptError}
use Rattle.cq_script.specs.declared.script.ScriptError.TheVariants as script_error
use Rattle.cq_script.specs.declared.reading.Reading.{Reading}
use Rattle.cq_bytes.specs.Texts.{is_text, is_visible}
use Rattle.cq_bytes.proofs.Texts.{text-parts}
use Rattle.cq_script.specs.Words.{gets, words, script_lines, without_last_newline, line_ends, is_printable, is_spaced}
use Rattle.cq_script.specs.Grammar.{after_step, take_steps, with_steps, read_body, read_line, at_line, take_words, take_lines, nothing_read, script_of}
use Rattle.cq_script.specs.Scripts.{ReadsScript, IsStep, crashes}
use Rattle.cq_script.specs.Spelling.{request_line, step_word, spaced_steps, schedule_lines, spelling, IsSpellable, AreSpellable, schedule_place, ReadsBack}
use Rattle.cq_script.proofs.StepWords.{step-visible, step-short, step-read}

-- ---- bytes that aren't in a text

without : (p : ℕ → Bool) (c : ℕ) → ((x : ℕ) → p x ≡ true → (x == c) ≡ false) → (w : List ℕ) → list_all p w ≡ true → AllByRecursion (λ x. (x == c) ≡ false) w
without p c f [] h = tt
without p c f (x ∷ xs) h = let parts = and_parts (p x) (list_all p xs) h in (f x parts.0, without p c f xs parts.1)

no-space : (w : List ℕ) → list_all is_visible w ≡ true → All (λ x. (x == 32) ≡ false) w
no-space w h = All-from_recursion (λ x. (x == 32) ≡ false) w (without is_visible 32
    (λ x v. let low : 33 ≤ x = leb-true 33 x (and_parts (nat_le 33 x) (nat_le x 126) v).0 in ne_eqb x 32 (λ e. omega (arith, e))) w h)

no-newline : (w : List ℕ) → list_all is_printable w ≡ true → All (λ x. (x == 10) ≡ false) w
no-newline w h = All-from_recursion (λ x. (x == 10) ≡ false) w (without is_printable 10
    (λ x v. let low : 32 ≤ x = leb-true 32 x (and_parts (nat_le 32 x) (nat_le x 126) v).0 in ne_eqb x 10 (λ e. omega (arith, e))) w h)

visible-printable : (w : List ℕ) → list_all is_visible w ≡ true → list_all is_printable w ≡ true
visible-printable [] h = refl
visible-printable (x ∷ xs) h =
    let parts = and_parts (is_visible x) (list_all is_visible xs) h in
    let range = and_parts (nat_le 33 x) (nat_le x 126) parts.0 in
    let low : 33 ≤ x = leb-true 33 x range.0 in
    let more : nat_le 32 x ≡ true = le-leb 32 x (omega arith) in
    ap (λ b. (b && nat_le x 126) && list_all is_printable xs) more
    ∙ ap (λ b. b && list_all is_printable xs) range.1
    ∙ visible-printable xs parts.1

-- ---- the lines of a text

abbrev lf : ℕ → Bool
lf c = c == 10

abbrev joined : List ℕ → List (List ℕ) → List ℕ
joined l [] = l
joined l (m ∷ ms) = l ++ 10 ∷ joined m ms

-- a text whose lines end with LF is the lines with LFs between, and LF
text-joined : (l : List ℕ) (ls : List (List ℕ)) → flat_map (λ k. k ++ 10 ∷ []) (l ∷ ls) ≡ joined l ls ++ 10 ∷ []
text-joined l [] = append-nil (l ++ 10 ∷ [])
text-joined l (m ∷ ms) =
    append_assoc l (10 ∷ []) (flat_map (λ k. k ++ 10 ∷ []) (m ∷ ms))
    ∙ ap (λ xs. l ++ 10 ∷ xs) (text-joined m ms)
    ∙ sym (append_assoc l (10 ∷ joined m ms) (10 ∷ []))

split-joined : (l : List ℕ) (ls : List (List ℕ)) → AllByRecursion (λ k. list_all is_printable k ≡ true) (l ∷ ls) → slice_split lf (joined l ls) ≡ l ∷ ls
split-joined l [] a = slice_split_none lf l (no-newline l a.0)
split-joined l (m ∷ ms) a = slice_split_at lf l 10 (joined m ms) (no-newline l a.0) refl ∙ ap (λ ks. l ∷ ks) (split-joined m ms a.1)

without-end : (xs : List ℕ) → without_last_newline (xs ++ 10 ∷ []) ≡ xs
without-end xs =
    let short : length (xs ++ 10 ∷ []) - 1 ≡ length xs = omega (arith, length-append xs (10 ∷ [])) in
    ap (λ n. cond (slice_index (xs ++ 10 ∷ []) n == 10) (take n (xs ++ 10 ∷ [])) (xs ++ 10 ∷ [])) short
    ∙ ap (λ n. cond (n == 10) (take (length xs) (xs ++ 10 ∷ [])) (xs ++ 10 ∷ [])) (get_or-append_seam xs 10 [] 0)
    ∙ take-append_seam xs (10 ∷ [])

cut-last : (xs : List ℕ) → script_lines (xs ++ 10 ∷ []) ≡ slice_split lf (without_last_newline (xs ++ 10 ∷ []))
cut-last [] = refl
cut-last (x ∷ xs) = refl

lines-back : (l : List ℕ) (ls : List (List ℕ)) → AllByRecursion (λ k. list_all is_printable k ≡ true) (l ∷ ls) → script_lines (flat_map (λ k. k ++ 10 ∷ []) (l ∷ ls)) ≡ l ∷ ls
lines-back l ls a =
    ap script_lines (text-joined l ls) ∙ cut-last (joined l ls) ∙ ap (slice_split lf) (without-end (joined l ls)) ∙ split-joined l ls a

-- ---- each line is printable

request-printable : (r : Request) → IsSpellable r → list_all is_printable (request_line r) ≡ true
request-printable (Publish queues body) s = visible-printable body (text-parts body s.1).2
request-printable (Get queue) s = refl
request-printable (Ack delivery) s = absurd s
request-printable End s = absurd s

spaced-printable : (steps : List StepWord) → AllByRecursion (IsStep 1) steps → list_all is_printable (spaced_steps steps) ≡ true
spaced-printable [] a = refl
spaced-printable (s ∷ ss) a =
    list_all-append is_printable (step_word s) (spaced_steps ss)
    ∙ ap (λ b. b && list_all is_printable (spaced_steps ss)) (visible-printable (step_word s) (step-visible s a.0))
    ∙ spaced-printable ss a.1

schedule-printable : (steps : List StepWord) → AllByRecursion (IsStep 1) steps → AllByRecursion (λ k. list_all is_printable k ≡ true) (schedule_lines steps)
schedule-printable [] a = tt
schedule-printable (s ∷ ss) a = (spaced-printable (s ∷ ss) a, tt)

lines-printable : (rs : List Request) (steps : List StepWord) → AllByRecursion IsSpellable rs → AllByRecursion (IsStep 1) steps
    → AllByRecursion (λ k. list_all is_printable k ≡ true) (map request_line rs ++ schedule_lines steps)
lines-printable [] steps a p = schedule-printable steps p
lines-printable (r ∷ rs) steps a p = (request-printable r a.0, lines-printable rs steps a.1 p)

-- ---- a spelled script isn't long

short-request : (r : Request) → IsSpellable r → length (request_line r ++ 10 ∷ []) ≤ 80
short-request (Publish queues body) s = omega (arith, length-append body (10 ∷ []), (text-parts body s.1).1)
short-request (Get queue) s = omega arith
short-request (Ack delivery) s = absurd s
short-request End s = absurd s

short-requests : (rs : List Request) (rest : List (List ℕ)) → AllByRecursion IsSpellable rs
    → length (flat_map (λ k. k ++ 10 ∷ []) (map request_line rs ++ rest)) ≤ 80 * length rs + length (flat_map (λ k. k ++ 10 ∷ []) rest)
short-requests [] rest a = omega arith
short-requests (r ∷ rs) rest a =
    omega (arith, length-append (request_line r ++ 10 ∷ []) (flat_map (λ k. k ++ 10 ∷ []) (map request_line rs ++ rest)), short-request r a.0, short-requests rs rest a.1)

short-spaced : (steps : List StepWord) → AllByRecursion (IsStep 1) steps → length (spaced_steps steps) ≤ 46 * length steps
short-spaced [] a = omega arith
short-spaced (s ∷ ss) a = omega (arith, length-append (step_word s) (spaced_steps ss), (step-short s a.0).1, short-spaced ss a.1)

short-schedule : (steps : List StepWord) → AllByRecursion (IsStep 1) steps → length (flat_map (λ k. k ++ 10 ∷ []) (schedule_lines steps)) ≤ 9 + 46 * length steps
short-schedule [] a = omega arith
short-schedule (s ∷ ss) a =
    let line : List ℕ = codes "schedule" ++ spaced_steps (s ∷ ss) in
    omega (arith, ap length (append-nil (line ++ 10 ∷ [])), length-append line (10 ∷ []), length-append (codes "schedule") (spaced_steps (s ∷ ss)), short-spaced (s ∷ ss) a)

publish-counts : (queues body : List ℕ) (rs : List Request) → (publishes (Publish queues body ∷ rs) ≡ 1 + publishes rs) × (gets (Publish queues body ∷ rs) ≡ 0 + gets rs)
publish-counts queues body rs = (sum_by-append _ (Publish queues body ∷ []) rs, sum_by-append _ (Publish queues body ∷ []) rs)

get-counts : (queue : ℕ) (rs : List Request) → (publishes (Get queue ∷ rs) ≡ 0 + publishes rs) × (gets (Get queue ∷ rs) ≡ 1 + gets rs)
get-counts queue rs = (sum_by-append _ (Get queue ∷ []) rs, sum_by-append _ (Get queue ∷ []) rs)

counted : (rs : List Request) → AllByRecursion IsSpellable rs → length rs ≤ publishes rs + gets rs
counted [] a = omega arith
counted (Publish queues body ∷ rs) a = let k = publish-counts queues body rs in omega (arith, counted rs a.1, k.0, k.1)
counted (Get queue ∷ rs) a = let k = get-counts queue rs in omega (arith, counted rs a.1, k.0, k.1)
counted (Ack delivery ∷ rs) a = absurd a.0
counted (End ∷ rs) a = absurd a.0

short : (rs : List Request) (steps : List StepWord) → AreSpellable rs steps → length (spelling rs steps) ≤ 1048576
short rs steps s =
    omega (
      arith,
      length-append (codes "client 0" ++ 10 ∷ []) (flat_map (λ k. k ++ 10 ∷ []) (map request_line rs ++ schedule_lines steps)),
      short-requests rs (schedule_lines steps) s.each,
      short-schedule steps s.steps_are,
      counted rs s.each,
      s.few_publishes,
      s.few_gets,
      s.few_steps,
    )

-- ---- each line is read as what it spells

-- what is read before the schedule
abbrev requested : List Request → Reading
requested rs = record { requests = rs; steps = []; started = true; scheduled = None }

le-false : (a b : ℕ) → b < a → nat_le a b ≡ false
le-false a b h = grind (arith, nat_tests)

lt-false : (a b : ℕ) → b ≤ a → nat_lt a b ≡ false
lt-false a b h = grind (arith, nat_tests)

not-empty : (t : List ℕ) → 1 ≤ length t → (length t == 0) ≡ false
not-empty t some = ne_eqb (length t) 0 (λ e. omega (arith, e))

get-read : (n : ℕ) (rs : List Request) → gets rs < 64 → read_line n (requested rs) (codes "get 0") ≡ Ok (requested (rs ++ Get 0 ∷ []))
get-read n rs few = ap (λ b. cond b (Err why.Many) (Ok (requested (rs ++ Get 0 ∷ [])))) (le-false 64 (gets rs) few)

-- the line of a publish, by what its last word gives
abbrev published-by : ℕ → List Request → Bool → List (List ℕ) → Result Reading Why
published-by n rs printable ws =
    cond (not printable || not (is_spaced (codes "publish" ∷ codes "0" ∷ codes "text" ∷ ws))) (Err why.Word)
    (take_words n (requested rs) (codes "publish" ∷ codes "0" ∷ codes "text" ∷ ws))

publish-read : (n : ℕ) (rs : List Request) (t : List ℕ) → is_text t ≡ true → publishes rs < 4096
    → read_line n (requested rs) (codes "publish 0 text " ++ t) ≡ Ok (requested (rs ++ Publish (0 ∷ []) t ∷ []))
publish-read n rs t h few =
    let parts = text-parts t h in
    ap (λ b. published-by n rs b (words t)) (visible-printable t parts.2)
    ∙ ap (λ ws. published-by n rs true ws) (slice_split_none (λ c. c == 32) t (no-space t parts.2))
    ∙ ap (λ b. cond (not (not b && true)) (Err why.Word) (read_body (requested rs) (cond (is_text t) (Some t) None))) (not-empty t parts.0)
    ∙ ap (λ b. read_body (requested rs) (cond b (Some t) None)) h
    ∙ ap (λ b. cond b (Err why.Many) (Ok (requested (rs ++ Publish (0 ∷ []) t ∷ [])))) (le-false 4096 (publishes rs) few)

-- ---- the requests

published-more : (before : List Request) (r : Request) → publishes (before ++ r ∷ []) ≡ publishes before + publishes (r ∷ [])
published-more before r = sum_by-append _ before (r ∷ [])

gets-more : (before : List Request) (r : Request) → gets (before ++ r ∷ []) ≡ gets before + gets (r ∷ [])
gets-more before r = sum_by-append _ before (r ∷ [])

requests-read : (rs before : List Request) (n : ℕ) (rest : List (List ℕ)) → AllByRecursion IsSpellable rs → publishes before + publishes rs ≤ 4096 → gets before + gets rs ≤ 64
    → take_lines n (Ok (requested before)) (map request_line rs ++ rest) ≡ take_lines (n + length rs) (Ok (requested (before ++ rs))) rest
requests-read [] before n rest a p g =
    let no_request : List Request = [] in
    let same : n ≡ n + length no_request = omega arith in
    ap (λ (xs : List Request). take_lines n (Ok (requested xs)) rest) (sym (append-nil before))
    ∙ ap (λ k. take_lines k (Ok (requested (before ++ []))) rest) same
requests-read (Publish queues body ∷ rs) before n rest a p g =
    let r : Request = Publish (0 ∷ []) body in
    let next : n + 1 + length rs ≡ n + length (Publish queues body ∷ rs) = omega arith in
    let k = publish-counts queues body rs in
    let one = publish-counts (0 ∷ []) body [] in
    let few : publishes before < 4096 = omega (arith, p, k.0) in
    let few_publishes : publishes (before ++ r ∷ []) + publishes rs ≤ 4096 = omega (arith, p, k.0, one.0, published-more before r) in
    let few_gets : gets (before ++ r ∷ []) + gets rs ≤ 64 = omega (arith, g, k.1, one.1, gets-more before r) in
    ap (λ read. take_lines (n + 1) (at_line n read) (map request_line rs ++ rest)) (publish-read n before body a.0.1 few)
    ∙ requests-read rs (before ++ r ∷ []) (n + 1) rest a.1 few_publishes few_gets
    ∙ ap (λ k. take_lines k (Ok (requested ((before ++ r ∷ []) ++ rs))) rest) next
    ∙ ap (λ (xs : List Request). take_lines (n + length (Publish queues body ∷ rs)) (Ok (requested xs)) rest) (append_assoc before (r ∷ []) rs)
    ∙ ap (λ (qs : List ℕ). take_lines (n + length (Publish queues body ∷ rs)) (Ok (requested (before ++ Publish qs body ∷ rs))) rest) (sym a.0.0)
requests-read (Get queue ∷ rs) before n rest a p g =
    let r : Request = Get 0 in
    let next : n + 1 + length rs ≡ n + length (Get queue ∷ rs) = omega arith in
    let k = get-counts queue rs in
    let one = get-counts 0 [] in
    let few : gets before < 64 = omega (arith, g, k.1) in
    let few_publishes : publishes (before ++ r ∷ []) + publishes rs ≤ 4096 = omega (arith, p, k.0, one.0, published-more before r) in
    let few_gets : gets (before ++ r ∷ []) + gets rs ≤ 64 = omega (arith, g, k.1, one.1, gets-more before r) in
    ap (λ read. take_lines (n + 1) (at_line n read) (map request_line rs ++ rest)) (get-read n before few)
    ∙ requests-read rs (before ++ r ∷ []) (n + 1) rest a.1 few_publishes few_gets
    ∙ ap (λ k. take_lines k (Ok (requested ((before ++ r ∷ []) ++ rs))) rest) next
    ∙ ap (λ (xs : List Request). take_lines (n + length (Get queue ∷ rs)) (Ok (requested xs)) rest) (append_assoc before (r ∷ []) rs)
    ∙ ap (λ (q : ℕ). take_lines (n + length (Get queue ∷ rs)) (Ok (requested (before ++ Get q ∷ rs))) rest) (sym a.0)
requests-read (Ack delivery ∷ rs) before n rest a p g = absurd a.0
requests-read (End ∷ rs) before n rest a p g = absurd a.0

-- ---- the schedule

spaced-words : (w : List ℕ) (steps : List StepWord) → All (λ x. (x == 32) ≡ false) w → AllByRecursion (IsStep 1) steps → words (w ++ spaced_steps steps) ≡ w ∷ map step_word steps
spaced-words w [] a p = ap words (append-nil w) ∙ slice_split_none (λ c. c == 32) w a
spaced-words w (s ∷ ss) a p =
    slice_split_at (λ c. c == 32) w 32 (step_word s ++ spaced_steps ss) a refl
    ∙ ap (λ ws. w ∷ ws) (spaced-words (step_word s) ss (no-space (step_word s) (step-visible s p.0)) p.1)

steps-spaced : (steps : List StepWord) → AllByRecursion (IsStep 1) steps → list_all (λ w. not (length w == 0)) (map step_word steps) ≡ true
steps-spaced [] a = refl
steps-spaced (s ∷ ss) a = ap (λ b. not b && list_all (λ w. not (length w == 0)) (map step_word ss)) (not-empty (step_word s) (step-short s a.0).0) ∙ steps-spaced ss a.1

steps-read : (steps before : List StepWord) → AllByRecursion (IsStep 1) steps → take_steps (Ok before) (map step_word steps) ≡ Ok (before ++ steps)
steps-read [] before a = ap Ok (sym (append-nil before))
steps-read (s ∷ ss) before a =
    ap (λ o. take_steps (after_step before o) (map step_word ss)) (step-read s a.0)
    ∙ steps-read ss (before ++ s ∷ []) a.1
    ∙ ap Ok (append_assoc before (s ∷ []) ss)

-- what is read at the end
abbrev all-read : List Request → List StepWord → Reading
all-read rs steps = record { requests = rs; steps = steps; started = true; scheduled = schedule_place rs steps }

-- the line of a schedule, by its words
abbrev scheduled-by : ℕ → List Request → Bool → List (List ℕ) → Result Reading Why
scheduled-by n rs printable ws = cond (not printable || not (is_spaced ws)) (Err why.Word) (take_words n (requested rs) ws)

schedule-read : (n : ℕ) (rs : List Request) (s : StepWord) (ss : List StepWord) → AllByRecursion (IsStep 1) (s ∷ ss) → length (s ∷ ss) ≤ 10000 → crashes (s ∷ ss) ≤ 1000
    → read_line n (requested rs) (codes "schedule" ++ spaced_steps (s ∷ ss)) ≡ Ok (record { requests = rs; steps = s ∷ ss; started = true; scheduled = Some n })
schedule-read n rs s ss a few few_crashes =
    let read : Reading = record { requests = rs; steps = s ∷ ss; started = true; scheduled = Some n } in
    ap (λ b. scheduled-by n rs b (words (codes "schedule" ++ spaced_steps (s ∷ ss)))) (spaced-printable (s ∷ ss) a)
    ∙ ap (λ ws. scheduled-by n rs true ws) (spaced-words (codes "schedule") (s ∷ ss) (no-space (codes "schedule") refl) a)
    ∙ ap (λ b. cond (not b) (Err why.Word) (with_steps n (requested rs) (take_steps (Ok []) (map step_word (s ∷ ss))))) (steps-spaced (s ∷ ss) a)
    ∙ ap (with_steps n (requested rs)) (steps-read (s ∷ ss) [] a)
    ∙ ap (λ b. cond (b || nat_lt 1000 (crashes (s ∷ ss))) (Err why.Many) (Ok read)) (lt-false 10000 (length (s ∷ ss)) few)
    ∙ ap (λ b. cond b (Err why.Many) (Ok read)) (lt-false 1000 (crashes (s ∷ ss)) few_crashes)

schedules-read : (n : ℕ) (rs : List Request) (steps : List StepWord) → AllByRecursion (IsStep 1) steps → length steps ≤ 10000 → crashes steps ≤ 1000 → n ≡ length rs + 2
    → take_lines n (Ok (requested rs)) (schedule_lines steps) ≡ Ok (all-read rs steps)
schedules-read n rs [] a few few_crashes e = refl
schedules-read n rs (s ∷ ss) a few few_crashes e =
    ap (at_line n) (schedule-read n rs s ss a few few_crashes) ∙ ap (λ k. Ok (record { requests = rs; steps = s ∷ ss; started = true; scheduled = Some k })) e

-- ---- the whole

spelled-read : (rs : List Request) (steps : List StepWord) → AreSpellable rs steps → script_of (spelling rs steps) ≡ Ok (all-read rs steps)
spelled-read rs steps s =
    let place : 2 + length rs ≡ length rs + 2 = omega arith in
    ap (λ b. cond b (Err (script_error.Bad (line_ends (take 1048576 (spelling rs steps)) + 1) why.Long)) (take_lines 1 (Ok nothing_read) (script_lines (spelling rs steps)))) (lt-false 1048576 (length (spelling rs steps)) (short rs steps s))
    ∙ ap (λ ls. take_lines 1 (Ok nothing_read) ls) (lines-back (codes "client 0") (map request_line rs ++ schedule_lines steps) (refl, lines-printable rs steps s.each s.steps_are))
    ∙ requests-read rs [] 2 (schedule_lines steps) s.each (omega (arith, s.few_publishes)) (omega (arith, s.few_gets))
    ∙ schedules-read (2 + length rs) rs steps s.steps_are s.few_steps s.few_crashes place

-- a reader that is exact reads a spelled script back
pub reads-back : (result : Result Script ScriptError) (bytes : List ℕ) (rs : List Request) (steps : List StepWord) → ReadsScript result (script_of bytes)
    → AreSpellable rs steps → bytes ≡ spelling rs steps → ReadsBack result rs steps
reads-back (Ok script) bytes rs steps (reading, read, is) s e =
    let said = spelled-read rs steps s in
    let same : reading ≡ all-read rs steps = cc (read, ap script_of e, said) in
    (is.streams_is ∙ ap (λ (r : Reading). r.requests ∷ []) same, is.steps_is ∙ ap (λ (r : Reading). r.steps) same, is.scheduled_is ∙ ap (λ (r : Reading). r.scheduled) same)
reads-back (Err script_error.Memory) bytes rs steps h s e = tt
reads-back (Err (script_error.Bad n w)) bytes rs steps h s e =
    let said = spelled-read rs steps s in
    absurd (let clash : Err (script_error.Bad n w) ≡ Ok (all-read rs steps) = sym h ∙ ap script_of e ∙ said in cc)
