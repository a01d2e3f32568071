-- The words of requests and steps are read as what they spell.
use Rattle.std.proofs.Common.{◌≡◌, ℕ, zero, suc, ◌+◌, ◌^◌, ◌<◌, ◌≤◌, Bool, true, false, not, cond, List, [], ◌∷◌, ◌++◌, refl, ap, ◌∙◌, sym, length, length-append, append-nil, append_assoc, take, drop, set, map, arith, Result, Ok, Err, None, Some}
use Rattle.std.specs.Prelude.{◌==◌, ◌&&◌, ◌||◌, nat_le, nat_lt, codes, Option, ok_or}
use Rattle.std.specs.List.{AllByRecursion, list_all, list_any, position_or_len}
use Rattle.std.specs.Option.{option_map}
use Rattle.std.specs.Result.{result_ok}
use Rattle.std.specs.Char.{is_ascii_digit}
use Rattle.std.specs.Fmt.{decimal}
use Rattle.std.proofs.lemmas.Bool.{leb-true, le-leb, and_parts, ne_eqb, eq-eqb, le-ltb, lt-ltb}
use Rattle.std.proofs.lemmas.Bool.Decides.{nat_tests}
use Rattle.std.proofs.lemmas.List.Sums.{sum_by-append}
use Rattle.std.proofs.Math.Seq.{take-append_seam, drop-append-add}
use Rattle.hex.specs.Hex.{decode_of, encode_lower, IsBytes}
use Rattle.hex.proofs.HexLemmas.{decode_of-encode_lower}
use Rattle.cq_bytes.specs.Numbers.{contains, AreQueues}
use Rattle.cq_inbox.specs.declared.request.Request.{Request}
use Rattle.cq_inbox.specs.declared.request.Request.TheVariants.{Publish, Get, Ack, End}
use Rattle.cq_grammar.specs.declared.script.StepWord.{StepWord}
use Rattle.cq_grammar.specs.declared.script.StepWord.TheVariants as step
use Rattle.cq_grammar.specs.declared.script.Halt.{Halt}
use Rattle.cq_grammar.specs.declared.script.Halt.TheVariants as halt
use Rattle.cq_grammar.specs.declared.script.Why.{Why}
use Rattle.cq_grammar.specs.declared.script.Why.TheVariants as why
use Rattle.cq_grammar.specs.declared.steps.Run.{Run}
use Rattle.cq_grammar.specs.declared.settings.Settings.{Settings}
use Rattle.cq_grammar.specs.declared.reading.Reading.{Reading}
use Rattle.cq_grammar.specs.Words.{number_of, halves, ◌>>=◌, map_ok, each}
use Rattle.cq_grammar.specs.Steps.{number_in, client_within, client_of, halt_of, step_within, plain_step_of, once, repeated_by, stop_by, crash_by, run_of, steps_of, crashes, too_many, with_run, with_runs, IsHalt, IsStep}
use Rattle.cq_grammar.specs.Requests.{number_on, queue_within, with_queue, with_queues, numbers_of, queues_of, short_enough, body_of, size_of, stream_size, whole_size, requests_of, with_request, IsServable}
use Rattle.cq_grammar.specs.Grammar.{clients_in, queues_in, threshold_in, number_within, add, take_words}
use Rattle.cq_grammar.specs.Spelling.{body_words, numbers_word, request_words, halt_word, step_word, HasBytes}
use Rattle.cq_grammar.proofs.Decimals.{decimal-all_digits, number-decimal}
use Rattle.cq_grammar.proofs.Spelled.{without, numbers-back, numbers-small}

-- ---- numbers

abbrev by-number : ℕ → Option ℕ → Result ℕ Why
by-number clients o = ok_or o why.Step >>= client_within clients

client-back : (clients c : ℕ) → c < clients → clients ≤ 64 → client_of clients (decimal c) ≡ Ok c
client-back clients c h few =
    ap (by-number clients) (number-decimal c (omega (arith, h, few))) ∙ ap (λ b. cond b (Ok c) (Err why.Client)) (lt-ltb c clients h)

number-back : (n : ℕ) → n < 2 ^ 64 → number_in (decimal n) ≡ Ok n
number-back n small = ap (λ o. ok_or o why.Step) (number-decimal n small)

pub number-on-back : (n : ℕ) → n < 2 ^ 64 → number_on (decimal n) ≡ Ok n
number-on-back n small = ap (λ o. ok_or o why.Number) (number-decimal n small)

pub within-back : (low high n : ℕ) → low ≤ n → n ≤ high → number_within low high n ≡ Ok n
within-back low high n l h =
    ap (λ b. cond (b && nat_le n high) (Ok n) (Err why.Number)) (le-leb low n l) ∙ ap (λ b. cond b (Ok n) (Err why.Number)) (le-leb n high h)

-- ---- the halves of a word

abbrev Lacks : ℕ → List ℕ → Type 0
Lacks c w = AllByRecursion (λ b. (b == c) ≡ false) w

first-none : (c : ℕ) (w : List ℕ) → Lacks c w → position_or_len (λ b. b == c) w ≡ length w
first-none c [] a = refl
first-none c (x ∷ xs) a =
    let one_more : 1 + length xs ≡ length (x ∷ xs) = omega arith in
    ap (λ b. cond (not b) (1 + position_or_len (λ b. b == c) xs) 0) a.0 ∙ ap (λ n. 1 + n) (first-none c xs a.1) ∙ one_more

first-at : (c : ℕ) (w rest : List ℕ) → Lacks c w → position_or_len (λ b. b == c) (w ++ c ∷ rest) ≡ length w
first-at c [] rest a = ap (λ b. cond (not b) (1 + position_or_len (λ b. b == c) rest) 0) (eq-eqb c c refl)
first-at c (x ∷ xs) rest a =
    let one_more : 1 + length xs ≡ length (x ∷ xs) = omega arith in
    ap (λ b. cond (not b) (1 + position_or_len (λ b. b == c) (xs ++ c ∷ rest)) 0) a.0 ∙ ap (λ n. 1 + n) (first-at c xs rest a.1) ∙ one_more

abbrev cut-at : List ℕ → ℕ → List ℕ × List ℕ
cut-at w place = (take place w, drop (place + 1) w)

halves-none : (c : ℕ) (w : List ℕ) → Lacks c w → halves c w ≡ None
halves-none c w a =
    ap (λ n. option_map (cut-at w) (cond (nat_lt n (length w)) (Some n) None)) (first-none c w a)
    ∙ ap (λ b. option_map (cut-at w) (cond b (Some (length w)) None)) (le-ltb (length w) (length w) (omega arith))

halves-at : (c : ℕ) (w rest : List ℕ) → Lacks c w → halves c (w ++ c ∷ rest) ≡ Some (w, rest)
halves-at c w rest a =
    let text = w ++ c ∷ rest in
    let near : length w < length text = omega (arith, length-append w (c ∷ rest)) in
    ap (λ n. option_map (cut-at text) (cond (nat_lt n (length text)) (Some n) None)) (first-at c w rest a)
    ∙ ap (λ b. option_map (cut-at text) (cond b (Some (length w)) None)) (lt-ltb (length w) (length text) near)
    ∙ ap (λ front. Some (front, drop (length w + 1) text)) (take-append_seam w (c ∷ rest))
    ∙ ap (λ back. Some (w, back)) (drop-append-add w (c ∷ rest) 1)

not-digit : (c x : ℕ) → ((48 ≤ x) → (x ≤ 57) → x ≡ c → ⊥) → is_ascii_digit x ≡ true → (x == c) ≡ false
not-digit c x f d = let p = and_parts (nat_le 48 x) (nat_le x 57) d in ne_eqb x c (f (leb-true 48 x p.0) (leb-true x 57 p.1))

lacks-star : (n : ℕ) → n < 2 ^ 64 → Lacks 42 (decimal n)
lacks-star n small = without is_ascii_digit 42 (λ x. not-digit 42 x (λ l h e. omega (arith, l, e))) (decimal n) (decimal-all_digits n small)

lacks-slash : (n : ℕ) → n < 2 ^ 64 → Lacks 47 (decimal n)
lacks-slash n small = without is_ascii_digit 47 (λ x. not-digit 47 x (λ l h e. omega (arith, l, e))) (decimal n) (decimal-all_digits n small)

lacks-colon : (n : ℕ) → n < 2 ^ 64 → Lacks 58 (decimal n)
lacks-colon n small = without is_ascii_digit 58 (λ x. not-digit 58 x (λ l h e. omega (arith, h, e))) (decimal n) (decimal-all_digits n small)

-- ---- the words of steps

halt-back : (clients : ℕ) (t : Halt) → clients ≤ 64 → IsHalt clients t → halt_of clients (halt_word t) ≡ Ok t
halt-back clients (halt.Turn c) few a = ap (map_ok halt.Turn) (client-back clients c a few)
halt-back clients halt.Write few a = refl
halt-back clients halt.Shift few a = refl

abbrev plainly : ℕ → List ℕ → Option (List ℕ × List ℕ) → Result Run Why
plainly clients w o = repeated_by clients w o

step-back : (clients : ℕ) (s : StepWord) → clients ≤ 64 → IsStep clients s → run_of clients (step_word s) ≡ Ok (once s)
step-back clients (step.Client c) few a =
    let word : List ℕ = 99 ∷ decimal c in
    ap (plainly clients word) (halves-none 42 word (refl, lacks-star c (omega (arith, a, few))))
    ∙ ap (λ r. map_ok once (map_ok step.Client r)) (client-back clients c a few)
step-back clients (step.Turn c) few a =
    let word : List ℕ = 116 ∷ decimal c in
    ap (plainly clients word) (halves-none 42 word (refl, lacks-star c (omega (arith, a, few))))
    ∙ ap (λ r. map_ok once (map_ok step_within (map_ok halt.Turn r))) (client-back clients c a few)
step-back clients step.Write few a = refl
step-back clients step.Shift few a = refl
step-back clients (step.Crash image) few a =
    ap (λ o. map_ok once (crash_by clients (decimal image) o)) (halves-none 47 (decimal image) (lacks-slash image a))
    ∙ ap (λ r. map_ok once (map_ok step.Crash r)) (number-back image a)
step-back clients (step.Stop image calls t) few a =
    let rest = decimal calls ++ 58 ∷ halt_word t in
    ap (λ o. map_ok once (crash_by clients (decimal image ++ 47 ∷ rest) o)) (halves-at 47 (decimal image) rest (lacks-slash image a.0))
    ∙ ap (λ r. map_ok once (r >>= λ n. stop_by clients n (halves 58 rest))) (number-back image a.0)
    ∙ ap (λ o. map_ok once (stop_by clients image o)) (halves-at 58 (decimal calls) (halt_word t) (lacks-colon calls a.1))
    ∙ ap (λ r. map_ok once (r >>= λ n. (halt_of clients (halt_word t) >>= λ h. Ok (step.Stop image n h)))) (number-back calls a.1)
    ∙ ap (λ r. map_ok once (r >>= λ h. Ok (step.Stop image calls h))) (halt-back clients t few a.2)

pub steps-back : (clients : ℕ) (ss : List StepWord) → clients ≤ 64 → AllByRecursion (IsStep clients) ss → each (run_of clients) (map step_word ss) ≡ Ok (map once ss)
steps-back clients [] few a = refl
steps-back clients (s ∷ ss) few a =
    ap (λ r. r >>= λ y. (each (run_of clients) (map step_word ss) >>= λ ys. Ok (y ∷ ys))) (step-back clients s few a.0)
    ∙ ap (λ r. r >>= λ ys. Ok (once s ∷ ys)) (steps-back clients ss few a.1)

lt-false : (a b : ℕ) → b ≤ a → nat_lt a b ≡ false
lt-false a b h = grind (arith, nat_tests)

le-false : (a b : ℕ) → b < a → nat_le a b ≡ false
le-false a b h = grind (arith, nat_tests)

crashes-more : (xs ys : List StepWord) → crashes (xs ++ ys) ≡ crashes xs + crashes ys
crashes-more xs ys = sum_by-append _ xs ys

pub runs-back : (before ss : List StepWord) → length (before ++ ss) ≤ 1000000 → crashes (before ++ ss) ≤ 1000 → with_runs before (map once ss) ≡ Ok (before ++ ss)
runs-back before [] few few_crashes = ap Ok (sym (append-nil before))
runs-back before (s ∷ ss) few few_crashes =
    let next = before ++ s ∷ [] in
    let same : next ++ ss ≡ before ++ s ∷ ss = append_assoc before (s ∷ []) ss in
    let short : length next ≤ 1000000 = omega (arith, few, ap length same, length-append next ss) in
    let calm : crashes next ≤ 1000 = omega (arith, few_crashes, ap crashes same, crashes-more next ss) in
    ap (λ b. cond (b || nat_lt 1000 (crashes next)) (Err why.Many) (Ok next) >>= λ more. with_runs more (map once ss)) (lt-false 1000000 (length next) short)
    ∙ ap (λ b. cond b (Err why.Many) (Ok next) >>= λ more. with_runs more (map once ss)) (lt-false 1000 (crashes next) calm)
    ∙ runs-back next ss (omega (arith, few, ap length same)) (omega (arith, few_crashes, ap crashes same))
    ∙ ap Ok same

-- ---- the words of requests

numbers-read : (qs : List ℕ) → AllByRecursion (λ q. q < 2 ^ 64) qs → each number_on (map decimal qs) ≡ Ok qs
numbers-read [] a = refl
numbers-read (q ∷ qs) a =
    ap (λ r. r >>= λ y. (each number_on (map decimal qs) >>= λ ys. Ok (y ∷ ys))) (number-on-back q a.0)
    ∙ ap (λ r. r >>= λ ys. Ok (q ∷ ys)) (numbers-read qs a.1)

queue-back : (q : ℕ) → q < 256 → queue_within 256 q ≡ Ok q
queue-back q h = ap (λ b. cond b (Ok q) (Err why.Queue)) (lt-ltb q 256 h)

-- the queues that are left don't stand among those before
abbrev Apart : List ℕ → List ℕ → Type 0
Apart before qs = AllByRecursion (λ q. contains before q ≡ false) qs

contains-more : (xs : List ℕ) (y q : ℕ) → contains xs q ≡ false → (y == q) ≡ false → contains (xs ++ y ∷ []) q ≡ false
contains-more [] y q h e = ap (λ b. b || false) e
contains-more (x ∷ xs) y q h e = neither-more (x == q) (contains xs q) h (contains-more xs y q)
  where
    neither-more : (a b : Bool) → (a || b) ≡ false → (b ≡ false → (y == q) ≡ false → contains (xs ++ y ∷ []) q ≡ false) → (a || contains (xs ++ y ∷ []) q) ≡ false
    neither-more false false h k = k refl e
    neither-more false true h k = cc
    neither-more true b h k = cc

swapped : (x y : ℕ) → (x == y) ≡ false → (y == x) ≡ false
swapped x y h = ne_eqb y x (λ e. differ (eq-eqb x y (sym e)))
  where
    differ : (x == y) ≡ true → ⊥
    differ t = absurd (cc (h, t))

either : (a b : Bool) → (a || b) ≡ false → (a ≡ false) × (b ≡ false)
either false false h = (refl, refl)
either false true h = cc
either true b h = cc

apart-more : (before qs : List ℕ) (y : ℕ) → Apart before qs → contains qs y ≡ false → Apart (before ++ y ∷ []) qs
apart-more before [] y a h = tt
apart-more before (q ∷ qs) y a h =
    let p = either (q == y) (contains qs y) h in
    (contains-more before y q a.0 (swapped q y p.0), apart-more before qs y a.1 p.1)

queues-back : (before qs : List ℕ) → AreQueues qs → Apart before qs → with_queues 256 before qs ≡ Ok (before ++ qs)
queues-back before [] a p = ap Ok (sym (append-nil before))
queues-back before (q ∷ qs) a p =
    let next = before ++ q ∷ [] in
    ap (λ r. (r >>= λ new. cond (nat_lt new 256 && not (contains before new)) (Ok (before ++ new ∷ [])) (Err why.Queue)) >>= λ more. with_queues 256 more qs) (queue-back q a.0)
    ∙ ap (λ b. cond (b && not (contains before q)) (Ok next) (Err why.Queue) >>= λ more. with_queues 256 more qs) (lt-ltb q 256 a.0)
    ∙ ap (λ b. cond (not b) (Ok next) (Err why.Queue) >>= λ more. with_queues 256 more qs) p.0
    ∙ queues-back next qs a.2 (apart-more before qs q p.1 a.1)
    ∙ ap Ok (append_assoc before (q ∷ []) qs)

none-before : (qs : List ℕ) → Apart [] qs
none-before [] = tt
none-before (q ∷ qs) = (refl, none-before qs)

word-back : (qs : List ℕ) → 0 < length qs → AreQueues qs → queues_of 256 (numbers_word qs) ≡ Ok qs
word-back qs some a =
    ap (λ ps. each number_on ps >>= with_queues 256 []) (numbers-back qs some a)
    ∙ ap (λ r. r >>= with_queues 256 []) (numbers-read qs (numbers-small qs a))
    ∙ queues-back [] qs a (none-before qs)

short-back : (threshold : ℕ) (body : List ℕ) → threshold ≤ 65536 → length body < threshold → short_enough threshold (Some body) ≡ Ok body
short-back threshold body few short =
    ap (λ b. cond (b && nat_lt (length body) threshold) (Ok body) (Err why.Body)) (le-leb (length body) 1048576 (omega (arith, few, short)))
    ∙ ap (λ b. cond b (Ok body) (Err why.Body)) (lt-ltb (length body) threshold short)

body-back : (threshold : ℕ) (body : List ℕ) → threshold ≤ 65536 → length body < threshold → IsBytes body → body_of threshold (body_words body) ≡ Ok body
body-back threshold [] few short h = short-back threshold [] few short
body-back threshold (b ∷ bytes) few short h =
    ap (λ r. short_enough threshold (result_ok r)) (decode_of-encode_lower (b ∷ bytes) h) ∙ short-back threshold (b ∷ bytes) few short

-- what is read before the schedule: the numbers, the client, and all requests
abbrev pub asked : Settings → ℕ → List (List Request) → Reading
asked s c streams = record { settings = s; client = Some c; streams = streams; steps = []; scheduled = None }

published : (n : ℕ) (s : Settings) (c : ℕ) (streams : List (List Request)) (queues body kind : List ℕ) (more : List (List ℕ)) → queues_in s ≡ 256 → 0 < length queues → AreQueues queues → body_of (threshold_in s) (kind ∷ more) ≡ Ok body
    → take_words n (asked s c streams) (codes "publish" ∷ numbers_word queues ∷ kind ∷ more) ≡ add (asked s c streams) c (Publish queues body)
published n s c streams queues body kind more wide some a read =
    ap (λ k. queues_of k (numbers_word queues) >>= λ qs. (body_of (threshold_in s) (kind ∷ more) >>= λ b. add (asked s c streams) c (Publish qs b))) wide
    ∙ ap (λ r. r >>= λ qs. (body_of (threshold_in s) (kind ∷ more) >>= λ b. add (asked s c streams) c (Publish qs b))) (word-back queues some a)
    ∙ ap (λ r. r >>= λ b. add (asked s c streams) c (Publish queues b)) read

-- the words of a request are read as that request
pub request-back : (n : ℕ) (s : Settings) (c : ℕ) (streams : List (List Request)) (r : Request) → queues_in s ≡ 256 → threshold_in s ≤ 65536 → IsServable (threshold_in s) r → HasBytes r
    → take_words n (asked s c streams) (request_words r) ≡ add (asked s c streams) c r
request-back n s c streams (Publish queues []) wide few a h = published n s c streams queues [] (codes "empty") [] wide a.0 a.1 (body-back (threshold_in s) [] few a.2 h)
request-back n s c streams (Publish queues (b ∷ bytes)) wide few a h = published n s c streams queues (b ∷ bytes) (codes "hex") (encode_lower (b ∷ bytes) ∷ []) wide a.0 a.1 (body-back (threshold_in s) (b ∷ bytes) few a.2 h)
request-back n s c streams (Get queue) wide few a h =
    ap (λ r. r >>= λ k. (queue_within (queues_in s) k >>= λ q. add (asked s c streams) c (Get q))) (number-on-back queue (omega (arith, a)))
    ∙ ap (λ k. queue_within k queue >>= λ q. add (asked s c streams) c (Get q)) wide
    ∙ ap (λ r. r >>= λ q. add (asked s c streams) c (Get q)) (queue-back queue a)
request-back n s c streams (Ack delivery) wide few a h =
    ap (λ r. r >>= λ k. (number_within 0 4294967295 k >>= λ d. add (asked s c streams) c (Ack d))) (number-on-back delivery (omega (arith, a)))
    ∙ ap (λ r. r >>= λ d. add (asked s c streams) c (Ack d)) (within-back 0 4294967295 delivery (omega arith) (omega (arith, a)))
request-back n s c streams End wide few a h = refl
