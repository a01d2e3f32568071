-- A spelled script is read back.
use Rattle.std.proofs.Common.{◌≡◌, ℕ, zero, suc, ◌+◌, ◌-◌, ◌^◌, ◌<◌, ◌≤◌, Bool, true, false, not, cond, List, [], ◌∷◌, ◌++◌, refl, ap, ◌∙◌, sym, subst, length, length-append, append-nil, append_assoc, take, set, map, replicate, arith, Result, Ok, Err, None, Some, Option}
use Rattle.std.specs.Prelude.{◌||◌, nat_le, nat_lt, codes, slice_index_or}
use Rattle.std.specs.List.{AllByRecursion, list_all, join_with_byte}
use Rattle.std.specs.Fmt.{decimal}
use Rattle.std.proofs.lemmas.Bool.{lt-ltb}
use Rattle.std.proofs.lemmas.Bool.Decides.{nat_tests}
use Rattle.std.proofs.lemmas.List.{replicate-append-replicate}
use Rattle.std.proofs.lemmas.List.Sums.{sum_by-append}
use Rattle.std.proofs.Math.Seq.{take-append_seam, get_or-append_seam}
use Rattle.cq_inbox.specs.declared.request.Request.{Request}
use Rattle.cq_inbox.specs.declared.request.Request.TheVariants.{Publish, Get, Ack, End}
use Rattle.cq_bytes.specs.Texts.{is_visible}
use Rattle.cq_inbox.specs.Config.{IsInRange, clients_of, segment_of, threshold_of, limit_of}
use Rattle.cq_grammar.specs.declared.script.StepWord.{StepWord}
use Rattle.cq_grammar.specs.declared.script.Why.{Why}
use Rattle.cq_grammar.specs.declared.script.Why.TheVariants as why
use Rattle.cq_grammar.specs.declared.script.Script.{Script}
use Rattle.cq_grammar.specs.declared.script.ScriptError.{ScriptError}
use Rattle.cq_grammar.specs.declared.script.ScriptError.TheVariants as script_error
use Rattle.cq_grammar.specs.declared.settings.Settings.{Settings}
use Rattle.cq_grammar.specs.declared.reading.Reading.{Reading}
use Rattle.cq_grammar.specs.Words.{◌>>=◌, each, line_ends, is_printable, script_lines}
use Rattle.cq_grammar.specs.Steps.{client_within, run_of, with_runs, crashes, IsStep}
use Rattle.cq_grammar.specs.Requests.{number_on, size_of, stream_size, whole_size, requests_of, with_request, IsServable}
use Rattle.cq_grammar.specs.Grammar.{no_settings, clients_in, queues_in, threshold_in, number_within, setting_of, add, take_words, with_schedule, read_line, at_line, read_lines, nothing_read, script_of}
use Rattle.cq_grammar.specs.Scripts.{ReadsScript, IsScript}
use Rattle.cq_grammar.specs.Spelling.{body_words, numbers_word, request_words, step_word, setting_lines, client_lines, schedule_lines, spelled_lines, spelling, HasBytes, IsSpellable, schedule_place, IsReadBack, ReadsBack}
use Rattle.cq_grammar.proofs.Servable.{all-append}
use Rattle.cq_grammar.proofs.Fits.{cons-size}
use Rattle.cq_grammar.proofs.Spelled.{IsSeen, number-seen, request-seen, steps-seen, line-read, line-printable, lines-back}
use Rattle.cq_grammar.proofs.Reread.{asked, number-on-back, within-back, request-back, steps-back, runs-back}

abbrev line : List (List ℕ) → List ℕ
line ws = join_with_byte 32 ws

lt-false : (a b : ℕ) → b ≤ a → nat_lt a b ≡ false
lt-false a b h = grind (arith, nat_tests)

le-false : (a b : ℕ) → b < a → nat_le a b ≡ false
le-false a b h = grind (arith, nat_tests)

next-line : (n : ℕ) (r s : Reading) (l : List ℕ) (ls : List (List ℕ)) → read_line n r l ≡ Ok s → read_lines n r (l ∷ ls) ≡ read_lines (n + 1) s ls
next-line n r s l ls h = ap (λ read. at_line n read >>= λ more. read_lines (n + 1) more ls) h

-- ---- one more request of the client whose lines are read

at-seam : (done later : List (List Request)) (cur : List Request) → requests_of (done ++ cur ∷ later) (length done) ≡ cur
at-seam done later cur = get_or-append_seam done cur later []

set-seam : (done later : List (List Request)) (cur new : List Request) → set (done ++ cur ∷ later) (length done) new ≡ done ++ new ∷ later
set-seam [] later cur new = refl
set-seam (d ∷ ds) later cur new = ap (λ xs. d ∷ xs) (set-seam ds later cur new)

size-seam : (done later : List (List Request)) (cur : List Request) → whole_size (done ++ cur ∷ later) ≡ whole_size done + (stream_size cur + whole_size later)
size-seam done later cur = omega (arith, sum_by-append stream_size done (cur ∷ later), cons-size cur later)

one-size : (q : Request) → stream_size (q ∷ []) ≡ size_of q
one-size q = omega arith

size-more : (done later : List (List Request)) (cur : List Request) (q : Request) → whole_size (done ++ (cur ++ q ∷ []) ∷ later) ≡ whole_size (done ++ cur ∷ later) + size_of q
size-more done later cur q = omega (arith, size-seam done later cur, size-seam done later (cur ++ q ∷ []), sum_by-append size_of cur (q ∷ []), one-size q)

add-back : (s : Settings) (done later : List (List Request)) (cur : List Request) (q : Request) → length cur < 100000 → whole_size (done ++ cur ∷ later) + size_of q ≤ 268435456
    → add (asked s (length done) (done ++ cur ∷ later)) (length done) q ≡ Ok (asked s (length done) (done ++ (cur ++ q ∷ []) ∷ later))
add-back s done later cur q few small =
    let c = length done in
    let ss = done ++ cur ∷ later in
    ap (λ (xs : List Request). cond (nat_le 100000 (length xs)) (Err why.Many) (cond (nat_lt 268435456 (whole_size ss + size_of q)) (Err why.Large) (Ok (set ss c (xs ++ q ∷ [])))) >>= λ more. Ok (asked s c more)) (at-seam done later cur)
    ∙ ap (λ b. cond b (Err why.Many) (cond (nat_lt 268435456 (whole_size ss + size_of q)) (Err why.Large) (Ok (set ss c (cur ++ q ∷ [])))) >>= λ more. Ok (asked s c more)) (le-false 100000 (length cur) few)
    ∙ ap (λ b. cond b (Err why.Large) (Ok (set ss c (cur ++ q ∷ []))) >>= λ more. Ok (asked s c more)) (lt-false 268435456 (whole_size ss + size_of q) small)
    ∙ ap (λ more. Ok (asked s c more)) (set-seam done later cur (cur ++ q ∷ []))

request-read : (n : ℕ) (s : Settings) (c : ℕ) (streams : List (List Request)) (r : Request) → AllByRecursion IsSeen (request_words r) → read_line n (asked s c streams) (line (request_words r)) ≡ take_words n (asked s c streams) (request_words r)
request-read n s c streams (Publish queues body) a = line-read n (asked s c streams) 112 (codes "ublish") (numbers_word queues ∷ body_words body) refl a
request-read n s c streams (Get queue) a = line-read n (asked s c streams) 103 (codes "et") (decimal queue ∷ []) refl a
request-read n s c streams (Ack delivery) a = line-read n (asked s c streams) 97 (codes "ck") (decimal delivery ∷ []) refl a
request-read n s c streams End a = line-read n (asked s c streams) 101 (codes "nd") [] refl a

requests-read : (s : Settings) (done later : List (List Request)) (cur rs : List Request) (n : ℕ) (rest : List (List (List ℕ))) → queues_in s ≡ 256 → threshold_in s ≤ 65536
    → AllByRecursion (IsServable (threshold_in s)) rs → AllByRecursion HasBytes rs → length cur + length rs ≤ 100000 → whole_size (done ++ cur ∷ later) + stream_size rs ≤ 268435456
    → read_lines n (asked s (length done) (done ++ cur ∷ later)) (map line (map request_words rs ++ rest)) ≡ read_lines (n + length rs) (asked s (length done) (done ++ (cur ++ rs) ∷ later)) (map line rest)
requests-read s done later cur [] n rest wide few a b short small =
    let none : List Request = [] in
    let same : n ≡ n + length none = omega arith in
    ap (λ (xs : List Request). read_lines n (asked s (length done) (done ++ xs ∷ later)) (map line rest)) (sym (append-nil cur))
    ∙ ap (λ k. read_lines k (asked s (length done) (done ++ (cur ++ []) ∷ later)) (map line rest)) same
requests-read s done later cur (r ∷ rs) n rest wide few a b short small =
    let ss = done ++ cur ∷ later in
    let next : n + 1 + length rs ≡ n + length (r ∷ rs) = omega arith in
    let sizes : stream_size (r ∷ rs) ≡ size_of r + stream_size rs = omega (arith, sum_by-append size_of (r ∷ []) rs, one-size r) in
    let read = request-read n s (length done) ss r (request-seen (threshold_in s) r a.0 b.0) ∙ request-back n s (length done) ss r wide few a.0 b.0 ∙ add-back s done later cur r (omega (arith, short)) (omega (arith, small, sizes)) in
    next-line n (asked s (length done) ss) (asked s (length done) (done ++ (cur ++ r ∷ []) ∷ later)) (line (request_words r)) (map line (map request_words rs ++ rest)) read
    ∙ requests-read s done later (cur ++ r ∷ []) rs (n + 1) rest wide few a.1 b.1 (omega (arith, short, length-append cur (r ∷ []))) (omega (arith, small, sizes, size-more done later cur r))
    ∙ ap (λ k. read_lines k (asked s (length done) (done ++ ((cur ++ r ∷ []) ++ rs) ∷ later)) (map line rest)) next
    ∙ ap (λ (xs : List Request). read_lines (n + length (r ∷ rs)) (asked s (length done) (done ++ xs ∷ later)) (map line rest)) (append_assoc cur (r ∷ []) rs)

-- ---- all clients

-- what is read before the schedule
abbrev before : Settings → Option ℕ → List (List Request) → Reading
before s o streams = record { settings = s; client = o; streams = streams; steps = []; scheduled = None }

abbrev last-of : Option ℕ → ℕ → List (List Request) → Option ℕ
last-of o c [] = o
last-of o c (requests ∷ streams) = last-of (Some c) (c + 1) streams

abbrev none-of : List (List Request) → List (List Request)
none-of streams = map (λ (x : List Request). []) streams

client-read : (n : ℕ) (s : Settings) (o : Option ℕ) (c : ℕ) (streams : List (List Request)) → c < clients_in s → clients_in s ≤ 64 → read_line n (before s o streams) (line (codes "client" ∷ decimal c ∷ [])) ≡ Ok (asked s c streams)
client-read n s o c streams near few =
    let small : c < 2 ^ 64 = omega (arith, near, few) in
    line-read n (before s o streams) 99 (codes "lient") (decimal c ∷ []) refl (record { visible = refl; some = omega arith }, (number-seen c small, tt))
    ∙ ap (λ r. r >>= λ k. (client_within (clients_in s) k >>= λ d. Ok (asked s d streams))) (number-on-back c small)
    ∙ ap (λ b. cond b (Ok c) (Err why.Client) >>= λ d. Ok (asked s d streams)) (lt-ltb c (clients_in s) near)

none-size : (streams : List (List Request)) (k : ℕ) → whole_size (none-of streams ++ replicate k []) ≡ 0
none-size [] zero = refl
none-size [] (suc k) = omega (arith, cons-size [] (replicate k []), none-size [] k)
none-size (x ∷ xs) k = omega (arith, cons-size [] (none-of xs ++ replicate k []), none-size xs k)

length-map-words : (xs : List Request) → length (map request_words xs) ≡ length xs
length-map-words [] = refl
length-map-words (x ∷ xs) = let e = length-map-words xs in omega (arith, e)

clients-read : (s : Settings) (done streams : List (List Request)) (k : ℕ) (o : Option ℕ) (n : ℕ) (rest : List (List (List ℕ))) → queues_in s ≡ 256 → threshold_in s ≤ 65536 → clients_in s ≤ 64 → length done + length streams ≤ clients_in s
    → AllByRecursion (λ requests. AllByRecursion (IsServable (threshold_in s)) requests) streams → AllByRecursion (λ requests. AllByRecursion HasBytes requests) streams
    → AllByRecursion (λ (requests : List Request). length requests ≤ 100000) streams → whole_size done + whole_size streams ≤ 268435456
    → read_lines n (before s o (done ++ (none-of streams ++ replicate k []))) (map line (client_lines (length done) streams ++ rest))
    ≡ read_lines (n + length (client_lines (length done) streams)) (before s (last-of o (length done) streams) (done ++ (streams ++ replicate k []))) (map line rest)
clients-read s done [] k o n rest wide few less fit a b short small =
    let same : n ≡ n + 0 = omega arith in
    ap (λ m. read_lines m (before s o (done ++ replicate k [])) (map line rest)) same
clients-read s done (rs ∷ streams) k o n rest wide few less fit a b short small =
    let c = length done in
    let later = none-of streams ++ replicate k [] in
    let next = done ++ rs ∷ [] in
    let on : length next ≡ c + 1 = omega (arith, length-append done (rs ∷ [])) in
    let more = client_lines (c + 1) streams in
    let first : whole_size (done ++ [] ∷ later) + stream_size rs ≤ 268435456 = omega (arith, small, cons-size rs streams, size-seam done later [], none-size streams k) in
    let grown : whole_size next ≡ whole_size done + stream_size rs = omega (arith, size-seam done [] rs) in
    let place : n + 1 + length rs + length more ≡ n + length (client_lines c (rs ∷ streams)) = omega (arith, length-append (map request_words rs) more, length-map-words rs) in
    next-line n (before s o (done ++ [] ∷ later)) (asked s c (done ++ [] ∷ later)) (line (codes "client" ∷ decimal c ∷ [])) (map line ((map request_words rs ++ more) ++ rest)) (client-read n s o c (done ++ [] ∷ later) (omega (arith, fit)) less)
    ∙ ap (λ ls. read_lines (n + 1) (asked s c (done ++ [] ∷ later)) (map line ls)) (append_assoc (map request_words rs) more rest)
    ∙ requests-read s done later [] rs (n + 1) (more ++ rest) wide few a.0 b.0 (omega (arith, short.0)) first
    ∙ ap (λ ss. read_lines (n + 1 + length rs) (asked s c ss) (map line (more ++ rest))) (sym (append_assoc done (rs ∷ []) later))
    ∙ ap (λ d. read_lines (n + 1 + length rs) (before s (Some c) (next ++ later)) (map line (client_lines d streams ++ rest))) (sym on)
    ∙ clients-read s next streams k (Some c) (n + 1 + length rs) rest wide few less (omega (arith, fit, on)) a.1 b.1 short.1 (omega (arith, small, grown, cons-size rs streams))
    ∙ ap (λ d. read_lines (n + 1 + length rs + length (client_lines d streams)) (before s (last-of (Some c) d streams) (next ++ (streams ++ replicate k []))) (map line rest)) on
    ∙ ap (λ m. read_lines m (before s (last-of (Some c) (c + 1) streams) (next ++ (streams ++ replicate k []))) (map line rest)) place
    ∙ ap (λ ss. read_lines (n + length (client_lines c (rs ∷ streams))) (before s (last-of (Some c) (c + 1) streams) ss) (map line rest)) (append_assoc done (rs ∷ []) (streams ++ replicate k []))

-- ---- the numbers

-- the numbers that five lines set
abbrev set-to : ℕ → ℕ → ℕ → ℕ → Settings
set-to c g t l = record { clients = Some c; queues = Some 256; segment = Some g; threshold = Some t; limit = Some l }

setting-back : (low high n : ℕ) → low ≤ n → n ≤ high → n < 2 ^ 64 → setting_of false None low high (decimal n ∷ []) ≡ Ok n
setting-back low high n l h small = ap (λ r. r >>= number_within low high) (number-on-back n small) ∙ within-back low high n l h

two-seen : (w : List ℕ) (n : ℕ) → n < 2 ^ 64 → list_all is_visible w ≡ true → 0 < length w → AllByRecursion IsSeen (w ∷ decimal n ∷ [])
two-seen w n small v some = (record { visible = v; some = some }, (number-seen n small, tt))

settings-read : (c g t l : ℕ) (streams : List (List Request)) (rest : List (List (List ℕ))) → IsInRange c g t l
    → read_lines 1 (before no_settings None streams) (map line (setting_lines c g t l ++ rest)) ≡ read_lines 6 (before (set-to c g t l) None streams) (map line rest)
settings-read c g t l streams rest ((cl, ch), (gl, gh), (tl, th), (ll, lh)) =
    let s0 : Settings = no_settings in
    let s1 : Settings = record { clients = Some c; queues = None; segment = None; threshold = None; limit = None } in
    let s2 : Settings = record { clients = Some c; queues = Some 256; segment = None; threshold = None; limit = None } in
    let s3 : Settings = record { clients = Some c; queues = Some 256; segment = Some g; threshold = None; limit = None } in
    let s4 : Settings = record { clients = Some c; queues = Some 256; segment = Some g; threshold = Some t; limit = None } in
    let s5 : Settings = set-to c g t l in
    let l1 : read_line 1 (before s0 None streams) (line (codes "clients" ∷ decimal c ∷ [])) ≡ Ok (before s1 None streams) =
    line-read 1 (before s0 None streams) 99 (codes "lients") (decimal c ∷ []) refl (two-seen (codes "clients") c (omega (arith, ch)) refl (omega arith))
    ∙ ap (λ r. (r >>= λ n. Ok (record s0 { clients = Some n })) >>= λ s. Ok (before s None streams)) (setting-back 1 64 c cl ch (omega (arith, ch))) in
    let l2 : read_line 2 (before s1 None streams) (line (codes "queues" ∷ decimal 256 ∷ [])) ≡ Ok (before s2 None streams) =
    line-read 2 (before s1 None streams) 113 (codes "ueues") (decimal 256 ∷ []) refl (two-seen (codes "queues") 256 (omega arith) refl (omega arith))
    ∙ ap (λ r. (r >>= λ n. Ok (record s1 { queues = Some n })) >>= λ s. Ok (before s None streams)) (setting-back 1 256 256 (omega arith) (omega arith) (omega arith)) in
    let l3 : read_line 3 (before s2 None streams) (line (codes "segment" ∷ decimal g ∷ [])) ≡ Ok (before s3 None streams) =
    line-read 3 (before s2 None streams) 115 (codes "egment") (decimal g ∷ []) refl (two-seen (codes "segment") g (omega (arith, gh)) refl (omega arith))
    ∙ ap (λ r. (r >>= λ n. Ok (record s2 { segment = Some n })) >>= λ s. Ok (before s None streams)) (setting-back 16 4096 g gl gh (omega (arith, gh))) in
    let l4 : read_line 4 (before s3 None streams) (line (codes "threshold" ∷ decimal t ∷ [])) ≡ Ok (before s4 None streams) =
    line-read 4 (before s3 None streams) 116 (codes "hreshold") (decimal t ∷ []) refl (two-seen (codes "threshold") t (omega (arith, th)) refl (omega arith))
    ∙ ap (λ r. (r >>= λ n. Ok (record s3 { threshold = Some n })) >>= λ s. Ok (before s None streams)) (setting-back 1 65536 t tl th (omega (arith, th))) in
    let l5 : read_line 5 (before s4 None streams) (line (codes "file" ∷ decimal l ∷ [])) ≡ Ok (before s5 None streams) =
    line-read 5 (before s4 None streams) 102 (codes "ile") (decimal l ∷ []) refl (two-seen (codes "file") l (omega (arith, lh)) refl (omega arith))
    ∙ ap (λ r. (r >>= λ n. Ok (record s4 { limit = Some n })) >>= λ s. Ok (before s None streams)) (setting-back 4096 16777216 l ll lh (omega (arith, lh))) in
    let m5 = map line rest in
    let k5 = line (codes "file" ∷ decimal l ∷ []) in
    let k4 = line (codes "threshold" ∷ decimal t ∷ []) in
    let k3 = line (codes "segment" ∷ decimal g ∷ []) in
    let k2 = line (codes "queues" ∷ decimal 256 ∷ []) in
    next-line 1 (before s0 None streams) (before s1 None streams) (line (codes "clients" ∷ decimal c ∷ [])) (k2 ∷ k3 ∷ k4 ∷ k5 ∷ m5) l1
    ∙ next-line 2 (before s1 None streams) (before s2 None streams) k2 (k3 ∷ k4 ∷ k5 ∷ m5) l2
    ∙ next-line 3 (before s2 None streams) (before s3 None streams) k3 (k4 ∷ k5 ∷ m5) l3
    ∙ next-line 4 (before s3 None streams) (before s4 None streams) k4 (k5 ∷ m5) l4
    ∙ next-line 5 (before s4 None streams) (before s5 None streams) k5 m5 l5

-- ---- the schedule

abbrev with-steps : Settings → Option ℕ → List (List Request) → List StepWord → Option ℕ → Reading
with-steps s o streams steps place = record { settings = s; client = o; streams = streams; steps = steps; scheduled = place }

schedule-read : (k : ℕ) (s : Settings) (o : Option ℕ) (streams : List (List Request)) (steps : List StepWord) → clients_in s ≤ 64 → AllByRecursion (IsStep (clients_in s)) steps → length steps ≤ 1000000 → crashes steps ≤ 1000
    → read_lines (k + 1) (before s o streams) (map line (schedule_lines steps)) ≡ Ok (with-steps s o streams steps (schedule_place k steps))
schedule-read k s o streams [] less a few few_crashes = refl
schedule-read k s o streams (x ∷ xs) less a few few_crashes =
    let r = before s o streams in
    let read : read_line (k + 1) r (line (codes "schedule" ∷ map step_word (x ∷ xs))) ≡ Ok (with-steps s o streams (x ∷ xs) (Some (k + 1))) =
    line-read (k + 1) r 115 (codes "chedule") (map step_word (x ∷ xs)) refl (record { visible = refl; some = omega arith }, steps-seen (clients_in s) (x ∷ xs) less a)
    ∙ ap (λ runs. runs >>= with_schedule (k + 1) r) (steps-back (clients_in s) (x ∷ xs) less a)
    ∙ ap (λ steps. steps >>= λ more. Ok (with-steps s o streams more (Some (k + 1)))) (runs-back [] (x ∷ xs) few few_crashes) in
    next-line (k + 1) r (with-steps s o streams (x ∷ xs) (Some (k + 1))) (line (codes "schedule" ∷ map step_word (x ∷ xs))) [] read

-- ---- each line is printable

printable-lines : (lines : List (List (List ℕ))) → AllByRecursion (λ ws. AllByRecursion IsSeen ws) lines → AllByRecursion (λ l. list_all is_printable l ≡ true) (map line lines)
printable-lines [] a = tt
printable-lines (ws ∷ lines) a = (line-printable ws a.0, printable-lines lines a.1)

requests-seen : (threshold : ℕ) (rs : List Request) → AllByRecursion (IsServable threshold) rs → AllByRecursion HasBytes rs → AllByRecursion (λ ws. AllByRecursion IsSeen ws) (map request_words rs)
requests-seen threshold [] a b = tt
requests-seen threshold (r ∷ rs) a b = (request-seen threshold r a.0 b.0, requests-seen threshold rs a.1 b.1)

clients-seen : (threshold c : ℕ) (streams : List (List Request)) → c + length streams ≤ 64 → AllByRecursion (λ requests. AllByRecursion (IsServable threshold) requests) streams → AllByRecursion (λ requests. AllByRecursion HasBytes requests) streams
    → AllByRecursion (λ ws. AllByRecursion IsSeen ws) (client_lines c streams)
clients-seen threshold c [] fit a b = tt
clients-seen threshold c (rs ∷ streams) fit a b = (
  two-seen (codes "client") c (omega (arith, fit)) refl (omega arith),
  all-append (λ ws. AllByRecursion IsSeen ws) (map request_words rs) (client_lines (c + 1) streams) (requests-seen threshold rs a.0 b.0) (clients-seen threshold (c + 1) streams (omega (arith, fit)) a.1 b.1),
)

schedule-seen : (clients : ℕ) (steps : List StepWord) → clients ≤ 64 → AllByRecursion (IsStep clients) steps → AllByRecursion (λ ws. AllByRecursion IsSeen ws) (schedule_lines steps)
schedule-seen clients [] few a = tt
schedule-seen clients (s ∷ ss) few a = ((record { visible = refl; some = omega arith }, steps-seen clients (s ∷ ss) few a), tt)

settings-seen : (c g t l : ℕ) → IsInRange c g t l → AllByRecursion (λ ws. AllByRecursion IsSeen ws) (setting_lines c g t l)
settings-seen c g t l ((cl, ch), (gl, gh), (tl, th), (ll, lh)) = (
  two-seen (codes "clients") c (omega (arith, ch)) refl (omega arith),
  (
    two-seen (codes "queues") 256 (omega arith) refl (omega arith),
    (
      two-seen (codes "segment") g (omega (arith, gh)) refl (omega arith),
      (
        two-seen (codes "threshold") t (omega (arith, th)) refl (omega arith),
        (two-seen (codes "file") l (omega (arith, lh)) refl (omega arith), tt),
      ),
    ),
  ),
)

-- ---- the whole

none-asked : (streams : List (List Request)) (k : ℕ) → replicate (length streams + k) [] ≡ none-of streams ++ replicate k []
none-asked [] k =
    let no_more : 0 + k ≡ k = omega arith in
    let no_request : List Request = [] in
    ap (λ m. replicate m no_request) no_more
none-asked (x ∷ xs) k =
    let one_more : length (x ∷ xs) + k ≡ suc (length xs + k) = omega arith in
    let no_request : List Request = [] in
    ap (λ m. replicate m no_request) one_more ∙ ap (λ ss. no_request ∷ ss) (none-asked xs k)

-- what is read in the end
abbrev all-read : Script → Reading
all-read script =
    with-steps (set-to (clients_of script.config) (segment_of script.config) (threshold_of script.config) (limit_of script.config)) (last-of None 0 script.streams)
    (script.streams ++ replicate (64 - length script.streams) []) script.steps (schedule_place (5 + length (client_lines 0 script.streams)) script.steps)

spelled-read : (script : Script) → IsSpellable script → script_of (spelling script) ≡ Ok (all-read script)
spelled-read script i =
    let m = i.limits in
    let c = clients_of script.config in
    let t = threshold_of script.config in
    let ss = script.streams in
    let s = set-to c (segment_of script.config) t (limit_of script.config) in
    let k = 64 - length ss in
    let less : c ≤ 64 = m.in_range.0.1 in
    let settings = setting_lines c (segment_of script.config) t (limit_of script.config) in
    let rest = client_lines 0 ss ++ schedule_lines script.steps in
    let seen = all-append (λ ws. AllByRecursion IsSeen ws) settings rest (settings-seen c (segment_of script.config) t (limit_of script.config) m.in_range)
    (all-append (λ ws. AllByRecursion IsSeen ws) (client_lines 0 ss) (schedule_lines script.steps) (clients-seen t 0 ss (omega (arith, m.one_each, less)) m.requests_are i.bytes) (schedule-seen c script.steps less m.steps_are)) in
    let room : 64 ≡ length ss + k = omega (arith, m.one_each, less) in
    let no_request : List Request = [] in
    let start : replicate 64 no_request ≡ none-of ss ++ replicate k [] = ap (λ n. replicate n no_request) room ∙ none-asked ss k in
    let place : 6 + length (client_lines 0 ss) ≡ 5 + length (client_lines 0 ss) + 1 = omega arith in
    let read = read_lines 1 nothing_read (script_lines (spelling script)) in
    let others = line (codes "queues" ∷ decimal 256 ∷ []) ∷ line (codes "segment" ∷ decimal (segment_of script.config) ∷ []) ∷ line (codes "threshold" ∷ decimal t ∷ []) ∷ line (codes "file" ∷ decimal (limit_of script.config) ∷ []) ∷ map line rest in
    ap (λ b. cond b (Err (script_error.Bad (line_ends (take 67108864 (spelling script)) + 1) why.Long)) read) (lt-false 67108864 (length (spelling script)) i.short)
    ∙ ap (λ ls. read_lines 1 nothing_read ls) (lines-back (line (codes "clients" ∷ decimal c ∷ [])) others (printable-lines (settings ++ rest) seen))
    ∙ settings-read c (segment_of script.config) t (limit_of script.config) (replicate 64 []) rest m.in_range
    ∙ ap (λ streams. read_lines 6 (before s None streams) (map line rest)) start
    ∙ clients-read s [] ss k None 6 (schedule_lines script.steps) refl m.in_range.2.1 less (omega (arith, m.one_each)) m.requests_are i.bytes m.few_requests (omega (arith, m.small_bodies))
    ∙ ap (λ n. read_lines n (before s (last-of None 0 ss) (ss ++ replicate k [])) (map line (schedule_lines script.steps))) place
    ∙ schedule-read (5 + length (client_lines 0 ss)) s (last-of None 0 ss) (ss ++ replicate k []) script.steps less m.steps_are m.few_steps m.few_crashes

back : (spelled script : Script) (reading : Reading) → IsSpellable spelled → reading ≡ all-read spelled → IsScript reading script → IsReadBack spelled script
back spelled script reading i e is =
    let n = clients_of spelled.config in
    let made = subst (λ (r : Reading). IsScript r script) e is in
    let first : take n (spelled.streams ++ replicate (64 - length spelled.streams) []) ≡ spelled.streams = ap (λ k. take k (spelled.streams ++ replicate (64 - length spelled.streams) [])) (sym i.limits.one_each) ∙ take-append_seam spelled.streams (replicate (64 - length spelled.streams) []) in
    record { config_is = made.config_is; streams_are = made.streams_are ∙ first; steps_are = made.steps_are; scheduled_is = made.scheduled_is }

-- a reader that is exact reads a spelled script back
pub reads-back : (result : Result Script ScriptError) (bytes : List ℕ) (spelled : Script) → ReadsScript result (script_of bytes) → IsSpellable spelled → bytes ≡ spelling spelled → ReadsBack result spelled
reads-back (Ok script) bytes spelled (reading, read, is) i e =
    let said = spelled-read spelled i in
    let same : reading ≡ all-read spelled = cc (read, ap script_of e, said) in
    back spelled script reading i same is
reads-back (Err script_error.Memory) bytes spelled h i e = tt
reads-back (Err (script_error.Bad n w)) bytes spelled h i e =
    let said = spelled-read spelled i in
    absurd (let clash : Err (script_error.Bad n w) ≡ Ok (all-read spelled) = sym h ∙ ap script_of e ∙ said in cc)
