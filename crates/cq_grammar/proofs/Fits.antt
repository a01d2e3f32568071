-- Requests, bodies and steps of a script are few.
use Rattle.std.proofs.Common.{◌≡◌, ℕ, zero, suc, ◌+◌, ◌^◌, ◌<◌, ◌≤◌, Bool, true, false, not, cond, List, [], ◌∷◌, ◌++◌, refl, ap, ◌∙◌, sym, subst, length, length-append, take, set, arith, Option, None, Some, Result, Ok, Err}
use Rattle.std.specs.Prelude.{◌||◌, nat_le, nat_lt, codes, is_some, ok_or, replicate}
use Rattle.std.specs.Option.{unwrap_or}
use Rattle.std.specs.List.{AllByRecursion, list_all}
use Rattle.std.specs.Str.{bytes_eq}
use Rattle.std.proofs.lemmas.Bool.{leb-false, ltb-false}
use Rattle.std.proofs.lemmas.List.{length-set}
use Rattle.std.proofs.lemmas.List.Sums.{sum_by-append}
use Rattle.cq_inbox.specs.declared.request.Request.{Request}
use Rattle.cq_inbox.specs.declared.request.Request.TheVariants.{Publish, Get, Ack, End}
use Rattle.cq_grammar.specs.declared.script.StepWord.{StepWord}
use Rattle.cq_grammar.specs.declared.script.Why.{Why}
use Rattle.cq_grammar.specs.declared.script.Why.TheVariants as why
use Rattle.cq_grammar.specs.declared.script.ScriptError.TheVariants as script_error
use Rattle.cq_grammar.specs.declared.settings.Settings.{Settings}
use Rattle.cq_grammar.specs.declared.steps.Run.{Run}
use Rattle.cq_grammar.specs.declared.reading.Reading.{Reading}
use Rattle.cq_grammar.specs.Words.{◌>>=◌, each, is_printable, is_spaced, words, script_lines, line_ends}
use Rattle.cq_grammar.specs.Steps.{client_within, run_of, steps_of, crashes, too_many, with_run, with_runs, IsStep}
use Rattle.cq_grammar.specs.Requests.{number_on, queue_within, queues_of, body_of, size_of, stream_size, whole_size, requests_of, with_request, IsServable}
use Rattle.cq_grammar.specs.Grammar.{clients_in, queues_in, threshold_in, has_begun, number_within, setting_line, take_client, add, publish_by, get_by, ack_by, end_by, client_now, of_client, with_schedule, take_schedule, take_line, set_or_take, take_words, is_passed_over, read_line, at_line, read_lines, nothing_read, script_of}
use Rattle.cq_grammar.proofs.Ranges.{then-some, passed, chosen, same-ok, at-ok, within, setting-early}
use Rattle.cq_grammar.proofs.Servable.{all-append, queue-small, queues-are, body-short, runs-are, steps-are}

abbrev IsFew : List Request → Type 0
IsFew requests = length requests ≤ 100000

abbrev pub AreServable : ℕ → List (List Request) → Type 0
AreServable threshold ss = AllByRecursion (λ requests. AllByRecursion (IsServable threshold) requests) ss

-- there are streams for all clients, and few requests, bodies, steps and crashes; each request and each step can be served
-- under the numbers that are set, and before them there is none
pub record Fits (r : Reading) : Type 0 where
  pub sixty_four : length r.streams ≡ 64
  pub few : AllByRecursion (λ requests. length requests ≤ 100000) r.streams
  pub small : whole_size r.streams ≤ 268435456
  pub few_steps : length r.steps ≤ 1000000
  pub few_crashes : crashes r.steps ≤ 1000
  pub served : AreServable (threshold_in r.settings) r.streams
  pub steps_are : AllByRecursion (IsStep (clients_in r.settings)) r.steps
  pub narrow : queues_in r.settings ≤ 256
  pub before : has_begun r ≡ false → (r.streams ≡ replicate 64 []) × (r.steps ≡ [])

-- ---- one more request

few-set : (ss : List (List Request)) (c : ℕ) (x : List Request) → AllByRecursion IsFew ss → IsFew x → AllByRecursion IsFew (set ss c x)
few-set [] c x a f = tt
few-set (s ∷ ss) zero x a f = (f, a.1)
few-set (s ∷ ss) (suc c) x a f = (a.0, few-set ss c x a.1 f)

served-set : (threshold : ℕ) (ss : List (List Request)) (c : ℕ) (q : Request) → AreServable threshold ss → IsServable threshold q → AreServable threshold (set ss c (requests_of ss c ++ q ∷ []))
served-set threshold [] c q a p = tt
served-set threshold (s ∷ ss) zero q a p = (all-append (IsServable threshold) s (q ∷ []) a.0 (p, tt), a.1)
served-set threshold (s ∷ ss) (suc c) q a p = (a.0, served-set threshold ss c q a.1 p)

pub cons-size : (s : List Request) (ss : List (List Request)) → whole_size (s ∷ ss) ≡ stream_size s + whole_size ss
cons-size s ss = omega (arith, sum_by-append stream_size (s ∷ []) ss)

size-set : (ss : List (List Request)) (c : ℕ) (q : Request) → whole_size (set ss c (requests_of ss c ++ q ∷ [])) ≤ whole_size ss + size_of q
size-set [] c q = omega arith
size-set (s ∷ ss) zero q =
    let one : stream_size (q ∷ []) ≡ size_of q = omega arith in
    let more : whole_size ((s ++ q ∷ []) ∷ ss) ≤ whole_size (s ∷ ss) + size_of q = omega (arith, cons-size (s ++ q ∷ []) ss, cons-size s ss, sum_by-append size_of s (q ∷ []), one) in
    more
size-set (s ∷ ss) (suc c) q =
    let rest = set ss c (requests_of ss c ++ q ∷ []) in
    let more : whole_size (s ∷ rest) ≤ whole_size (s ∷ ss) + size_of q = omega (arith, cons-size s rest, cons-size s ss, size-set ss c q) in
    more

tested : {A E : Type 0} (b : Bool) (e : E) (rest : Result A E) (x : A) → cond b (Err e) rest ≡ Ok x → (b ≡ false) × (rest ≡ Ok x)
tested true e rest x h = cc
tested false e rest x h = (refl, h)

add-fits : (r s : Reading) (c : ℕ) (q : Request) → Fits r → has_begun r ≡ true → IsServable (threshold_in r.settings) q → add r c q ≡ Ok s → Fits s
add-fits r s c q f begun can h =
    then-some (with_request r.streams c q) _ s _ h (λ streams e k.
    let more = set r.streams c (requests_of r.streams c ++ q ∷ []) in
    let many = tested (nat_le 100000 (length (requests_of r.streams c))) why.Many _ streams e in
    let large = tested (nat_lt 268435456 (whole_size r.streams + size_of q)) why.Large _ streams many.1 in
    let room : length (requests_of r.streams c) < 100000 = leb-false 100000 (length (requests_of r.streams c)) many.0 in
    let small : whole_size r.streams + size_of q ≤ 268435456 = ltb-false 268435456 (whole_size r.streams + size_of q) large.0 in
    let same : more ≡ streams = same-ok _ more streams refl large.1 in
    let few : IsFew (requests_of r.streams c ++ q ∷ []) = omega (arith, room, length-append (requests_of r.streams c) (q ∷ [])) in
    let next : Fits (record r { streams = more }) = record {
      sixty_four = length-set r.streams c (requests_of r.streams c ++ q ∷ []) ∙ f.sixty_four;
      few = few-set r.streams c (requests_of r.streams c ++ q ∷ []) f.few few;
      small = omega (arith, small, size-set r.streams c q);
      few_steps = f.few_steps;
      few_crashes = f.few_crashes;
      served = served-set (threshold_in r.settings) r.streams c q f.served can;
      steps_are = f.steps_are;
      narrow = f.narrow;
      before = λ e. cc (begun, e);
    } in
    subst Fits (same-ok _ (record r { streams = streams }) s refl k) (subst (λ (ss : List (List Request)). Fits (record r { streams = ss })) same next))

client-fits : (r s : Reading) (ws : List (List ℕ)) → Fits r → take_client r ws ≡ Ok s → Fits s
client-fits r s [] f h = cc
client-fits r s (w ∷ []) f h = then-some (number_on w) _ s _ h (λ n e k. then-some (client_within (clients_in r.settings) n) _ s _ k (λ c g j.
    subst Fits (same-ok _ (record r { client = Some c }) s refl j) (record { sixty_four = f.sixty_four; few = f.few; small = f.small; few_steps = f.few_steps; few_crashes = f.few_crashes; served = f.served; steps_are = f.steps_are; narrow = f.narrow; before = λ e. cc })))
client-fits r s (w ∷ v ∷ ws) f h = cc

publish-fits : (r s : Reading) (c : ℕ) (ws : List (List ℕ)) → Fits r → has_begun r ≡ true → publish_by r c ws ≡ Ok s → Fits s
publish-fits r s c [] f b h = cc
publish-fits r s c (q ∷ []) f b h = cc
publish-fits r s c (q ∷ kind ∷ ws) f b h =
    then-some (queues_of (queues_in r.settings) q) (λ qs. (body_of (threshold_in r.settings) (kind ∷ ws) >>= λ body. add r c (Publish qs body))) s _ h
    (λ qs e k. then-some (body_of (threshold_in r.settings) (kind ∷ ws)) (λ body. add r c (Publish qs body)) s _ k (λ body g j.
    let named = queues-are (queues_in r.settings) q qs e in
    add-fits r s c (Publish qs body) f b (named.0, named.1, body-short (threshold_in r.settings) (kind ∷ ws) body g) j))

get-fits : (r s : Reading) (c : ℕ) (ws : List (List ℕ)) → Fits r → has_begun r ≡ true → get_by r c ws ≡ Ok s → Fits s
get-fits r s c [] f b h = cc
get-fits r s c (w ∷ []) f b h =
    then-some (number_on w) (λ n. (queue_within (queues_in r.settings) n >>= λ q. add r c (Get q))) s _ h
    (λ n e k. then-some (queue_within (queues_in r.settings) n) (λ q. add r c (Get q)) s _ k (λ q g j. add-fits r s c (Get q) f b (queue-small (queues_in r.settings) n q f.narrow g) j))
get-fits r s c (w ∷ v ∷ ws) f b h = cc

delivery-small : (n d : ℕ) → number_within 0 4294967295 n ≡ Ok d → d < 2 ^ 32
delivery-small n d h = let near : d ≤ 4294967295 = (within 0 4294967295 n d h).1 in omega (arith, near)

ack-fits : (r s : Reading) (c : ℕ) (ws : List (List ℕ)) → Fits r → has_begun r ≡ true → ack_by r c ws ≡ Ok s → Fits s
ack-fits r s c [] f b h = cc
ack-fits r s c (w ∷ []) f b h =
    then-some (number_on w) (λ n. (number_within 0 4294967295 n >>= λ d. add r c (Ack d))) s _ h
    (λ n e k. then-some (number_within 0 4294967295 n) (λ d. add r c (Ack d)) s _ k (λ d g j. add-fits r s c (Ack d) f b (delivery-small n d g) j))
ack-fits r s c (w ∷ v ∷ ws) f b h = cc

end-fits : (r s : Reading) (c : ℕ) (ws : List (List ℕ)) → Fits r → has_begun r ≡ true → end_by r c ws ≡ Ok s → Fits s
end-fits r s c [] f b h = add-fits r s c End f b tt h
end-fits r s c (w ∷ ws) f b h = cc

begins : (o later : Option ℕ) (c : ℕ) → ok_or o why.Client ≡ Ok c → (is_some o || is_some later) ≡ true
begins (Some x) later c h = refl
begins None later c h = cc

of-fits : (r s : Reading) (read : ℕ → Result Reading Why) → of_client r read ≡ Ok s → (has_begun r ≡ true → (c : ℕ) → read c ≡ Ok s → Fits s) → Fits s
of-fits r s read h k = then-some (client_now r) read s _ h (λ c e j. k (begins r.client r.scheduled c e) c j)

-- ---- more steps

abbrev IsShort : List StepWord → Type 0
IsShort steps = (length steps ≤ 1000000) × (crashes steps ≤ 1000)

neither : (a b : Bool) → (a || b) ≡ false → (a ≡ false) × (b ≡ false)
neither false false h = (refl, refl)
neither false true h = cc
neither true b h = cc

run-short : (steps new : List StepWord) (run : Run) → with_run steps run ≡ Ok new → IsShort new
run-short steps new run h =
    let all = steps ++ steps_of run in
    let p = tested (too_many all) why.Many _ new h in
    let few = neither (nat_lt 1000000 (length all)) (nat_lt 1000 (crashes all)) p.0 in
    subst IsShort (same-ok _ all new refl p.1) (ltb-false 1000000 (length all) few.0, ltb-false 1000 (crashes all) few.1)

runs-short : (steps new : List StepWord) (runs : List Run) → IsShort steps → with_runs steps runs ≡ Ok new → IsShort new
runs-short steps new [] a h = subst IsShort (same-ok _ steps new refl h) a
runs-short steps new (run ∷ runs) a h = then-some (with_run steps run) _ new _ h (λ more e k. runs-short more new runs (run-short steps more run e) k)

schedule-fits : (n : ℕ) (r s : Reading) (ws : List (List ℕ)) → Fits r → take_schedule n r ws ≡ Ok s → Fits s
schedule-fits n r s [] f h = cc
schedule-fits n r s (w ∷ ws) f h =
    then-some (each (run_of (clients_in r.settings)) (w ∷ ws)) (with_schedule n r) s _ h
    (λ runs e k. then-some (with_runs r.steps runs) _ s _ k
    (λ steps g j.
    let short = runs-short r.steps steps runs (f.few_steps, f.few_crashes) g in
    subst Fits (same-ok _ (record r { steps = steps; scheduled = Some (unwrap_or r.scheduled n) }) s refl j) (record { sixty_four = f.sixty_four; few = f.few; small = f.small; few_steps = short.0; few_crashes = short.1; served = f.served; steps_are = steps-are (clients_in r.settings) r.steps steps runs f.steps_are (runs-are (clients_in r.settings) (w ∷ ws) runs e) g; narrow = f.narrow; before = λ b. later r.client b })))
  where
    later : (o : Option ℕ) → (is_some o || true) ≡ false → {A : Type 0} → A
    later (Some c) b = cc
    later None b = cc

-- ---- lines

line-fits : (n : ℕ) (r s : Reading) (w : List ℕ) (ws : List (List ℕ)) → Fits r → take_line n r w ws ≡ Ok s → Fits s
line-fits n r s w ws f h =
    chosen (bytes_eq w (codes "client")) _ _ s _ h (client-fits r s ws f)
    (λ h. chosen (bytes_eq w (codes "publish")) _ _ s _ h (λ k. of-fits r s (λ c. publish_by r c ws) k (λ b c k. publish-fits r s c ws f b k))
    (λ h. chosen (bytes_eq w (codes "get")) _ _ s _ h (λ k. of-fits r s (λ c. get_by r c ws) k (λ b c k. get-fits r s c ws f b k))
    (λ h. chosen (bytes_eq w (codes "ack")) _ _ s _ h (λ k. of-fits r s (λ c. ack_by r c ws) k (λ b c k. ack-fits r s c ws f b k))
    (λ h. chosen (bytes_eq w (codes "end")) _ _ s _ h (λ k. of-fits r s (λ c. end_by r c ws) k (λ b c k. end-fits r s c ws f b k))
    (λ h. chosen (bytes_eq w (codes "schedule")) _ _ s _ h (schedule-fits n r s ws f)
    (λ h. cc))))))

none-served : (threshold n : ℕ) → AreServable threshold (replicate n [])
none-served threshold zero = tt
none-served threshold (suc n) = (tt, none-served threshold n)

-- before all clients and schedules any numbers fit
settings-fit : (r : Reading) (t : Settings) → Fits r → has_begun r ≡ false → queues_in t ≤ 256 → Fits (record r { settings = t })
settings-fit r t f b narrow =
    let none = f.before b in
    record {
      sixty_four = f.sixty_four;
      few = f.few;
      small = f.small;
      few_steps = f.few_steps;
      few_crashes = f.few_crashes;
      served = subst (AreServable (threshold_in t)) (sym none.0) (none-served (threshold_in t) 64);
      steps_are = subst (AllByRecursion (IsStep (clients_in t))) (sym none.1) tt;
      narrow = narrow;
      before = λ e. none;
    }

set-fits : (n : ℕ) (r s : Reading) (w : List ℕ) (ws : List (List ℕ)) (o : Option (Result Settings Why)) → setting_line (has_begun r) r.settings w ws ≡ o → Fits r → set_or_take n r w ws o ≡ Ok s → Fits s
set-fits n r s w ws (Some read) is f h =
    then-some read _ s _ h (λ t e k.
    let early = setting-early (has_begun r) r.settings t w ws f.narrow (is ∙ ap Some e) in
    subst Fits (same-ok _ (record r { settings = t }) s refl k) (settings-fit r t f early.0 early.1))
set-fits n r s w ws None is f h = line-fits n r s w ws f h

words-fit : (n : ℕ) (r s : Reading) (ws : List (List ℕ)) → Fits r → take_words n r ws ≡ Ok s → Fits s
words-fit n r s [] f h = cc
words-fit n r s (w ∷ ws) f h = set-fits n r s w ws (setting_line (has_begun r) r.settings w ws) refl f h

reading-fits : (n : ℕ) (r s : Reading) (line : List ℕ) → Fits r → read_line n r line ≡ Ok s → Fits s
reading-fits n r s line f h =
    chosen (is_passed_over line) _ _ s _ h (λ k. subst Fits (same-ok _ r s refl k) f)
    (λ k. words-fit n r s (words line) f (passed (not (list_all is_printable line) || not (is_spaced (words line))) why.Word _ s k))

lines-fit : (n : ℕ) (r s : Reading) (ls : List (List ℕ)) → Fits r → read_lines n r ls ≡ Ok s → Fits s
lines-fit n r s [] f h = subst Fits (same-ok _ r s refl h) f
lines-fit n r s (l ∷ ls) f h = then-some (at_line n (read_line n r l)) _ s _ h (λ q e k. lines-fit (n + 1) q s ls (reading-fits n r q l f (at-ok n q (read_line n r l) e)) k)

-- all that a script says fits
pub script-fits : (bytes : List ℕ) (s : Reading) → script_of bytes ≡ Ok s → Fits s
script-fits bytes s h =
    lines-fit 1 nothing_read s (script_lines bytes) (record { sixty_four = refl; few = grind arith; small = omega arith; few_steps = omega arith; few_crashes = omega arith; served = none-served 4096 64; steps_are = tt; narrow = omega arith; before = λ e. (refl, refl) })
    (passed (nat_lt 67108864 (length bytes)) (script_error.Bad (line_ends (take 67108864 bytes) + 1) why.Long) _ s h)
