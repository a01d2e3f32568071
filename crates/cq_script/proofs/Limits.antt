-- What a script says keeps the limits.
use Rattle.std.proofs.Common.{◌≡◌, ℕ, ◌+◌, ◌<◌, ◌≤◌, Bool, true, false, not, cond, List, [], ◌∷◌, ◌++◌, refl, ap, ◌∙◌, sym, subst, length, length-append, arith, Result, Ok, Err, None, Some}
use Rattle.std.specs.Prelude.{◌&&◌, ◌||◌, nat_le, nat_lt, codes, is_some, IfOk, Option, take}
use Rattle.std.specs.List.{AllByRecursion, count_by, list_all}
use Rattle.std.specs.Str.{bytes_eq}
use Rattle.std.proofs.lemmas.Bool.{leb-false, ltb-false, and_parts}
use Rattle.std.proofs.lemmas.List.Sums.{sum_by-append}
use Rattle.cq_inbox.specs.declared.request.Request.{Request}
use Rattle.cq_inbox.specs.declared.request.Request.TheVariants.{Publish, Get}
use Rattle.cq_script.specs.declared.script.StepWord.{StepWord}
use Rattle.cq_script.specs.declared.script.Why.{Why}
use Rattle.cq_script.specs.declared.script.Why.TheVariants as why
use Rattle.cq_script.specs.declared.script.Script.{Script}
use Rattle.cq_script.specs.declared.script.ScriptError.{ScriptError}
use Rattle.cq_script.specs.declared.script.ScriptError.TheVariants as script_error
use Rattle.cq_script.specs.declared.reading.Reading.{Reading}
use Rattle.cq_inbox.specs.Requests.{is_publish, publishes}
use Rattle.cq_bytes.specs.Texts.{is_text}
use Rattle.cq_bytes.proofs.Texts.{text-parts}
use Rattle.cq_script.specs.Words.{is_get, gets, words, script_lines, line_ends, step_of, is_printable, is_spaced}
use Rattle.cq_script.specs.Grammar.{take_client, among_requests, read_get, take_get, text_of, read_body, read_publish, take_publish, after_step, take_steps, with_steps, take_schedule, take_words, read_line, at_line, take_line, take_lines, nothing_read, script_of}
use Rattle.cq_script.specs.Scripts.{ReadsScript, IsScript, IsServable, IsStream, IsStep, crashes, KeepsLimits}
use Rattle.cq_script.proofs.Sticky.{take_steps-Err, take_lines-Err}
use Rattle.cq_script.proofs.StepWords.{some-of, step-is}

-- what holds of all that the lines so far say
pub record CanServe (r : Reading) : Type 0 where
  pub each : AllByRecursion IsServable r.requests
  pub counted : length r.requests ≡ publishes r.requests + gets r.requests
  pub few_publishes : publishes r.requests ≤ 4096
  pub few_gets : gets r.requests ≤ 64
  pub steps_are : AllByRecursion (IsStep 1) r.steps
  pub few_steps : length r.steps ≤ 10000
  pub few_crashes : crashes r.steps ≤ 1000

-- a choice that gave Ok didn't give the error
passed : {A E : Type 0} (b : Bool) (e : E) (rest : Result A E) (r : A) → cond b (Err e) rest ≡ Ok r → (b ≡ false) × (rest ≡ Ok r)
passed true e rest r h = cc
passed false e rest r h = (refl, h)

all-push : {A : Type 0} (P : A → Type 0) (xs : List A) (x : A) → AllByRecursion P xs → P x → AllByRecursion P (xs ++ x ∷ [])
all-push P [] x a p = (p, tt)
all-push P (y ∷ ys) x a p = (a.0, all-push P ys x a.1 p)

count-push : {A : Type 0} (p : A → Bool) (xs : List A) (x : A) → count_by p (xs ++ x ∷ []) ≡ count_by p xs + cond (p x) 1 0
count-push p xs x = omega (arith, sum_by-append (λ y. cond (p y) 1 0) xs (x ∷ []))

same-ok : {A E : Type 0} (x : Result A E) (r s : A) → x ≡ Ok r → x ≡ Ok s → r ≡ s
same-ok x r s g h = cc

client-serves : (r s : Reading) (ws : List (List ℕ)) → CanServe r → take_client r ws ≡ Ok s → CanServe s
client-serves r s [] c h = cc
client-serves r s (n ∷ []) c h =
    let p = passed (not (bytes_eq n (codes "0"))) why.Client _ s h in
    let q = passed r.started why.Order _ s p.1 in
    subst CanServe (same-ok _ (record r { started = true }) s refl q.1) (record { each = c.each; counted = c.counted; few_publishes = c.few_publishes; few_gets = c.few_gets; steps_are = c.steps_are; few_steps = c.few_steps; few_crashes = c.few_crashes })
client-serves r s (n ∷ m ∷ ws) c h = cc

among-serves : (r s : Reading) (read : Result Reading Why) → (read ≡ Ok s → CanServe s) → among_requests r read ≡ Ok s → CanServe s
among-serves r s read f h =
    let a = passed (not r.started) why.Client _ s h in
    let b = passed (is_some r.scheduled) why.Order _ s a.1 in
    f b.1

get-serves : (r s : Reading) (ws : List (List ℕ)) → CanServe r → read_get r ws ≡ Ok s → CanServe s
get-serves r s [] c h = cc
get-serves r s (n ∷ []) c h =
    let d = passed (not (bytes_eq n (codes "0"))) why.Queue _ s h in
    let f = passed (nat_le 64 (gets r.requests)) why.Many _ s d.1 in
    let few : gets r.requests < 64 = leb-false 64 (gets r.requests) f.0 in
    subst CanServe (same-ok _ (record r { requests = r.requests ++ Get 0 ∷ [] }) s refl f.1) (record {
      each = all-push IsServable r.requests (Get 0) c.each (omega arith, refl);
      counted = omega (arith, c.counted, length-append r.requests (Get 0 ∷ []), count-push is_publish r.requests (Get 0), count-push is_get r.requests (Get 0));
      few_publishes = omega (arith, c.few_publishes, count-push is_publish r.requests (Get 0));
      few_gets = omega (arith, few, count-push is_get r.requests (Get 0));
      steps_are = c.steps_are;
      few_steps = c.few_steps;
      few_crashes = c.few_crashes;
    })
get-serves r s (n ∷ m ∷ ws) c h = cc

text-of : (ws : List (List ℕ)) (t : List ℕ) → text_of ws ≡ Some t → is_text t ≡ true
text-of [] t h = cc
text-of (k ∷ []) t h = cc
text-of (k ∷ w ∷ []) t h =
    let p = some-of (bytes_eq k (codes "text") && is_text w) w t h in
    ap is_text (sym p.1) ∙ (and_parts (bytes_eq k (codes "text")) (is_text w) p.0).1
text-of (k ∷ w ∷ v ∷ ws) t h = cc

body-serves : (r s : Reading) (ws : List (List ℕ)) (o : Option (List ℕ)) → text_of ws ≡ o → CanServe r → read_body r o ≡ Ok s → CanServe s
body-serves r s ws None e c h = cc
body-serves r s ws (Some t) e c h =
    let f = passed (nat_le 4096 (publishes r.requests)) why.Many _ s h in
    let few : publishes r.requests < 4096 = leb-false 4096 (publishes r.requests) f.0 in
    let p : Request = Publish (0 ∷ []) t in
    let size = text-parts t (text-of ws t e) in
    subst CanServe (same-ok _ (record r { requests = r.requests ++ p ∷ [] }) s refl f.1) (record {
      each = all-push IsServable r.requests p c.each ((omega arith, (omega arith, refl, tt)), (refl, size.0, size.1));
      counted = omega (arith, c.counted, length-append r.requests (p ∷ []), count-push is_publish r.requests p, count-push is_get r.requests p);
      few_publishes = omega (arith, few, count-push is_publish r.requests p);
      few_gets = omega (arith, c.few_gets, count-push is_get r.requests p);
      steps_are = c.steps_are;
      few_steps = c.few_steps;
      few_crashes = c.few_crashes;
    })

publish-serves : (r s : Reading) (ws : List (List ℕ)) → CanServe r → read_publish r ws ≡ Ok s → CanServe s
publish-serves r s [] c h = cc
publish-serves r s (n ∷ []) c h = cc
publish-serves r s (n ∷ k ∷ ws) c h =
    let d = passed (not (bytes_eq n (codes "0"))) why.Queue _ s h in
    body-serves r s (k ∷ ws) (text_of (k ∷ ws)) refl c d.1

after-is : (old new : List StepWord) (w : List ℕ) (o : Option StepWord) → step_of w ≡ o → AllByRecursion (IsStep 1) old → after_step old o ≡ Ok new → AllByRecursion (IsStep 1) new
after-is old new w None e a h = cc
after-is old new w (Some s) e a h =
    subst (AllByRecursion (IsStep 1)) (same-ok _ (old ++ s ∷ []) new refl h) (all-push (IsStep 1) old s a (step-is w s e))

steps-are : (old new : List StepWord) (ws : List (List ℕ)) → AllByRecursion (IsStep 1) old → take_steps (Ok old) ws ≡ Ok new → AllByRecursion (IsStep 1) new
steps-are old new [] a h = subst (AllByRecursion (IsStep 1)) (same-ok _ old new refl h) a
steps-are old new (w ∷ ws) a h =
    (elim (after_step old (step_of w)) as (λ t. after_step old (step_of w) ≡ t → take_steps t ws ≡ Ok new → AllByRecursion (IsStep 1) new) [
      | Ok q ↦ λ e k. steps-are q new ws (after-is old q w (step_of w) refl a e) k
      | Err x ↦ λ e k. absurd (let bad : Err x ≡ Ok new = sym (take_steps-Err x ws) ∙ k in cc)
    ]) refl h

neither : (a b : Bool) → (a || b) ≡ false → (a ≡ false) × (b ≡ false)
neither false false h = (refl, refl)
neither false true h = cc
neither true b h = cc

with-serves : (n : ℕ) (r s : Reading) (ws : List (List ℕ)) (read : Result (List StepWord) Why) → take_steps (Ok r.steps) ws ≡ read → CanServe r → with_steps n r read ≡ Ok s → CanServe s
with-serves n r s ws (Err e) t c h = cc
with-serves n r s ws (Ok steps) t c h =
    let f = passed (nat_lt 10000 (length steps) || nat_lt 1000 (crashes steps)) why.Many _ s h in
    let few = neither (nat_lt 10000 (length steps)) (nat_lt 1000 (crashes steps)) f.0 in
    subst CanServe (same-ok _ (record r { steps = steps; scheduled = Some n }) s refl f.1) (record {
      each = c.each;
      counted = c.counted;
      few_publishes = c.few_publishes;
      few_gets = c.few_gets;
      steps_are = steps-are r.steps steps ws c.steps_are t;
      few_steps = ltb-false 10000 (length steps) few.0;
      few_crashes = ltb-false 1000 (crashes steps) few.1;
    })

schedule-serves : (n : ℕ) (r s : Reading) (ws : List (List ℕ)) → CanServe r → take_schedule n r ws ≡ Ok s → CanServe s
schedule-serves n r s [] c h = cc
schedule-serves n r s (w ∷ ws) c h = among-serves r s _ (with-serves n r s (w ∷ ws) (take_steps (Ok r.steps) (w ∷ ws)) refl c) h

words-serve : (n : ℕ) (r s : Reading) (ws : List (List ℕ)) → CanServe r → take_words n r ws ≡ Ok s → CanServe s
words-serve n r s [] c h = cc
words-serve n r s (w ∷ ws) c h =
    chosen (bytes_eq w (codes "client")) (take_client r ws) _ h (client-serves r s ws c)
    (λ h. chosen (bytes_eq w (codes "publish")) (take_publish r ws) _ h (among-serves r s _ (publish-serves r s ws c))
    (λ h. chosen (bytes_eq w (codes "get")) (take_get r ws) _ h (among-serves r s _ (get-serves r s ws c))
    (λ h. chosen (bytes_eq w (codes "schedule")) (take_schedule n r ws) _ h (schedule-serves n r s ws c)
    (λ h. cc))))
  where
    chosen : (b : Bool) (x y : Result Reading Why) → cond b x y ≡ Ok s → (x ≡ Ok s → CanServe s) → (y ≡ Ok s → CanServe s) → CanServe s
    chosen true x y h f g = f h
    chosen false x y h f g = g h

at-ok : (n : ℕ) (r : Reading) (read : Result Reading Why) → at_line n read ≡ Ok r → read ≡ Ok r
at-ok n r (Ok q) h = ap Ok (same-ok _ q r refl h)
at-ok n r (Err w) h = cc

line-serves : (n : ℕ) (r s : Reading) (line : List ℕ) → CanServe r → take_line n line (Ok r) ≡ Ok s → CanServe s
line-serves n r s line c h =
    let p = passed (not (list_all is_printable line) || not (is_spaced (words line))) why.Word _ s (at-ok n s (read_line n r line) h) in
    words-serve n r s (words line) c p.1

lines-serve : (n : ℕ) (r s : Reading) (ls : List (List ℕ)) → CanServe r → take_lines n (Ok r) ls ≡ Ok s → CanServe s
lines-serve n r s [] c h = subst CanServe (same-ok _ r s refl h) c
lines-serve n r s (l ∷ ls) c h =
    (elim (take_line n l (Ok r)) as (λ t. take_line n l (Ok r) ≡ t → take_lines (n + 1) t ls ≡ Ok s → CanServe s) [
      | Ok q ↦ λ e k. lines-serve (n + 1) q s ls (line-serves n r q l c e) k
      | Err b ↦ λ e k. absurd (let bad : Err b ≡ Ok s = sym (take_lines-Err (n + 1) b ls) ∙ k in cc)
    ]) refl h

-- what a script says can be served
script-serves : (bytes : List ℕ) (s : Reading) → script_of bytes ≡ Ok s → CanServe s
script-serves bytes s h =
    let p = passed (nat_lt 1048576 (length bytes)) (script_error.Bad (line_ends (take 1048576 bytes) + 1) why.Long) _ s h in
    lines-serve 1 nothing_read s (script_lines bytes) (record { each = tt; counted = refl; few_publishes = omega arith; few_gets = omega arith; steps_are = tt; few_steps = omega arith; few_crashes = omega arith }) p.1

-- the script that is made of it keeps the limits
keeps-limits : (r : Reading) (script : Script) → CanServe r → IsScript r script → KeepsLimits script
keeps-limits r script c i = record {
  in_range = ((omega (arith, i.config_is.clients_is), omega (arith, i.config_is.clients_is)), (omega (arith, i.config_is.segment_is), omega (arith, i.config_is.segment_is)), (omega (arith, i.config_is.threshold_is), omega (arith, i.config_is.threshold_is)), (omega (arith, i.config_is.limit_is), omega (arith, i.config_is.limit_is)));
  one_client = i.config_is.clients_is;
  one_each = ap length i.streams_is ∙ sym i.config_is.clients_is;
  streams_are = subst (AllByRecursion IsStream) (sym i.streams_is) (record { few_publishes = c.few_publishes; few = omega (arith, c.counted, c.few_publishes, c.few_gets); each = c.each }, tt);
  few_steps = subst (λ (steps : List StepWord). length steps ≤ 10000) (sym i.steps_is) c.few_steps;
  few_crashes = subst (λ (steps : List StepWord). crashes steps ≤ 1000) (sym i.steps_is) c.few_crashes;
  steps_are = subst (λ clients. AllByRecursion (IsStep clients) script.steps) (sym i.config_is.clients_is) (subst (AllByRecursion (IsStep 1)) (sym i.steps_is) c.steps_are);
}

-- a reader that is exact keeps the limits
pub read-keeps : (result : Result Script ScriptError) (bytes : List ℕ) → ReadsScript result (script_of bytes) → IfOk result KeepsLimits
read-keeps (Ok script) bytes (reading, read, is) = keeps-limits reading script (script-serves bytes reading read) is
read-keeps (Err e) bytes h = tt
