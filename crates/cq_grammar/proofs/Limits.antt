-- A script that was read keeps the limits.
use Rattle.std.proofs.Common.{ℕ, zero, suc, ◌≤◌, List, [], ◌∷◌, ap, ◌∙◌, sym, subst, length, take, arith, Result, Ok, Err, IfOk}
use Rattle.std.specs.List.{AllByRecursion}
use Rattle.std.proofs.lemmas.List.{length-take-le}
use Rattle.cq_inbox.specs.declared.request.Request.{Request}
use Rattle.cq_grammar.specs.declared.script.StepWord.{StepWord}
use Rattle.cq_grammar.specs.declared.script.Script.{Script}
use Rattle.cq_grammar.specs.declared.script.ScriptError.{ScriptError}
use Rattle.cq_grammar.specs.declared.reading.Reading.{Reading}
use Rattle.cq_grammar.specs.Steps.{crashes, IsStep}
use Rattle.cq_grammar.specs.Requests.{whole_size, IsServable}
use Rattle.cq_grammar.specs.Grammar.{clients_in, threshold_in, script_of}
use Rattle.cq_grammar.specs.Scripts.{ReadsScript, IsScript, KeepsLimits}
use Rattle.cq_grammar.proofs.Ranges.{AreInRange, script-in-range}
use Rattle.cq_grammar.proofs.Fits.{Fits, AreServable, cons-size, script-fits}

all-take : {A : Type 0} (P : A → Type 0) (n : ℕ) (xs : List A) → AllByRecursion P xs → AllByRecursion P (take n xs)
all-take P zero xs a = tt
all-take P (suc n) [] a = tt
all-take P (suc n) (x ∷ xs) a = (a.0, all-take P n xs a.1)

size-take : (n : ℕ) (ss : List (List Request)) → whole_size (take n ss) ≤ whole_size ss
size-take zero ss = omega arith
size-take (suc n) [] = omega arith
size-take (suc n) (s ∷ ss) =
    let less : whole_size (s ∷ take n ss) ≤ whole_size (s ∷ ss) = omega (arith, cons-size s (take n ss), cons-size s ss, size-take n ss) in
    less

-- the script that is made of what fits keeps the limits
keeps-limits : (r : Reading) (script : Script) → AreInRange r.settings → Fits r → IsScript r script → KeepsLimits script
keeps-limits r script a f i =
    let clients = clients_in r.settings in
    let inside : clients ≤ length r.streams = omega (arith, a.0.1, f.sixty_four) in
    record {
      in_range = ((omega (arith, i.config_is.clients_is, a.0.0), omega (arith, i.config_is.clients_is, a.0.1)), (omega (arith, i.config_is.segment_is, a.1.0), omega (arith, i.config_is.segment_is, a.1.1)), (omega (arith, i.config_is.threshold_is, a.2.0), omega (arith, i.config_is.threshold_is, a.2.1)), (omega (arith, i.config_is.limit_is, a.3.0), omega (arith, i.config_is.limit_is, a.3.1)));
      one_each = ap length i.streams_are ∙ length-take-le clients r.streams inside ∙ sym i.config_is.clients_is;
      few_requests = subst (AllByRecursion (λ (requests : List Request). length requests ≤ 100000)) (sym i.streams_are) (all-take (λ (requests : List Request). length requests ≤ 100000) clients r.streams f.few);
      small_bodies = subst (λ (ss : List (List Request)). whole_size ss ≤ 268435456) (sym i.streams_are) (omega (arith, size-take clients r.streams, f.small));
      few_steps = subst (λ (steps : List StepWord). length steps ≤ 1000000) (sym i.steps_are) f.few_steps;
      few_crashes = subst (λ (steps : List StepWord). crashes steps ≤ 1000) (sym i.steps_are) f.few_crashes;
      requests_are = subst (λ n. AreServable n script.streams) (sym i.config_is.threshold_is) (subst (AreServable (threshold_in r.settings)) (sym i.streams_are) (all-take (λ (requests : List Request). AllByRecursion (IsServable (threshold_in r.settings)) requests) clients r.streams f.served));
      steps_are = subst (λ n. AllByRecursion (IsStep n) script.steps) (sym i.config_is.clients_is) (subst (AllByRecursion (IsStep clients)) (sym i.steps_are) f.steps_are);
    }

-- a reader that is exact keeps the limits
pub read-keeps : (result : Result Script ScriptError) (bytes : List ℕ) → ReadsScript result (script_of bytes) → IfOk result KeepsLimits
read-keeps (Ok script) bytes (reading, read, is) = keeps-limits reading script (script-in-range bytes reading read) (script-fits bytes reading read) is
read-keeps (Err e) bytes h = tt
