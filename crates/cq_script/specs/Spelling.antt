-- How a script is spelled.
use Rattle.std.specs.Prelude.{◌≡◌, ℕ, ◌+◌, ◌≤◌, true, List, [], ◌∷◌, ◌++◌, length, map, Option, None, Some, Result, Ok, Err, codes}
use Rattle.std.specs.List.{AllByRecursion, flat_map}
use Rattle.std.specs.Fmt.{decimal}
use Rattle.cq_inbox.specs.declared.request.Request.{Request}
use Rattle.cq_inbox.specs.declared.request.Request.TheVariants.{Publish, Get}
use Rattle.cq_inbox.specs.Requests.{publishes}
use Rattle.cq_script.specs.declared.script.StepWord.{StepWord}
use Rattle.cq_script.specs.declared.script.StepWord.TheVariants.{Client, Turn, Write, Crash, Stop}
use Rattle.cq_script.specs.declared.script.Halt.{Halt}
use Rattle.cq_script.specs.declared.script.Halt.TheVariants as halt
use Rattle.cq_script.specs.declared.script.Script.{Script}
use Rattle.cq_script.specs.declared.script.ScriptError.{ScriptError}
use Rattle.cq_script.specs.declared.script.ScriptError.TheVariants.{Bad, Memory}
use Rattle.cq_bytes.specs.Texts.{is_text}
use Rattle.cq_script.specs.Words.{gets}
use Rattle.cq_script.specs.Scripts.{IsStep, crashes}

-- the line of a request
abbrev pub request_line : Request → List ℕ
request_line (Publish queues body) = codes "publish 0 text " ++ body
request_line (Get queue) = codes "get 0"
request_line _ = []

-- the word of a step within which the disk may stop
abbrev pub halt_word : Halt → List ℕ
halt_word (halt.Turn c) = codes "t0"
halt_word halt.Write = codes "w"

-- the word of a step
abbrev pub step_word : StepWord → List ℕ
step_word (Client c) = codes "c0"
step_word (Turn c) = codes "t0"
step_word Write = codes "w"
step_word (Crash image) = codes "!" ++ decimal image
step_word (Stop image calls s) = codes "!" ++ (decimal image ++ (codes "/" ++ (decimal calls ++ (codes ":" ++ halt_word s))))

-- steps, with a space before each
abbrev pub spaced_steps : List StepWord → List ℕ
spaced_steps steps = flat_map (λ s. 32 ∷ step_word s) steps

-- a schedule stands in one line, where there is one
abbrev pub schedule_lines : List StepWord → List (List ℕ)
schedule_lines [] = []
schedule_lines (s ∷ ss) = (codes "schedule" ++ spaced_steps (s ∷ ss)) ∷ []

-- the lines of a script
abbrev pub spelled_lines : List Request → List StepWord → List (List ℕ)
spelled_lines requests steps = codes "client 0" ∷ (map request_line requests ++ schedule_lines steps)

-- a script, each line ended by LF
abbrev pub spelling : List Request → List StepWord → List ℕ
spelling requests steps = flat_map (λ l. l ++ 10 ∷ []) (spelled_lines requests steps)

-- a publish of a text to queue 0, or a get of queue 0
abbrev pub IsSpellable : Request → Type 0
IsSpellable (Publish queues body) = (queues ≡ 0 ∷ []) × (is_text body ≡ true)
IsSpellable (Get queue) = queue ≡ 0
IsSpellable _ = ⊥

-- such requests and steps of the one client, within the limits
pub record AreSpellable (requests : List Request) (steps : List StepWord) : Type 0 where
  pub each : AllByRecursion IsSpellable requests
  pub few_publishes : publishes requests ≤ 4096
  pub few_gets : gets requests ≤ 64
  pub steps_are : AllByRecursion (IsStep 1) steps
  pub few_steps : length steps ≤ 10000
  pub few_crashes : crashes steps ≤ 1000

-- the number of the schedule line
abbrev pub schedule_place : List Request → List StepWord → Option ℕ
schedule_place requests [] = None
schedule_place requests (s ∷ ss) = Some (length requests + 2)

-- the reader gave this script, unless memory ran out
abbrev pub ReadsBack : Result Script ScriptError → List Request → List StepWord → Type 0
ReadsBack (Ok script) requests steps = (script.streams ≡ requests ∷ []) × (script.steps ≡ steps) × (script.scheduled ≡ schedule_place requests steps)
ReadsBack (Err Memory) requests steps = Unit {0}
ReadsBack (Err (Bad n w)) requests steps = ⊥

-- where these bytes spell requests and steps within the limits, they read back as those
abbrev pub ReadsSpelled : Result Script ScriptError → List ℕ → Type 0
ReadsSpelled result bytes = (requests : List Request) (steps : List StepWord) → AreSpellable requests steps → bytes ≡ spelling requests steps → ReadsBack result requests steps
