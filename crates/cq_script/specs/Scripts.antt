-- What a script is read as, and the limits that it keeps.
use Rattle.std.specs.Prelude.{◌≡◌, ℕ, ◌^◌, ◌<◌, ◌≤◌, Bool, true, false, List, [], ◌∷◌, length, Result, Ok, Err}
use Rattle.std.specs.List.{AllByRecursion, count_by}
use Rattle.cq_inbox.specs.declared.request.Request.{Request}
use Rattle.cq_inbox.specs.declared.request.Request.TheVariants.{Publish, Get}
use Rattle.cq_inbox.specs.Requests.{IsRequest, publishes}
use Rattle.cq_inbox.specs.Config.{IsInRange, HasNumbers}
use Rattle.cq_script.specs.declared.script.StepWord.{StepWord}
use Rattle.cq_script.specs.declared.script.StepWord.TheVariants.{Client, Turn, Write, Crash, Stop}
use Rattle.cq_script.specs.declared.script.Halt.{Halt}
use Rattle.cq_script.specs.declared.script.Halt.TheVariants as halt
use Rattle.cq_script.specs.declared.script.Script.{Script}
use Rattle.cq_script.specs.declared.script.ScriptError.{ScriptError}
use Rattle.cq_script.specs.declared.script.ScriptError.TheVariants.{Bad, Memory}
use Rattle.cq_script.specs.declared.reading.Reading.{Reading}

-- the script for the one client under the default numbers, with what all the lines say
pub record IsScript (reading : Reading) (script : Script) : Type 0 where
  pub config_is : HasNumbers 1 4096 4096 16777216 0 script.config
  pub streams_is : script.streams ≡ reading.requests ∷ []
  pub steps_is : script.steps ≡ reading.steps
  pub scheduled_is : script.scheduled ≡ reading.scheduled

-- the reader gave what the definition says, unless memory ran out
abbrev pub ReadsScript : Result Script ScriptError → Result Reading ScriptError → Type 0
ReadsScript (Ok script) read = (reading : Reading) × (read ≡ Ok reading) × IsScript reading script
ReadsScript (Err Memory) read = Unit {0}
ReadsScript (Err (Bad n w)) read = read ≡ Err (Bad n w)

-- a publish to queue 0 of 1 to 64 bytes, or a get of queue 0
abbrev pub IsSmall : Request → Type 0
IsSmall (Publish queues body) = (queues ≡ 0 ∷ []) × (1 ≤ length body) × (length body ≤ 64)
IsSmall (Get queue) = queue ≡ 0
IsSmall _ = ⊥

-- a request that a node can answer, small and of queue 0
abbrev pub IsServable : Request → Type 0
IsServable r = IsRequest r × IsSmall r

-- a client's requests are at most 4160, at most 4096 of them publishes, and can be served
pub record IsStream (requests : List Request) : Type 0 where
  pub few_publishes : publishes requests ≤ 4096
  pub few : length requests ≤ 4160
  pub each : AllByRecursion IsServable requests

-- a step within which the disk may stop names one of so many clients, if it names one
abbrev pub IsHalt : ℕ → Halt → Type 0
IsHalt clients (halt.Turn c) = c < clients
IsHalt clients halt.Write = Unit {0}

-- a step names one of so many clients, if it names one, and its numbers are below 2 ^ 64
abbrev pub IsStep : ℕ → StepWord → Type 0
IsStep clients (Client c) = c < clients
IsStep clients (Turn c) = c < clients
IsStep clients Write = Unit {0}
IsStep clients (Crash image) = image < 2 ^ 64
IsStep clients (Stop image calls s) = (image < 2 ^ 64) × (calls < 2 ^ 64) × IsHalt clients s

-- whether a step ends the session with a crash
abbrev pub is_crash : StepWord → Bool
is_crash (Client c) = false
is_crash (Turn c) = false
is_crash Write = false
is_crash (Crash image) = true
is_crash (Stop image calls s) = true

-- how many of the steps end the session with a crash
abbrev pub crashes : List StepWord → ℕ
crashes steps = count_by is_crash steps

-- the numbers are in their ranges, there is one client, it has its stream, and requests and steps are few and can be served
pub record KeepsLimits (script : Script) : Type 0 where
  pub in_range : IsInRange script.config.clients script.config.segment script.config.threshold script.config.limit
  pub one_client : script.config.clients ≡ 1
  pub one_each : length script.streams ≡ script.config.clients
  pub streams_are : AllByRecursion IsStream script.streams
  pub few_steps : length script.steps ≤ 10000
  pub few_crashes : crashes script.steps ≤ 1000
  pub steps_are : AllByRecursion (IsStep script.config.clients) script.steps
