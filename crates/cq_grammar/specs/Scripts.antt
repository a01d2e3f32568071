-- What a script is read as, and the limits that it keeps.
use Rattle.std.specs.Prelude.{◌≡◌, ◌≤◌, length, take, Result, Ok, Err}
use Rattle.std.specs.List.{AllByRecursion}
use Rattle.cq_inbox.specs.Config.{IsInRange, HasNumbers, clients_of, segment_of, threshold_of, limit_of}
use Rattle.cq_grammar.specs.declared.script.Script.{Script}
use Rattle.cq_grammar.specs.declared.script.ScriptError.{ScriptError}
use Rattle.cq_grammar.specs.declared.script.ScriptError.TheVariants.{Bad, Memory}
use Rattle.cq_grammar.specs.declared.reading.Reading.{Reading}
use Rattle.cq_grammar.specs.Steps.{crashes, IsStep}
use Rattle.cq_grammar.specs.Requests.{whole_size, IsServable}
use Rattle.cq_grammar.specs.Grammar.{clients_in, segment_in, threshold_in, limit_in}

-- the script that all lines together say
pub record IsScript (reading : Reading) (script : Script) : Type 0 where
  pub config_is : HasNumbers (clients_in reading.settings) (segment_in reading.settings) (threshold_in reading.settings) (limit_in reading.settings) 0 script.config
  pub streams_are : script.streams ≡ take (clients_in reading.settings) reading.streams
  pub steps_are : script.steps ≡ reading.steps
  pub scheduled_is : script.scheduled ≡ reading.scheduled

-- the reader gave what the definition says, unless memory ran out
abbrev pub ReadsScript : Result Script ScriptError → Result Reading ScriptError → Type 0
ReadsScript (Ok script) read = (reading : Reading) × (read ≡ Ok reading) × IsScript reading script
ReadsScript (Err Memory) read = Unit {0}
ReadsScript (Err (Bad n w)) read = read ≡ Err (Bad n w)

-- the numbers are in their ranges, each client has its stream, requests, bodies, steps and crashes are few, and each request
-- and step can be served under these numbers
pub record KeepsLimits (script : Script) : Type 0 where
  pub in_range : IsInRange (clients_of script.config) (segment_of script.config) (threshold_of script.config) (limit_of script.config)
  pub one_each : length script.streams ≡ clients_of script.config
  pub few_requests : AllByRecursion (λ requests. length requests ≤ 100000) script.streams
  pub small_bodies : whole_size script.streams ≤ 268435456
  pub few_steps : length script.steps ≤ 1000000
  pub few_crashes : crashes script.steps ≤ 1000
  pub requests_are : AllByRecursion (λ requests. AllByRecursion (IsServable (threshold_of script.config)) requests) script.streams
  pub steps_are : AllByRecursion (IsStep (clients_of script.config)) script.steps
