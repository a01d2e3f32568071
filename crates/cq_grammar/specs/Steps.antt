-- The words of a schedule, and the steps that they make.
use Rattle.std.specs.Prelude.{◌≡◌, ◌<◌, ◌≤◌, ℕ, ◌^◌, ◌==◌, ◌&&◌, ◌||◌, if◌then◌else◌, Bool, true, false, List, [], ◌∷◌, ◌++◌, length, nat_le, nat_lt, Option, None, Some, Result, Ok, Err, codes, ok_or, replicate}
use Rattle.std.specs.List.{count_by}
use Rattle.std.specs.Str.{bytes_eq}
use Rattle.cq_grammar.specs.declared.script.StepWord.{StepWord}
use Rattle.cq_grammar.specs.declared.script.StepWord.TheVariants as step
use Rattle.cq_grammar.specs.declared.script.Halt.{Halt}
use Rattle.cq_grammar.specs.declared.script.Halt.TheVariants as halt
use Rattle.cq_grammar.specs.declared.script.Why.{Why}
use Rattle.cq_grammar.specs.declared.script.Why.TheVariants as why
use Rattle.cq_grammar.specs.declared.steps.Run.{Run}
use Rattle.cq_grammar.specs.Words.{number_of, halves, ◌>>=◌, map_ok}

-- the number in a word of a schedule; a word without one is no step
abbrev pub number_in : List ℕ → Result ℕ Why
number_in w = ok_or (number_of w) why.Step

-- a client of so many
abbrev pub client_within : ℕ → ℕ → Result ℕ Why
client_within clients c = if nat_lt c clients then Ok c else Err why.Client

-- the client of so many whose number these digits are
abbrev pub client_of : ℕ → List ℕ → Result ℕ Why
client_of clients w = number_in w >>= client_within clients

-- a step of the writer or of the compactor: `w` or `m`
abbrev pub letter_of : List ℕ → Result Halt Why
letter_of w =
    if bytes_eq w (codes "w") then Ok halt.Write
    else if bytes_eq w (codes "m") then Ok halt.Shift
    else Err why.Step

-- a step within which the disk may stop, by its word: `tK`, `w` or `m`
abbrev pub halt_of : ℕ → List ℕ → Result Halt Why
halt_of clients [] = Err why.Step
halt_of clients (b ∷ w) =
    if b == 116 then map_ok halt.Turn (client_of clients w)
    else letter_of (b ∷ w)

-- such a step as a step of the schedule
abbrev pub step_within : Halt → StepWord
step_within (halt.Turn c) = step.Turn c
step_within halt.Write = step.Write
step_within halt.Shift = step.Shift

-- a step that may be repeated, by its word: `cK`, `tK`, `w` or `m`
abbrev pub plain_step_of : ℕ → List ℕ → Result StepWord Why
plain_step_of clients [] = Err why.Step
plain_step_of clients (b ∷ w) =
    if b == 99 then map_ok step.Client (client_of clients w)
    else map_ok step_within (halt_of clients (b ∷ w))

-- a step is made from 1 to 1,000,000 times
abbrev pub times_within : ℕ → Result ℕ Why
times_within n = if nat_le 1 n && nat_le n 1000000 then Ok n else Err why.Step

abbrev pub times_of : List ℕ → Result ℕ Why
times_of w = number_in w >>= times_within

abbrev pub run : StepWord → ℕ → Run
run s n = record { step = s; times = n }

abbrev pub once : StepWord → Run
once s = run s 1

-- a step, once or as often as `*R` says
abbrev pub repeated_by : ℕ → List ℕ → Option (List ℕ × List ℕ) → Result Run Why
repeated_by clients w None = map_ok once (plain_step_of clients w)
repeated_by clients w (Some (name, times)) = do
  n ← times_of times
  s ← plain_step_of clients name
  Ok (run s n)

-- a stop with this image, by `K:S`
abbrev pub stop_by : ℕ → ℕ → Option (List ℕ × List ℕ) → Result StepWord Why
stop_by clients image None = Err why.Step
stop_by clients image (Some (calls, s)) = do
  n ← number_in calls
  h ← halt_of clients s
  Ok (step.Stop image n h)

-- a crash by `N`, or a stop by `N` and `K:S`
abbrev pub crash_by : ℕ → List ℕ → Option (List ℕ × List ℕ) → Result StepWord Why
crash_by clients w None = map_ok step.Crash (number_in w)
crash_by clients w (Some (image, rest)) = number_in image >>= λ n. stop_by clients n (halves 58 rest)

-- the step of a word of the schedule, and how often it is made; a crash or a stop stands after `!`
abbrev pub run_of : ℕ → List ℕ → Result Run Why
run_of clients [] = Err why.Step
run_of clients (b ∷ w) =
    if b == 33 then map_ok once (crash_by clients w (halves 47 w))
    else repeated_by clients (b ∷ w) (halves 42 (b ∷ w))

-- the steps of a word
abbrev pub steps_of : Run → List StepWord
steps_of r = replicate r.times r.step

-- a step within which the disk may stop names one of so many clients, if it names one
abbrev pub IsHalt : ℕ → Halt → Type 0
IsHalt clients (halt.Turn c) = c < clients
IsHalt clients halt.Write = Unit {0}
IsHalt clients halt.Shift = Unit {0}

-- a step names one of so many clients, if it names one, and its numbers are below 2 ^ 64
abbrev pub IsStep : ℕ → StepWord → Type 0
IsStep clients (step.Client c) = c < clients
IsStep clients (step.Turn c) = c < clients
IsStep clients step.Write = Unit {0}
IsStep clients step.Shift = Unit {0}
IsStep clients (step.Crash image) = image < 2 ^ 64
IsStep clients (step.Stop image calls s) = (image < 2 ^ 64) × (calls < 2 ^ 64) × IsHalt clients s

-- whether a step ends the session with a crash
abbrev pub is_crash : StepWord → Bool
is_crash (step.Client c) = false
is_crash (step.Turn c) = false
is_crash step.Write = false
is_crash step.Shift = false
is_crash (step.Crash image) = true
is_crash (step.Stop image calls s) = true

-- how many of the steps end the session with a crash
abbrev pub crashes : List StepWord → ℕ
crashes steps = count_by is_crash steps

-- more than 1,000,000 steps, or more than 1000 crashes among them
abbrev pub too_many : List StepWord → Bool
too_many steps = nat_lt 1000000 (length steps) || nat_lt 1000 (crashes steps)

-- a schedule, with the steps of one more word at its end
abbrev pub with_run : List StepWord → Run → Result (List StepWord) Why
with_run steps r = if too_many (steps ++ steps_of r) then Err why.Many else Ok (steps ++ steps_of r)

-- a schedule, with the steps of more words at its end
abbrev pub with_runs : List StepWord → List Run → Result (List StepWord) Why
with_runs steps [] = Ok steps
with_runs steps (r ∷ rs) = with_run steps r >>= λ more. with_runs more rs

-- a schedule that isn't too long, and the count of its crashes
pub record IsCounted (steps : List StepWord) (crash_count : ℕ) : Type 0 where
  pub crashes_are : crash_count ≡ crashes steps
  pub few_steps : length steps ≤ 1000000
  pub few_crashes : crash_count ≤ 1000
