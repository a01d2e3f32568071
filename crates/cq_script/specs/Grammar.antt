-- The form of a script: what each line may be after the lines before it.
use Rattle.std.specs.Prelude.{◌≡◌, ℕ, ◌+◌, true, false, not, ◌&&◌, ◌||◌, if◌then◌else◌, List, [], ◌∷◌, ◌++◌, length, take, nat_le, nat_lt, Option, None, Some, Result, Ok, Err, codes, is_some}
use Rattle.std.specs.List.{list_all}
use Rattle.std.specs.Str.{bytes_eq}
use Rattle.cq_inbox.specs.declared.request.Request.TheVariants.{Publish, Get}
use Rattle.cq_script.specs.declared.script.StepWord.{StepWord}
use Rattle.cq_script.specs.declared.script.Why.{Why}
use Rattle.cq_script.specs.declared.script.Why.TheVariants as why
use Rattle.cq_script.specs.declared.script.ScriptError.{ScriptError}
use Rattle.cq_script.specs.declared.script.ScriptError.TheVariants.{Bad, Memory}
use Rattle.cq_script.specs.declared.reading.LineError.{LineError}
use Rattle.cq_script.specs.declared.reading.LineError.TheVariants as line_error
use Rattle.cq_script.specs.declared.reading.Reading.{Reading}
use Rattle.cq_inbox.specs.Requests.{publishes}
use Rattle.cq_bytes.specs.Texts.{is_text}
use Rattle.cq_script.specs.Words.{script_lines, line_ends, words, is_printable, is_spaced, step_of, gets}
use Rattle.cq_script.specs.Scripts.{crashes}

-- `client 0`, once
abbrev pub take_client : Reading → List (List ℕ) → Result Reading Why
take_client r (n ∷ []) =
    if not (bytes_eq n (codes "0")) then Err why.Client
    else if r.started then Err why.Order
    else Ok (record r { started = true })
take_client r _ = Err why.Word

-- a request stands after `client 0`, and before `schedule`
abbrev pub among_requests : Reading → Result Reading Why → Result Reading Why
among_requests r read =
    if not r.started then Err why.Client
    else if is_some r.scheduled then Err why.Order
    else read

-- `get 0`, at most 64 times
abbrev pub read_get : Reading → List (List ℕ) → Result Reading Why
read_get r (n ∷ []) =
    if not (bytes_eq n (codes "0")) then Err why.Queue
    else if nat_le 64 (gets r.requests) then Err why.Many
    else Ok (record r { requests = r.requests ++ Get 0 ∷ [] })
read_get r _ = Err why.Word

abbrev pub take_get : Reading → List (List ℕ) → Result Reading Why
take_get r ws = among_requests r (read_get r ws)

-- a body is `text W`
abbrev pub text_of : List (List ℕ) → Option (List ℕ)
text_of (kind ∷ text ∷ []) = if bytes_eq kind (codes "text") && is_text text then Some text else None
text_of _ = None

-- the publish of a body, at most 4096 times
abbrev pub read_body : Reading → Option (List ℕ) → Result Reading Why
read_body r None = Err why.Body
read_body r (Some text) =
    if nat_le 4096 (publishes r.requests) then Err why.Many
    else Ok (record r { requests = r.requests ++ Publish (0 ∷ []) text ∷ [] })

-- `publish 0 BODY`
abbrev pub read_publish : Reading → List (List ℕ) → Result Reading Why
read_publish r (n ∷ kind ∷ rest) =
    if not (bytes_eq n (codes "0")) then Err why.Queue
    else read_body r (text_of (kind ∷ rest))
read_publish r _ = Err why.Word

abbrev pub take_publish : Reading → List (List ℕ) → Result Reading Why
take_publish r ws = among_requests r (read_publish r ws)

-- one more step of the schedule
abbrev pub after_step : List StepWord → Option StepWord → Result (List StepWord) Why
after_step steps None = Err why.Step
after_step steps (Some s) = Ok (steps ++ s ∷ [])

abbrev pub take_step : List ℕ → Result (List StepWord) Why → Result (List StepWord) Why
take_step w (Ok steps) = after_step steps (step_of w)
take_step w (Err e) = Err e

abbrev pub take_steps : Result (List StepWord) Why → List (List ℕ) → Result (List StepWord) Why
take_steps read [] = read
take_steps read (w ∷ ws) = take_steps (take_step w read) ws

-- a schedule has at most 10,000 steps, at most 1000 of them crashes
abbrev pub with_steps : ℕ → Reading → Result (List StepWord) Why → Result Reading Why
with_steps n r (Ok steps) = if nat_lt 10000 (length steps) || nat_lt 1000 (crashes steps) then Err why.Many else Ok (record r { steps = steps; scheduled = Some n })
with_steps n r (Err e) = Err e

-- `schedule S S`, once
abbrev pub take_schedule : ℕ → Reading → List (List ℕ) → Result Reading Why
take_schedule n r [] = Err why.Word
take_schedule n r (w ∷ ws) = among_requests r (with_steps n r (take_steps (Ok r.steps) (w ∷ ws)))

-- the line with this number, by its words
abbrev pub take_words : ℕ → Reading → List (List ℕ) → Result Reading Why
take_words n r [] = Err why.Word
take_words n r (w ∷ ws) =
    if bytes_eq w (codes "client") then take_client r ws
    else if bytes_eq w (codes "publish") then take_publish r ws
    else if bytes_eq w (codes "get") then take_get r ws
    else if bytes_eq w (codes "schedule") then take_schedule n r ws
    else Err why.Word

-- a line has printable bytes, and single spaces separate its words
abbrev pub read_line : ℕ → Reading → List ℕ → Result Reading Why
read_line n r line =
    if not (list_all is_printable line) || not (is_spaced (words line)) then Err why.Word
    else take_words n r (words line)

-- what a line makes of the lines before it; the first bad line stays
abbrev pub at_line : ℕ → Result Reading Why → Result Reading ScriptError
at_line n (Ok r) = Ok r
at_line n (Err w) = Err (Bad n w)

abbrev pub take_line : ℕ → List ℕ → Result Reading ScriptError → Result Reading ScriptError
take_line n line (Ok r) = at_line n (read_line n r line)
take_line n line (Err b) = Err b

-- what the lines make, the first of which has this number
abbrev pub take_lines : ℕ → Result Reading ScriptError → List (List ℕ) → Result Reading ScriptError
take_lines n read [] = read
take_lines n read (l ∷ ls) = take_lines (n + 1) (take_line n l read) ls

-- before the first line
abbrev pub nothing_read : Reading
nothing_read = record { requests = []; steps = []; started = false; scheduled = None }

-- what a script says, or its first bad line
abbrev pub script_of : List ℕ → Result Reading ScriptError
script_of bytes =
    if nat_lt 1048576 (length bytes) then Err (Bad (line_ends (take 1048576 bytes) + 1) why.Long)
    else take_lines 1 (Ok nothing_read) (script_lines bytes)

-- ---- what the code's calls give

-- a call on a line gave what the definition says, unless memory ran out
abbrev pub Gives : Result (Unit {0}) LineError → Reading → Result Reading Why → Type 0
Gives (Ok x) new read = read ≡ Ok new
Gives (Err line_error.Memory) new read = Unit {0}
Gives (Err (line_error.Bad w)) new read = read ≡ Err w

-- a call on words of the schedule gave what the definition says, unless memory ran out
abbrev pub GivesSteps : Result (Unit {0}) LineError → List StepWord → Result (List StepWord) Why → Type 0
GivesSteps (Ok x) new read = read ≡ Ok new
GivesSteps (Err line_error.Memory) new read = Unit {0}
GivesSteps (Err (line_error.Bad w)) new read = read ≡ Err w

-- a call on a numbered line gave what the definition says, unless memory ran out
abbrev pub AtLine : Result (Unit {0}) ScriptError → Reading → Result Reading ScriptError → Type 0
AtLine (Ok x) new read = read ≡ Ok new
AtLine (Err Memory) new read = Unit {0}
AtLine (Err (Bad n w)) new read = read ≡ Err (Bad n w)

-- the reader of all lines gave what the definition says, unless memory ran out
abbrev pub Reads : Result Reading ScriptError → Result Reading ScriptError → Type 0
Reads (Ok r) read = read ≡ Ok r
Reads (Err Memory) read = Unit {0}
Reads (Err (Bad n w)) read = read ≡ Err (Bad n w)
