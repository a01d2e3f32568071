-- The form of a script: what each line may be after the lines before it.
use Rattle.std.specs.Prelude.{◌≡◌, ℕ, ◌+◌, ◌==◌, Bool, true, not, ◌&&◌, ◌||◌, if◌then◌else◌, List, [], ◌∷◌, length, take, nat_le, nat_lt, Option, None, Some, Result, Ok, Err, codes, is_some, ok_or, unwrap_or, replicate}
use Rattle.std.specs.List.{list_all}
use Rattle.std.specs.Str.{bytes_eq}
use Rattle.cq_inbox.specs.declared.request.Request.{Request}
use Rattle.cq_inbox.specs.declared.request.Request.TheVariants.{Publish, Get, Ack, End}
use Rattle.cq_grammar.specs.declared.script.Why.{Why}
use Rattle.cq_grammar.specs.declared.script.Why.TheVariants as why
use Rattle.cq_grammar.specs.declared.script.ScriptError.{ScriptError}
use Rattle.cq_grammar.specs.declared.script.ScriptError.TheVariants.{Bad, Memory}
use Rattle.cq_grammar.specs.declared.settings.Settings.{Settings}
use Rattle.cq_grammar.specs.declared.steps.Run.{Run}
use Rattle.cq_grammar.specs.declared.reading.Reading.{Reading}
use Rattle.cq_grammar.specs.Words.{script_lines, line_ends, words, is_printable, is_spaced, ◌>>=◌, each}
use Rattle.cq_grammar.specs.Steps.{client_within, run_of, with_runs}
use Rattle.cq_grammar.specs.Requests.{number_on, queue_within, queues_of, body_of, with_request}

-- ---- settings

-- the numbers that hold where no line gives others
abbrev pub clients_in : Settings → ℕ
clients_in s = unwrap_or s.clients 1

abbrev pub queues_in : Settings → ℕ
queues_in s = unwrap_or s.queues 1

abbrev pub segment_in : Settings → ℕ
segment_in s = unwrap_or s.segment 4096

abbrev pub threshold_in : Settings → ℕ
threshold_in s = unwrap_or s.threshold 4096

abbrev pub limit_in : Settings → ℕ
limit_in s = unwrap_or s.limit 16777216

-- no line gives a number
abbrev pub no_settings : Settings
no_settings = record { clients = None; queues = None; segment = None; threshold = None; limit = None }

-- whether a line of a client or of the schedule was read
abbrev pub has_begun : Reading → Bool
has_begun r = is_some r.client || is_some r.scheduled

-- a number in its range
abbrev pub number_within : ℕ → ℕ → ℕ → Result ℕ Why
number_within low high n = if nat_le low n && nat_le n high then Ok n else Err why.Number

-- the number of a setting: given once, before all clients and schedules, and in its range
abbrev pub setting_of : Bool → Option ℕ → ℕ → ℕ → List (List ℕ) → Result ℕ Why
setting_of late given low high (n ∷ []) =
    if late || is_some given then Err why.Order
    else number_on n >>= number_within low high
setting_of late given low high _ = Err why.Word

abbrev pub take_clients : Bool → Settings → List (List ℕ) → Result Settings Why
take_clients late s ws = setting_of late s.clients 1 64 ws >>= λ n. Ok (record s { clients = Some n })

abbrev pub take_queues : Bool → Settings → List (List ℕ) → Result Settings Why
take_queues late s ws = setting_of late s.queues 1 256 ws >>= λ n. Ok (record s { queues = Some n })

abbrev pub take_segment : Bool → Settings → List (List ℕ) → Result Settings Why
take_segment late s ws = setting_of late s.segment 16 4096 ws >>= λ n. Ok (record s { segment = Some n })

abbrev pub take_threshold : Bool → Settings → List (List ℕ) → Result Settings Why
take_threshold late s ws = setting_of late s.threshold 1 65536 ws >>= λ n. Ok (record s { threshold = Some n })

abbrev pub take_limit : Bool → Settings → List (List ℕ) → Result Settings Why
take_limit late s ws = setting_of late s.limit 4096 16777216 ws >>= λ n. Ok (record s { limit = Some n })

-- a line of a setting, where its first word names one
abbrev pub setting_line : Bool → Settings → List ℕ → List (List ℕ) → Option (Result Settings Why)
setting_line late s w ws =
    if bytes_eq w (codes "clients") then Some (take_clients late s ws)
    else if bytes_eq w (codes "queues") then Some (take_queues late s ws)
    else if bytes_eq w (codes "segment") then Some (take_segment late s ws)
    else if bytes_eq w (codes "threshold") then Some (take_threshold late s ws)
    else if bytes_eq w (codes "file") then Some (take_limit late s ws)
    else None

-- ---- clients and their requests

-- `client N`: what follows are requests of this client
abbrev pub take_client : Reading → List (List ℕ) → Result Reading Why
take_client r (n ∷ []) = number_on n >>= λ k. client_within (clients_in r.settings) k >>= λ c. Ok (record r { client = Some c })
take_client r _ = Err why.Word

-- a request of this client, after those before it
abbrev pub add : Reading → ℕ → Request → Result Reading Why
add r client request = with_request r.streams client request >>= λ streams. Ok (record r { streams = streams })

-- `publish Q,Q BODY`
abbrev pub publish_by : Reading → ℕ → List (List ℕ) → Result Reading Why
publish_by r client (queues ∷ kind ∷ more) =
    queues_of (queues_in r.settings) queues >>= λ qs.
    body_of (threshold_in r.settings) (kind ∷ more) >>= λ body.
    add r client (Publish qs body)
publish_by r client _ = Err why.Word

-- `get Q`
abbrev pub get_by : Reading → ℕ → List (List ℕ) → Result Reading Why
get_by r client (q ∷ []) = number_on q >>= λ n. queue_within (queues_in r.settings) n >>= λ queue. add r client (Get queue)
get_by r client _ = Err why.Word

-- `ack D`
abbrev pub ack_by : Reading → ℕ → List (List ℕ) → Result Reading Why
ack_by r client (d ∷ []) = number_on d >>= λ n. number_within 0 4294967295 n >>= λ delivery. add r client (Ack delivery)
ack_by r client _ = Err why.Word

-- `end`
abbrev pub end_by : Reading → ℕ → List (List ℕ) → Result Reading Why
end_by r client [] = add r client End
end_by r client _ = Err why.Word

-- the client whose requests follow
abbrev pub client_now : Reading → Result ℕ Why
client_now r = ok_or r.client why.Client

-- a request stands after a line of its client
abbrev pub of_client : Reading → (ℕ → Result Reading Why) → Result Reading Why
of_client r read = client_now r >>= read

-- ---- the schedule

-- more steps, in the line with this number
abbrev pub with_schedule : ℕ → Reading → List Run → Result Reading Why
with_schedule n r runs = with_runs r.steps runs >>= λ steps. Ok (record r { steps = steps; scheduled = Some (unwrap_or r.scheduled n) })

-- the words of a schedule
abbrev pub scheduled_by : ℕ → Reading → List (List ℕ) → Result Reading Why
scheduled_by n r ws =
    each (run_of (clients_in r.settings)) ws >>= with_schedule n r

-- `schedule S S`
abbrev pub take_schedule : ℕ → Reading → List (List ℕ) → Result Reading Why
take_schedule n r [] = Err why.Word
take_schedule n r (w ∷ ws) = scheduled_by n r (w ∷ ws)

-- ---- lines

-- a line that isn't of a setting, by its first word
abbrev pub take_line : ℕ → Reading → List ℕ → List (List ℕ) → Result Reading Why
take_line n r w ws =
    if bytes_eq w (codes "client") then take_client r ws
    else if bytes_eq w (codes "publish") then of_client r (λ c. publish_by r c ws)
    else if bytes_eq w (codes "get") then of_client r (λ c. get_by r c ws)
    else if bytes_eq w (codes "ack") then of_client r (λ c. ack_by r c ws)
    else if bytes_eq w (codes "end") then of_client r (λ c. end_by r c ws)
    else if bytes_eq w (codes "schedule") then take_schedule n r ws
    else Err why.Word

-- a line of a setting, or another one
abbrev pub set_or_take : ℕ → Reading → List ℕ → List (List ℕ) → Option (Result Settings Why) → Result Reading Why
set_or_take n r w ws (Some read) = read >>= λ s. Ok (record r { settings = s })
set_or_take n r w ws None = take_line n r w ws

-- the line with this number, by its words
abbrev pub take_words : ℕ → Reading → List (List ℕ) → Result Reading Why
take_words n r [] = Err why.Word
take_words n r (w ∷ ws) = set_or_take n r w ws (setting_line (has_begun r) r.settings w ws)

-- an empty line, or one that begins with `#`
abbrev pub is_passed_over : List ℕ → Bool
is_passed_over [] = true
is_passed_over (b ∷ bs) = b == 35

-- a line that isn't passed over has printable bytes, and single spaces separate its words
abbrev pub read_line : ℕ → Reading → List ℕ → Result Reading Why
read_line n r line =
    if is_passed_over line then Ok r
    else if not (list_all is_printable line) || not (is_spaced (words line)) then Err why.Word
    else take_words n r (words line)

-- why a script is bad: its line and the reason
abbrev pub at_line : ℕ → Result Reading Why → Result Reading ScriptError
at_line n (Ok r) = Ok r
at_line n (Err w) = Err (Bad n w)

-- what lines make of what was read before, up to the first bad one; the first of them has this number
abbrev pub read_lines : ℕ → Reading → List (List ℕ) → Result Reading ScriptError
read_lines n r [] = Ok r
read_lines n r (l ∷ ls) = at_line n (read_line n r l) >>= λ more. read_lines (n + 1) more ls

-- before the first line: no client of the 64 has a request
abbrev pub nothing_read : Reading
nothing_read = record { settings = no_settings; client = None; streams = replicate 64 []; steps = []; scheduled = None }

-- what a script says, or its first bad line
abbrev pub script_of : List ℕ → Result Reading ScriptError
script_of bytes =
    if nat_lt 67108864 (length bytes) then Err (Bad (line_ends (take 67108864 bytes) + 1) why.Long)
    else read_lines 1 nothing_read (script_lines bytes)

-- ---- what the code's calls give

-- a call on a numbered line gave what the definition says, unless memory ran out
abbrev pub AtLine : Result (Unit {0}) ScriptError → Reading → Result Reading ScriptError → Type 0
AtLine (Ok x) new read = read ≡ Ok new
AtLine (Err Memory) new read = Unit {0}
AtLine (Err (Bad n w)) new read = read ≡ Err (Bad n w)

-- the reader of all lines gave what the definition says, unless memory ran out
abbrev pub ReadsLines : Result Reading ScriptError → Result Reading ScriptError → Type 0
ReadsLines (Ok r) read = read ≡ Ok r
ReadsLines (Err Memory) read = Unit {0}
ReadsLines (Err (Bad n w)) read = read ≡ Err (Bad n w)
