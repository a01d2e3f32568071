-- How a script is spelled.
use Rattle.std.specs.Prelude.{◌≡◌, ℕ, ◌+◌, ◌≤◌, List, [], ◌∷◌, ◌++◌, length, map, Option, None, Some, Result, Ok, Err, codes}
use Rattle.std.specs.List.{AllByRecursion, join_with_byte}
use Rattle.std.specs.Fmt.{decimal}
use Rattle.hex.specs.Hex.{encode_lower, IsBytes}
use Rattle.cq_inbox.specs.declared.request.Request.{Request}
use Rattle.cq_inbox.specs.declared.request.Request.TheVariants.{Publish, Get, Ack, End}
use Rattle.cq_inbox.specs.Config.{HasNumbers, clients_of, segment_of, threshold_of, limit_of}
use Rattle.cq_grammar.specs.declared.script.StepWord.{StepWord}
use Rattle.cq_grammar.specs.declared.script.StepWord.TheVariants as step
use Rattle.cq_grammar.specs.declared.script.Halt.{Halt}
use Rattle.cq_grammar.specs.declared.script.Halt.TheVariants as halt
use Rattle.cq_grammar.specs.declared.script.Script.{Script}
use Rattle.cq_grammar.specs.declared.script.ScriptError.{ScriptError}
use Rattle.cq_grammar.specs.declared.script.ScriptError.TheVariants.{Bad, Memory}
use Rattle.cq_grammar.specs.Scripts.{KeepsLimits}

-- the words of a body
abbrev pub body_words : List ℕ → List (List ℕ)
body_words [] = codes "empty" ∷ []
body_words (b ∷ bytes) = codes "hex" ∷ encode_lower (b ∷ bytes) ∷ []

-- numbers with commas between them
abbrev pub numbers_word : List ℕ → List ℕ
numbers_word qs = join_with_byte 44 (map decimal qs)

-- the words of a request
abbrev pub request_words : Request → List (List ℕ)
request_words (Publish queues body) = codes "publish" ∷ numbers_word queues ∷ body_words body
request_words (Get queue) = codes "get" ∷ decimal queue ∷ []
request_words (Ack delivery) = codes "ack" ∷ decimal delivery ∷ []
request_words End = codes "end" ∷ []

-- the word of a step within which the disk may stop
abbrev pub halt_word : Halt → List ℕ
halt_word (halt.Turn c) = codes "t" ++ decimal c
halt_word halt.Write = codes "w"
halt_word halt.Shift = codes "m"

-- the word of a step
abbrev pub step_word : StepWord → List ℕ
step_word (step.Client c) = codes "c" ++ decimal c
step_word (step.Turn c) = codes "t" ++ decimal c
step_word step.Write = codes "w"
step_word step.Shift = codes "m"
step_word (step.Crash image) = codes "!" ++ decimal image
step_word (step.Stop image calls s) = codes "!" ++ (decimal image ++ (codes "/" ++ (decimal calls ++ (codes ":" ++ halt_word s))))

-- the words of the lines that set the numbers, for 256 queues
abbrev pub setting_lines : ℕ → ℕ → ℕ → ℕ → List (List (List ℕ))
setting_lines clients segment threshold limit =
    (codes "clients" ∷ decimal clients ∷ []) ∷ (codes "queues" ∷ decimal 256 ∷ []) ∷ (codes "segment" ∷ decimal segment ∷ [])
    ∷ (codes "threshold" ∷ decimal threshold ∷ []) ∷ (codes "file" ∷ decimal limit ∷ []) ∷ []

-- the words of the lines of clients, from this one on
abbrev pub client_lines : ℕ → List (List Request) → List (List (List ℕ))
client_lines c [] = []
client_lines c (requests ∷ streams) = (codes "client" ∷ decimal c ∷ []) ∷ (map request_words requests ++ client_lines (c + 1) streams)

-- a schedule stands in one line, where there is one
abbrev pub schedule_lines : List StepWord → List (List (List ℕ))
schedule_lines [] = []
schedule_lines (s ∷ ss) = (codes "schedule" ∷ map step_word (s ∷ ss)) ∷ []

-- the words of the lines of a script
abbrev pub spelled_lines : Script → List (List (List ℕ))
spelled_lines script =
    setting_lines (clients_of script.config) (segment_of script.config) (threshold_of script.config) (limit_of script.config)
    ++ (client_lines 0 script.streams ++ schedule_lines script.steps)

-- a script: single spaces between words, and each line ended by LF
abbrev pub spelling : Script → List ℕ
spelling script = join_with_byte 10 (map (join_with_byte 32) (spelled_lines script)) ++ 10 ∷ []

-- the bodies of a request are bytes
abbrev pub HasBytes : Request → Type 0
HasBytes (Publish queues body) = IsBytes body
HasBytes _ = Unit {0}

-- a script within the limits, which isn't too long when it is spelled
pub record IsSpellable (script : Script) : Type 0 where
  pub limits : KeepsLimits script
  pub bytes : AllByRecursion (λ requests. AllByRecursion HasBytes requests) script.streams
  pub short : length (spelling script) ≤ 67108864

-- the number of the schedule line, after the lines before it
abbrev pub schedule_place : ℕ → List StepWord → Option ℕ
schedule_place before [] = None
schedule_place before (s ∷ ss) = Some (before + 1)

-- one script was read where another was spelled: the same numbers, requests and steps
pub record IsReadBack (spelled script : Script) : Type 0 where
  pub config_is : HasNumbers (clients_of spelled.config) (segment_of spelled.config) (threshold_of spelled.config) (limit_of spelled.config) 0 script.config
  pub streams_are : script.streams ≡ spelled.streams
  pub steps_are : script.steps ≡ spelled.steps
  pub scheduled_is : script.scheduled ≡ schedule_place (5 + length (client_lines 0 spelled.streams)) spelled.steps

-- the reader gave this script back, unless memory ran out
abbrev pub ReadsBack : Result Script ScriptError → Script → Type 0
ReadsBack (Ok script) spelled = IsReadBack spelled script
ReadsBack (Err Memory) spelled = Unit {0}
ReadsBack (Err (Bad n w)) spelled = ⊥

-- where these bytes spell a script within the limits, they read back as that script
abbrev pub ReadsSpelled : Result Script ScriptError → List ℕ → Type 0
ReadsSpelled result bytes = (script : Script) → IsSpellable script → bytes ≡ spelling script → ReadsBack result script
