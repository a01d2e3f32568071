-- The lines of a script, the words of a line, and the words that carry a value.
use Rattle.std.specs.Prelude.{◌≡◌, ℕ, ◌+◌, ◌-◌, ◌^◌, Bool, true, false, not, ◌==◌, ◌&&◌, if◌then◌else◌, List, [], ◌∷◌, length, take, drop, slice_index, nat_le, nat_lt, Option, None, Some, codes}
use Rattle.std.specs.List.{slice_split, list_all, count_by, position}
use Rattle.std.specs.Option.{option_map}
use Rattle.std.specs.Char.{is_ascii_digit}
use Rattle.std.specs.Str.{bytes_eq}
use Rattle.std.specs.Str.Parse.{digits_value}
use Rattle.cq_inbox.specs.Requests.{publishes}
use Rattle.cq_inbox.specs.declared.request.Request.{Request}
use Rattle.cq_inbox.specs.declared.request.Request.TheVariants.{Get}
use Rattle.cq_script.specs.declared.script.StepWord.{StepWord}
use Rattle.cq_script.specs.declared.script.StepWord.TheVariants as step
use Rattle.cq_script.specs.declared.script.Halt.{Halt}
use Rattle.cq_script.specs.declared.script.Halt.TheVariants as halt

-- a text without the LF at its end, if it has one
abbrev pub without_last_newline : List ℕ → List ℕ
without_last_newline bs = if slice_index bs (length bs - 1) == 10 then take (length bs - 1) bs else bs

-- LF ends each line, but may lack at the last
abbrev pub script_lines : List ℕ → List (List ℕ)
script_lines [] = []
script_lines (b ∷ bs) = slice_split (λ c. c == 10) (without_last_newline (b ∷ bs))

-- how many LFs stand in a text
abbrev pub line_ends : List ℕ → ℕ
line_ends bs = count_by (λ b. b == 10) bs

-- what stands between spaces
abbrev pub words : List ℕ → List (List ℕ)
words line = slice_split (λ c. c == 32) line

-- a byte from 0x20 to 0x7e
abbrev pub is_printable : ℕ → Bool
is_printable b = nat_le 32 b && nat_le b 126

-- no word is empty: single spaces separate the words
abbrev pub is_spaced : List (List ℕ) → Bool
is_spaced ws = list_all (λ w. not (length w == 0)) ws

-- `0`, or decimal digits of which the first isn't 0
abbrev pub is_decimal : List ℕ → Bool
is_decimal [] = false
is_decimal (first ∷ rest) = if first == 48 then length rest == 0 else list_all is_ascii_digit (first ∷ rest)

-- the number that such digits spell, below 2 ^ 64
abbrev pub number_of : List ℕ → Option ℕ
number_of w = if is_decimal w && nat_lt (digits_value 10 w) (2 ^ 64) then Some (digits_value 10 w) else None

-- what stands in a word before a byte and after it, where that byte first stands there
abbrev pub halves : ℕ → List ℕ → Option (List ℕ × List ℕ)
halves c w = option_map (λ place. (take place w, drop (place + 1) w)) (position (λ b. b == c) w)

-- a step within which the disk may stop, by its word
abbrev pub halt_of : List ℕ → Option Halt
halt_of w =
    if bytes_eq w (codes "t0") then Some (halt.Turn 0)
    else if bytes_eq w (codes "w") then Some halt.Write
    else None

-- a stop with this image, where its number of calls and its step are of their forms
abbrev pub stop_at : ℕ → Option ℕ → Option Halt → Option StepWord
stop_at image None s = None
stop_at image (Some calls) s = option_map (step.Stop image calls) s

-- a stop with this image, by `K` and `S`
abbrev pub stop_by : ℕ → Option (List ℕ × List ℕ) → Option StepWord
stop_by image None = None
stop_by image (Some (calls, s)) = stop_at image (number_of calls) (halt_of s)

-- a stop with this image, by `K:S`
abbrev pub stop_of : ℕ → List ℕ → Option StepWord
stop_of image w = stop_by image (halves 58 w)

-- a stop, by its image, where that is a number, and `K:S`
abbrev pub stop_after : Option ℕ → List ℕ → Option StepWord
stop_after None w = None
stop_after (Some image) w = stop_of image w

-- a crash by `N`, or a stop by `N` and `K:S`
abbrev pub crash_by : List ℕ → Option (List ℕ × List ℕ) → Option StepWord
crash_by w None = option_map step.Crash (number_of w)
crash_by w (Some (image, rest)) = stop_after (number_of image) rest

-- a crash by `N`, or a stop by `N/K:S`
abbrev pub crash_of : List ℕ → Option StepWord
crash_of w = crash_by w (halves 47 w)

-- a step that is no crash, by its word
abbrev pub plain_step_of : List ℕ → Option StepWord
plain_step_of w =
    if bytes_eq w (codes "c0") then Some (step.Client 0)
    else if bytes_eq w (codes "t0") then Some (step.Turn 0)
    else if bytes_eq w (codes "w") then Some step.Write
    else None

-- a step of the schedule, by its word; a crash or a stop stands after `!`
abbrev pub step_of : List ℕ → Option StepWord
step_of [] = None
step_of (b ∷ w) = if b == 33 then crash_of w else plain_step_of (b ∷ w)

-- whether a request is a get
abbrev pub is_get : Request → Bool
is_get (Get queue) = true
is_get _ = false

-- how many of the requests are gets
abbrev pub gets : List Request → ℕ
gets rs = count_by is_get rs

-- these are the counts of the requests
pub record IsCounted (requests : List Request) (publish_count get_count : ℕ) : Type 0 where
  pub publishes_is : publish_count ≡ publishes requests
  pub gets_is : get_count ≡ gets requests
