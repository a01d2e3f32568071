-- What a call on a part of a line gives.
use Rattle.std.specs.Prelude.{◌≡◌, List, Result, Ok, Err}
use Rattle.std.specs.Global.{Vec}
use Rattle.cq_grammar.specs.declared.script.Why.{Why}
use Rattle.cq_grammar.specs.declared.error.LineError.{LineError}
use Rattle.cq_grammar.specs.declared.error.LineError.TheVariants as line_error

-- a call gave what the definition says, unless memory ran out
abbrev pub Reads : {A : Type 0} → Result A LineError → Result A Why → Type 0
Reads (Ok x) read = read ≡ Ok x
Reads (Err line_error.Memory) read = Unit {0}
Reads (Err (line_error.Bad w)) read = read ≡ Err w

-- a call that changes a value gave what the definition says, unless memory ran out
abbrev pub Gives : {A : Type 0} → Result (Unit {0}) LineError → A → Result A Why → Type 0
Gives (Ok x) new read = read ≡ Ok new
Gives (Err line_error.Memory) new read = Unit {0}
Gives (Err (line_error.Bad w)) new read = read ≡ Err w

-- a call that gives a vector gave what the definition says, unless memory ran out
abbrev pub ReadsItems : {A : Type 0} → Result (Vec A) LineError → Result (List A) Why → Type 0
ReadsItems (Ok v) read = read ≡ Ok v.items
ReadsItems (Err line_error.Memory) read = Unit {0}
ReadsItems (Err (line_error.Bad w)) read = read ≡ Err w
