-- The bodies of messages, by their ids.
use Rattle.std.specs.Prelude.{◌≡◌, ℕ, ◌==◌, if◌then◌else◌, List, [], ◌∷◌, Option, None, Some}
use Rattle.std.specs.Borrow.{Bor}
use Rattle.std.specs.Option.{option_map}
use Rattle.std.specs.Ordering.{nat_cmp}
use Rattle.std.specs.BTreeMap.{BTreeMap, get}
use Rattle.cq_journal.specs.declared.event.Event.{Event}
use Rattle.cq_journal.specs.declared.event.Event.TheVariants.{Opened, Published}
use Rattle.cq_journal.specs.declared.event.Entry.{Entry}
use Rattle.cq_journal.specs.declared.lines.Line.{Line}

-- one of two, the first where it is there
abbrev pub or_else : {A : Type 0} → Option A → Option A → Option A
or_else (Some x) other = Some x
or_else None other = other

-- the body of the last of the opened lines that has this id
abbrev pub line_body : ℕ → List Line → Option (List ℕ)
line_body x [] = None
line_body x (l ∷ ls) = or_else (line_body x ls) (if l.id == x then Some l.body else None)

-- the body that an event brings for this id
abbrev pub body_in : ℕ → Event → Option (List ℕ)
body_in x (Opened lines) = line_body x lines
body_in x (Published client number id queues body) = if id == x then Some body else None
body_in x _ = None

-- the body that the newest entry brought for this id
abbrev pub find_body : ℕ → List Entry → Option (List ℕ)
find_body x [] = None
find_body x (e ∷ past) = or_else (body_in x e.event) (find_body x past)

-- the body that a map has for an id
abbrev pub shown : BTreeMap ℕ (Bor (List ℕ)) → ℕ → Option (List ℕ)
shown bodies x = option_map (λ (b : Bor (List ℕ)). b.now) (get nat_cmp bodies x)

-- a map has one more body, in place of an earlier one of this id
abbrev pub Notes : BTreeMap ℕ (Bor (List ℕ)) → BTreeMap ℕ (Bor (List ℕ)) → ℕ → List ℕ → Type 0
Notes old new id body = (x : ℕ) → shown new x ≡ or_else (if id == x then Some body else None) (shown old x)

-- it has those of opened lines
abbrev pub NotesLines : BTreeMap ℕ (Bor (List ℕ)) → BTreeMap ℕ (Bor (List ℕ)) → List Line → Type 0
NotesLines old new lines = (x : ℕ) → shown new x ≡ or_else (line_body x lines) (shown old x)

-- it has those of an event
abbrev pub NotesEvent : BTreeMap ℕ (Bor (List ℕ)) → BTreeMap ℕ (Bor (List ℕ)) → Event → Type 0
NotesEvent old new event = (x : ℕ) → shown new x ≡ or_else (body_in x event) (shown old x)

-- a map has the bodies of a journal
abbrev pub HasBodies : BTreeMap ℕ (Bor (List ℕ)) → List Entry → Type 0
HasBodies bodies past = (x : ℕ) → shown bodies x ≡ find_body x past
