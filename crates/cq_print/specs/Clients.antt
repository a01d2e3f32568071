-- The entries that concern each client.
use Rattle.std.specs.Prelude.{◌≡◌, ℕ, ◌==◌, Bool, if◌then◌else◌, List, [], ◌∷◌, map, filter, reverse, Option, unwrap_or, Vec}
use Rattle.std.specs.Borrow.{Bor}
use Rattle.std.specs.List.{flat_map}
use Rattle.std.specs.Option.{option_map}
use Rattle.std.specs.Ordering.{nat_cmp}
use Rattle.std.specs.BTreeMap.{BTreeMap, get}
use Rattle.std.specs.declared.alloc.Global.{Global}
use Rattle.cq_journal.specs.declared.event.Event.{Event}
use Rattle.cq_journal.specs.declared.event.Event.TheVariants.{Confirmed}
use Rattle.cq_journal.specs.declared.event.Entry.{Entry}
use Rattle.cq_print.specs.Lines.{answers, client_lines}

-- whether an event gives a client a line: it answers the client, or confirms one of its messages
abbrev pub concerns : ℕ → Event → Bool
concerns c (Confirmed client number id) = client == c
concerns c e = answers c e

-- the entries that concern a client
abbrev pub own_entries : ℕ → List Entry → List Entry
own_entries c past = filter (λ (e : Entry). concerns c e.event) past

-- the entries behind references, the newest first
abbrev pub behind : List (Bor Entry) → List Entry
behind entries = reverse (map (λ (e : Bor Entry). e.now) entries)

-- the entries that a map has for a client, the newest first
abbrev pub kept_for : BTreeMap ℕ (Vec (Bor Entry) Global) → ℕ → List Entry
kept_for clients c = behind (unwrap_or (option_map (λ (entries : Vec (Bor Entry) Global). entries.items) (get nat_cmp clients c)) [])

-- a map has one more entry for a client
abbrev pub Keeps : BTreeMap ℕ (Vec (Bor Entry) Global) → BTreeMap ℕ (Vec (Bor Entry) Global) → ℕ → Entry → Type 0
Keeps old new client e = (c : ℕ) → kept_for new c ≡ (if client == c then e ∷ kept_for old c else kept_for old c)

-- it has it for the client that it concerns, if any
abbrev pub KeepsEntry : BTreeMap ℕ (Vec (Bor Entry) Global) → BTreeMap ℕ (Vec (Bor Entry) Global) → Entry → Type 0
KeepsEntry old new e = (c : ℕ) → kept_for new c ≡ (if concerns c e.event then e ∷ kept_for old c else kept_for old c)

-- a map has for each client the entries that concern it
abbrev pub HasEntries : BTreeMap ℕ (Vec (Bor Entry) Global) → List Entry → Type 0
HasEntries clients past = (c : ℕ) → kept_for clients c ≡ own_entries c past

-- the lines of clients with their entries
abbrev pub lines_of : (ℕ → Option (List ℕ)) → List ℕ → List (ℕ × Vec (Bor Entry) Global) → List (List ℕ)
lines_of bodies cut clients = flat_map (λ (e : ℕ × Vec (Bor Entry) Global). client_lines bodies (behind e.1.items) cut e.0) clients
