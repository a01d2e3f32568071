-- The messages of a queue in line order, and what each call does to them.
use Rattle.std.specs.Prelude.{◌≡◌, ℕ, Bool, true, false, not, ◌==◌, ◌&&◌, ◌||◌, if◌then◌else◌, List, [], ◌∷◌, length, filter, map, Option, None, Some, is_some}
use Rattle.std.specs.List.{list_any}
use Rattle.cq_entry.specs.declared.entry.EntryKind.{EntryKind}
use Rattle.cq_entry.specs.declared.entry.EntryKind.TheVariants.{Small, Shared}
use Rattle.cq_items.specs.Item.{Item}
use Rattle.cq_items.specs.declared.item.Stand.{Stand}
use Rattle.cq_items.specs.declared.item.First.{First}
use Rattle.cq_items.specs.declared.item.Passed.{Passed}
use Rattle.cq_items.specs.declared.item.Holder.{Holder}
use Rattle.cq_items.specs.declared.item.Holder.TheVariants.{Waiting, Out, Gone}

abbrev pub is_free : Holder → Bool
is_free Waiting = true
is_free _ = false

abbrev pub is_gone : Holder → Bool
is_gone Gone = true
is_gone _ = false

-- whether a client has it under this number, and under any
abbrev pub is_out : ℕ → ℕ → Holder → Bool
is_out c d (Out x y) = x == c && y == d
is_out c d _ = false

abbrev pub is_with : ℕ → Holder → Bool
is_with c (Out x y) = x == c
is_with c _ = false

-- what an acknowledgement, and the end of a client, make of a holder
abbrev pub ack_one : ℕ → ℕ → Holder → Holder
ack_one c d (Out x y) = if x == c && y == d then Gone else Out x y
ack_one c d h = h

abbrev pub back_one : ℕ → Holder → Holder
back_one c (Out x y) = if x == c then Waiting else Out x y
back_one c h = h

abbrev pub holding : (Holder → Holder) → Item → Item
holding f i = record i { holder = f i.holder }

-- a message as it is handed out
abbrev pub taken_by : Holder → Item → Item
taken_by h i = record i { holder = h; fresh = false }

-- whether a message waits, is out for a delivery, is out to a client, isn't committed, is committed and acknowledged, was never out
abbrev pub waits : Item → Bool
waits i = is_free i.holder

abbrev pub out_for : ℕ → ℕ → Item → Bool
out_for c d i = is_out c d i.holder

abbrev pub out_to : ℕ → Item → Bool
out_to c i = is_with c i.holder

abbrev pub committed : Item → Bool
committed i = is_some i.stand

abbrev pub undecided : Item → Bool
undecided i = not (is_some i.stand)

abbrev pub settles : Item → Bool
settles i = is_some i.stand && is_gone i.holder

abbrev pub is_fresh : Item → Bool
is_fresh i = i.fresh

abbrev pub waiting_items : List Item → List Item
waiting_items is = filter waits is

abbrev pub undecided_items : List Item → List Item
undecided_items is = filter undecided is

abbrev pub settled_items : List Item → List Item
settled_items is = filter settles is

-- those that are committed and were never handed out
abbrev pub fresh_items : List Item → List Item
fresh_items is = filter (λ i. committed i && i.fresh) is

-- the segment in which an entry stands, and its place there
abbrev pub segment_of : Option Stand → ℕ
segment_of None = 0
segment_of (Some s) = s.segment

abbrev pub at_of : Option Stand → ℕ
at_of None = 0
at_of (Some s) = s.at

-- the segment of the first message that settles
abbrev pub lowest_segment : List Item → Option ℕ
lowest_segment [] = None
lowest_segment (i ∷ is) = if settles i then Some (segment_of i.stand) else lowest_segment is

abbrev pub is_in : Option ℕ → Item → Bool
is_in None i = false
is_in (Some n) i = segment_of i.stand == n

-- those that settle in a segment, up to the first that settles in another one
abbrev pub settling_in : Option ℕ → List Item → List Item
settling_in n [] = []
settling_in n (i ∷ is) = if settles i then (if is_in n i then i ∷ settling_in n is else []) else settling_in n is

-- all others
abbrev pub others_in : Option ℕ → List Item → List Item
others_in n [] = []
others_in n (i ∷ is) = if settles i then (if is_in n i then others_in n is else i ∷ is) else i ∷ others_in n is

-- what settles next: those that settle in the segment of the first one; where their entries stand there, their ids, and all others
abbrev pub settling_of : List Item → List Item
settling_of is = settling_in (lowest_segment is) is

abbrev pub settling_places : List Item → List ℕ
settling_places is = map (λ i. at_of i.stand) (settling_of is)

abbrev pub settling_ids : List Item → List ℕ
settling_ids is = map (λ i. i.id) (settling_of is)

abbrev pub others_items : List Item → List Item
others_items is = others_in (lowest_segment is) is

abbrev pub is_out_to : ℕ → ℕ → List Item → Bool
is_out_to c d is = list_any (out_for c d) is

abbrev pub first_of : Item → First
first_of i = record { id = i.id; kind = i.kind; len = i.len }

-- a message as it is published: small where its body is given
abbrev pub kind_of : Option (List ℕ) → EntryKind
kind_of None = Shared
kind_of (Some body) = Small

abbrev pub new_item : ℕ → Option (List ℕ) → ℕ → Item
new_item id body len = record { id = id; kind = kind_of body; len = len; body = body; stand = None; holder = Waiting; fresh = true }

-- a message as it was found in the files
abbrev pub found_item : ℕ → EntryKind → ℕ → Stand → Item
found_item id kind len stand = record { id = id; kind = kind; len = len; body = None; stand = Some stand; holder = Waiting; fresh = true }

-- the first one that waits is handed to this holder
abbrev pub put_first : Holder → List Item → List Item
put_first h [] = []
put_first h (i ∷ is) = if waits i then taken_by h i ∷ is else i ∷ put_first h is

-- the first one that waits is out
abbrev pub hand_out : ℕ → ℕ → List Item → List Item
hand_out c d is = put_first (Out c d) is

-- the message of a delivery is acknowledged
abbrev pub ack : ℕ → ℕ → List Item → List Item
ack c d is = map (holding (ack_one c d)) is

-- what is out to a client waits again, each message at its place
abbrev pub give_back : ℕ → List Item → List Item
give_back c is = map (holding (back_one c)) is

abbrev pub decide : Stand → Item → Item
decide s i = record i { stand = Some s; body = None }

-- a message whose entry is passed is skipped where that is asked or nobody needs it, else kept
abbrev pub skips : Bool → Item → Bool
skips skip i = skip || is_gone i.holder

-- the first undecided one is kept and stands here, or leaves the queue
abbrev pub pass_first : Bool → Stand → List Item → List Item
pass_first skip s [] = []
pass_first skip s (i ∷ is) = if is_some i.stand then i ∷ pass_first skip s is else (if skips skip i then is else decide s i ∷ is)

-- of undecided ones: who has the first, and that it may be kept
abbrev pub IsHeldBy : Holder → List Item → Type 0
IsHeldBy h [] = ⊥
IsHeldBy h (i ∷ is) = i.holder ≡ h

abbrev pub MayKeep : List Item → Type 0
MayKeep [] = ⊥
MayKeep (i ∷ is) = is_gone i.holder ≡ false

-- of undecided ones: the first may be passed so, and what that answers
abbrev pub MayPass : Bool → List Item → Type 0
MayPass skip [] = ⊥
MayPass skip (i ∷ is) = skip ≡ true → waits i ≡ false

abbrev pub IsPassed : Bool → Passed → List Item → Type 0
IsPassed skip r [] = ⊥
IsPassed skip r (i ∷ is) = r ≡ record { id = i.id; kept = not (skips skip i) }

-- who has the first message with this id
abbrev pub holder_of : ℕ → List Item → Option Holder
holder_of id [] = None
holder_of id (i ∷ is) = if i.id == id then Some i.holder else holder_of id is

abbrev pub has_item : List Item → ℕ → Bool
has_item is id = list_any (λ i. i.id == id) is

-- how many are out to a client
abbrev pub count_out : ℕ → List Item → ℕ
count_out c is = length (filter (out_to c) is)
