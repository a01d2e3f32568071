-- What is planned of messages in memory is what a commit lays out of them.
use Prim.Native.Nat.{suc}
use Rattle.std.proofs.Common.{◌≡◌, ⊎_elim, ℕ, ◌+◌, ◌*◌, ◌-◌, ◌≤◌, Bool, true, false, List, [], ◌∷◌, ◌++◌, length, Option, Some, None, refl, sym, ap, ◌∙◌, subst, arith, length-append}
use Rattle.std.specs.Prelude.{nat_lt, if◌then◌else◌}
use Rattle.std.specs.List.{AllByRecursion, AllZip}
use Rattle.std.proofs.lemmas.Bool.{cases_Bool}
use Rattle.cq_bytes.specs.Numbers.{contains}
use Rattle.cq_entry.specs.declared.entry.Entry.{Entry as IndexEntry}
use Rattle.cq_entry.specs.declared.entry.EntryKind.{EntryKind}
use Rattle.cq_entry.specs.declared.entry.EntryKind.TheVariants.{Small, Shared as SharedEntry}
use Rattle.cq_journal.specs.declared.event.Message.{Message}
use Rattle.cq_folder.specs.Folder.{Sharing}
use Rattle.cq_items.specs.Item.{Item}
use Rattle.cq_items.specs.Items.{skips, undecided_items}
use Rattle.cq_queue.specs.declared.queue.planning.Plan.{Plan}
use Rattle.cq_queue.specs.Laid.{place_of, next_of, record_of, records_of, entry_of, entries_of, Lays}
use Rattle.cq_queue.specs.Passing.{HasLength, IsReady, Suits, bytes_of, kept_items, kept_of}
use Rattle.cq_queue.specs.Planning.{IsPlanned, body_record, item_record, item_entry, records_in, entries_in}
use Rattle.cq_queue.specs.QueueCalls.{AreOf, coming, pick_in, room_in}
use Rattle.cq_queue.specs.Values.{QueueValue}
use Rattle.cq_queue.proofs.Changes.{lt_of}
use Rattle.cq_queue.proofs.Come.{length_record}

-- ---- one message

not_none : {A : Type 0} (x : A) (xs : List A) → x ∷ xs ≡ [] → ⊥
not_none x xs e = cc

small_shared : {A : Type 0} → SharedEntry ≡ Small → A
small_shared e = cc

body_is : (kind : EntryKind) (body : Option (List ℕ)) (m : Message) → (kind ≡ Small → body ≡ Some m.body) → body_record kind body ≡ record_of kind m
body_is Small body m is = ap (body_record Small) (is refl)
body_is SharedEntry body m is = refl

module _ (kinds : Message → EntryKind) (i : Item) (m : Message) (suits : Suits kinds i m) where
  one_record : item_record i ≡ record_of (kinds m) m
  one_record = body_is i.kind i.body m suits.body ∙ ap (λ (k : EntryKind). record_of k m) suits.kind

  one_entry : (base : ℕ) → item_entry base i ≡ entry_of (kinds m) base m
  one_entry base = λ j. record { kind = suits.kind j; len = suits.len j; id = suits.id j; place = place_of (suits.kind j) base }

  one_next : (base : ℕ) → next_of i.kind base i.len ≡ next_of (kinds m) base (length m.body)
  one_next base = λ j. next_of (suits.kind j) base (suits.len j)

-- ---- all that are kept

module _ (kinds : Message → EntryKind) (skip : List ℕ) where
  kept_entries : (room base : ℕ) (is : List Item) (ms : List Message) → AllZip (Suits kinds) is ms → entries_in base (kept_items skip room is) ≡ entries_of kinds base (kept_of skip room is ms)
  kept_entries room base [] ms suit = refl
  kept_entries room base (i ∷ is) [] suit = absurd suit
  kept_entries room base (i ∷ is) (m ∷ ms) suit = (elim (skips (contains skip i.id) i) as (λ (b : Bool).
      entries_in base (if b then kept_items skip room is else (if nat_lt 0 room then i ∷ kept_items skip (room - 1) is else [])) ≡ entries_of kinds base (if b then kept_of skip room is ms else (if nat_lt 0 room then m ∷ kept_of skip (room - 1) is ms else []))) [
        | true ↦ kept_entries room base is ms suit.1
        | false ↦ (elim (nat_lt 0 room) as (λ (b : Bool).
            entries_in base (if b then i ∷ kept_items skip (room - 1) is else []) ≡ entries_of kinds base (if b then m ∷ kept_of skip (room - 1) is ms else [])) [
              | true ↦
                  ap (λ (e : IndexEntry). e ∷ entries_in (next_of i.kind base i.len) (kept_items skip (room - 1) is)) (one_entry kinds i m suit.0 base)
                  ∙ ap (λ (es : List IndexEntry). entry_of (kinds m) base m ∷ es)
                  (ap (λ (p : ℕ). entries_in p (kept_items skip (room - 1) is)) (one_next kinds i m suit.0 base) ∙ kept_entries (room - 1) (next_of (kinds m) base (length m.body)) is ms suit.1)
              | false ↦ refl
            ])
      ])

  kept_records : (room : ℕ) (is : List Item) (ms : List Message) → AllZip (Suits kinds) is ms → records_in (kept_items skip room is) ≡ records_of kinds (kept_of skip room is ms)
  kept_records room [] ms suit = refl
  kept_records room (i ∷ is) [] suit = absurd suit
  kept_records room (i ∷ is) (m ∷ ms) suit = (elim (skips (contains skip i.id) i) as (λ (b : Bool).
      records_in (if b then kept_items skip room is else (if nat_lt 0 room then i ∷ kept_items skip (room - 1) is else [])) ≡ records_of kinds (if b then kept_of skip room is ms else (if nat_lt 0 room then m ∷ kept_of skip (room - 1) is ms else []))) [
        | true ↦ kept_records room is ms suit.1
        | false ↦ (elim (nat_lt 0 room) as (λ (b : Bool).
            records_in (if b then i ∷ kept_items skip (room - 1) is else []) ≡ records_of kinds (if b then m ∷ kept_of skip (room - 1) is ms else [])) [
              | true ↦
                  ap (λ (r : List ℕ). r ++ records_in (kept_items skip (room - 1) is)) (one_record kinds i m suit.0)
                  ∙ ap (λ (r : List ℕ). record_of (kinds m) m ++ r) (kept_records (room - 1) is ms suit.1)
              | false ↦ refl
            ])
      ])

  kept_none : (room : ℕ) (is : List Item) (ms : List Message) → AllZip (Suits kinds) is ms → kept_items skip room is ≡ [] → kept_of skip room is ms ≡ []
  kept_none room [] ms suit none = refl
  kept_none room (i ∷ is) [] suit none = absurd suit
  kept_none room (i ∷ is) (m ∷ ms) suit none = (elim (skips (contains skip i.id) i) as (λ (b : Bool).
      (if b then kept_items skip room is else (if nat_lt 0 room then i ∷ kept_items skip (room - 1) is else [])) ≡ [] → (if b then kept_of skip room is ms else (if nat_lt 0 room then m ∷ kept_of skip (room - 1) is ms else [])) ≡ []) [
        | true ↦ λ none. kept_none room is ms suit.1 none
        | false ↦ (elim (nat_lt 0 room) as (λ (b : Bool).
            (if b then i ∷ kept_items skip (room - 1) is else []) ≡ [] → (if b then m ∷ kept_of skip (room - 1) is ms else []) ≡ []) [
              | true ↦ λ some. absurd (not_none i (kept_items skip (room - 1) is) some)
              | false ↦ λ none. refl
            ])
      ]) none

-- so the plan lays out the messages that come
pub planned_lays : (skip : List ℕ) (v : QueueValue) (plan : Plan) (sharing : Sharing) (ms : List Message) → IsPlanned skip v plan → AreOf skip v sharing ms
    → Lays sharing (pick_in v).base (coming skip v ms) plan.records plan.entries.items
planned_lays skip v plan sharing ms is of = record {
  records_are = is.records ∙ kept_records sharing.kinds skip (room_in v) (undecided_items v.items) ms of.suit;
  entries_are = is.entries ∙ kept_entries sharing.kinds skip (room_in v) (pick_in v).base (undecided_items v.items) ms of.suit;
  present = is.present;
  shelved = of.shelved;
}

pub nothing_coming : (skip : List ℕ) (v : QueueValue) (sharing : Sharing) (ms : List Message) → kept_items skip (room_in v) (undecided_items v.items) ≡ [] → AreOf skip v sharing ms → coming skip v ms ≡ []
nothing_coming skip v sharing ms none of = kept_none sharing.kinds skip (room_in v) (undecided_items v.items) ms of.suit none

-- ---- how many they are, and how long their records

item_length : (kind : EntryKind) (body : Option (List ℕ)) (len : ℕ) → (kind ≡ Small → HasLength body len) → length (body_record kind body) ≡ next_of kind 0 len
item_length Small None len has = absurd (has refl)
item_length Small (Some body) len has = (let l : length body ≡ len = has refl in let r = length_record body in omega (arith, l, r))
item_length SharedEntry body len has = refl

pub records_length : (is : List Item) → AllByRecursion IsReady is → length (records_in is) ≡ bytes_of is
records_length [] ready = refl
records_length (i ∷ is) ready = length-append (item_record i) (records_in is) ∙ (λ j. item_length i.kind i.body i.len ready.0.body j + records_length is ready.1 j)

next_short : (kind : EntryKind) (len : ℕ) → next_of kind 0 len ≤ len + 5
next_short Small len = omega arith
next_short SharedEntry len = omega arith

pub bytes_most : (is : List Item) → AllByRecursion IsReady is → bytes_of is ≤ length is * 1048581
bytes_most [] ready = omega arith
bytes_most (i ∷ is) ready = let n = next_short i.kind i.len in let s = ready.0.short in let b = bytes_most is ready.1 in omega (arith, n, s, b)

pub entries_length : (base : ℕ) (is : List Item) → length (entries_in base is) ≡ length is
entries_length base [] = refl
entries_length base (i ∷ is) = ap suc (entries_length (next_of i.kind base i.len) is)

pub kept_few : (skip : List ℕ) (room : ℕ) (is : List Item) → length (kept_items skip room is) ≤ room
kept_few skip room [] = omega arith
kept_few skip room (i ∷ is) = (elim (skips (contains skip i.id) i) as (λ (b : Bool). length (if b then kept_items skip room is else (if nat_lt 0 room then i ∷ kept_items skip (room - 1) is else [])) ≤ room) [
  | true ↦ kept_few skip room is
  | false ↦ ⊎_elim
      (λ (some : nat_lt 0 room ≡ true). subst (λ (b : Bool). length (if b then i ∷ kept_items skip (room - 1) is else []) ≤ room) (sym some) (let few = kept_few skip (room - 1) is in let has = lt_of 0 room some in omega (arith, few, has)))
      (λ (none : nat_lt 0 room ≡ false). subst (λ (b : Bool). length (if b then i ∷ kept_items skip (room - 1) is else []) ≤ room) (sym none) (omega arith))
      (cases_Bool (nat_lt 0 room))
])

pub kept_all : (P : Item → Type 0) (skip : List ℕ) (room : ℕ) (is : List Item) → AllByRecursion P is → AllByRecursion P (kept_items skip room is)
kept_all P skip room [] all = tt
kept_all P skip room (i ∷ is) all = (elim (skips (contains skip i.id) i) as (λ (b : Bool). AllByRecursion P (if b then kept_items skip room is else (if nat_lt 0 room then i ∷ kept_items skip (room - 1) is else []))) [
  | true ↦ kept_all P skip room is all.1
  | false ↦ (elim (nat_lt 0 room) as (λ (b : Bool). AllByRecursion P (if b then i ∷ kept_items skip (room - 1) is else [])) [
    | true ↦ (all.0, kept_all P skip (room - 1) is all.1)
    | false ↦ tt
  ])
])
