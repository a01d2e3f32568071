-- The rule of one client's flying words, and what each step tells.
-- A word is 0 for none, 2 * (d + 1) where the delivery d is out, and one more where d is dropped: twice what the looker
-- wrote there, and one more once it was dropped.
use Rattle.std.specs.Prelude.{◌≡◌, ◌≢◌, ◌⊎◌, ℕ, ◌+◌, ◌-◌, ◌*◌, ◌/◌, ◌<◌, true, false, List, [], ◌∷◌, ◌++◌, length, Contains, slice_index, slice_set, replicate}
use mathlib.Core.Option.{some}
use lib.ListN.{get_elem?}
use Rattle.atomic_table.specs.Table.{State, Me, Step}
use Rattle.cq_flying.specs.declared.view.View.{View}

-- the first seat has both roles
abbrev pub newcomer : View
newcomer = record { owns = true; looks = true; names = replicate 64 0; dropped = []; seen = []; looked = []; tried = [] }

-- a seat that was joined to another
abbrev pub nobody : View
nobody = record { owns = false; looks = false; names = []; dropped = []; seen = []; looked = []; tried = [] }

-- the owner's part of a view
abbrev pub owner_of : View → View
owner_of v = record { owns = v.owns; looks = false; names = []; dropped = v.dropped; seen = []; looked = v.looked; tried = v.tried }

-- the looker's part of a view
abbrev pub looker_of : View → View
looker_of v = record { owns = false; looks = v.looks; names = v.names; dropped = []; seen = v.seen; looked = []; tried = [] }

-- an owner's view and a looker's
abbrev pub both_of : View → View → View
both_of v w = record { owns = v.owns; looks = w.looks; names = w.names; dropped = v.dropped; seen = w.seen; looked = v.looked; tried = v.tried }

-- n was written into the word i
abbrev pub named : View → ℕ → ℕ → View
named v i n = record { owns = v.owns; looks = v.looks; names = slice_set v.names i n; dropped = v.dropped; seen = v.seen; looked = v.looked; tried = v.tried }

-- a load of the word i found r
abbrev pub loaded : View → ℕ → ℕ → View
loaded v i r = record { owns = v.owns; looks = v.looks; names = v.names; dropped = v.dropped; seen = v.seen; looked = v.looked ++ (i, r) ∷ []; tried = v.tried }

-- a compare and exchange of the word i found r and dropped d
abbrev pub drops : View → ℕ → ℕ → ℕ → View
drops v i r d = record { owns = v.owns; looks = v.looks; names = v.names; dropped = v.dropped ++ d ∷ []; seen = v.seen; looked = v.looked; tried = v.tried ++ (i, r) ∷ [] }

-- a compare and exchange of the word i found r, which is another
abbrev pub misses : View → ℕ → ℕ → View
misses v i r = record { owns = v.owns; looks = v.looks; names = v.names; dropped = v.dropped; seen = v.seen; looked = v.looked; tried = v.tried ++ (i, r) ∷ [] }

-- a load of the word i found r, which says that d is dropped
abbrev pub saw_drop : View → ℕ → ℕ → ℕ → View
saw_drop v i r d = record { owns = v.owns; looks = v.looks; names = v.names; dropped = v.dropped; seen = v.seen ++ d ∷ []; looked = v.looked ++ (i, r) ∷ []; tried = v.tried }

-- a view, and the slots that its seat holds
abbrev pub Flier : Type 0
Flier = Me ℕ View

-- the looker's store: twice what it writes there
abbrev pub names_it : Step ℕ → Flier → ℕ → Flier → Type 0
names_it st m r k = k ≡ (named m.0 st.word (st.first / 2), m.1)

-- the owner's load
abbrev pub loads_it : Step ℕ → Flier → ℕ → Flier → Type 0
loads_it st m r k = k ≡ (loaded m.0 st.word r, m.1)

-- the owner's compare and exchange: the delivery is dropped exactly where the word was found that was expected
abbrev pub tries_it : Step ℕ → Flier → ℕ → Flier → Type 0
tries_it st m r k = (r ≡ st.first → k ≡ (drops m.0 st.word r (st.first / 2 - 1), m.1)) × (r ≢ st.first → k ≡ (misses m.0 st.word r, m.1))

-- the looker's load: the word is one more than twice what was written there, and then that delivery was dropped; or twice
abbrev pub looks_at : Step ℕ → Flier → ℕ → Flier → Type 0
looks_at st m r k = (r ≡ 2 * slice_index m.0.names st.word + 1 → (0 < slice_index m.0.names st.word) × (k ≡ (saw_drop m.0 st.word r (slice_index m.0.names st.word - 1), m.1)))
    × (r ≢ 2 * slice_index m.0.names st.word + 1 → (r ≡ 2 * slice_index m.0.names st.word) × (k ≡ (loaded m.0 st.word r, m.1)))

-- a seat that has both roles knows that what was seen dropped was dropped
abbrev pub settles : Step ℕ → Flier → ℕ → Flier → Type 0
settles st m r k = (k ≡ m) × ((d : ℕ) → Contains m.0.seen d → Contains m.0.dropped d)

-- what the rule says of the view of the seat j
pub record Fits (owner looker : ℕ) (names dropped seen : List ℕ) (j : ℕ) (v : View) : Type 0 where
  pub owns : v.owns ≡ true → (j ≡ owner) × (v.dropped ≡ dropped)
  pub looks : v.looks ≡ true → (j ≡ looker) × (v.names ≡ names) × (v.seen ≡ seen)

-- a word where n was written: n is out, or it is dropped
abbrev pub IsWord : List ℕ → ℕ → ℕ → Type 0
IsWord dropped n w = (w ≡ 2 * n) ⊎ ((w ≡ 2 * n + 1) × (0 < n) × Contains dropped (n - 1))

-- no delivery is written into two words
abbrev pub IsOnce : List ℕ → Type 0
IsOnce names = (i j : ℕ) → 0 < slice_index names i → slice_index names i ≡ slice_index names j → i ≡ j

-- The rule: each word is none, out for a delivery, or dropped for one that its owner dropped; what was seen dropped is
-- among what was dropped.
pub record Flight (s : State ℕ View) : Type 0 where
  pub owner : ℕ
  pub looker : ℕ
  pub names : List ℕ
  pub dropped : List ℕ
  pub seen : List ℕ
  pub wide : length s.words ≡ 64
  pub long : length names ≡ 64
  pub each : (i : ℕ) → i < 64 → IsWord dropped (slice_index names i) (slice_index s.words i)
  pub once : IsOnce names
  pub within : (d : ℕ) → Contains seen d → Contains dropped d
  pub views : (j : ℕ) (v : View) → get_elem? s.views j ≡ some v → Fits owner looker names dropped seen j v
