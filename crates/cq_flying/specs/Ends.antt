-- What a clause says of a client's words and of their two ends.
use Rattle.std.specs.Prelude.{◌≡◌, ◌≢◌, ◌⊎◌, ◌↔◌, ℕ, suc, zero, ◌+◌, ◌*◌, ◌<◌, ◌∷◌, [], ◌++◌, Bool, List, length, slice_index, slice_set, IsTrue}
use Rattle.std.specs.List.{AllWithin}
use mathlib.Core.Option.{some}
use lib.ListN.{get_elem?}
use Rattle.atomic_table.specs.Seated.{TableId}
use Rattle.cq_flying.specs.declared.client.ClientWords.{ClientWords}
use Rattle.cq_flying.specs.declared.client.OwnEnd.{OwnEnd}
use Rattle.cq_flying.specs.declared.client.LookEnd.{LookEnd}

-- which table a client's words have
abbrev pub words_id : ClientWords → TableId
words_id w = w.table.shared.table_id

-- which words an end was made with
abbrev pub own_end_id : OwnEnd → TableId
own_end_id e = e.seat.table_id

abbrev pub look_end_id : LookEnd → TableId
look_end_id e = e.seat.table_id

-- the deliveries that were dropped at this end
abbrev pub dropped_at : OwnEnd → List ℕ
dropped_at e = e.seat.me.0.dropped

-- the words that the loads of this end found, each after its place, the oldest first
abbrev pub own_looks : OwnEnd → List (ℕ × ℕ)
own_looks e = e.seat.me.0.looked

-- the words that its compare and exchange found, each after its place, the oldest first
abbrev pub own_tries : OwnEnd → List (ℕ × ℕ)
own_tries e = e.seat.me.0.tried

-- what is written into each word: 0 for none, d + 1 for the delivery d
abbrev pub names : LookEnd → List ℕ
names e = e.seat.me.0.names

-- the deliveries that were seen dropped at this end
abbrev pub seen_at : LookEnd → List ℕ
seen_at e = e.seat.me.0.seen

-- the words that the loads of this end found, each after its place, the oldest first
abbrev pub end_looks : LookEnd → List (ℕ × ℕ)
end_looks e = e.seat.me.0.looked

-- the deliveries that are written into the words, in the words' order
unfoldable pub opened : List ℕ → List ℕ
opened [] = []
opened (zero ∷ ns) = opened ns
opened (suc d ∷ ns) = d ∷ opened ns

-- the words before k were loaded, in order, and none was w
abbrev pub NoneIs : ℕ → List (ℕ × ℕ) → ℕ → Type 0
NoneIs w found k = (length found ≡ k) × ((i : ℕ) (p : ℕ × ℕ) → get_elem? found i ≡ some p → (p.0 ≡ i) × (p.1 ≢ w))

-- the 64 words were loaded and none was w; or one was, and then the compare and exchange found another word at its place
abbrev pub IsRefused : ℕ → List (ℕ × ℕ) → List (ℕ × ℕ) → List (ℕ × ℕ) → List (ℕ × ℕ) → Type 0
IsRefused w looks looks_after tries tries_after = (found : List (ℕ × ℕ)) × (looks_after ≡ looks ++ found)
    × ((NoneIs w found 64 × (tries_after ≡ tries)) ⊎ ((k : ℕ) × (r : ℕ) × (get_elem? found k ≡ some (k, w)) × (r ≢ w) × (tries_after ≡ tries ++ (k, r) ∷ [])))

-- the delivery was written into the lowest word where none was
abbrev pub OpensLowest : ℕ → List ℕ → List ℕ → Type 0
OpensLowest d old new = (i : ℕ) × (i < length old) × (slice_index old i ≡ 0) × AllWithin (λ n. 0 < n) old 0 i × (new ≡ slice_set old i (d + 1))

-- one load more, of the word of the delivery d: it found that d is dropped exactly where the answer is true
abbrev pub IsLook : Bool → ℕ → List ℕ → List (ℕ × ℕ) → List (ℕ × ℕ) → Type 0
IsLook result d ns old new = (i : ℕ) × (r : ℕ) × (slice_index ns i ≡ d + 1) × (new ≡ old ++ (i, r) ∷ []) × (IsTrue result ↔ (r ≡ 2 * (d + 1) + 1))

-- one client's end looked once, and no other's
pub record LooksOnce (client : ℕ) (Look : List (ℕ × ℕ) → List (ℕ × ℕ) → Type 0) (old new : ℕ → List (ℕ × ℕ)) : Type 0 where
  pub look : Look (old client) (new client)
  pub others : (c : ℕ) → c ≢ client → new c ≡ old c
