-- The words of a client's open deliveries, and how they change.
use Rattle.std.specs.Prelude.{◌≡◌, ◌≢◌, ◌↔◌, ◌⊎◌, ℕ, ◌+◌, ◌<◌, ◌≤◌, true, List, [], Contains, AllPairs, length, map, slice_index_or}
use Rattle.cq_inbox.specs.declared.words.Word.{Word}

-- a word is free for this delivery, which isn't open
pub record IsFree (delivery : ℕ) (opened : List ℕ) : Type 0 where
  pub room : length opened < 64
  pub fresh : ¬ Contains opened delivery

-- one more delivery is open
pub record Joins (delivery : ℕ) (old new : List ℕ) : Type 0 where
  pub more : length new ≡ length old + 1
  pub each : (d : ℕ) → Contains new d ↔ (Contains old d ⊎ (d ≡ delivery))

-- one delivery fewer is open
pub record Leaves (delivery : ℕ) (old new : List ℕ) : Type 0 where
  pub fewer : length old ≡ length new + 1
  pub each : (d : ℕ) → Contains new d ↔ (Contains old d × (d ≢ delivery))

-- the words of a client, of the lists for all clients
abbrev pub words_of : List (List Word) → ℕ → List Word
words_of all client = slice_index_or all client []

-- the deliveries that have a word
abbrev pub deliveries : List Word → List ℕ
deliveries words = map (λ (w : Word). w.delivery) words

-- the deliveries of a client that have a word
abbrev pub opened_of : List (List Word) → ℕ → List ℕ
opened_of all client = deliveries (words_of all client)

-- the delivery has a word, which is dropped
abbrev pub IsDropped : List Word → ℕ → Type 0
IsDropped words delivery = Contains words record { delivery = delivery; dropped = true }

-- the client's delivery has a word, which is dropped
abbrev pub IsDroppedOf : List (List Word) → ℕ → ℕ → Type 0
IsDroppedOf all client = IsDropped (words_of all client)

-- at most 64 words, each of another delivery, and room for 64
pub record AreWords (words : List Word) (capacity : ℕ) : Type 0 where
  pub few : length words ≤ 64
  pub room : 64 ≤ capacity
  pub distinct : AllPairs (λ d e. d ≢ e) (deliveries words)
