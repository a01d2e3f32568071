-- What a clause says of the words of all clients and of their ends.
use Rattle.std.specs.Prelude.{◌≡◌, ℕ, List, Contains, map, slice_get, slice_index_or, Some, []}
use Rattle.atomic_table.specs.Seated.{TableId}
use Rattle.cq_flying.specs.declared.words.Words.{Words}
use Rattle.cq_flying.specs.declared.words.Owner.{Owner}
use Rattle.cq_flying.specs.declared.words.WordSeats.{WordSeats}
use Rattle.cq_flying.specs.declared.client.LookEnd.{LookEnd}
use Rattle.cq_flying.specs.Ends.{words_id, own_end_id, look_end_id, dropped_at, own_looks, own_tries, names, seen_at, end_looks, opened}

-- which tables the words have, in the clients' order
abbrev pub word_ids : Words → List TableId
word_ids w = map words_id w.clients.items

-- which words an owner was made with
abbrev pub own_id : Owner → TableId
own_id o = own_end_id o.end

-- which words these owners were made with
abbrev pub owner_ids : List Owner → List TableId
owner_ids os = map own_id os

-- which words the node's seats were made with, in the clients' order
abbrev pub seat_ids : WordSeats → List TableId
seat_ids s = map look_end_id s.ends.items

-- the owner was made with these words, for its client
abbrev pub IsOwnerOf : Words → Owner → Type 0
IsOwnerOf w o = slice_get (word_ids w) o.client ≡ Some (own_id o)

-- the deliveries that the owner dropped
abbrev pub dropped_by : Owner → List ℕ
dropped_by o = dropped_at o.end

-- the words that the owner's loads found, each after its place, the oldest first
abbrev pub looks_by : Owner → List (ℕ × ℕ)
looks_by o = own_looks o.end

-- the words that its compare and exchange found, each after its place, the oldest first
abbrev pub tries_by : Owner → List (ℕ × ℕ)
tries_by o = own_tries o.end

-- the deliveries that the owner of this place dropped
abbrev pub dropped_of : List Owner → ℕ → List ℕ
dropped_of os client = slice_index_or (map dropped_by os) client []

-- what is written into each word of the client: 0 for none, d + 1 for the delivery d
abbrev pub names_of : WordSeats → ℕ → List ℕ
names_of s client = slice_index_or (map names s.ends.items) client []

-- the client's open deliveries
abbrev pub opened_of : WordSeats → ℕ → List ℕ
opened_of s client = opened (names_of s client)

-- the client's deliveries that were seen dropped, the oldest look first
abbrev pub seen_of : WordSeats → ℕ → List ℕ
seen_of s client = slice_index_or (map seen_at s.ends.items) client []

-- the words of the client that the node's loads found, each after its place, the oldest first
abbrev pub looks_of : WordSeats → ℕ → List (ℕ × ℕ)
looks_of s client = slice_index_or (map end_looks s.ends.items) client []

-- each delivery that was seen dropped is one that its owner dropped
abbrev pub SeenWereDropped : List Owner → WordSeats → Type 0
SeenWereDropped os s = (c d : ℕ) → Contains (seen_of s c) d → Contains (dropped_of os c) d

abbrev pub OneOwner : Type 0
OneOwner = Owner

abbrev pub OneEnd : Type 0
OneEnd = LookEnd
