-- Fetches of clients: for each client, in order, how far its fetch is, and the bytes of its buffer.
use Rattle.std.specs.Prelude.{ℕ, List, [], replicate, slice_index_or, slice_set}
use Rattle.cq_table.specs.declared.Place.{Place}
use Rattle.cq_fetch.specs.declared.fetches.Phase.{Phase}
use Rattle.cq_fetch.specs.declared.fetches.Phase.TheVariants.{Free, Located, Read}

-- how far a client's fetch is, and the bytes of its buffer
pub record Fetch : Type 0 where
  pub phase : Phase
  pub buffer : List ℕ

-- no fetch is under way
abbrev pub none : Fetch
none = record { phase = Free; buffer = [] }

-- the fetch of a client, none past the last client
abbrev pub fetch_of : List Fetch → ℕ → Fetch
fetch_of fetches client = slice_index_or fetches client none

-- how far it is
abbrev pub phase_of : List Fetch → ℕ → Phase
phase_of fetches client = (fetch_of fetches client).phase

-- the client's record was located, and its body wasn't read yet
abbrev pub IsLocated : Phase → Type 0
IsLocated Free = ⊥
IsLocated (Located id place) = Unit {0}
IsLocated (Read id place) = ⊥

-- the body was read
abbrev pub IsRead : Phase → Type 0
IsRead Free = ⊥
IsRead (Located id place) = ⊥
IsRead (Read id place) = Unit {0}

-- the phase, once the body was read
abbrev pub read_of : Phase → Phase
read_of Free = Free
read_of (Located id place) = Read id place
read_of (Read id place) = Read id place

-- of a record that was located, with a buffer of its body's length
abbrev pub located : ℕ → Place → Fetch
located id place = record { phase = Located id place; buffer = replicate place.len 0 }

-- the fetches, with this one of a client
abbrev pub with_fetch : List Fetch → ℕ → Fetch → List Fetch
with_fetch fetches client fetch = slice_set fetches client fetch
