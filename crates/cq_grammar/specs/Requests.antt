-- The queues and bodies that words spell, and the requests of all clients.
use Rattle.std.specs.Prelude.{◌≡◌, ◌<◌, ◌≤◌, ℕ, ◌+◌, ◌*◌, ◌^◌, ◌==◌, ◌&&◌, not, if◌then◌else◌, List, [], ◌∷◌, ◌++◌, length, nat_le, nat_lt, Option, None, Some, Result, Ok, Err, codes, ok_or, replicate, slice_index_or, slice_set}
use Rattle.std.specs.List.{slice_split, sum_by}
use Rattle.std.specs.Result.{result_ok}
use Rattle.std.specs.Str.{bytes_eq}
use Rattle.hex.specs.Hex.{decode_of}
use Rattle.cq_bytes.specs.Numbers.{contains, AreQueues}
use Rattle.cq_inbox.specs.declared.request.Request.{Request}
use Rattle.cq_inbox.specs.declared.request.Request.TheVariants.{Publish, Get, Ack, End}
use Rattle.cq_grammar.specs.declared.script.Why.{Why}
use Rattle.cq_grammar.specs.declared.script.Why.TheVariants as why
use Rattle.cq_grammar.specs.Words.{number_of, ◌>>=◌, each}

-- a number on a line of a request
abbrev pub number_on : List ℕ → Result ℕ Why
number_on w = ok_or (number_of w) why.Number

-- a queue of so many
abbrev pub queue_within : ℕ → ℕ → Result ℕ Why
queue_within count q = if nat_lt q count then Ok q else Err why.Queue

-- queues, and one of so many that isn't among them
abbrev pub with_queue : ℕ → List ℕ → ℕ → Result (List ℕ) Why
with_queue count queues q = queue_within count q >>= λ new. if nat_lt new 256 && not (contains queues new) then Ok (queues ++ new ∷ []) else Err why.Queue

-- queues of so many, none twice, after these
abbrev pub with_queues : ℕ → List ℕ → List ℕ → Result (List ℕ) Why
with_queues count queues [] = Ok queues
with_queues count queues (q ∷ qs) = with_queue count queues q >>= λ more. with_queues count more qs

-- the queues of so many whose numbers a word spells, with commas between them
abbrev pub numbers_of : List ℕ → Result (List ℕ) Why
numbers_of w = each number_on (slice_split (λ b. b == 44) w)

abbrev pub queues_of : ℕ → List ℕ → Result (List ℕ) Why
queues_of count w = numbers_of w >>= with_queues count []

-- so many bytes of one value, at most 1,048,576
abbrev pub filled : Option ℕ → Option ℕ → Option (List ℕ)
filled (Some n) (Some b) = if nat_le n 1048576 && nat_lt b 256 then Some (replicate n b) else None
filled _ _ = None

-- the bytes that words spell: `empty`, `text W`, `hex H` or `fill L B`
abbrev pub bytes_of : List (List ℕ) → Option (List ℕ)
bytes_of (kind ∷ []) = if bytes_eq kind (codes "empty") then Some [] else None
bytes_of (kind ∷ w ∷ []) =
    if bytes_eq kind (codes "text") then Some w
    else if bytes_eq kind (codes "hex") then result_ok (decode_of w)
    else None
bytes_of (kind ∷ n ∷ b ∷ []) = if bytes_eq kind (codes "fill") then filled (number_of n) (number_of b) else None
bytes_of _ = None

-- a body has at most 1,048,576 bytes, and is served where it is shorter than the threshold
abbrev pub short_enough : ℕ → Option (List ℕ) → Result (List ℕ) Why
short_enough threshold None = Err why.Body
short_enough threshold (Some bytes) = if nat_le (length bytes) 1048576 && nat_lt (length bytes) threshold then Ok bytes else Err why.Body

abbrev pub body_of : ℕ → List (List ℕ) → Result (List ℕ) Why
body_of threshold ws = short_enough threshold (bytes_of ws)

-- a request that a script may make: different queues below 256, a body below the threshold, a delivery below 2 ^ 32
abbrev pub IsServable : ℕ → Request → Type 0
IsServable threshold (Publish queues body) = (0 < length queues) × AreQueues queues × (length body < threshold)
IsServable threshold (Get queue) = queue < 256
IsServable threshold (Ack delivery) = delivery < 2 ^ 32
IsServable threshold End = Unit {0}

-- how many bytes of bodies a request brings, counted once for each queue
abbrev pub size_of : Request → ℕ
size_of (Publish queues body) = length queues * length body
size_of (Get queue) = 0
size_of (Ack delivery) = 0
size_of End = 0

abbrev pub stream_size : List Request → ℕ
stream_size requests = sum_by size_of requests

-- how many bytes of bodies the requests of all clients bring
abbrev pub whole_size : List (List Request) → ℕ
whole_size streams = sum_by stream_size streams

-- the requests of a client
abbrev pub requests_of : List (List Request) → ℕ → List Request
requests_of streams client = slice_index_or streams client []

-- a client has at most 100,000 requests, and the bodies of all have at most 268,435,456 bytes
abbrev pub with_request : List (List Request) → ℕ → Request → Result (List (List Request)) Why
with_request streams client request =
    if nat_le 100000 (length (requests_of streams client)) then Err why.Many
    else if nat_lt 268435456 (whole_size streams + size_of request) then Err why.Large
    else Ok (slice_set streams client (requests_of streams client ++ request ∷ []))

-- the size of all bodies, which isn't too large
pub record IsSized (streams : List (List Request)) (size : ℕ) : Type 0 where
  pub size_is : size ≡ whole_size streams
  pub small : size ≤ 268435456
