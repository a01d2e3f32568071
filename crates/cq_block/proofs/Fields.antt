-- Numbers read where they were written.
use Rattle.std.proofs.Common.{◌≡◌, ℕ, ◌+◌, ◌^◌, ◌<◌, ◌≤◌, List, ◌++◌, length, take, drop, Option, None, Some, MatchOption, unwrap_or, ap, ◌∙◌, arith}
use Rattle.std.specs.Int.{Width, w64, w128, byte_len, to_be_bytes, from_be_bytes}
use Rattle.std.proofs.lemmas.Nat.{from_be_bytes-to_be_bytes_8}
use Rattle.std.proofs.Math.Seq.{drop-append-add}
use Rattle.std.proofs.lemmas.List.{drop-append-le, take-append-le}
use Rattle.std.proofs.Common.{length-drop}
use Rattle.cq_bytes.specs.Field.{number_at}
use Rattle.cq_bytes.specs.FieldLemmas.{from_be_bytes-to_be_bytes_16}

-- a number at the front of bytes
pub number_8 : (n : ℕ) (rest : List ℕ) → n < 2 ^ 64 → number_at w64 (to_be_bytes w64 n ++ rest) 0 ≡ n
number_8 n rest fits = from_be_bytes-to_be_bytes_8 n fits

pub number_16 : (n : ℕ) (rest : List ℕ) → n < 2 ^ 128 → number_at w128 (to_be_bytes w128 n ++ rest) 0 ≡ n
number_16 n rest fits = from_be_bytes-to_be_bytes_16 n fits

-- a number that stands behind other bytes
pub number_behind : (w : Width) (before bytes : List ℕ) (k : ℕ) → number_at w (before ++ bytes) (length before + k) ≡ number_at w bytes k
number_behind w before bytes k = ap (λ bs. from_be_bytes w (take (byte_len w) bs)) (drop-append-add before bytes k)

-- a number that stands before other bytes
pub number_before : (w : Width) (bytes more : List ℕ) (k : ℕ) → k + byte_len w ≤ length bytes → number_at w (bytes ++ more) k ≡ number_at w bytes k
number_before w bytes more k within =
    let front : byte_len w ≤ length (drop k bytes) = omega (arith, length-drop k bytes) in
    ap (λ bs. from_be_bytes w (take (byte_len w) bs)) (drop-append-le k bytes more (omega arith))
    ∙ ap (from_be_bytes w) (take-append-le (byte_len w) (drop k bytes) more front)

-- what a field's reader gives where the field is there
pub read_field : (w : Width) (bytes : List ℕ) (at : ℕ) (o : Option ℕ) → MatchOption o (length bytes < at + byte_len w) (λ n. (at + byte_len w ≤ length bytes) × (n ≡ number_at w bytes at))
    → at + byte_len w ≤ length bytes → unwrap_or o 0 ≡ number_at w bytes at
read_field w bytes at None is there = absurd (omega (arith, there))
read_field w bytes at (Some n) is there = is.1
