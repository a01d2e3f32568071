-- The byte that is told lies within its file.
use Rattle.std.proofs.Common.{⊎_elim, ℕ, ◌-◌, ◌≤◌, ◌<◌, Bool, true, false, List, length, drop, ap, arith}
use Rattle.std.specs.Prelude.{◌==◌, if◌then◌else◌, slice_index}
use Rattle.std.proofs.lemmas.Bool.{cases_lt}
use Rattle.std.proofs.lemmas.List.{length-take, length-drop}
use Rattle.cq_gate.specs.Format.{content, slot_of, BreaksAt, BreaksFixed, BreaksEnd, BreaksPlan}
use Rattle.cq_gate.proofs.Formats.{bare_content}
use Rattle.cq_index.specs.Opened.{BreaksIndex, BreaksLength, BreaksEntry}
use Rattle.cq_back_q.proofs.Unformed.{content_front}

slot_low : (file : List ℕ) → slot_of file ≤ 64
slot_low file = elim (slice_index file 16 == 0) as (λ (b : Bool). (if b then 32 else 64) ≤ 64) [ true ↦ omega arith | false ↦ omega arith ]

pub gate_within : (kind : ℕ) (file : List ℕ) (place : ℕ) → 128 < length file → BreaksAt kind file place → place < length file
gate_within kind file place long breaks = let low = slot_low file in
    ⊎_elim (λ (b : BreaksFixed kind file place). let header = b.fixed.header in omega (arith, header, long))
    (λ rest. ⊎_elim
    (λ (b : BreaksEnd kind file place). let is = b.place_is in omega (arith, is, low, long))
    (λ (b : BreaksPlan kind file place). let is = b.place_is in omega (arith, is, low, long)) rest) breaks

content_within : (file : List ℕ) → length (content file) ≤ length file - 128
content_within file =
    let front = ap length (content_front file) in
    let taken = length-take (length (content file)) (drop 128 file) in
    let dropped = length-drop 128 file in
    grind (arith, front, taken, dropped)

uneven_long : (file : List ℕ) (place : ℕ) → BreaksLength file place → 128 < length file
uneven_long file place b = ⊎_elim (λ long. long)
    (λ short. absurd (b.uneven 0 (record { few = omega arith; len = ap length (bare_content file short) })))
    (cases_lt 128 (length file))

pub index_within : (file : List ℕ) (place : ℕ) → BreaksIndex file place → place < length file
index_within file place breaks = ⊎_elim (λ gate. gate_within 1 file place gate.0 gate.1)
    (λ rest. ⊎_elim
    (λ (b : BreaksLength file place). let is = b.place_is in let low = slot_low file in let long = uneven_long file place b in omega (arith, is, low, long))
    (λ (b : BreaksEntry file place).
    let f = b.first in
    let is = f.place_is in
    let inside = f.inside in
    let short = f.breaks.inside in
    let len = b.entries.len in
    let within = content_within file in
    omega (arith, is, inside, short, len, within)) rest) breaks
