-- A record that stands in a small store's content lies within the store.
use Rattle.std.proofs.Common.{◌≡◌, ◌∙◌, ℕ, zero, suc, ◌+◌, ◌-◌, ◌<◌, ◌≤◌, Bool, true, false, cond, List, [], ◌∷◌, ◌++◌, length, take, drop, Option, Some, None, refl, sym, ap, subst, arith, inl, inr, length-drop}
use Rattle.std.specs.Prelude.{nat_lt}
use Rattle.std.proofs.lemmas.Bool.{cases_Bool, cond-true, cond-false, false≢true}
use Rattle.cq_disk.specs.File.{File}
use Rattle.cq_disk.specs.Files.{IsThere}
use Rattle.cq_gate.specs.declared.gate.Gate.{Gate}
use Rattle.cq_gate.specs.Format.{content, content_to, slot_of, word_at}
use Rattle.cq_gate.specs.Gate.{IsGate}
use Rattle.cq_gate.specs.Opened.{gate_len}
use Rattle.cq_small.specs.declared.store.SmallStore.{SmallStore}
use Rattle.cq_small.specs.Record.{StandsIn}
use Rattle.cq_small.specs.Store as small
use Rattle.cq_small.proofs.Records.{record_inside}
use Rattle.cq_folder.specs.Queue.{IsSmallAt, content_in}
use Rattle.cq_queue.specs.Tied.{IsWholeRecord, body_at}
use Rattle.cq_queue.proofs.Changes.{lt_of}

front_short : (i : ℕ) (l : List ℕ) → length (take i l) ≤ length l
front_short zero l = omega arith
front_short (suc i) [] = omega arith
front_short (suc i) (x ∷ l) = omega (arith, front_short i l)

-- a content that isn't empty ends before the file does
content_short : (file : List ℕ) (n : ℕ) → 0 < n → n ≤ length (content file) → 128 + n ≤ length file
content_short file n some inside = elim (cases_Bool (nat_lt 128 (length file))) [
  | inl long ↦
      let is : content file ≡ content_to (word_at file (slot_of file)) file = cond-true (nat_lt 128 (length file)) (content_to (word_at file (slot_of file)) file) [] long in
      let more = lt_of 128 (length file) long in
      let short = front_short (word_at file (slot_of file) - 128) (drop 128 file) in
      let rest = length-drop 128 file in
      let e = ap length is in
      omega (arith, inside, e, short, rest, more)
  | inr bare ↦
      let is : content file ≡ [] = cond-false (nat_lt 128 (length file)) (content_to (word_at file (slot_of file)) file) [] bare in
      let e = ap length is in
      absurd (omega (arith, some, inside, e))
]

-- a whole record lies between the header and the end of the store as the store knows it
pub whole_inside : (store : SmallStore) (slot : Option File) (place len : ℕ) → IsSmallAt store slot → IsWholeRecord (content_in slot) place len → (128 ≤ place) × (place + len + 5 ≤ small.len_of store)
whole_inside store slot place len at whole = (whole.stands.from, of_gate store.gate refl)
  where
    inside : place - 128 + len + 5 ≤ length (content_in slot)
    inside = let i = record_inside (content_in slot) (place - 128) (body_at (content_in slot) place len) whole.stands.is in let l = whole.len_is in omega (arith, i, l)

    with_file : (g : Gate) (o : Option File) → IsThere o (IsGate g) → place - 128 + len + 5 ≤ length (content_in o) → place + len + 5 ≤ g.len
    with_file g None there within = absurd (false≢true there.is_some)
    with_file g (Some f) there within =
        let l = (there.has f refl).len_is in
        let short = content_short f.reads (place - 128 + len + 5) (omega arith) within in
        let from = whole.stands.from in
        omega (arith, l, short, from)

    of_gate : (o : Option Gate) → store.gate ≡ o → place + len + 5 ≤ small.len_of store
    of_gate None is =
        let none = ap (λ (s : Option File). length (content_in s)) (at.knows.absent is) in
        absurd (omega (arith, inside, none))
    of_gate (Some g) is = subst (λ (o : Option Gate). place + len + 5 ≤ gate_len o) (sym is) (with_file g slot (at.knows.there g is) inside)
