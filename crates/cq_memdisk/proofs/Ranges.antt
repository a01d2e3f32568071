-- Ranges one after another.
use Rattle.std.proofs.Common.{◌≡◌, ◌⊎◌, inl, inr, ⊎_elim, ℕ, ◌+◌, ◌-◌, ◌^◌, ◌≤◌, ◌<◌, min, List, [], ◌∷◌, ◌++◌, length, take, drop, reverse, get_or, sym, ◌∙◌, ap, subst, arith}
use Rattle.std.proofs.lemmas.Bool.{cases_lt}
use Rattle.std.proofs.lemmas.List.{same_lists, reverse-append, get_or-take, get_or-drop, get_or_default, get_or_append_left, get_or-append_right, length-take-le, length-append, length-drop}
use Rattle.cq_disk.specs.File.{File, IsWritten, overwritten}
use Rattle.cq_disk.specs.FileLemmas.{length-overwritten, overwritten_in, overwritten_out}
use Rattle.cq_memdisk.specs.Ranges.{Copied}
use Rattle.cq_memdisk.specs.Change.{IsSound}
use Rattle.cq_memdisk.specs.Crash.{IsFilled}

written_split : (xs ys : List (ℕ × ℕ)) (i : ℕ) → IsWritten (xs ++ ys) i → IsWritten xs i ⊎ IsWritten ys i
written_split [] ys i is = inr is
written_split (x ∷ xs) ys i (inl here) = inl (inl here)
written_split (x ∷ xs) ys i (inr there) = ⊎_elim (λ a. inl (inr a)) (λ b. inr b) (written_split xs ys i there)

written_left : (xs ys : List (ℕ × ℕ)) (i : ℕ) → IsWritten xs i → IsWritten (xs ++ ys) i
written_left [] ys i is = absurd is
written_left (x ∷ xs) ys i (inl here) = inl here
written_left (x ∷ xs) ys i (inr there) = inr (written_left xs ys i there)

written_right : (xs ys : List (ℕ × ℕ)) (i : ℕ) → IsWritten ys i → IsWritten (xs ++ ys) i
written_right [] ys i is = is
written_right (x ∷ xs) ys i is = inr (written_right xs ys i is)

in_or_not : (x : ℕ × ℕ) (i : ℕ) → ((x.0 ≤ i) × (i < x.0 + x.1)) ⊎ ((x.0 ≤ i) × (i < x.0 + x.1) → ⊥)
in_or_not x i = ⊎_elim
    (λ (before : i < x.0). inr (λ here. omega (arith, before, here.0)))
    (λ (past : x.0 ≤ i). ⊎_elim (λ (inside : i < x.0 + x.1). inl (past, inside)) (λ (after : x.0 + x.1 ≤ i). inr (λ here. omega (arith, after, here.1))) (cases_lt i (x.0 + x.1)))
    (cases_lt i x.0)

pub written_or_not : (xs : List (ℕ × ℕ)) (i : ℕ) → IsWritten xs i ⊎ (IsWritten xs i → ⊥)
written_or_not [] i = inr (λ none. none)
written_or_not (x ∷ xs) i = ⊎_elim (λ here. inl (inl here)) (λ not_here. ⊎_elim (λ is. inl (inr is)) (λ not. inr (λ is. ⊎_elim not_here not is)) (written_or_not xs i)) (in_or_not x i)

-- in the other order the same bytes are written
pub written_reverse : (xs : List (ℕ × ℕ)) (i : ℕ) → IsWritten (reverse xs) i → IsWritten xs i
written_reverse [] i is = is
written_reverse (x ∷ xs) i is = ⊎_elim (λ back. inr (written_reverse xs i back)) (λ here. ⊎_elim inl (λ none. absurd none) here) (written_split (reverse xs) (x ∷ []) i (subst (λ (l : List (ℕ × ℕ)). IsWritten l i) (reverse-append (x ∷ []) xs) is))

pub reverse_written : (xs : List (ℕ × ℕ)) (i : ℕ) → IsWritten xs i → IsWritten (reverse xs) i
reverse_written [] i is = is
reverse_written (x ∷ xs) i (inl here) = subst (λ (l : List (ℕ × ℕ)). IsWritten l i) (sym (reverse-append (x ∷ []) xs)) (written_right (reverse xs) (x ∷ []) i (inl here))
reverse_written (x ∷ xs) i (inr there) = subst (λ (l : List (ℕ × ℕ)). IsWritten l i) (sym (reverse-append (x ∷ []) xs)) (written_left (reverse xs) (x ∷ []) i (reverse_written xs i there))

-- one range
module _ (at len end start stop : ℕ) (from old : List ℕ) (lens : length old ≡ length from) (within : end ≤ length from) (fits : end < 2 ^ 64) (start_is : start ≡ min at end) (stop_is : stop ≡ min (min (at + len) (2 ^ 64 - 1)) end) where
  abbrev part : List ℕ
  part = take (stop - start) (drop start from)

  abbrev new : List ℕ
  new = overwritten old start part

  le : start ≤ length old
  le = omega (arith, start_is, lens, within)

  part_len : length part ≡ stop - start
  part_len = length-take-le (stop - start) (drop start from) (omega (arith, length-drop start from, stop_is, within))

  at_inside : (i : ℕ) → start ≤ i → i < stop → get_or new i 0 ≡ get_or from i 0
  at_inside i past lt =
      overwritten_in old start part le i 0 past (omega (arith, part_len, lt))
      ∙ get_or-take (stop - start) (drop start from) (i - start) 0 (omega (arith, past, lt))
      ∙ get_or-drop start from (i - start) 0
      ∙ ap (λ (k : ℕ). get_or from k 0) (omega (arith, past))

  in_range : (i : ℕ) → i < end → (at ≤ i) × (i < at + len) → get_or new i 0 ≡ get_or from i 0
  in_range i lt here = at_inside i (omega (arith, start_is, here.0)) (omega (arith, stop_is, here.1, lt, fits))

  pub copied_one : Copied ((at, len) ∷ []) end from old new
  copied_one = record {
    len = omega (arith, length-overwritten old start part le, part_len, start_is, stop_is, lens, within);
    inside = λ i lt written. ⊎_elim (λ here. in_range i lt here) (λ none. absurd none) written;
    outside = λ i out. overwritten_out old start part le i 0 (λ here.
        let to_stop : i < stop = omega (arith, here.0, here.1, part_len) in
        out (omega (arith, to_stop, stop_is)) (inl (omega (arith, here.0, start_is, to_stop, stop_is), omega (arith, to_stop, stop_is))));
  }

-- one copy after another
pub copied_then : (xs ys : List (ℕ × ℕ)) (end : ℕ) (from old mid new : List ℕ) → Copied xs end from old mid → Copied ys end from mid new → Copied (xs ++ ys) end from old new
copied_then xs ys end from old mid after first second = record {
  len = second.len ∙ first.len;
  inside = λ i lt is. ⊎_elim
      (λ now. second.inside i lt now)
      (λ not. second.outside i (λ lt' now. not now) ∙ first.inside i lt (⊎_elim (λ a. a) (λ b. absurd (not b)) (written_split xs ys i is)))
      (written_or_not ys i);
  outside = λ i out. second.outside i (λ lt is. out lt (written_right xs ys i is)) ∙ first.outside i (λ lt is. out lt (written_left xs ys i is));
}

-- what a sync makes of the bytes that were on the disk
module _ (f : File) (ranges : List (ℕ × ℕ)) (order : f.written ≡ reverse ranges) (sound : IsSound f) where
  at_least : f.least ≤ length f.synced
  at_least = sound.whole.least

  front : length (take f.least f.synced) ≡ f.least
  front = length-take-le f.least f.synced at_least

  quiet : (i : ℕ) → (IsWritten ranges i → ⊥) → IsWritten f.written i → ⊥
  quiet i not is = not (written_reverse ranges i (subst (λ (l : List (ℕ × ℕ)). IsWritten l i) order is))

  pub sync_copied : (new : List ℕ) → Copied ranges f.least f.reads (take f.least f.synced ++ drop f.least f.reads) new → new ≡ f.reads
  sync_copied new copied = same_lists new f.reads (copied.len ∙ len) (λ k e lt.
      get_or_default new k e 0 lt ∙ at k ∙ get_or_default f.reads k 0 e (omega (arith, lt, copied.len, len)))
    where
      base : List ℕ
      base = take f.least f.synced ++ drop f.least f.reads

      len : length (take f.least f.synced ++ drop f.least f.reads) ≡ length f.reads
      len = omega (arith, length-append (take f.least f.synced) (drop f.least f.reads), front, length-drop f.least f.reads, sound.readable.least)

      at : (i : ℕ) → get_or new i 0 ≡ get_or f.reads i 0
      at i = ⊎_elim
          (λ (below : i < f.least). ⊎_elim
          (λ is. copied.inside i below is)
          (λ not. copied.outside i (λ lt is. not is) ∙ get_or_append_left (take f.least f.synced) (drop f.least f.reads) 0 i (omega (arith, front, below)) ∙ get_or-take f.least f.synced i 0 below ∙ sym (sound.readable.same i below (quiet i not)))
          (written_or_not ranges i))
          (λ (past : f.least ≤ i).
          copied.outside i (λ lt is. omega (arith, lt, past))
          ∙ get_or-append_right (take f.least f.synced) (drop f.least f.reads) f.least i 0 front past
          ∙ get_or-drop f.least f.reads (i - f.least) 0
          ∙ ap (λ (k : ℕ). get_or f.reads k 0) (omega arith))
          (cases_lt i f.least)

  pub fill_copied : (byte : ℕ) (blank start new : List ℕ) → ((i : ℕ) → i < f.most → get_or blank i 0 ≡ byte) → length start ≡ f.most → ((i : ℕ) → i < f.least → get_or start i 0 ≡ get_or f.synced i 0) → ((i : ℕ) → f.least ≤ i → i < f.most → get_or start i 0 ≡ byte) → Copied ranges f.least blank start new → IsFilled byte f new
  fill_copied byte blank start new blanks len low high copied = record {
    len = copied.len ∙ len;
    written = λ i lt is. copied.inside i lt (subst_written i is) ∙ blanks i (omega (arith, lt, least_most));
    behind = λ i past lt. copied.outside i (λ below is. omega (arith, below, past)) ∙ high i past lt;
    kept = λ i lt not. copied.outside i (λ below is. not (to_written i is)) ∙ low i lt;
  }
    where
      least_most : f.least ≤ f.most
      least_most = omega (arith, sound.whole.least, sound.whole.most)

      subst_written : (i : ℕ) → IsWritten f.written i → IsWritten ranges i
      subst_written i is = written_reverse ranges i (subst (λ (l : List (ℕ × ℕ)). IsWritten l i) order is)

      to_written : (i : ℕ) → IsWritten ranges i → IsWritten f.written i
      to_written i is = subst (λ (l : List (ℕ × ℕ)). IsWritten l i) (sym order) (reverse_written ranges i is)
