-- The images by number are images that a crash leaves.
use Rattle.std.proofs.Common.{◌≡◌, ◌≢◌, ◌⊎◌, inl, inr, ⊎_elim, ℕ, zero, suc, ◌+◌, ◌-◌, ◌≤◌, ◌<◌, List, [], ◌∷◌, length, get_or, Option, Some, None, refl, sym, ◌∙◌, ap, subst, arith}
use Rattle.std.specs.List.{AllByRecursion}
use Rattle.std.specs.List.Sorted.{IsStrictlySortedBy}
use Rattle.std.specs.declared.cmp.Ordering.TheVariants.{Less}
use Rattle.std.specs.Option.{option_map}
use Rattle.std.specs.Ordering.{is_eq}
use Rattle.std.proofs.lemmas.Map.Keys.{sorted_head, sorted_tail}
use Rattle.std.proofs.lemmas.Bool.{cases_lt}
use Rattle.std.proofs.lemmas.List.{get_or_default, get_or_past}
use Rattle.cq_disk.specs.declared.name.Name.{Name}
use Rattle.cq_disk.specs.Names.{name_cmp}
use Rattle.cq_disk.specs.NamesLemmas.{distinct}
use Rattle.cq_disk.specs.File.{File, IsFileImage, settled}
use Rattle.cq_disk.specs.Files.{Among, HasFile, IsImage, IsImageOf, NamesAre}
use Rattle.cq_memdisk.specs.declared.change.Note.{Note}
use Rattle.cq_memdisk.specs.Change.{IsSound, files_of}
use Rattle.cq_memdisk.specs.Crash.{IsFilled, IsNumbered, Crashed, CrashedFirst, BecameImage, bit_of, image_of}
use Rattle.cq_memdisk.proofs.Ranges.{written_or_not}

filled_image : (byte : ℕ) (f : File) (c : List ℕ) → byte < 256 → IsSound f → IsFilled byte f c → IsFileImage f c
filled_image byte f c small sound filled = record {
  least = omega (arith, filled.len, sound.whole.least, sound.whole.most);
  most = omega (arith, filled.len);
  bytes = λ i. ⊎_elim
      (λ (below : i < f.least). ⊎_elim
      (λ is. let e = filled.written i below is in rw e small)
      (λ not. let e = filled.kept i below not in rw e (sound.whole.bytes i))
      (written_or_not f.written i))
      (λ (past : f.least ≤ i). ⊎_elim
      (λ (inside : i < f.most). let e = filled.behind i past inside in rw e small)
      (λ (out : f.most ≤ i). let e : get_or c i 0 ≡ 0 = get_or_past c i 0 (omega (arith, filled.len, out)) in rw e (omega arith))
      (cases_lt i f.most))
      (cases_lt i f.least);
  same = filled.kept;
}

pub numbered_image : (n place : ℕ) (f : File) (c : List ℕ) → IsSound f → IsNumbered n place f c → IsFileImage f c
numbered_image n place f c sound is = ⊎_elim
    (λ (low : n < 2). ⊎_elim
    (λ (none : n < 1). on_disk (is.on_disk (omega (arith, none))))
    (λ (one : 1 ≤ n). as_read (is.as_read (omega (arith, low, one))))
    (cases_lt n 1))
    (λ (high : 2 ≤ n). ⊎_elim
    (λ (fill : n < 258). filled_image (n - 2) f c (omega (arith, fill)) sound (is.filled high fill))
    (λ (mask : 258 ≤ n). ⊎_elim
    (λ yes. as_read (is.chosen mask yes))
    (λ not. on_disk (is.left_out mask not))
    (one_or_not (bit_of (n - 258) place)))
    (cases_lt n 258))
    (cases_lt n 2)
  where
    on_disk : c ≡ f.synced → IsFileImage f c
    on_disk e = subst (λ (l : List ℕ). IsFileImage f l) (sym e) sound.whole

    as_read : c ≡ f.reads → IsFileImage f c
    as_read e = subst (λ (l : List ℕ). IsFileImage f l) (sym e) sound.readable

    one_or_not : (b : ℕ) → (b ≡ 1) ⊎ (b ≢ 1)
    one_or_not b = ⊎_elim
        (λ (less : b < 1). inr (λ e. omega (arith, less, e)))
        (λ (more : 1 ≤ b). ⊎_elim (λ (same : b < 2). inl (omega (arith, more, same))) (λ (above : 2 ≤ b). inr (λ e. omega (arith, above, e))) (cases_lt b 2))
        (cases_lt b 1)

-- names that rise differ
head_apart : (x : Name) (xs : List Name) → AllByRecursion (λ y. name_cmp x y ≡ Less) xs → (k : ℕ) (d : Name) → k < length xs → get_or xs k d ≢ x
head_apart x [] all k d lt same = omega (arith, lt)
head_apart x (y ∷ ys) all zero d lt same = distinct x y (ap is_eq all.0) same
head_apart x (y ∷ ys) all (suc k) d lt same = head_apart x ys all.1 k d (omega (arith, lt)) same

pub sorted_apart : (names : List Name) → IsStrictlySortedBy name_cmp names → (j k : ℕ) (d : Name) → j < k → k < length names → get_or names j d ≢ get_or names k d
sorted_apart [] sorted j k d lt inside same = omega (arith, inside)
sorted_apart (x ∷ xs) sorted zero zero d lt inside same = omega (arith, lt)
sorted_apart (x ∷ xs) sorted zero (suc k) d lt inside same = head_apart x xs (sorted_head name_cmp x xs sorted) k d (omega (arith, inside)) (sym same)
sorted_apart (x ∷ xs) sorted (suc j) zero d lt inside same = omega (arith, lt)
sorted_apart (x ∷ xs) sorted (suc j) (suc k) d lt inside same = sorted_apart xs (sorted_tail name_cmp x xs sorted) j k d (omega (arith, lt)) (omega (arith, inside)) same

-- before the first
pub crashed_none : (n : ℕ) (names : List Name) (was : Name → Option File) (notes : List Note) → notes ≡ [] → CrashedFirst n 0 names was (files_of notes)
crashed_none n names was notes empty = record {
  each = λ j m lt is. absurd (omega (arith, lt));
  none = λ m out. ap (λ (l : List Note). files_of l m) empty;
}

-- one image more
pub crashed_next : (n k : ℕ) (names : List Name) (was old new : Name → Option File) (name : Name) → IsStrictlySortedBy name_cmp names → k < length names → get_or names k name ≡ name → CrashedFirst n k names was old → BecameImage n k name was old new → CrashedFirst n (k + 1) names was new
crashed_next n k names was old new name sorted inside at so_far step = record {
  each = λ j m lt is. ⊎_elim
      (λ (before : j < k). let e : new m ≡ old m = step.others m (other j m before is) in rw e (so_far.each j m before is))
      (λ (here : k ≤ j).
      let jk : j ≡ k = omega (arith, lt, here) in
      let same : m ≡ name = sym is ∙ ap (λ (i : ℕ). get_or names i m) jk ∙ get_or_default names k m name inside ∙ at in
      subst (λ (i : ℕ). Among (was m) (λ f. Among (new m) (λ g. (g ≡ settled g.reads) × IsNumbered n i f g.reads))) (sym jk)
      (subst (λ (m' : Name). Among (was m') (λ f. Among (new m') (λ g. (g ≡ settled g.reads) × IsNumbered n k f g.reads))) (sym same) step.this))
      (cases_lt j k);
  none = λ m out.
      let not_this : m ≢ name = λ same. out k (omega arith) (get_or_default names k m name inside ∙ at ∙ sym same) in
      step.others m not_this ∙ so_far.none m (λ j lt is. out j (omega (arith, lt)) is);
}
  where
    other : (j : ℕ) (m : Name) → j < k → get_or names j m ≡ m → m ≢ name
    other j m lt is same = sorted_apart names sorted j k m lt inside (is ∙ same ∙ sym at ∙ get_or_default names k name m inside)

-- all of them
pub crashed_all : (n : ℕ) (names : List Name) (was new : Name → Option File) → NamesAre was names → CrashedFirst n (length names) names was new → Crashed n names was new
crashed_all n names was new are first = record {
  each = first.each;
  none = λ m gone. first.none m (λ j lt is. none_there (was m) gone ((are.each m).0 (j, lt, is)));
}
  where
    none_there : (o : Option File) → o ≡ None → HasFile o → ⊥
    none_there o is there = subst HasFile is there

pub crashed_same : (n : ℕ) (names : List Name) (was old new : Name → Option File) → ((m : Name) → was m ≡ old m) → Crashed n names was new → Crashed n names old new
crashed_same n names was old new same crashed = record {
  each = λ k m lt is. subst (λ (o : Option File). Among o (λ f. Among (new m) (λ g. (g ≡ settled g.reads) × IsNumbered n k f g.reads))) (same m) (crashed.each k m lt is);
  none = λ m is. crashed.none m (same m ∙ is);
}

-- what reads of it then is an image of what was
pub crashed_image : (n : ℕ) (names : List Name) (was new : Name → Option File) → NamesAre was names → ((m : Name) (f : File) → was m ≡ Some f → IsSound f) → Crashed n names was new → IsImage was (image_of new)
crashed_image n names was new are sound crashed m = by (was m) refl
  where
    at : (f : File) (k : ℕ) (o : Option File) → IsSound f → Among o (λ g. (g ≡ settled g.reads) × IsNumbered n k f g.reads) → IsImageOf (Some f) (option_map (λ g. g.reads) o)
    at f k None ok none = none
    at f k (Some g) ok has = numbered_image n k f g.reads ok has.1

    by : (o : Option File) → was m ≡ o → IsImageOf o (image_of new m)
    by None is = let e : new m ≡ None = crashed.none m is in rw e tt
    by (Some f) is =
        let there = (are.each m).1 (subst HasFile (sym is) tt) in
        at f there.0 (new m) (sound m f is) (subst (λ (o : Option File). Among o (λ h. Among (new m) (λ g. (g ≡ settled g.reads) × IsNumbered n there.0 h g.reads))) is (crashed.each there.0 m there.1 there.2))
