-- Small stores without an index are removed one by one.
use Rattle.std.proofs.Common.{◌≡◌, ◌≢◌, ◌⊎◌, inl, inr, ⊎_elim, ℕ, ◌+◌, ◌<◌, ◌≤◌, Bool, true, false, List, Option, Some, None, Result, Ok, Err, OnOk, OnErr, length, get_or, refl, sym, ◌∙◌, ap, subst, arith}
use Rattle.std.specs.Prelude.{◌↔◌, Contains}
use Rattle.std.specs.List.Sorted.{IsStrictlySortedBy}
use Rattle.std.specs.declared.cmp.Ordering.TheVariants.{Less, Equal}
use Rattle.std.proofs.lemmas.Bool.{false≢true}
use Rattle.std.proofs.lemmas.List.{get_or_default}
use Rattle.std.proofs.lemmas.List.Elements.{Contains-get_or}
use Rattle.std.proofs.lemmas.Map.Keys.{Less-from_sorted}
use Rattle.cq_disk.specs.declared.name.Name.{Name}
use Rattle.cq_disk.specs.declared.name.Kind.TheVariants.{Small}
use Rattle.cq_disk.specs.Call.{Image, Elapses, LeavesOnly}
use Rattle.cq_disk.specs.File.{File}
use Rattle.cq_disk.specs.Files.{Becomes, BecomesOrNot, HasFile, IsImage, IsImageOf, NamesAre, Removes}
use Rattle.cq_disk.specs.Moments.{remove_only, then, weaken}
use Rattle.cq_disk.specs.Names.{name_cmp}
use Rattle.cq_folder.proofs.Images.{at_name}
use Rattle.cq_index.specs.Places.{index_name}
use Rattle.cq_back_q.specs.Folder.{HasLostStrays, IsImageOrWithout, IsStray}
use Rattle.cq_back_q.proofs.Quiet.{one_more}
use Rattle.cq_back_q.proofs.Sought.{equal_self}

-- of the first so many names the strays are gone; each other file is as it was
pub record Removed (start now : Name → Option File) (names : List Name) (i : ℕ) : Type 0 where
  pub each : (n : Name) → (now n ≡ start n) ⊎ (IsStray start n × (now n ≡ None))
  pub gone : (k : ℕ) (d : Name) → k < i → IsStray start (get_or names k d) → now (get_or names k d) ≡ None
  pub ahead : (k : ℕ) (d : Name) → i ≤ k → k < length names → now (get_or names k d) ≡ start (get_or names k d)

pub removed_none : (start : Name → Option File) (names : List Name) → Removed start start names 0
removed_none start names = record { each = λ n. inl refl; gone = λ k d lt. absurd (omega (arith, lt)); ahead = λ k d le lt. refl }

pub has_none : (slot : Option File) → (HasFile slot → ⊥) → slot ≡ None
has_none None other = refl
has_none (Some f) other = absurd (other tt)

none_has : (slot : Option File) → slot ≡ None → HasFile slot → ⊥
none_has slot is has = subst HasFile is has

-- ---- which names are those of strays

module _ (files : Name → Option File) (names : List Name) (are : NamesAre files names) where
  pub stray_is : (n : Name) → n.kind ≡ Small → (Contains names (index_name n.queue n.number) → ⊥) → IsStray files n
  stray_is n kind none = record { kind = kind; alone = has_none (files (index_name n.queue n.number)) (λ has. none ((are.each (index_name n.queue n.number)).1 has)) }

  pub stray_none : (n : Name) → IsStray files n → Contains names (index_name n.queue n.number) → ⊥
  stray_none n stray has = none_has (files (index_name n.queue n.number)) stray.alone ((are.each (index_name n.queue n.number)).0 has)

  pub listed_there : (now : Name → Option File) (i : ℕ) (d : Name) → i < length names → Removed files now names i → HasFile (now (get_or names i d))
  listed_there now i d lt so_far = subst HasFile (sym (so_far.ahead i d (omega arith) lt)) ((are.each (get_or names i d)).0 (Contains-get_or names i d lt))

  later_other : (i k : ℕ) (d e : Name) → i < k → k < length names → get_or names k e ≢ get_or names i e
  later_other i k d e lt inside same = less_equal (sym (Less-from_sorted name_cmp names i k e are.order lt inside) ∙ ap (name_cmp (get_or names i e)) same ∙ equal_self names (get_or names i e) are.order)
    where
      less_equal : Less ≡ Equal → ⊥
      less_equal e = cc

  module _ (now : Name → Option File) (i : ℕ) (d : Name) (lt : i < length names) (so_far : Removed files now names i) where
    -- a name that isn't that of a stray
    pub removed_skip : (IsStray files (get_or names i d) → ⊥) → Removed files now names (i + 1)
    removed_skip other = record {
      each = so_far.each;
      gone = one_more (λ (n : Name). IsStray files n → now n ≡ None) names i d lt so_far.gone (λ stray. absurd (other stray));
      ahead = λ k e le inside. so_far.ahead k e (omega (arith, le)) inside;
    }

    -- one stray more
    pub removed_more : (new : Name → Option File) → IsStray files (get_or names i d) → Becomes (get_or names i d) None now new → Removed files new names (i + 1)
    removed_more new stray becomes = record {
      each = at_name (λ n. (new n ≡ files n) ⊎ (IsStray files n × (new n ≡ None))) (get_or names i d)
          (inr (stray, becomes.this))
          (λ n other. ⊎_elim (λ same. inl (becomes.others n other ∙ same)) (λ gone. inr (gone.0, becomes.others n other ∙ gone.1)) (so_far.each n));
      gone = one_more (λ (n : Name). IsStray files n → new n ≡ None) names i d lt
          (λ k e below own. at_name (λ n. now n ≡ None → new n ≡ None) (get_or names i d) (λ none. becomes.this) (λ n other none. becomes.others n other ∙ none) (get_or names k e) (so_far.gone k e below own))
          (λ own. becomes.this);
      ahead = λ k e le inside.
          let other = later_other i k e e (omega (arith, le)) inside in
          becomes.others (get_or names k e) (λ same. other (same ∙ default e)) ∙ so_far.ahead k e (omega (arith, le)) inside;
    }
      where
        default : (e : Name) → get_or names i d ≡ get_or names i e
        default e = get_or_default names i d e lt

  pub lost : (now : Name → Option File) (i : ℕ) → length names ≤ i → Removed files now names i → HasLostStrays files now
  lost now i all so_far = record {
    each = so_far.each;
    gone = λ n stray. of_slot n stray (files n) refl;
  }
    where
      of_slot : (n : Name) → IsStray files n → (slot : Option File) → files n ≡ slot → now n ≡ None
      of_slot n stray None is = ⊎_elim (λ same. same ∙ is) (λ gone. gone.1) (so_far.each n)
      of_slot n stray (Some f) is =
          let has = (are.each n).1 (subst HasFile (sym is) tt) in
          subst (λ (m : Name). now m ≡ None) has.2 (so_far.gone has.0 n (omega (arith, all, has.1)) (subst (IsStray files) (sym has.2) stray))

-- ---- what a crash leaves meanwhile

none_image : (slot : Option File) (c : Option (List ℕ)) → slot ≡ None → IsImageOf slot c → c ≡ None
none_image None None is image = refl
none_image None (Some c) is image = absurd image
none_image (Some f) c is image = absurd (some_none is)
  where
    some_none : Some f ≡ None → ⊥
    some_none x = cc

pub removed_image : (start now : Name → Option File) (names : List Name) (i : ℕ) → Removed start now names i → (c : Image) → IsImage now c → IsImageOrWithout start c
removed_image start now names i so_far c image n = ⊎_elim
    (λ same. inl (subst (λ (o : Option File). IsImageOf o (c n)) same (image n)))
    (λ gone. inr (gone.0, none_image (now n) (c n) gone.1 (image n)))
    (so_far.each n)

-- no file is there that wasn't there before
pub removed_new : (start now : Name → Option File) (names : List Name) (i : ℕ) → Removed start now names i → (n : Name) → start n ≡ None → now n ≡ None
removed_new start now names i so_far n none = ⊎_elim (λ same. same ∙ none) (λ gone. gone.1) (so_far.each n)

pub step_new : (now new : Name → Option File) (name : Name) → BecomesOrNot name None now new → (n : Name) → now n ≡ None → new n ≡ None
step_new now new name step = at_name (λ n. now n ≡ None → new n ≡ None) name (λ none. ⊎_elim (λ gone. gone) (λ same. same ∙ none) step.this) (λ n other none. step.others n other ∙ none)

-- one removal more, whichever its answer
module _ {D : Type 0} (moment : D → ℕ) (left : D → ℕ → ℕ → Image → Type 0) (files : D → Name → Option File) (now_only : (disk : D) (image : Image) → left disk (moment disk) (moment disk) image → IsImage (files disk) image) where
  pub removal : {T E : Type 0} → T → (start now new : D) (names : List Name) (i : ℕ) (name : Name) (result : Result (Unit {0}) E) → Removed (files start) (files now) names i → IsStray (files start) name
      → OnOk result (T → Becomes name None (files now) (files new)) → OnErr result (T → BecomesOrNot name None (files now) (files new)) → Elapses (moment now) (moment new) (left now) (left new)
      → LeavesOnly moment left start now (IsImageOrWithout (files start)) → LeavesOnly moment left start new (IsImageOrWithout (files start))
  removal told start now new names i name result so_far stray ok fault time run =
      then moment left files now_only start now new (IsImageOrWithout (files start)) run
      (weaken moment left files now_only now new (Removes name (files now)) (IsImageOrWithout (files start)) step
      (remove_only moment left files now_only told now new name result ok fault time))
    where
      step : (c : Image) → Removes name (files now) c → IsImageOrWithout (files start) c
      step c removes = at_name (λ n. IsImageOf (files start n) (c n) ⊎ (IsStray (files start) n × (c n ≡ None))) name
          (⊎_elim (λ none. inr (stray, none)) (λ image. one name image) removes.this)
          (λ n other. one n (removes.others n other))
        where
          one : (n : Name) → IsImageOf (files now n) (c n) → IsImageOf (files start n) (c n) ⊎ (IsStray (files start) n × (c n ≡ None))
          one n image = ⊎_elim
              (λ same. inl (subst (λ (o : Option File). IsImageOf o (c n)) same image))
              (λ gone. inr (gone.0, none_image (files now n) (c n) gone.1 image))
              (so_far.each n)
