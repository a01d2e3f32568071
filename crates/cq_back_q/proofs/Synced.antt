-- A run of syncs.
use Rattle.std.proofs.Common.{◌≡◌, ◌≢◌, ⊎_elim, ℕ, ◌+◌, ◌<◌, List, All, Result, Option, Some, None, OnOk, OnErr, refl, sym, ◌∙◌, ap, subst, arith, length, get_or}
use Rattle.std.proofs.lemmas.Bool.{cases_Bool, cases_lt}
use Rattle.cq_disk.specs.FileLemmas.{settled_only}
use Rattle.std.proofs.lemmas.List.{get_or_default}
use Rattle.std.specs.BTreeMap.{is_at}
use Rattle.cq_disk.specs.Names.{name_cmp}
use Rattle.cq_disk.specs.NamesLemmas.{found_is, distinct}
use Rattle.cq_disk.specs.declared.name.Name.{Name}
use Rattle.cq_disk.specs.File.{File, IsFileImage, settled, synced_now}
use Rattle.cq_disk.specs.Files.{HasFile, Among, IsImage, IsImageOf, Changes, ChangesWithin}
use Rattle.cq_disk.specs.Call.{Image, Elapses, LeavesOnly}
use Rattle.cq_disk.specs.Moments.{Found, found, sync_only, then, weaken}
use Rattle.cq_folder.specs.Held.{bytes_in, IsSettled}
use Rattle.cq_folder.proofs.Images.{at_name}
use Rattle.cq_back_q.specs.Folder.{ReadsSame}

-- of the files the first so many of these names are all on the disk, each file reads as it did, and a crash leaves no more than before
pub record Syncs (files new : Name → Option File) (names : List Name) (now : ℕ) : Type 0 where
  pub settled : (k : ℕ) (d : Name) → k < now → IsSettled (new (get_or names k d))
  pub reads : ReadsSame files new
  pub images : (n : Name) (c : Option (List ℕ)) → IsImageOf (new n) c → IsImageOf (files n) c

pub syncs_none : (files : Name → Option File) (names : List Name) → Syncs files files names 0
syncs_none files names = record { settled = λ k d lt. absurd (omega (arith, lt)); reads = λ n. refl; images = λ n c image. image }

pub has_file : (a b : Option File) → bytes_in b ≡ bytes_in a → HasFile a → HasFile b
has_file None b same has = absurd has
has_file (Some f) None same has = absurd (none_some same)
  where
    none_some : None ≡ Some f.reads → ⊥
    none_some e = cc
has_file (Some f) (Some g) same has = tt

-- a listed file is still there
pub still_there : (files new : Name → Option File) (names : List Name) (now k : ℕ) (d : Name) → k < length names → All (λ n. HasFile (files n)) names → Syncs files new names now → HasFile (new (get_or names k d))
still_there files new names now k d lt there so_far = has_file (files (get_or names k d)) (new (get_or names k d)) (so_far.reads (get_or names k d)) (there k d lt)

settled_image : (f : File) (c : Option (List ℕ)) → IsFileImage f f.reads → IsImageOf (Some (settled f.reads)) c → IsImageOf (Some f) c
settled_image f None readable image = absurd image
settled_image f (Some b) readable image = subst (IsFileImage f) (sym (settled_only f.reads b image)) readable

all_settled : (f : File) (slot : Option File) → slot ≡ Some (settled f.reads) → IsSettled slot
all_settled f slot is g was = let same : settled f.reads ≡ g = one (sym is ∙ was) in subst (λ (h : File). h ≡ settled h.reads) same refl
  where
    one : Some (settled f.reads) ≡ Some g → settled f.reads ≡ g
    one e = cc

-- one sync more
pub syncs_more : (files mid new : Name → Option File) (names : List Name) (now : ℕ) (d : Name) → now < length names → ((n : Name) (h : File) → mid n ≡ Some h → IsFileImage h h.reads) → Syncs files mid names now
    → Changes (get_or names now d) synced_now mid new → Syncs files new names (now + 1)
syncs_more files mid new names now d lt readable so_far changes = record {
  settled = λ k d' k_lt. ⊎_elim
      (λ this. all_settled f (new (get_or names k d')) (ap new (found_is name (get_or names k d') this) ∙ made))
      (λ other. let apart = distinct name (get_or names k d') other in
      subst IsSettled (sym (changes.others (get_or names k d') apart)) (so_far.settled k d' (before k d' k_lt apart)))
      (cases_Bool (is_at (name_cmp name) (get_or names k d')));
  reads = λ n. ⊎_elim
      (λ this. let e = found_is name n this in
      subst (λ (m : Name). bytes_in (new m) ≡ bytes_in (files m)) (sym e) (ap bytes_in made ∙ sym (ap bytes_in at.is) ∙ so_far.reads name))
      (λ other. ap bytes_in (changes.others n (distinct name n other)) ∙ so_far.reads n)
      (cases_Bool (is_at (name_cmp name) n));
  images = λ n c image. so_far.images n c (⊎_elim
      (λ this. let e = found_is name n this in
      subst (λ (m : Name). IsImageOf (mid m) c) (sym e) (subst (λ (o : Option File). IsImageOf o c) (sym at.is)
      (settled_image f c (readable name f at.is) (subst (λ (o : Option File). IsImageOf o c) (ap new e ∙ made) image))))
      (λ other. subst (λ (o : Option File). IsImageOf o c) (changes.others n (distinct name n other)) image)
      (cases_Bool (is_at (name_cmp name) n)));
}
  where
    name : Name
    name = get_or names now d

    at : Found (mid (get_or names now d)) (λ g. new (get_or names now d) ≡ Some (settled g.reads))
    at = found (mid (get_or names now d)) (λ g. new (get_or names now d) ≡ Some (settled g.reads)) changes.this

    f : File
    f = at.file

    made : new (get_or names now d) ≡ Some (settled at.file.reads)
    made = at.has

    before : (k : ℕ) (d' : Name) → k < now + 1 → get_or names k d' ≢ get_or names now d → k < now
    before k d' k_lt apart = ⊎_elim (λ lt'. lt') (λ ge. let e : k ≡ now = omega (arith, ge, k_lt) in absurd (apart (ap (λ (m : ℕ). get_or names m d') e ∙ get_or_default names now d' d lt))) (cases_lt k now)

-- one sync more of a run
module _ {D : Type 0} (moment : D → ℕ) (left : D → ℕ → ℕ → Image → Type 0) (files : D → Name → Option File) (now_only : (disk : D) (image : Image) → left disk (moment disk) (moment disk) image → IsImage (files disk) image) where
  pub run_more : {T E : Type 0} → T → (old mid new : D) (names : List Name) (now : ℕ) (name : Name) (result : Result (Unit {0}) E) → ((n : Name) (h : File) → files mid n ≡ Some h → IsFileImage h h.reads) → HasFile (files mid name)
      → OnOk result (T → Changes name synced_now (files mid) (files new)) → OnErr result (T → ChangesWithin name (λ h. h) (files mid) (files new)) → Elapses (moment mid) (moment new) (left mid) (left new)
      → Syncs (files old) (files mid) names now → LeavesOnly moment left old mid (IsImage (files old)) → LeavesOnly moment left old new (IsImage (files old))
  run_more told old mid new names now name result readable there ok fault time so_far run =
      let at = found (files mid name) (λ f. Unit {0}) there in
      then moment left files now_only old mid new (IsImage (files old)) run
      (weaken moment left files now_only mid new (IsImage (files mid)) (IsImage (files old)) (λ c image n. so_far.images n (c n) (image n))
      (sync_only moment left files now_only told mid new name result readable ok fault time at.file at.is))

-- ---- no file is there that wasn't there before

pub none_back : (a b : Option File) → bytes_in b ≡ bytes_in a → b ≡ None → a ≡ None
none_back None b same none = refl
none_back (Some f) b same none = absurd (none_some (sym (ap bytes_in none) ∙ same))
  where
    none_some : None ≡ Some f.reads → ⊥
    none_some e = cc

pub none_new : (old new : Name → Option File) → ReadsSame old new → (n : Name) → old n ≡ None → new n ≡ None
none_new old new same n none = none_back (new n) (old n) (sym (same n)) none

no_among : (slot : Option File) (P : File → Type 0) → slot ≡ None → Among slot P → ⊥
no_among slot P none has = subst (λ (o : Option File). Among o P) none has

-- also where a sync fails
pub none_within : (old mid new : Name → Option File) (name : Name) (step : File → File) → ReadsSame old mid → ChangesWithin name step mid new → (n : Name) → old n ≡ None → new n ≡ None
none_within old mid new name step same changes n none =
    at_name (λ m. mid m ≡ None → new m ≡ None) name (λ gone. absurd (no_among (mid name) _ gone changes.this)) (λ m other gone. changes.others m other ∙ gone) n (none_new old mid same n none)
