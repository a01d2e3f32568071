-- How a record goes on.
use Rattle.std.proofs.Common.{◌≡◌, inl, inr, ⊎_elim, ℕ, zero, suc, ◌+◌, ◌-◌, ◌^◌, ◌≤◌, ◌<◌, min, Bool, true, false, cond, ◌&&◌, List, [], ◌∷◌, ◌++◌, length, take, drop, get_or, Option, Some, None, Result, Ok, Err, OnOk, OnErr, refl, sym, ◌∙◌, ap, subst, arith}
use Rattle.std.specs.Prelude.{nat_le, ◌↔◌, IsSome, Contains, Vec}
use Rattle.std.specs.Option.{option_map}
use Rattle.std.specs.declared.alloc.Global.{Global}
use Rattle.std.specs.BTreeMap.{BTreeMap, is_at, keys, IsOrdered, get}
use Rattle.std.specs.List.Sorted.{IsStrictlySortedBy}
use Rattle.std.proofs.lemmas.Map.Views.{btree_map_contains_key_iff}
use Rattle.std.proofs.lemmas.Bool.{cases_lt, cases_Bool, false≢true}
use Rattle.std.proofs.lemmas.List.{length-take-le, length-append, take-append-le, take_all, get_or_append_left, get_or_push}
use Rattle.std.proofs.lemmas.Bool.Decides.{nat_tests}
use Rattle.cq_disk.specs.declared.name.Name.{Name}
use Rattle.cq_disk.specs.Names.{name_cmp, IsInRange}
use Rattle.cq_disk.specs.NamesLemmas.{found_is, found_self, apart, distinct, names_total, exact_names}
use Rattle.cq_disk.specs.File.{File, wrote, cut_to, synced_now, fresh, settled, IsWithin}
use Rattle.cq_disk.specs.FileLemmas.{wrote_readable, cut_readable, settled_readable, wrote_within, cut_within, length-overwritten}
use Rattle.cq_disk.specs.Files.{HasFile, HasRange, LenIs, Reads, IsImage, IsImageOf, Becomes, SameFiles, Among, ChangesWithin, NamesAre}
use Rattle.cq_disk.specs.Call.{Image, Elapses}
use Rattle.cq_memdisk.specs.Crash.{SameLeftBefore}
use Rattle.cq_memdisk.specs.Folder.{bytes_of}
use Rattle.cq_memdisk.specs.declared.change.Change.{Change}
use Rattle.cq_memdisk.specs.declared.change.Change.TheVariants.{Write, Cut, Sync, Create, Remove, Load}
use Rattle.cq_memdisk.specs.declared.change.Note.{Note}
use Rattle.cq_memdisk.specs.Change.{changed, rewritten, CanChange, CanWrite, HasBytes, Fits, IsSound, FitsNow, SoundHistory, replayed, replayed_by, files_at, files_of, LeftBetween}

-- each change is one of the past
abbrev pub IsPast : List Note → ℕ → Type 0
IsPast notes now = (k : ℕ) (d : Note) → k < length notes → (get_or notes k d).from ≤ now

pub replayed-append : (xs ys : List Note) (n : Name) (f : Option File) → replayed (xs ++ ys) n f ≡ replayed ys n (replayed xs n f)
replayed-append [] ys n f = refl
replayed-append (x ∷ xs) ys n f = replayed-append xs ys n (cond (is_at (name_cmp x.name) n) (changed x.change f) f)

pub replayed_by-append : (k : ℕ) (xs ys : List Note) (n : Name) (f : Option File) → replayed_by k (xs ++ ys) n f ≡ replayed_by k ys n (replayed_by k xs n f)
replayed_by-append k [] ys n f = refl
replayed_by-append k (x ∷ xs) ys n f = replayed_by-append k xs ys n (cond (nat_le x.from k && is_at (name_cmp x.name) n) (changed x.change f) f)

has : (a b : ℕ) → a ≤ b → nat_le a b ≡ true
has a b le = grind (arith, nat_tests)

hasn't : (a b : ℕ) → b < a → nat_le a b ≡ false
hasn't a b lt = grind (arith, nat_tests)

-- now it has all
pub all_past : (k : ℕ) (xs : List Note) (n : Name) (f : Option File) → IsPast xs k → replayed_by k xs n f ≡ replayed xs n f
all_past k [] n f past = refl
all_past k (x ∷ xs) n f past =
    ap (λ (b : Bool). replayed_by k xs n (cond (b && is_at (name_cmp x.name) n) (changed x.change f) f)) (has x.from k (past 0 x (omega arith)))
    ∙ all_past k xs n (cond (is_at (name_cmp x.name) n) (changed x.change f) f) (λ i d lt. past (suc i) d (omega arith))

-- a change isn't there before
pub not_yet : (k : ℕ) (xs : List Note) (x : Note) (n : Name) → k < x.from → files_at (xs ++ x ∷ []) k n ≡ files_at xs k n
not_yet k xs x n later =
    replayed_by-append k xs (x ∷ []) n None
    ∙ ap (λ (b : Bool). cond (b && is_at (name_cmp x.name) n) (changed x.change (files_at xs k n)) (files_at xs k n)) (hasn't x.from k later)

pub now_files : (k : ℕ) (xs : List Note) → IsPast xs k → (n : Name) → files_at xs k n ≡ files_of xs n
now_files k xs past n = all_past k xs n None past

pub same_image : (fs gs : Name → Option File) (c : Image) → ((n : Name) → gs n ≡ fs n) → IsImage fs c → IsImage gs c
same_image fs gs c same image n = subst (λ (f : Option File). IsImageOf f (c n)) (sym (same n)) (image n)

-- one call, after which the record says of each earlier moment what it said
pub elapses : (old new : List Note) (since before now : ℕ) → before ≤ now → now ≡ min (before + 1) (2 ^ 64 - 1) → ((k : ℕ) (n : Name) → k ≤ before → files_at new k n ≡ files_at old k n) → Elapses before now (LeftBetween old since before) (LeftBetween new since now)
elapses old new since before now later next same = record {
  next = next;
  later = later;
  kept = λ t u c le left. record {
    moment = left.moment;
    from = left.from;
    to = left.to;
    later = left.later;
    past = omega (arith, left.past);
    shows = same_image (files_at old left.moment) (files_at new left.moment) c (λ n. same left.moment n left.past) left.shows;
  };
  as_it_was = λ t u c le left. record {
    moment = left.moment;
    from = left.from;
    to = left.to;
    later = left.later;
    past = omega (arith, left.to);
    shows = same_image (files_at new left.moment) (files_at old left.moment) c (λ n. sym (same left.moment n (omega (arith, left.to)))) left.shows;
  };
  nothing_else = λ t c left. ⊎_elim (λ earlier. inl (record {
    moment = left.moment;
    from = left.from;
    to = omega arith;
    later = left.later;
    past = omega arith;
    shows = same_image (files_at new left.moment) (files_at old left.moment) c (λ n. sym (same left.moment n (omega arith))) left.shows;
  })) (λ last. inr (record {
    moment = left.moment;
    from = omega (arith, left.past);
    to = left.past;
    later = left.later;
    past = left.past;
    shows = left.shows;
  })) (cases_lt left.moment (before + 1));
}

-- a record that says the same of an earlier moment says the same of what it left
same_left : (old new : List Note) (since before now t u : ℕ) (c : Image) → u < now → ((k : ℕ) (n : Name) → k < now → files_at new k n ≡ files_at old k n) → LeftBetween old since before t u c → LeftBetween new since now t u c
same_left old new since before now t u c lt same left = record {
  moment = left.moment;
  from = left.from;
  to = left.to;
  later = left.later;
  past = omega (arith, left.to, lt);
  shows = same_image (files_at old left.moment) (files_at new left.moment) c (λ n. same left.moment n (omega (arith, left.to, lt))) left.shows;
}

-- a change that may be noted now changes nothing of what was left before
pub left_before : {T E : Type 0} (result : Result T E) (old new : List Note) (x : Note) (since now : ℕ) → x.from ≡ now → OnOk result (new ≡ old ++ x ∷ []) → OnErr result (new ≡ old) → SameLeftBefore now (LeftBetween old since now) (LeftBetween new since now)
left_before result old new x since now from noted not_noted t u c lt = (same_left old new since now now t u c lt same, same_left new old since now now t u c lt (λ k n before. sym (same k n before)))
  where
    at_result : {T E : Type 0} (r : Result T E) → OnOk r (new ≡ old ++ x ∷ []) → OnErr r (new ≡ old) → (k : ℕ) (n : Name) → k < now → files_at new k n ≡ files_at old k n
    at_result (Ok v) is same k n before = ap (λ (l : List Note). files_at l k n) is ∙ not_yet k old x n (omega (arith, before, from))
    at_result (Err e) is same k n before = ap (λ (l : List Note). files_at l k n) same

    same : (k : ℕ) (n : Name) → k < now → files_at new k n ≡ files_at old k n
    same = at_result result noted not_noted

-- a crash now leaves an image of the files
pub only_now : (notes : List Note) (since now : ℕ) (c : Image) → IsPast notes now → LeftBetween notes since now now now c → IsImage (files_of notes) c
only_now notes since now c past left =
    let is : left.moment ≡ now = omega (arith, left.from, left.to) in
    same_image (files_at notes left.moment) (files_of notes) c (λ n. sym (ap (λ (k : ℕ). files_at notes k n) is ∙ now_files now notes past n)) left.shows

-- each image of the files may be left now
pub each_now : (notes : List Note) (since now t : ℕ) (c : Image) → IsPast notes now → since ≤ now → t ≤ now → IsImage (files_of notes) c → LeftBetween notes since now t now c
each_now notes since now t c past begun le is = record {
  moment = now;
  from = le;
  to = omega arith;
  later = begun;
  past = omega arith;
  shows = same_image (files_of notes) (files_at notes now) c (now_files now notes past) is;
}

-- what was left between two moments was left between earlier and later ones
pub left_wider : (notes : List Note) (since now s t u v : ℕ) (c : Image) → s ≤ t → u ≤ v → LeftBetween notes since now t u c → LeftBetween notes since now s v c
left_wider notes since now s t u v c from to left = record {
  moment = left.moment;
  from = omega (arith, from, left.from);
  to = omega (arith, to, left.to);
  later = left.later;
  past = left.past;
  shows = left.shows;
}

-- nothing is noted
pub elapses_same : (old new : List Note) (since since' before now : ℕ) → before ≤ now → now ≡ min (before + 1) (2 ^ 64 - 1) → since' ≡ since → new ≡ old → Elapses before now (LeftBetween old since before) (LeftBetween new since' now)
elapses_same old new since since' before now later next stays same =
    subst (λ (s : ℕ). Elapses before now (LeftBetween old since before) (LeftBetween new s now)) (sym stays) (elapses old new since before now later next (λ k n le. ap (λ (l : List Note). files_at l k n) same))

-- a change is noted
pub elapses_noted : (old new : List Note) (x : Note) (since since' before now : ℕ) → before < x.from → before ≤ now → now ≡ min (before + 1) (2 ^ 64 - 1) → since' ≡ since → new ≡ old ++ x ∷ [] → Elapses before now (LeftBetween old since before) (LeftBetween new since' now)
elapses_noted old new x since since' before now after later next stays same =
    subst (λ (s : ℕ). Elapses before now (LeftBetween old since before) (LeftBetween new s now)) (sym stays) (elapses old new since before now later next (λ k n le. ap (λ (l : List Note). files_at l k n) same ∙ not_yet k old x n (omega arith)))

some_same : {A : Type 0} {a b : A} → Some a ≡ Some b → a ≡ b
some_same h = cc

-- a change keeps each file sound
pub sound_changed : (change : Change) (file : Option File) → CanChange change file → HasBytes change → Fits change → ((f : File) → file ≡ Some f → IsSound f) → (g : File) → changed change file ≡ Some g → IsSound g
sound_changed (Write at bytes) None can small fits was g is = absurd can
sound_changed (Write at bytes) (Some f) can small fits was g is =
    let old = was f refl in
    let at_le : at ≤ length f.reads = omega (arith, can) in
    let new : IsSound (wrote at bytes.items f) = record { readable = wrote_readable f at bytes.items at_le small old.readable; whole = (wrote_within f at bytes.items old.readable).images f.synced old.whole; short = omega (arith, old.short, fits, length-overwritten f.reads at bytes.items at_le) } in
    subst IsSound (some_same is) new
sound_changed (Cut len) None can small fits was g is = absurd can
sound_changed (Cut len) (Some f) can small fits was g is =
    let old = was f refl in
    let le : len ≤ length f.reads = omega (arith, can) in
    let new : IsSound (cut_to len f) = record { readable = cut_readable f len le old.readable; whole = (cut_within f len old.readable).images f.synced old.whole; short = omega (arith, old.short, length-take-le len f.reads le) } in
    subst IsSound (some_same is) new
sound_changed Sync None can small fits was g is = absurd can
sound_changed Sync (Some f) can small fits was g is =
    let old = was f refl in
    let new : IsSound (synced_now f) = record { readable = settled_readable f.reads old.readable.bytes; whole = settled_readable f.reads old.readable.bytes; short = old.short } in
    subst IsSound (some_same is) new
sound_changed Create file can small fits was g is =
    let new : IsSound fresh = record { readable = settled_readable [] (λ i. omega arith); whole = settled_readable [] (λ i. omega arith); short = omega arith } in
    subst IsSound (some_same is) new
sound_changed Remove file can small fits was g is = cc
sound_changed (Load bytes) file can small fits was g is =
    let new : IsSound (settled bytes.items) = record { readable = settled_readable bytes.items small; whole = settled_readable bytes.items small; short = fits } in
    subst IsSound (some_same is) new

abbrev pub reads_of : Option File → Option (List ℕ)
reads_of file = option_map (λ f. f.reads) file

-- what is read after a change
pub changed_reads : (change : Change) (file : Option File) → reads_of (changed change file) ≡ rewritten change (reads_of file)
changed_reads (Write at bytes) None = refl
changed_reads (Write at bytes) (Some f) = refl
changed_reads (Cut len) None = refl
changed_reads (Cut len) (Some f) = refl
changed_reads Sync None = refl
changed_reads Sync (Some f) = refl
changed_reads Create file = refl
changed_reads Remove file = refl
changed_reads (Load bytes) file = refl

pub can_write : (change : Change) (file : Option File) (old : Option (List ℕ)) → reads_of file ≡ old → CanChange change file → CanWrite change old
can_write change file old is can = subst (λ (o : Option (List ℕ)). CanWrite change o) is (at_file change file can)
  where
    at_file : (change : Change) (file : Option File) → CanChange change file → CanWrite change (reads_of file)
    at_file (Write at bytes) None can = tt
    at_file (Write at bytes) (Some f) can = omega (arith, can)
    at_file (Cut len) file can = tt
    at_file Sync file can = tt
    at_file Create file can = tt
    at_file Remove file can = tt
    at_file (Load bytes) file can = tt

-- what holds of the bytes that are kept and of the record
pub record IsKept (notes : List Note) (stored : Name → Option (List ℕ)) (now : ℕ) : Type 0 where
  pub kept : (n : Name) → reads_of (files_of notes n) ≡ stored n
  pub past : (k : ℕ) (d : Note) → k < length notes → (get_or notes k d).from ≤ now
  pub history : SoundHistory notes

-- the files after one change more
pub one_more : (notes : List Note) (x : Note) → Becomes x.name (changed x.change (files_of notes x.name)) (files_of notes) (files_of (notes ++ x ∷ []))
one_more notes x = record {
  this = replayed-append notes (x ∷ []) x.name None ∙ ap (λ (b : Bool). cond b (changed x.change (files_of notes x.name)) (files_of notes x.name)) (found_self x.name x.name refl);
  others = λ n other. replayed-append notes (x ∷ []) n None ∙ ap (λ (b : Bool). cond b (changed x.change (files_of notes n)) (files_of notes n)) (apart x.name n other);
}

fits_now : (change : Change) → Fits change → FitsNow change
fits_now change fits at bytes is = subst Fits is fits

-- the files are sound now
pub sound_now : (notes : List Note) → SoundHistory notes → (n : Name) (f : File) → files_of notes n ≡ Some f → IsSound f
sound_now notes history n f is = history.sound (length notes) n f (ap (λ (l : List Note). files_of l n) (take_all (length notes) notes (omega arith)) ∙ is)

-- two folders that are the same stay so
pub same_next : (fs gs fs' gs' : Name → Option File) (x : Note) → ((n : Name) → fs n ≡ gs n) → Becomes x.name (changed x.change (fs x.name)) fs fs' → Becomes x.name (changed x.change (gs x.name)) gs gs' → (n : Name) → fs' n ≡ gs' n
same_next fs gs fs' gs' x same first second n = ⊎_elim
    (λ this.
    let is = found_is x.name n this in
    subst (λ (m : Name). fs' m ≡ gs' m) (sym is) (first.this ∙ ap (changed x.change) (same x.name) ∙ sym second.this))
    (λ other. let o = distinct x.name n other in first.others n o ∙ same n ∙ sym (second.others n o))
    (cases_Bool (is_at (name_cmp x.name) n))

pub noted : (notes : List Note) (bs cs : Name → Option (List ℕ)) (x : Note) (now : ℕ) → IsKept notes bs now → x.from ≤ now → CanChange x.change (files_of notes x.name) → HasBytes x.change → Fits x.change → IsInRange x.name → Becomes x.name (rewritten x.change (bs x.name)) bs cs → IsKept (notes ++ x ∷ []) cs now
noted notes bs cs x now old from can small fits in_range becomes = record {
  kept = λ n. ⊎_elim
      (λ this.
      let is = found_is x.name n this in
      subst (λ (m : Name). reads_of (files_of (notes ++ x ∷ []) m) ≡ cs m) (sym is) (ap reads_of new.this ∙ changed_reads x.change (files_of notes x.name) ∙ ap (rewritten x.change) (old.kept x.name) ∙ sym becomes.this))
      (λ other. let o = distinct x.name n other in ap reads_of (new.others n o) ∙ old.kept n ∙ sym (becomes.others n o))
      (cases_Bool (is_at (name_cmp x.name) n));
  past = λ k d lt. ⊎_elim
      (λ before. let e : get_or (notes ++ x ∷ []) k d ≡ get_or notes k d = get_or_append_left notes (x ∷ []) d k before in rw e (old.past k d before))
      (λ last. let e : get_or (notes ++ x ∷ []) k d ≡ x = get_or_push notes x d k (omega (arith, length-append notes (x ∷ []))) in rw e from)
      (cases_lt k (length notes));
  history = record {
    fits = λ k d lt. ⊎_elim
        (λ before. let e : get_or (notes ++ x ∷ []) k d ≡ get_or notes k d = get_or_append_left notes (x ∷ []) d k before in rw e (old.history.fits k d before))
        (λ last. let e : get_or (notes ++ x ∷ []) k d ≡ x = get_or_push notes x d k (omega (arith, length-append notes (x ∷ []))) in rw e (fits_now x.change fits))
        (cases_lt k (length notes));
    sound = λ k n g is. ⊎_elim
        (λ (before : k < length notes + 1). old.history.sound k n g (sym (ap (λ (l : List Note). files_of l n) (take-append-le k notes (x ∷ []) (omega (arith, before)))) ∙ is))
        (λ (all : length notes + 1 ≤ k). now_sound n g (sym (ap (λ (l : List Note). files_of l n) (take_all k (notes ++ x ∷ []) (omega (arith, all, length-append notes (x ∷ []))))) ∙ is))
        (cases_lt k (length notes + 1));
    named = λ n g is. ⊎_elim
        (λ this. subst IsInRange (sym (found_is x.name n this)) in_range)
        (λ other. old.history.named n g (sym ((one_more notes x).others n (distinct x.name n other)) ∙ is))
        (cases_Bool (is_at (name_cmp x.name) n));
  };
}
  where
    new : Becomes x.name (changed x.change (files_of notes x.name)) (files_of notes) (files_of (notes ++ x ∷ []))
    new = one_more notes x

    now_sound : (n : Name) (g : File) → files_of (notes ++ x ∷ []) n ≡ Some g → IsSound g
    now_sound n g is = ⊎_elim
        (λ this.
        let m = found_is x.name n this in
        sound_changed x.change (files_of notes x.name) can small fits (λ f was. sound_now notes old.history x.name f was) g (sym (one_more notes x).this ∙ ap (files_of (notes ++ x ∷ [])) (sym m) ∙ is))
        (λ other. sound_now notes old.history n g (sym ((one_more notes x).others n (distinct x.name n other)) ∙ is))
        (cases_Bool (is_at (name_cmp x.name) n))

-- nothing is kept of no files
pub empty_kept : (notes : List Note) (stored : Name → Option (List ℕ)) (now : ℕ) → notes ≡ [] → ((n : Name) → stored n ≡ None) → IsKept notes stored now
empty_kept notes stored now empty none = subst (λ (l : List Note). IsKept l stored now) (sym empty) (record {
  kept = λ n. sym (none n);
  past = λ k d lt. omega (arith, lt);
  history = record { fits = λ k d lt. omega (arith, lt); sound = λ k n f is. none_is k n f is; named = λ n f is. cc };
})
  where
    none_is : (k : ℕ) (n : Name) (f : File) → files_of (take k []) n ≡ Some f → IsSound f
    none_is zero n f is = cc
    none_is (suc k) n f is = cc

-- a call that may change one file keeps what holds
pub stays_kept : {T E : Type 0} (result : Result T E) (notes notes' : List Note) (bs cs : Name → Option (List ℕ)) (x : Note) (now : ℕ) → IsKept notes bs now → x.from ≤ now → CanChange x.change (files_of notes x.name) → HasBytes x.change
    → OnOk result (Becomes x.name (rewritten x.change (bs x.name)) bs cs) → OnOk result (Fits x.change) → OnOk result (IsInRange x.name) → OnOk result (notes' ≡ notes ++ x ∷ []) → OnErr result (SameFiles bs cs) → OnErr result (notes' ≡ notes) → IsKept notes' cs now
stays_kept (Ok v) notes notes' bs cs x now old from can small ok fits in_range is same is' = subst (λ (l : List Note). IsKept l cs now) (sym is) (noted notes bs cs x now old from can small fits in_range ok)
stays_kept (Err e) notes notes' bs cs x now old from can small ok fits in_range is same is' = subst (λ (l : List Note). IsKept l cs now) (sym is') (record {
  kept = λ n. old.kept n ∙ sym (same n);
  past = old.past;
  history = old.history;
})

among_within : (step : File → File) (a b : Option File) → b ≡ a → HasFile a → ((f : File) → a ≡ Some f → IsWithin (step f) f) → Among a (λ f. Among b (λ g. IsWithin (step f) g))
among_within step None b same there within = absurd there
among_within step (Some f) b same there within = subst (λ (o : Option File). Among o (λ g. IsWithin (step f) g)) (sym same) (within f refl)

-- what stays as it was is as a crash before the step leaves it
pub same_within : (name : Name) (step : File → File) (fs gs : Name → Option File) → SameFiles fs gs → HasFile (fs name) → ((f : File) → fs name ≡ Some f → IsWithin (step f) f) → ChangesWithin name step fs gs
same_within name step fs gs same there within = record { this = among_within step (fs name) (gs name) (same name) there within; others = λ n other. same n }

pub has_file : (file : Option File) (at len : ℕ) → HasRange file at len → HasFile file
has_file None at len there = there
has_file (Some f) at len there = tt

pub on_err : {T E P Q : Type 0} (result : Result T E) → (P → Q) → OnErr result P → OnErr result Q
on_err (Ok v) step p = tt
on_err (Err e) step p = step p

pub on_ok_too : {T E P : Type 0} (result : Result T E) → P → OnOk result P
on_ok_too (Ok v) p = p
on_ok_too (Err e) p = tt

pub on_err_too : {T E P : Type 0} (result : Result T E) → P → OnErr result P
on_err_too (Ok v) p = tt
on_err_too (Err e) p = p

-- what is read of a file that is kept
pub range_at : (file : Option File) (bytes : Option (List ℕ)) (b : List ℕ) (at len : ℕ) → reads_of file ≡ bytes → bytes ≡ Some b → HasRange file at len → at + len ≤ length b
range_at None bytes b at len kept is has = absurd has
range_at (Some f) bytes b at len kept is has = let e : f.reads ≡ b = some_same (kept ∙ is) in rw (← e) has

pub reads_at : (file : Option File) (bytes : Option (List ℕ)) (b : List ℕ) (at : ℕ) (got : List ℕ) → reads_of file ≡ bytes → bytes ≡ Some b → got ≡ take (length got) (drop at b) → Reads file at got
reads_at None bytes b at got kept is has = cc
reads_at (Some f) bytes b at got kept is has = let e : f.reads ≡ b = some_same (kept ∙ is) in rw e has

pub len_some : (file : Option File) (bytes : Option (List ℕ)) (b : List ℕ) → reads_of file ≡ bytes → bytes ≡ Some b → LenIs file (Some (length b))
len_some None bytes b kept is = cc
len_some (Some f) bytes b kept is = let e : f.reads ≡ b = some_same (kept ∙ is) in ap (λ (l : List ℕ). Some (length l)) (sym e)

pub len_none : (file : Option File) (bytes : Option (List ℕ)) → reads_of file ≡ bytes → bytes ≡ None → LenIs file None
len_none None bytes kept is = refl
len_none (Some f) bytes kept is = cc

-- a file that is kept isn't too long
pub short_at : (notes : List Note) (n : Name) (b : List ℕ) → ((f : File) → files_of notes n ≡ Some f → IsSound f) → reads_of (files_of notes n) ≡ Some b → length b ≤ 2 ^ 62
short_at notes n b sound is = at (files_of notes n) sound is
  where
    at : (file : Option File) → ((f : File) → file ≡ Some f → IsSound f) → reads_of file ≡ Some b → length b ≤ 2 ^ 62
    at None sound is = cc
    at (Some f) sound is = let e : f.reads ≡ b = some_same is in rw (← e) (sound f refl).short

there_iff : (o : Option (Vec ℕ Global)) (file : Option File) → reads_of file ≡ option_map (λ v. v.items) o → IsSome o ↔ HasFile file
there_iff None None same = (λ h. absurd (false≢true h), λ h. absurd h)
there_iff None (Some f) same = cc
there_iff (Some v) None same = cc
there_iff (Some v) (Some f) same = (λ h. tt, λ h. refl)

pub names_are : (stored : BTreeMap Name (Vec ℕ Global)) (files : Name → Option File) (names : List Name) → ((n : Name) → reads_of (files n) ≡ bytes_of stored n) → IsOrdered name_cmp stored → names ≡ keys stored → NamesAre files names
names_are stored files names kept ordered same = record {
  order = subst (λ (l : List Name). IsStrictlySortedBy name_cmp l) (sym same) ordered;
  each = λ n.
      let iff = btree_map_contains_key_iff names_total exact_names stored n in
      let there = there_iff (get name_cmp stored n) (files n) (kept n) in
      (λ has. there.0 (iff.1 (subst (λ (l : List Name). Contains l n) same has)), λ is. subst (λ (l : List Name). Contains l n) (sym same) (iff.0 (there.1 is)));
}
