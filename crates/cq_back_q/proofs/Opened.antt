-- What the opening of one file of a queue tells, and what its damage says.
use Rattle.std.proofs.Common.{◌≡◌, ℕ, ◌<◌, List, [], ◌∷◌, ◌++◌, Option, Some, None, length, get_or, refl, sym, ◌∙◌, ap, subst, arith}
use Rattle.std.specs.Prelude.{slice_index}
use Rattle.std.specs.List.{AllByRecursion}
use Rattle.std.proofs.lemmas.Bool.{false≢true}
use Rattle.cq_disk.specs.declared.name.Name.{Name}
use Rattle.cq_disk.specs.File.{File}
use Rattle.cq_disk.specs.Files.{Among, AmongBytes, IsImage, IsThere, SameFiles}
use Rattle.cq_disk.specs.declared.disk.Disk.{Ghosts}
use Rattle.cq_disk.specs.Call.{Image}
use Rattle.cq_disk.specs.Run.{OnlyReads}
use Rattle.cq_disk.specs.Moments.{quiet_then}
use Rattle.cq_gate.specs.declared.gate.Gate.{Gate}
use Rattle.cq_gate.specs.Format.{kind_byte, IsFormed, BreaksAt}
use Rattle.cq_gate.specs.Calls.{BreaksHeader, WasRead}
use Rattle.cq_gate.specs.Gate.{IsGate, Shows, kind_of}
use Rattle.cq_gate.specs.Opened.{IsThereGate}
use Rattle.cq_small.specs.declared.store.SmallStore.{SmallStore}
use Rattle.cq_small.specs.Calls as small_calls
use Rattle.cq_small.specs.Store as small
use Rattle.cq_index.specs.declared.segment.Segment.{Segment}
use Rattle.cq_index.specs.Calls as index_calls
use Rattle.cq_index.specs.Opened.{BreaksIndex}
use Rattle.cq_index.specs.Places.{index_name}
use Rattle.cq_index.specs.Segments.{Knows, name_of}
use Rattle.cq_index.proofs.Known.{filed}
use Rattle.cq_folder.specs.Held.{as_read, bytes_in, IsFormedAs, IsSettled}
use Rattle.cq_folder.specs.Queue.{IsIndexAt, IsSmallAt}
use Rattle.cq_folder.proofs.Below.{all_append}
use Rattle.cq_back_q.specs.declared.error.BackError.{BackError}
use Rattle.cq_back_q.specs.declared.error.BackError.TheVariants.{Fault, Memory, Damaged}
use Rattle.cq_back_q.specs.Damage.{IfDamaged, IsDamaged}
use Rattle.cq_back_q.specs.Numbered.{AreThere, HaveRead, IsReadIndex, IsWhole}
use Rattle.cq_back_q.specs.Sound.{QueueSoundBy}
use Rattle.cq_back_q.specs.Damage.HasCause.{OfIndex, OfSmall}
use Rattle.cq_back_q.proofs.Rising.{all_at}
use Rattle.cq_back_q.proofs.Unformed.{index_unsound, small_unsound}
use Rattle.cq_back_q.proofs.Within.{gate_within, index_within}

among : (slot : Option File) (P Q : List ℕ → Type 0) → ((file : List ℕ) → P file → Q file) → Among slot (λ f. P f.reads) → AmongBytes (bytes_in slot) Q
among None P Q step none = none
among (Some f) P Q step has = step f.reads has

-- ---- an index

pub index_at : (segment : Segment) (slot : Option File) → IsSettled slot → IsThere slot (index_calls.IsOpened segment) → IsIndexAt segment slot
index_at segment None all is = absurd (false≢true is.is_some)
index_at segment (Some f) all is = record { knows = filed segment (Some f) ((is.has f refl).is (all f refl)); all = all }

abbrev IndexBreaks : ℕ → ℕ → List ℕ → Type 0
IndexBreaks place found file = BreaksIndex file place × (found ≡ slice_index file place)

pub index_damaged : (Told : Type 0) (queue number : ℕ) (files : Name → Option File) (place found : ℕ) → index_calls.WasWrong place found
    → (Told → Among (files (index_name queue number)) (λ f. IndexBreaks place found f.reads))
    → IsDamaged Told queue (as_read files) (index_name queue number) place found
index_damaged Told queue number files place found cause breaks = record {
  own = refl;
  cause = OfIndex refl cause;
  byte = λ told. among (files (index_name queue number)) (IndexBreaks place found) (λ file. (place < length file) × (found ≡ slice_index file place))
      (λ file b. (index_within file place b.0, b.1)) (breaks told);
  refuses = λ told sharing ms sound. index_unsound queue (as_read files) number place found sharing ms sound
      (among (files (index_name queue number)) (IndexBreaks place found) (IndexBreaks place found) (λ file b. b) (breaks told));
}

-- ---- a small store

same_file : (f h : File) → Some f ≡ Some h → f ≡ h
same_file f h e = cc

pub small_at : (store : SmallStore) (slot : Option File) → IsSettled slot → IsThere slot (small_calls.IsOpened store) → IsSmallAt store slot
small_at store None all is = absurd (false≢true is.is_some)
small_at store (Some f) all is = record {
  knows = record {
    absent = λ none. absurd (subst (λ (o : Option Gate). IsThereGate o (λ gate. IsGate gate f)) none known);
    there = λ gate open_with. record { is_some = refl; has = λ h same. subst (IsGate gate) (same_file f h same) (subst (λ (o : Option Gate). IsThereGate o (λ gate'. IsGate gate' f)) open_with known) };
  };
  all = all;
}
  where
    known : IsThereGate store.gate (λ gate. IsGate gate f)
    known = (is.has f refl).is (all f refl)

pub small_formed : (queue number : ℕ) (store : SmallStore) (slot : Option File) → small.name_of store ≡ small.small_name queue number → IsThere slot (small_calls.IsOpened store)
    → IsFormedAs (small.small_name queue number) (bytes_in slot)
small_formed queue number store None name is = absurd (false≢true is.is_some)
small_formed queue number store (Some f) name is = shown store.gate refl (is.has f refl).knows
  where
    shown : (o : Option Gate) → store.gate ≡ o → IsThereGate o (λ gate. Shows gate f.reads) → 128 < length f.reads → IsFormed 2 f.reads
    shown None none shows = absurd shows
    shown (Some gate) open_with shows =
        let kind : kind_of gate ≡ 2 = ap (λ (n : Name). kind_byte n.kind) ((store.gated gate open_with).name_is ∙ name) in
        λ long. subst (λ (k : ℕ). IsFormed k f.reads) kind (shows.selected (omega (arith, long, shows.len))).formed

abbrev SmallBreaks : ℕ → ℕ → List ℕ → Type 0
SmallBreaks place found file = ((128 < length file) × BreaksAt 2 file place) × (found ≡ slice_index file place)

header_broken : (slot : Option File) (place found : ℕ) → Among slot (BreaksHeader 2 place found) → Among slot (λ f. SmallBreaks place found f.reads)
header_broken None place found none = none
header_broken (Some f) place found b = ((b.long, b.breaks), b.found_is)

pub small_damaged : (Told : Type 0) (queue number : ℕ) (files : Name → Option File) (place found : ℕ) → WasRead 2 place found
    → (Told → Among (files (small.small_name queue number)) (BreaksHeader 2 place found))
    → IsDamaged Told queue (as_read files) (small.small_name queue number) place found
small_damaged Told queue number files place found cause breaks = record {
  own = refl;
  cause = OfSmall refl cause;
  byte = λ told. among slot (SmallBreaks place found) (λ file. (place < length file) × (found ≡ slice_index file place))
      (λ file b. (gate_within 2 file place b.0.0 b.0.1, b.1)) (header_broken slot place found (breaks told));
  refuses = λ told sharing ms sound. small_unsound queue (as_read files) number place found sharing ms sound
      (among slot (SmallBreaks place found) (SmallBreaks place found) (λ file b. b) (header_broken slot place found (breaks told)));
}
  where
    slot : Option File
    slot = files (small.small_name queue number)

-- ---- files that stayed as they were

pub still_whole : (name_at : ℕ → Name) (old new : Name → Option File) (numbers : List ℕ) (i : ℕ) → SameFiles old new → i < length numbers → AreThere name_at old numbers → IsWhole (new (name_at (get_or numbers i 0)))
still_whole name_at old new numbers i same lt there = subst IsWhole (sym (same (name_at (get_or numbers i 0)))) (all_at (λ n. IsWhole (old (name_at n))) numbers i 0 lt there)

pub damaged_on : (Told : Type 0) (queue : ℕ) (old new : Name → Option File) (error : BackError) → (Told → SameFiles old new)
    → IfDamaged error (IsDamaged Told queue (as_read new)) → IfDamaged error (IsDamaged Told queue (as_read old))
damaged_on Told queue old new Fault same damaged = tt
damaged_on Told queue old new Memory same damaged = tt
damaged_on Told queue old new (Damaged name place found) same damaged = record {
  own = damaged.own;
  cause = damaged.cause;
  byte = λ told. subst (λ (fs : Name → Option File). AmongBytes (as_read fs name) (λ file. (place < length file) × (found ≡ slice_index file place))) (as_before told) (damaged.byte told);
  refuses = λ told sharing ms. subst (λ (fs : Name → Option File). QueueSoundBy queue (as_read fs) sharing ms → ⊥) (as_before told) (damaged.refuses told sharing ms);
}
  where
    as_before : Told → new ≡ old
    as_before told = λ j n. same told n j

pub index_read : (queue number : ℕ) (old new : Name → Option File) (segment : Segment) → SameFiles old new → name_of segment ≡ index_name queue number → IsIndexAt segment (new (index_name queue number)) → IsThere (new (index_name queue number)) (Knows segment) → IsReadIndex old segment
index_read queue number old new segment same named at known =
    let path : new (index_name queue number) ≡ old (name_of segment) = same (index_name queue number) ∙ ap old (sym named) in
    record { at = subst (IsIndexAt segment) path at; known = subst (λ (o : Option File). IsThere o (Knows segment)) path known }

module _ (queue number : ℕ) (old new : Name → Option File) (numbers : List ℕ) (stores : List SmallStore) (same : SameFiles old new) (read : HaveRead queue old numbers stores)
    (formed : IsFormedAs (small.small_name queue number) (as_read new (small.small_name queue number))) where
  all_formed : AllByRecursion (λ n. IsFormedAs (small.small_name queue n) (as_read old (small.small_name queue n))) (numbers ++ number ∷ [])
  all_formed = all_append (λ n. IsFormedAs (small.small_name queue n) (as_read old (small.small_name queue n))) numbers (number ∷ []) read.formed
      (subst (λ (o : Option File). IsFormedAs (small.small_name queue number) (bytes_in o)) (same (small.small_name queue number)) formed, tt)

  -- one more small store, which isn't kept
  pub left_read : HaveRead queue old (numbers ++ number ∷ []) stores
  left_read = record { kept = read.kept; formed = all_formed }

  -- or is
  pub more_read : (store : SmallStore) → small.name_of store ≡ small.small_name queue number → IsSmallAt store (new (small.small_name queue number)) → HaveRead queue old (numbers ++ number ∷ []) (stores ++ store ∷ [])
  more_read store named at = record {
    kept = all_append (λ s. IsSmallAt s (old (small.name_of s))) stores (store ∷ []) read.kept
        (subst (IsSmallAt store) (same (small.small_name queue number) ∙ ap old (sym named)) at, tt);
    formed = all_formed;
  }

-- ---- runs that only read

pub reads_then : {D : Type 0} (g : Ghosts D) (now_only : (disk : D) (image : Image) → g.left disk (g.moment disk) (g.moment disk) image → IsImage (g.files disk) image) (old mid new : D) → OnlyReads g old mid → OnlyReads g mid new → OnlyReads g old new
reads_then g now_only old mid new first second = record {
  files = λ n. second.files n ∙ first.files n;
  any_moment = quiet_then g.moment g.left g.files now_only old mid new first.any_moment first.files second.any_moment;
}
