-- The two files of a segment, from call to call.
use Rattle.std.proofs.Common.{◌≡◌, ◌≢◌, ℕ, ◌*◌, ◌≤◌, List, ◌++◌, length, Option, Some, None, refl, ap, ◌∙◌, subst, arith}
use Rattle.std.specs.Prelude.{IsSome}
use Rattle.std.proofs.lemmas.Bool.{false≢true}
use Rattle.cq_disk.specs.declared.name.Name.{Name}
use Rattle.cq_disk.specs.declared.name.Kind.{Kind}
use Rattle.cq_disk.specs.declared.name.Kind.TheVariants.{Index}
use Rattle.cq_disk.specs.File.{File, settled}
use Rattle.cq_disk.specs.Files.{IsThere}
use Rattle.cq_gate.specs.declared.gate.Gate.{Gate}
use Rattle.cq_gate.specs.Format.{content}
use Rattle.cq_gate.specs.Gate.{IsGate}
use Rattle.cq_gate.specs.Opened.{gate_len}
use Rattle.cq_gate.proofs.Gates.{end_is}
use Rattle.cq_gate.specs.Gated.{Step}
use Rattle.cq_small.specs.declared.store.SmallStore.{SmallStore}
use Rattle.cq_small.specs.Store.{small_name, len_of, IsOpen}
use Rattle.cq_small.specs.Calls.{Adds}
use Rattle.cq_index.specs.declared.segment.Segment.{Segment}
use Rattle.cq_index.specs.Codec.{entry_len}
use Rattle.cq_index.specs.Places.{Lists, IsIndexGate, index_name}
use Rattle.cq_index.specs.Segments as index
use Rattle.cq_folder.specs.Held.{IsSettled}
use Rattle.cq_folder.specs.Queue.{IsSmallAt, IsIndexAt, content_in}
use Rattle.cq_queue.specs.Files.{KeepsRecords, HasRecords}

abbrev IsIndex : Kind → Type 0
IsIndex Index = Unit {0}
IsIndex _ = ⊥

-- an index isn't a small store
pub apart : (q n r k : ℕ) → index_name q n ≢ small_name r k
apart q n r k same = subst IsIndex (ap (λ (m : Name). m.kind) same) tt

some_same : {A : Type 0} (a b : A) → Some a ≡ Some b → a ≡ b
some_same a b e = cc

-- where a step says that a file is all on the disk, it is
pub all_settled : (before after : Option File) (P : File → File → Type 0) → ((f g : File) → P f g → g ≡ settled g.reads) → Step before after P → IsSettled after
all_settled None after P all none h is = absurd none
all_settled (Some f) None P all none h is = absurd none
all_settled (Some f) (Some g) P all step h is = subst (λ (k : File). k ≡ settled k.reads) (some_same g h is) (all f g step)

-- a file that is settled and has at most 128 bytes leaves no more of it
pub bare_most : (slot : Option File) (len : ℕ) (P : File → Type 0) → IsSettled slot → ((f : File) → P f → len ≡ length f.reads) → IsThere slot P → len ≤ 128 → IsThere slot (λ f. f.most ≤ 128)
bare_most slot len P all len_is there short = record {
  is_some = there.is_some;
  has = λ f was. let e : f.most ≡ length f.reads = ap (λ (g : File). g.most) (all f was) in omega (arith, e, len_is f (there.has f was), short);
}

-- what stands in a file's content stands in the content of the file that kept it, and what was added stands there
pub kept_in : (before after : Option File) (end : ℕ) (bytes : List ℕ) → Step before after (Adds end bytes) → KeepsRecords (content_in before) (content_in after)
kept_in None after end bytes step place body stands = absurd step
kept_in (Some f) None end bytes step place body stands = absurd step
kept_in (Some f) (Some g) end bytes step place body stands = step.kept place body stands

pub added_in : (before after : Option File) (end : ℕ) (bytes : List ℕ) → Step before after (Adds end bytes) → HasRecords end bytes (content_in after)
added_in None after end bytes step offset body has = absurd step
added_in (Some f) None end bytes step offset body has = absurd step
added_in (Some f) (Some g) end bytes step offset body has = step.added offset body has

-- a segment whose file has at most 128 bytes
pub index_bare : (segment : Segment) (slot : Option File) → IsIndexAt segment slot → index.IsOpen segment → index.len_of segment ≤ 128 → IsThere slot (λ f. f.most ≤ 128)
index_bare segment slot at some short = of_gate segment.gate refl some
  where
    of_gate : (o : Option Gate) → segment.gate ≡ o → IsSome o → IsThere slot (λ f. f.most ≤ 128)
    of_gate None is some = absurd (false≢true some)
    of_gate (Some g) is some =
        bare_most slot g.len (λ f. IsGate g f × ∥ Lists segment.count segment.present.items f.reads ∥₁) at.all (λ f has. has.0.len_is) (at.knows.there g is) (subst (λ (o : Option Gate). gate_len o ≤ 128) is short)

pub small_bare : (store : SmallStore) (slot : Option File) → IsSmallAt store slot → IsOpen store → len_of store ≤ 128 → IsThere slot (λ f. f.most ≤ 128)
small_bare store slot at some short = of_gate store.gate refl some
  where
    of_gate : (o : Option Gate) → store.gate ≡ o → IsSome o → IsThere slot (λ f. f.most ≤ 128)
    of_gate None is some = absurd (false≢true some)
    of_gate (Some g) is some = bare_most slot g.len (IsGate g) at.all (λ f has. has.len_is) (at.knows.there g is) (subst (λ (o : Option Gate). gate_len o ≤ 128) is short)

-- the content of a segment's file is so many entries
pub index_length : (segment : Segment) (slot : Option File) → IsIndexAt segment slot → length (content_in slot) ≡ entry_len * index.count_of segment
index_length segment slot at = of_gate segment.gate refl
  where
    with_gate : (g : Gate) → IsIndexGate (index.name_of segment) segment.count g → (o : Option File) → IsThere o (λ f. IsGate g f × ∥ Lists segment.count segment.present.items f.reads ∥₁) → length (content_in o) ≡ entry_len * index.count_of segment
    with_gate g is None there = absurd (false≢true there.is_some)
    with_gate g is (Some f) there = let e = end_is g f (there.has f refl).0 in let i = is.end_is in omega (arith, e, i)

    of_gate : (o : Option Gate) → segment.gate ≡ o → length (content_in slot) ≡ entry_len * index.count_of segment
    of_gate None is = let none : segment.count ≡ 0 = (segment.vacant is).0 in ap (λ (o : Option File). length (content_in o)) (at.knows.absent is) ∙ (let z : 0 ≡ entry_len * segment.count = omega (arith, none) in z)
    of_gate (Some g) is = with_gate g (segment.gated g is) slot (at.knows.there g is)

-- the content, where a step says it
pub content_step : (before after : Option File) (bytes : List ℕ) → Step before after (λ f g. content g.reads ≡ content f.reads ++ bytes) → content_in after ≡ content_in before ++ bytes
content_step None after bytes none = absurd none
content_step (Some f) None bytes none = absurd none
content_step (Some f) (Some g) bytes step = step
