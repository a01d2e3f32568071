-- A shared file that is open, as records join it.
use Rattle.std.proofs.Common.{◌≡◌, inl, inr, ⊎_elim, ℕ, ◌<◌, ◌≤◌, List, [], ◌++◌, map, Option, Some, None, refl, sym, ◌∙◌, subst, arith}
use Rattle.std.proofs.lemmas.Bool.{cases_lt}
use Rattle.std.proofs.Math.Logic.{∥∥₁_map}
use Rattle.cq_disk.specs.declared.name.Name.{Name}
use Rattle.cq_disk.specs.Call.{Image, LeavesOnly}
use Rattle.cq_disk.specs.File.{File, fresh}
use Rattle.cq_disk.specs.Files.{Among, IsThere, IsImage, OnFile}
use Rattle.cq_disk.specs.There.{there_is, there}
use Rattle.cq_disk.specs.Moments.{from_start, weaken}
use Rattle.cq_gate.specs.declared.gate.Gate.{Gate}
use Rattle.cq_gate.specs.Format.{plan, IsGated}
use Rattle.cq_gate.specs.Gated.{KeepsOrAdds, From, Step}
use Rattle.cq_gate.specs.Gate.{IsGate, Extends, kind_of}
use Rattle.cq_gate.proofs.Formats.{bare_plan}
use Rattle.cq_gate.proofs.Gates.{end_is, plan_len_is}
use Rattle.cq_block.specs.declared.layout.Block.{Block}
use Rattle.cq_block.specs.Blocks.{Batch, IsRun, moved_by}
use Rattle.cq_rdq.specs.Records.{records_among, Records, bytes_at, KeepsOrShelves}
use Rattle.cq_rdq.specs.Rdq.{KnowsRecords}
use Rattle.cq_rdq.specs.Calls.{Adds}
use Rattle.cq_rdq.proofs.Chains.{records_plain, same_records, more_listed, more_records, none_of}

-- a gate with no plan has a file with none
pub unplanned : (gate : Gate) (f : File) → IsGate gate f → gate.plan_len ≡ 0 → (plan f.reads).1 ≡ 0
unplanned gate f is none = ⊎_elim
    (λ (long : 128 < gate.len). (λ i. (plan_len_is gate f is long i).1) ∙ none)
    (λ (short : gate.len ≤ 128). λ i. (bare_plan f.reads (omega (arith, short, is.len_is)) i).1)
    (cases_lt 128 gate.len)

pub gated_by : (gate : Gate) (f : File) → kind_of gate ≡ 3 → IsGate gate f → IsGated 3 f.reads
gated_by gate f kind is = subst (λ (k : ℕ). IsGated k f.reads) kind (λ long. (is.open_with (omega (arith, long, is.len_is))).is.formed)

-- ---- a file that is made

pub created : (slot : Option File) (gate : Gate) → slot ≡ Some fresh → IsThere slot (IsGate gate) → IsThere slot (KnowsRecords gate)
created slot gate is knows = there_is slot (KnowsRecords gate) fresh is (record { is = knows.has fresh is; some = ∣ ((none_of [] refl refl).list, (none_of [] refl refl).are) ∣₁ })

-- ---- records join

module _ (old new : Gate) (batch : Batch) (run : IsRun 0 batch.bytes batch.blocks []) (plain : old.plan_len ≡ 0) (plain' : new.plan_len ≡ 0) (kind : kind_of new ≡ 3) where
  listed : (f g : File) → IsGate old f → Extends new batch.bytes f g → (list : List Block) → Records f.reads list → Records g.reads (list ++ moved_by old.end (records_among batch.blocks))
  listed f g is has list are = subst (λ (n : ℕ). Records g.reads (list ++ moved_by n (records_among batch.blocks))) (sym (end_is old f is))
      (more_listed f.reads g.reads batch.bytes batch.blocks list has.content (unplanned old f is plain) (unplanned new g has.is plain') run are)

  adds : (f g : File) → IsGate old f → Extends new batch.bytes f g → Adds old.end batch f g
  adds f g is has = record {
    content = has.content;
    records = listed f g is has;
    shelves = record {
      gated = gated_by new g kind has.is;
      records = λ rs records. more_records f.reads g.reads batch.bytes batch.blocks rs has.content (unplanned old f is plain) (unplanned new g has.is plain') run records;
      all = has.all;
    };
  }

  knows_more : (f g : File) → KnowsRecords old f → Extends new batch.bytes f g → KnowsRecords new g
  knows_more f g knows has = record { is = has.is; some = ∥∥₁_map knows.some (λ s. (s.0 ++ moved_by old.end (records_among batch.blocks), listed f g knows.is has s.0 s.1)) }

  -- a batch that an append wrote
  pub added : (a b : Option File) → Among a (KnowsRecords old) → Step a b (Extends new batch.bytes) → IsThere b (KnowsRecords new) × Step a b (Adds old.end batch)
  added None b none step = absurd none
  added (Some f) None knows none = absurd none
  added (Some f) (Some g) knows has = (there (Some g) (KnowsRecords new) (knows_more f g knows has), adds f g knows.is has)

-- ---- what a crash leaves

among_map : (slot : Option File) (P Q : File → Type 0) → ((f : File) → P f → Q f) → Among slot P → Among slot Q
among_map None P Q step none = none
among_map (Some f) P Q step has = step f has

keeps_or_shelves : (bytes : List ℕ) (blocks : List Block) → IsRun 0 bytes blocks [] → (f : File) (c : List ℕ) → KeepsOrAdds 3 bytes f c → KeepsOrShelves (map (bytes_at 0 bytes) (records_among blocks)) f c
keeps_or_shelves bytes blocks run f c has = record {
  before = has.before;
  image = has.image;
  gated = has.gated;
  records = λ rs records.
      let plain = records_plain has.before records.list records.are in
      ⊎_elim
      (λ same. inl (same_records has.before c rs same has.same_plan records))
      (λ more. inr (more_records has.before c bytes blocks rs more plain ((λ i. (has.same_plan i).1) ∙ plain) run records))
      has.same;
}

module _ {D : Type 0} (moment : D → ℕ) (left : D → ℕ → ℕ → Image → Type 0) (files : D → Name → Option File) (only : (disk : D) (image : Image) → left disk (moment disk) (moment disk) image → IsImage (files disk) image) where
  pub shelves_run : (old new : D) (name : Name) (kind : ℕ) (bytes : List ℕ) (blocks : List Block) → kind ≡ 3 → IsRun 0 bytes blocks [] → LeavesOnly moment left old new (OnFile name (files old) (From (files old name) (KeepsOrAdds kind bytes)))
      → LeavesOnly moment left old new (OnFile name (files old) (From (files old name) (KeepsOrShelves (map (bytes_at 0 bytes) (records_among blocks)))))
  shelves_run old new name kind bytes blocks is run leaves =
      weaken moment left files only old new (OnFile name (files old) (From (files old name) (KeepsOrAdds kind bytes))) (OnFile name (files old) (From (files old name) (KeepsOrShelves (map (bytes_at 0 bytes) (records_among blocks)))))
      (from_start name (files old) (files old) (From (files old name) (KeepsOrAdds kind bytes)) (From (files old name) (KeepsOrShelves (map (bytes_at 0 bytes) (records_among blocks)))) (λ n other. refl)
      (λ c. among_map (files old name) (λ f. KeepsOrAdds kind bytes f c) (λ f. KeepsOrShelves (map (bytes_at 0 bytes) (records_among blocks)) f c) (λ f has. keeps_or_shelves bytes blocks run f c (subst (λ (k : ℕ). KeepsOrAdds k bytes f c) is has)))) leaves
