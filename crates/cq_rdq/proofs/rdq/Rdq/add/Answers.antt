use Rattle.std.proofs.Common.{◌≡◌, ◌∙◌, ap, subst, OnOk, ℕ, List}
use Rattle.cq_disk.specs.declared.name.Name.{Name}
use Rattle.cq_disk.specs.Moments.{on_ok}
use Rattle.cq_disk.specs.There.{there_among, there_step}
use Rattle.cq_gate.specs.Calls.{IsKnown, Touches}
use Rattle.cq_gate.specs.Format.{kind_byte}
use Rattle.cq_gate.specs.Gate.{IsGate, Extends, kind_of}
use Rattle.cq_gate.specs.Gated.{KeepsOrAdds}
use Rattle.cq_rdq.specs.Rdq.{KnowsRecords}
use Rattle.cq_rdq.proofs.Files.{added, shelves_run}
use Rattle.cq_rdq.proofs.rdq.Rdq.add.Goals as goal

pub append-requires-clause-gate : goal.append-requires-clause-gate
append-requires-clause-gate g c told =
    let takes = c.requires.rdq told in
    record { is = there_step _ (KnowsRecords c.args.self.now.gate) (IsGate c.args.self.now.gate) (λ f k. k.is) takes.is; bare = takes.bare }

pub returns-clause-ok : goal.returns-clause-ok
returns-clause-ok g c =
    let d = g.D.Disk in
    let s = c.args.self.now in
    let new = c.append.new.self in
    let batch = c.args.batch.now in
    let same = c.append.ensures.same in
    let kind : kind_of new ≡ 3 = ap (λ (n : Name). kind_byte n.kind) (same.0 ∙ s.gated.named) in
    let ok = subst (λ (l : List ℕ). OnOk c.append.result (d.tells → IsKnown d s.gate new c.args.disk.now c.append.new.disk (Extends new l))) c.bytes.ensures.bytes c.append.ensures.ok in
    on_ok c.append.result (λ known told.
    let both = added s.gate new batch c.bytes.ensures.chain s.gated.plain same.1 kind _ _ (there_among _ (KnowsRecords s.gate) (c.requires.rdq told).is) (known told).step in
    record { is = both.0; step = both.1 }) ok

pub returns-clause-touches : goal.returns-clause-touches
returns-clause-touches g c told =
    let d = g.D.Disk in
    let old = c.args.self.now.gate in
    let kind : kind_of old ≡ 3 = ap (λ (n : Name). kind_byte n.kind) c.args.self.now.gated.named in
    let touches = subst (λ (l : List ℕ). Touches d old.name c.args.disk.now c.append.new.disk (KeepsOrAdds (kind_of old) l)) c.bytes.ensures.bytes (c.append.ensures.touches told) in
    record {
      others = touches.others;
      any_moment = shelves_run d.moment d.left d.files (g.met.D.Disk.now_only told) c.args.disk.now c.append.new.disk old.name (kind_of old) c.args.batch.now.bytes c.args.batch.now.blocks kind c.bytes.ensures.chain touches.any_moment;
    }
