use Rattle.std.proofs.Common.{◌≡◌, inl, inr, Option, Err, refl, subst, ◌∙◌, rules}
use Rattle.std.specs.Prelude.{slice_index}
use Rattle.cq_disk.specs.declared.name.Name.{Name}
use Rattle.cq_disk.specs.File.{File}
use Rattle.cq_disk.specs.Files.{Among, IsThere}
use Rattle.cq_disk.specs.Moments.{quiet_then}
use Rattle.cq_disk.specs.RunLemmas.{ran_next}
use Rattle.cq_gate.specs.Calls.{IsDamaged as gate_is_damaged, IsOpened as gate_opened}
use Rattle.cq_gate.specs.Gate.{IfDamaged as if_gate_damaged}
use Rattle.cq_rdq.specs.Calls.{IsDamaged}
use Rattle.cq_rdq.specs.Errors.{of_gate}
use Rattle.cq_rdq.specs.Forms.{BreaksChain, BreaksShared}
use Rattle.cq_rdq.specs.Records.{shared_name, Records}
use Rattle.cq_rdq.proofs.Listing.{damaged_to, gate_damaged_to}
use Rattle.cq_rdq.proofs.Opening.{gate_shows, header_shared, chain_shared, planned_long, broken_long, is_opened}
use Rattle.cq_rdq.proofs.rdq.Rdq.open.Goals as goal

pub returns-in_err-gate-clause-damaged : goal.returns-in_err-gate-clause-damaged
returns-in_err-gate-clause-damaged g c =
    let d = g.D.Disk in
    let name = shared_name c.args.number in
    let error = c.in_err-gate.field-0.0 in
    let is : c.from_residual.result ≡ Err (of_gate error) = search rules in
    let told = subst (λ (n : Name). if_gate_damaged error (gate_is_damaged d n c.args.disk.now)) c.name.ensures c.in_err-gate.ensures.damaged in
    rw is (gate_damaged_to error _ (IsDamaged d name c.args.disk.now) (λ place byte broken. record {
      cause = inl broken.cause;
      told = λ told. header_shared (d.files c.args.disk.now name) place byte (broken.told told);
    }) told)

pub plan_byte-requires-clause-shows : goal.plan_byte-requires-clause-shows
plan_byte-requires-clause-shows g c told =
    let e = c.in_ok-gate.ensures in
    gate_shows (g.D.Disk.files c.open.new.disk) c.in_ok-gate.gate c.name.result e.named.0 (e.gate told)

pub records-requires-clause-shows : goal.records-requires-clause-shows
records-requires-clause-shows g c told =
    let e = c.in_ok-gate.ensures in
    gate_shows (g.D.Disk.files c.open.new.disk) c.in_ok-gate.gate c.name.result e.named.0 (e.gate told)

pub returns-in_err-place-clause-reads : goal.returns-in_err-place-clause-reads
returns-in_err-place-clause-reads g c told =
    let d = g.D.Disk in
    let first = c.in_ok-gate.ensures.reads told in
    let second = c.plan_byte.ensures.reads told in
    record {
      files = λ n. second.files n ∙ first.files n;
      any_moment = quiet_then d.moment d.left d.files (g.met.D.Disk.now_only told) c.args.disk.now c.open.new.disk c.plan_byte.new.disk first.any_moment first.files second.any_moment;
    }

pub returns-in_err-place-clause-ran : goal.returns-in_err-place-clause-ran
returns-in_err-place-clause-ran g c =
    let d = g.D.Disk in
    ran_next d c.args.disk.now c.open.new.disk c.plan_byte.new.disk _ _ _ (λ fault. refl) c.in_ok-gate.ensures.ran c.in_err-place.ensures.ran

pub returns-then-plan_len-ne0-clause-damaged : goal.returns-then-plan_len-ne0-clause-damaged
returns-then-plan_len-ne0-clause-damaged g c =
    let files = g.D.Disk.files in
    let name = shared_name c.args.number in
    let gate = c.in_ok-gate.gate in
    let e = c.in_ok-gate.ensures in
    let s = c.in_ok-place in
    let planned : gate.plan_len ≡ 0 → ⊥ = search rules in
    record {
      cause = inr (inl (record { gate = gate; read = e.read (planned_long gate planned); planned = planned; place_is = s.ensures.place }));
      told = λ told.
          subst (λ (o : Option File). Among o (λ f. BreaksShared f.reads s.place × (s.found ≡ slice_index f.reads s.place))) ((e.reads told).files name)
          (subst (λ (n : Name). Among (files c.open.new.disk n) (λ f. BreaksShared f.reads s.place × (s.found ≡ slice_index f.reads s.place))) (e.named.0 ∙ c.name.ensures) (s.ensures.breaks told));
    }

pub returns-then-plan_len-ne0-clause-reads : goal.returns-then-plan_len-ne0-clause-reads
returns-then-plan_len-ne0-clause-reads g c told =
    let d = g.D.Disk in
    let first = c.in_ok-gate.ensures.reads told in
    let second = c.plan_byte.ensures.reads told in
    record {
      files = λ n. second.files n ∙ first.files n;
      any_moment = quiet_then d.moment d.left d.files (g.met.D.Disk.now_only told) c.args.disk.now c.open.new.disk c.plan_byte.new.disk first.any_moment first.files second.any_moment;
    }

pub returns-in_err-records-clause-damaged : goal.returns-in_err-records-clause-damaged
returns-in_err-records-clause-damaged g c =
    let d = g.D.Disk in
    let name = shared_name c.args.number in
    let gate = c.in_ok-gate.gate in
    let e = c.in_ok-gate.ensures in
    let is : c.from_residual-in_err-records.result ≡ Err c.in_err-records.field-0.0 = search rules in
    rw is (damaged_to c.in_err-records.field-0.0 _ (IsDamaged d name c.args.disk.now) (λ place byte broken. record {
      cause = inr (inr (record { gate = gate; read = e.read (broken_long gate place byte broken.cause); plain = search rules; broken = broken.cause }));
      told = λ told. chain_shared (d.files c.args.disk.now name) place byte
          (subst (λ (o : Option File). Among o (λ f. BreaksChain f.reads place × (byte ≡ slice_index f.reads place))) ((e.reads told).files name)
          (subst (λ (n : Name). Among (d.files c.open.new.disk n) (λ f. BreaksChain f.reads place × (byte ≡ slice_index f.reads place))) (e.named.0 ∙ c.name.ensures) (broken.told told)));
    }) c.in_err-records.ensures.damaged)

pub returns-clause-rdq : goal.returns-clause-rdq
returns-clause-rdq g c told =
    let files = g.D.Disk.files in
    let name = shared_name c.args.number in
    let gate = c.in_ok-gate.gate in
    let e = c.in_ok-gate.ensures in
    let list = c.in_ok-records.field-0.items in
    let same = (e.reads told).files name in
    let opened : IsThere (files c.args.disk.now name) (gate_opened gate) =
    subst (λ (o : Option File). IsThere o (gate_opened gate)) same (subst (λ (n : Name). IsThere (files c.open.new.disk n) (gate_opened gate)) c.name.ensures (e.gate told)) in
    let records : Among (files c.args.disk.now name) (λ f. Records f.reads list) =
    subst (λ (o : Option File). Among o (λ f. Records f.reads list)) same (subst (λ (n : Name). Among (files c.open.new.disk n) (λ f. Records f.reads list)) (e.named.0 ∙ c.name.ensures) (c.in_ok-records.ensures.records told)) in
    is_opened _ gate (files c.args.disk.now name) list c.in_ok-records.ensures.same opened records
