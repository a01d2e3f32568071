use Rattle.std.proofs.Common.{◌≡◌, ℕ, List, ◌++◌, ◌+◌, ◌∙◌, sym, subst, arith}
use Rattle.cq_disk.specs.declared.name.Name.{Name}
use Rattle.cq_disk.specs.File.{settled}
use Rattle.cq_gate.specs.Format.{content}
use Rattle.cq_gate.specs.Gated.{KeepsOrAdds}
use Rattle.cq_gate.specs.Calls.{Touches, Moves}
use Rattle.cq_folder.proofs.Images.{step_part}
use Rattle.cq_small.specs.Calls.{Adds, TakesMore}
use Rattle.cq_small.specs.Record.{HasRecord}
use Rattle.cq_small.specs.Store.{small_name, end_of, gate_of, StandsAt, IsSmallStore}
use Rattle.cq_node.proofs.Agreeing.{small_steady, small_stands, kept_in, added_in}
use Rattle.cq_node.proofs.Files.{end_low}
use Rattle.cq_node.proofs.queue_files.extend_small.Goals as goal

pub add-requires-clause-store : goal.add-requires-clause-store
add-requires-clause-store g c = λ told. subst (λ (n : Name). TakesMore c.args.small.now (g.D.Disk.files c.args.disk.now n)) (sym c.requires.named) (c.requires.store told)

pub returns-in_err-add-clause-steady : goal.returns-in_err-add-clause-steady
returns-in_err-add-clause-steady g c = λ told.
    let d = g.D.Disk in
    let touches = subst (λ (n : Name). Touches d n c.args.disk.now c.add.new.disk (KeepsOrAdds 2 c.args.records.now)) c.requires.named (c.add.ensures.touches told) in
    small_steady d.moment d.left d.files (g.met.D.Disk.now_only told) (g.met.D.Disk.now_each told) (g.met.D.Disk.reads_left told) c.args.disk.now c.add.new.disk c.args.records.now touches.any_moment

pub returns-in_err-add-clause-others : goal.returns-in_err-add-clause-others
returns-in_err-add-clause-others g c = λ told.
    let touches = subst (λ (n : Name). Touches g.D.Disk n c.args.disk.now c.add.new.disk (KeepsOrAdds 2 c.args.records.now)) c.requires.named (c.add.ensures.touches told) in
    touches.others

pub returns-clause-others : goal.returns-clause-others
returns-clause-others g c = λ told.
    let touches = subst (λ (n : Name). Touches g.D.Disk n c.args.disk.now c.add.new.disk (KeepsOrAdds 2 c.args.records.now)) c.requires.named (c.add.ensures.touches told) in
    touches.others

pub returns-clause-steady : goal.returns-clause-steady
returns-clause-steady g c = λ told.
    let d = g.D.Disk in
    let touches = subst (λ (n : Name). Touches d n c.args.disk.now c.add.new.disk (KeepsOrAdds 2 c.args.records.now)) c.requires.named (c.add.ensures.touches told) in
    small_steady d.moment d.left d.files (g.met.D.Disk.now_only told) (g.met.D.Disk.now_each told) (g.met.D.Disk.reads_left told) c.args.disk.now c.add.new.disk c.args.records.now touches.any_moment

pub returns-clause-stands : goal.returns-clause-stands
returns-clause-stands g c = λ told.
    let d = g.D.Disk in
    let records = c.args.records.now in
    let touches = subst (λ (n : Name). Touches d n c.args.disk.now c.add.new.disk (KeepsOrAdds 2 records)) c.requires.named (c.add.ensures.touches told) in
    let step = subst (λ (n : Name). Moves d n c.args.disk.now c.add.new.disk (Adds (end_of c.args.small.now) records)) c.requires.named (c.in_ok-add.ensures.ok told).step in
    small_stands d.moment d.left d.files (g.met.D.Disk.now_only told) (g.met.D.Disk.now_each told) (g.met.D.Disk.reads_left told) c.args.disk.now c.add.new.disk records touches.any_moment
    (step_part _ _ (Adds (end_of c.args.small.now) records) (λ f k. content k.reads ≡ content f.reads ++ records) (λ f k x. x.content) step)
    (step_part _ _ (Adds (end_of c.args.small.now) records) (λ f k. k ≡ settled k.reads) (λ f k x. x.all) step) touches.others

pub returns-clause-kept : goal.returns-clause-kept
returns-clause-kept g c = λ told.
    let d = g.D.Disk in
    let records = c.args.records.now in
    let step = subst (λ (n : Name). Moves d n c.args.disk.now c.add.new.disk (Adds (end_of c.args.small.now) records)) c.requires.named (c.in_ok-add.ensures.ok told).step in
    kept_in (d.files c.args.disk.now (small_name 0 0)) (d.files c.add.new.disk (small_name 0 0))
    (step_part _ _ (Adds (end_of c.args.small.now) records) (λ f k. (at : ℕ) (body : List ℕ) → StandsAt f.reads at body → StandsAt k.reads at body) (λ f k x. x.kept) step)

pub returns-clause-added : goal.returns-clause-added
returns-clause-added g c = λ told.
    let d = g.D.Disk in
    let records = c.args.records.now in
    let end = end_of c.args.small.now in
    let step = subst (λ (n : Name). Moves d n c.args.disk.now c.add.new.disk (Adds end records)) c.requires.named (c.in_ok-add.ensures.ok told).step in
    added_in (d.files c.args.disk.now (small_name 0 0)) (d.files c.add.new.disk (small_name 0 0)) end records
    (step_part _ _ (Adds end records) (λ f k. (offset : ℕ) (body : List ℕ) → HasRecord records offset body → StandsAt k.reads (end + offset) body) (λ f k x. x.added) step)

pub returns-clause-file : goal.returns-clause-file
returns-clause-file g c =
    let d = g.D.Disk in
    let grows = c.in_ok-add.ensures.shown.1 in
    let end = end_low (gate_of c.args.small.now) in
    record {
      named = c.add.ensures.name ∙ c.requires.named;
      knows = λ told. subst (λ (n : Name). IsSmallStore c.add.new.self (d.files c.add.new.disk n)) c.requires.named (c.in_ok-add.ensures.ok told).is;
      bare = λ told there short. absurd (omega (arith, grows.len, grows.end, end, c.requires.some, short));
    }
