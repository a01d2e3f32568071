use Rattle.std.proofs.Common.{Some, ◌∙◌, rules, subst}
use Rattle.cq_disk.specs.declared.name.Name.{Name}
use Rattle.cq_disk.specs.File.{fresh}
use Rattle.cq_disk.specs.Files.{Becomes}
use Rattle.cq_disk.specs.Moments.{on_ok}
use Rattle.cq_gate.specs.Calls.{Makes}
use Rattle.cq_small.specs.Store.{small_name, IsVacant}
use Rattle.cq_node.proofs.Agreeing.{made_steady, made_stands}
use Rattle.cq_node.proofs.queue_files.add_records.Goals as goal

pub returns-in_err-make-clause-steady : goal.returns-in_err-make-clause-steady
returns-in_err-make-clause-steady g c = λ told.
    let d = g.D.Disk in
    let vacant : IsVacant c.args.small.now = search rules in
    let makes = subst (λ (n : Name). Makes d n c.args.disk.now c.make.new.disk) c.requires.file.named (c.make.ensures.makes told) in
    made_steady d.moment d.left d.files (g.met.D.Disk.now_only told) (g.met.D.Disk.now_each told) (g.met.D.Disk.reads_left told) c.args.disk.now c.make.new.disk (small_name 0 0) ((c.requires.file.knows told).absent vacant) makes.any_moment

pub returns-clause-steady : goal.returns-clause-steady
returns-clause-steady g c = λ told past lines stands steady.
    let d = g.D.Disk in
    let vacant : IsVacant c.args.small.now = search rules in
    let absent = (c.requires.file.knows told).absent vacant in
    let makes = subst (λ (n : Name). Makes d n c.args.disk.now c.make.new.disk) c.requires.file.named (c.make.ensures.makes told) in
    let becomes = subst (λ (n : Name). Becomes n (Some fresh) (d.files c.args.disk.now) (d.files c.make.new.disk)) (c.make.ensures.name ∙ c.requires.file.named) (c.in_ok-make.ensures.ok told).becomes in
    c.extend_small-2.ensures.steady told past lines (made_stands (d.files c.args.disk.now) (d.files c.make.new.disk) (small_name 0 0) absent becomes past lines stands)
    (made_steady d.moment d.left d.files (g.met.D.Disk.now_only told) (g.met.D.Disk.now_each told) (g.met.D.Disk.reads_left told) c.args.disk.now c.make.new.disk (small_name 0 0) absent makes.any_moment past lines stands steady)

pub returns-clause-stands : goal.returns-clause-stands
returns-clause-stands g c = on_ok c.extend_small-2.result
    (λ stays told past lines stands.
    let d = g.D.Disk in
    let vacant : IsVacant c.args.small.now = search rules in
    let absent = (c.requires.file.knows told).absent vacant in
    let becomes = subst (λ (n : Name). Becomes n (Some fresh) (d.files c.args.disk.now) (d.files c.make.new.disk)) (c.make.ensures.name ∙ c.requires.file.named) (c.in_ok-make.ensures.ok told).becomes in
    stays told past lines (made_stands (d.files c.args.disk.now) (d.files c.make.new.disk) (small_name 0 0) absent becomes past lines stands))
    c.extend_small-2.ensures.stands
