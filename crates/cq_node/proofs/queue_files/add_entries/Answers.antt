use Rattle.std.proofs.Common.{rules, ◌+◌, ◌∙◌, length, Some, subst}
use Rattle.cq_disk.specs.declared.name.Name.{Name}
use Rattle.cq_disk.specs.File.{fresh}
use Rattle.cq_disk.specs.Files.{Becomes}
use Rattle.cq_disk.specs.Moments.{on_ok}
use Rattle.cq_gate.specs.Calls.{Makes}
use Rattle.cq_index.specs.Places.{index_name}
use Rattle.cq_index.specs.Segments.{IsVacant}
use Rattle.cq_node.proofs.Agreeing.{made_steady, made_stands, come_made}
use Rattle.cq_node.proofs.Few.{few_made}
use Rattle.cq_node.proofs.queue_files.add_entries.Goals as goal

pub returns-in_err-create-clause-steady : goal.returns-in_err-create-clause-steady
returns-in_err-create-clause-steady g c = λ told past lines ms legal stands will steady.
    let d = g.D.Disk in
    let makes = subst (λ (n : Name). Makes d n c.args.disk.now c.create.new.disk) c.requires.file.named (c.create.ensures.makes told) in
    let vacant : IsVacant c.args.index.now = search rules in
    made_steady d.moment d.left d.files (g.met.D.Disk.now_only told) (g.met.D.Disk.now_each told) (g.met.D.Disk.reads_left told) c.args.disk.now c.create.new.disk (index_name 0 0) ((c.requires.file.knows told).absent vacant)
    makes.any_moment past lines stands steady

pub returns-clause-steady : goal.returns-clause-steady
returns-clause-steady g c = λ told past lines ms legal stands will steady.
    let d = g.D.Disk in
    let makes = subst (λ (n : Name). Makes d n c.args.disk.now c.create.new.disk) c.requires.file.named (c.create.ensures.makes told) in
    let vacant : IsVacant c.args.index.now = search rules in
    let absent = (c.requires.file.knows told).absent vacant in
    let made = subst (λ (n : Name). Becomes n (Some fresh) (d.files c.args.disk.now) (d.files c.create.new.disk)) (c.create.ensures.same.name ∙ c.requires.file.named) (c.in_ok-create.ensures.ok told).becomes in
    c.extend_index-2.ensures.steady told past lines ms legal (made_stands (d.files c.args.disk.now) (d.files c.create.new.disk) (index_name 0 0) absent made past lines stands)
    (come_made (d.files c.args.disk.now) (d.files c.create.new.disk) (index_name 0 0) past lines c.args.entries.now ms absent made will)
    (made_steady d.moment d.left d.files (g.met.D.Disk.now_only told) (g.met.D.Disk.now_each told) (g.met.D.Disk.reads_left told) c.args.disk.now c.create.new.disk (index_name 0 0) absent
    makes.any_moment past lines stands steady)

pub returns-clause-stands : goal.returns-clause-stands
returns-clause-stands g c = on_ok c.extend_index-2.result
    (λ joins told past lines ms legal will stands.
    let d = g.D.Disk in
    let vacant : IsVacant c.args.index.now = search rules in
    let absent = (c.requires.file.knows told).absent vacant in
    let made = subst (λ (n : Name). Becomes n (Some fresh) (d.files c.args.disk.now) (d.files c.create.new.disk)) (c.create.ensures.same.name ∙ c.requires.file.named) (c.in_ok-create.ensures.ok told).becomes in
    joins told past lines ms legal (come_made (d.files c.args.disk.now) (d.files c.create.new.disk) (index_name 0 0) past lines c.args.entries.now ms absent made will)
    (made_stands (d.files c.args.disk.now) (d.files c.create.new.disk) (index_name 0 0) absent made past lines stands))
    c.extend_index-2.ensures.stands

pub returns-in_err-create-clause-more : goal.returns-in_err-create-clause-more
returns-in_err-create-clause-more g c = λ told n few.
    let d = g.D.Disk in
    let makes = subst (λ (n : Name). Makes d n c.args.disk.now c.create.new.disk) c.requires.file.named (c.create.ensures.makes told) in
    few_made d.moment d.left d.files (g.met.D.Disk.now_each told) (g.met.D.Disk.reads_left told) c.args.disk.now c.create.new.disk (index_name 0 0) (n + length c.args.entries.now)
    makes.any_moment

pub returns-clause-more : goal.returns-clause-more
returns-clause-more g c = λ told n few.
    let d = g.D.Disk in
    let makes = subst (λ (n : Name). Makes d n c.args.disk.now c.create.new.disk) c.requires.file.named (c.create.ensures.makes told) in
    c.extend_index-2.ensures.more told n
    (few_made d.moment d.left d.files (g.met.D.Disk.now_each told) (g.met.D.Disk.reads_left told) c.args.disk.now c.create.new.disk (index_name 0 0) n
    makes.any_moment)
