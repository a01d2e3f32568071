use Rattle.std.proofs.Common.{Option, subst}
use Rattle.cq_disk.specs.File.{File}
use Rattle.cq_disk.specs.Files.{IsThere}
use Rattle.cq_gate.specs.declared.error.GateError.{GateError}
use Rattle.cq_gate.specs.Calls.{IsDamaged}
use Rattle.cq_gate.specs.Gate.{IfDamaged}
use Rattle.cq_small.specs.Calls.{IsOpened}
use Rattle.cq_small.specs.Store.{small_name}
use Rattle.cq_back_q.proofs.Opened.{small_at, small_damaged, small_formed}
use Rattle.cq_back_q.proofs.files.open_small.Goals as goal

pub returns-in-Ok-clause-at : goal.returns-in-Ok-clause-at
returns-in-Ok-clause-at g c = λ told.
    let e = c.in-Ok.ensures in
    let name = small_name c.args.queue c.args.number in
    small_at c.in-Ok.store (g.D.Disk.files c.args.disk.now name) (c.requires.settled told)
    (subst (λ (o : Option File). IsThere o (IsOpened c.in-Ok.store)) ((e.reads told).files name) (e.store told))

pub returns-in-Ok-clause-formed : goal.returns-in-Ok-clause-formed
returns-in-Ok-clause-formed g c = λ told.
    let e = c.in-Ok.ensures in
    let name = small_name c.args.queue c.args.number in
    small_formed c.args.queue c.args.number c.in-Ok.store (g.D.Disk.files c.args.disk.now name) e.name
    (subst (λ (o : Option File). IsThere o (IsOpened c.in-Ok.store)) ((e.reads told).files name) (e.store told))

pub returns-in-Err-Damaged-clause-damaged : goal.returns-in-Err-Damaged-clause-damaged
returns-in-Err-Damaged-clause-damaged g c =
    let name = small_name c.args.queue c.args.number in
    let read = subst (λ (e : GateError). IfDamaged e (IsDamaged g.D.Disk name c.args.disk.now)) c.in-Err-Damaged.field-0-is c.in-Err-Damaged.ensures.damaged in
    small_damaged g.D.Disk.tells c.args.queue c.args.number (g.D.Disk.files c.args.disk.now) c.in-Err-Damaged.place c.in-Err-Damaged.found read.cause read.told
