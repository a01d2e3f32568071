use Rattle.std.proofs.Common.{rules, ◌≡◌, ◌-◌, length, subst, sym}
use Rattle.cq_disk.specs.Files.{Reads}
use Rattle.cq_rdq.proofs.Listing.{err_to, filled, is_broken, shows_read}
use Rattle.cq_rdq.proofs.list.records.Goals as goal

pub returns-clause-damaged : goal.returns-clause-damaged
returns-clause-damaged g c =
    let d = g.D.Disk in
    let gate = c.args.gate.now in
    let slot = d.files c.args.disk.now gate.name in
    let bytes = c.deref.result.now in
    let same : bytes ≡ c.read.new.into = filled _ c.read.new.into _ c.in_ok-bytes.bytes.len c.deref.ensures.value (search rules) in
    let len : length bytes ≡ gate.end - 128 = search rules in
    err_to c.listed.result _ _ (is_broken d c.args.disk.now gate bytes len c.requires.plain
    (λ told. shows_read slot gate bytes len (subst (Reads slot 128) (sym same) (c.in_ok-read.ensures.bytes told)) (c.requires.shows told))) c.listed.ensures.broken
