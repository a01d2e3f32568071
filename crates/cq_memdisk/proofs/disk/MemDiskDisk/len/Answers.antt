use Rattle.std.proofs.Common.{◌≡◌, ◌∙◌, Some, arith, rules}
use Rattle.cq_memdisk.specs.Folder.{bytes_of}
use Rattle.cq_memdisk.specs.Record.{short_at, sound_now}
use Rattle.cq_memdisk.proofs.disk.MemDiskDisk.len.Goals as goal

pub returns-in-Some-clause-longest : goal.returns-in-Some-clause-longest
returns-in-Some-clause-longest c =
    let d = c.count_call.new.self in
    let v = c.in-Some.file.now in
    let there : bytes_of d.files c.args.name ≡ Some v.items = search rules in
    let short = short_at d.notes.items c.args.name v.items (sound_now d.notes.items d.history c.args.name) (d.kept c.args.name ∙ there) in
    omega arith
