use Rattle.cq_memdisk.specs.Record.{names_are}
use Rattle.cq_memdisk.specs.Change.{files_of}
use Rattle.cq_disk.specs.Files.{NamesAre}
use Rattle.cq_disk.specs.Names.{IsInRange}
use Rattle.cq_disk.specs.NamesLemmas.{all_listed}
use Rattle.cq_memdisk.proofs.disk.MemDiskDisk.list.Goals as goal

pub returns-in-Ok-clause-names : goal.returns-in-Ok-clause-names
returns-in-Ok-clause-names c =
    let d = c.count_call.new.self in
    let now : NamesAre (files_of d.notes.items) c.in-Ok.names.items = names_are d.files (files_of d.notes.items) c.in-Ok.names.items d.kept c.in-Ok.ensures.ordered c.in-Ok.ensures.names in
    rw c.count_call.ensures.files.notes at now

pub returns-in-Ok-clause-in_range : goal.returns-in-Ok-clause-in_range
returns-in-Ok-clause-in_range c =
    let d = c.count_call.new.self in
    let now : NamesAre (files_of d.notes.items) c.in-Ok.names.items = names_are d.files (files_of d.notes.items) c.in-Ok.names.items d.kept c.in-Ok.ensures.ordered c.in-Ok.ensures.names in
    all_listed (files_of d.notes.items) c.in-Ok.names.items IsInRange now d.history.named
