-- A file that is replayed.
use Rattle.std.specs.Prelude.{reverse, Option}
use Rattle.std.specs.Option.{option_map}
use Rattle.std.specs.BTreeMap.{BTreeMap, get}
use Rattle.cq_disk.specs.declared.name.Name.{Name}
use Rattle.cq_disk.specs.Names.{name_cmp}
use Rattle.cq_disk.specs.File.{File}
use Rattle.cq_memdisk.specs.declared.stored.Stored.{Stored}

abbrev pub file_of : Stored → File
file_of s = record { reads = s.bytes.items; synced = s.synced.items; written = reverse s.written.items; least = s.least; most = s.most }

-- the files that are replayed
abbrev pub stored_of : BTreeMap Name Stored → Name → Option File
stored_of stored name = option_map file_of (get name_cmp stored name)
