use Rattle.std.proofs.Common.{◌≡◌, Some, rules}
use Rattle.cq_memdisk.specs.Stored.{stored_of, file_of}
use Rattle.cq_memdisk.proofs.replay.apply.Goals as goal

pub sync-requires : goal.sync-requires
sync-requires c =
    let f = file_of c.in-Some-get_mut-2.file.now in
    let is : stored_of c.args.states.now c.args.name ≡ Some f = search rules in
    c.requires.sound f is c.in-Sync.is
