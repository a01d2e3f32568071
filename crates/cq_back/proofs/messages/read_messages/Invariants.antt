use Rattle.std.proofs.Common.{◌≡◌}
use Rattle.cq_disk.specs.Files.{IsImage, SameFiles}
use Rattle.cq_disk.specs.Run.{Ran, LeavesOnly}
use Rattle.cq_small.specs.Store.{len_of as store_len}
use Rattle.cq_folder.specs.Held.{as_read, contents_of}
use Rattle.cq_back.specs.Folder.{index_file, file_bytes}
use Rattle.cq_back.specs.Read.{AreIdsOf, AreTaken, AreWithin, IsRead}
use Rattle.cq_back.proofs.messages.read_messages.Given as goal

abbrev pub invariant-loop-at : goal.invariant-loop-at
invariant-loop-at g l =
    let d = g.D.Disk in
    let start = l.fn.disk in
    let now = l.disk in
    record {
      ids : AreIdsOf l.taken.ids l.taken.held.items;
      taken : AreTaken l.at l.taken.held.items l.taken.lines;
      within : AreWithin (store_len l.fn.small) l.taken.held.items;
      read : d.tells → IsRead (contents_of (as_read (d.files start))) (file_bytes (d.files start index_file)) l.at l.taken.held.items l.taken.lines;
      segment : l.segment ≡ l.fn.segment;
      small : l.small ≡ l.fn.small;
      files : d.tells → SameFiles (d.files start) (d.files now);
      run : d.tells → LeavesOnly d start now (IsImage (d.files start));
      ran : Ran d start now ⊥;
    }
