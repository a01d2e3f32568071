use Rattle.std.proofs.Common.{◌≡◌, ◌*◌, length, sym, subst, rules}
use Rattle.std.specs.List.{AllZip}
use Rattle.std.proofs.lemmas.Slice.Zip.{AllZip-long}
use Rattle.cq_disk.specs.declared.name.Name.{Name}
use Rattle.cq_disk.specs.declared.name.Kind.TheVariants.{Index}
use Rattle.cq_disk.specs.Files.{Reads}
use Rattle.cq_index.specs.Codec.{IsPresent, entry_len}
use Rattle.cq_index.specs.Opened.{piece_at}
use Rattle.cq_index.specs.Segments.{present_of}
use Rattle.cq_index.proofs.Looked.{filled}
use Rattle.cq_bulk.specs.Entries.{IsWrongAmong}
use Rattle.cq_bulk.proofs.Picked.{misread, zip_valid, zip_stands}
use Rattle.cq_bulk.proofs.entries.present_entries.Goals as goal

pub returns-in-Ok-clause-entries : goal.returns-in-Ok-clause-entries
returns-in-Ok-clause-entries g c =
    let files = g.D.Disk.files c.args.disk.now in
    let s = c.args.segment.now in
    let name : s.name ≡ record { kind = Index; queue = c.args.queue; number = c.number.result } = λ i. record { kind = s.index i; queue = c.requires.queue i; number = sym c.number.ensures i } in
    let bytes = c.deref.result.now in
    let entries = c.pick.new.entries.items in
    let same : bytes ≡ c.read_at.new.into = filled _ c.read_at.new.into _ c.in_ok-bytes.bytes.len c.deref.ensures.value (search rules) in
    let len : length bytes ≡ entry_len * s.count = search rules in
    let reads : g.D.Disk.tells → Reads (files (record { kind = Index; queue = c.args.queue; number = c.number.result })) 128 c.read_at.new.into = c.in_ok-read_at.ensures.bytes in
    let zip : AllZip (λ k e. IsPresent (piece_at bytes k) e) (present_of s) entries = rw (← c.present-present.ensures.same) c.in-Ok.ensures.entries in
    record {
      len = AllZip-long (λ k e. IsPresent (piece_at bytes k) e) (present_of s) entries zip;
      valid = zip_valid (piece_at bytes) (present_of s) entries zip;
      stand = λ told. zip_stands (files s.name) bytes s.count (present_of s) entries len (subst (λ (n : Name). Reads (files n) 128 bytes) (sym name) (subst (Reads (files (record { kind = Index; queue = c.args.queue; number = c.number.result })) 128) (sym same) (reads told))) s.below zip;
    }

pub returns-in-Err-clause-damaged : goal.returns-in-Err-clause-damaged
returns-in-Err-clause-damaged g c =
    let files = g.D.Disk.files c.args.disk.now in
    let s = c.args.segment.now in
    let name : s.name ≡ record { kind = Index; queue = c.args.queue; number = c.number.result } = λ i. record { kind = s.index i; queue = c.requires.queue i; number = sym c.number.ensures i } in
    let bytes = c.deref.result.now in
    let same : bytes ≡ c.read_at.new.into = filled _ c.read_at.new.into _ c.in_ok-bytes.bytes.len c.deref.ensures.value (search rules) in
    let len : length bytes ≡ entry_len * s.count = search rules in
    let reads : g.D.Disk.tells → Reads (files (record { kind = Index; queue = c.args.queue; number = c.number.result })) 128 c.read_at.new.into = c.in_ok-read_at.ensures.bytes in
    let wrong : IsWrongAmong bytes (present_of s) c.in-Err.place c.in-Err.found = rw (← c.present-present.ensures.same, c.in-Err.place-is, c.in-Err.found-is) c.in-Err.ensures.wrong in
    misread g.D.Disk.tells (files s.name) s bytes c.in-Err.place c.in-Err.found len (λ told. subst (λ (n : Name). Reads (files n) 128 bytes) (sym name) (subst (Reads (files (record { kind = Index; queue = c.args.queue; number = c.number.result })) 128) (sym same) (reads told))) c.requires.segment wrong
