use Rattle.std.proofs.Common.{◌≡◌, ℕ, length, take, arith}
use Rattle.std.proofs.lemmas.List.{length-take-le}
use Rattle.std.proofs.lemmas.Slice.Zip.{AllZip-long}
use Rattle.cq_index.specs.Codec.{Entry, IsPresent}
use Rattle.cq_index.specs.Opened.{piece_at}
use Rattle.cq_bulk.proofs.Picked.{zip_more}
use Rattle.cq_bulk.proofs.entries.pick.Goals as goal

pub put-requires : goal.put-requires
put-requires c =
    let l = c.loop-at in
    let xs = c.args.present.now in
    let long : length l.entries.items ≡ length (take l.at-index xs) = AllZip-long (λ k e. IsPresent (piece_at c.args.bytes.now k) e) (take l.at-index xs) l.entries.items l.invariant.0 in
    let taken : length (take l.at-index xs) ≡ l.at-index = length-take-le l.at-index xs l.auto.at-index-end in
    omega (arith, long, taken, l.invariant.1, c.requires.room, c.loop-at-test.true)

pub loop-at-preserved : goal.loop-at-preserved
loop-at-preserved c =
    let l = c.loop-at in (
      rw c.put.ensures.items (zip_more (λ (k : ℕ) (e : Entry). IsPresent (piece_at c.args.bytes.now k) e) c.args.present.now l.entries.items l.at-index 0 c.in-Ok.entry c.loop-at-test.true l.invariant.0 c.in-Ok.ensures.entry),
      omega (arith, l.invariant.1, c.put.ensures.capacity),
    )
