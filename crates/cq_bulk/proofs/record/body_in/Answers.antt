use Rattle.std.proofs.Common.{◌≡◌, ◌-◌, ◌<◌, ℕ, length, take, drop, get_or, sym, ◌∙◌, ap, rules}
use Rattle.cq_small.specs.Record.{small_record}
use Rattle.cq_bulk.specs.Ranges.{IsRecord}
use Rattle.cq_bulk.proofs.Windows.{spelled}
use Rattle.cq_bulk.proofs.record.body_in.Goals as goal

pub returns : goal.returns
returns c =
    let bytes = c.args.bytes.now in
    let small : (i : ℕ) → get_or bytes i 0 < 256 = search rules in
    let is : IsRecord bytes = search rules in
    let body : c.from_vec.result ≡ take (length bytes - 5) (drop 4 bytes) = search rules in
    spelled bytes small c.requires.len.0 is ∙ ap small_record (sym body)
