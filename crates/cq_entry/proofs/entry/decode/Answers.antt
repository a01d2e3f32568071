use Rattle.std.proofs.Common.{◌≡◌, ◌<◌, ℕ, length, get_or, Some, ◌∙◌, ap, rules}
use Rattle.std.specs.Prelude.{slice_index}
use Rattle.cq_entry.specs.declared.entry.Seen.TheVariants.{Present}
use Rattle.cq_entry.specs.EntryLemmas.{fields_spell, read_back}
use Rattle.cq_entry.proofs.entry.decode.Goals as goal

pub returns-in-None-clause-seen : goal.returns-in-None-clause-seen
returns-in-None-clause-seen c =
    let bytes = c.args.bytes.now in
    let present : slice_index bytes 0 ≡ 1 = search rules in
    let len : length bytes ≡ 32 = search rules in
    let small : (i : ℕ) → get_or bytes i 0 < 256 = search rules in
    (present, rw c.fields.ensures (fields_spell bytes len small present (c.in-None.ensures present)))

pub returns-in-None-clause-back : goal.returns-in-None-clause-back
returns-in-None-clause-back c = λ e is. ap (λ x. Some (Present x)) (c.fields.ensures ∙ read_back c.args.bytes.now e is)
