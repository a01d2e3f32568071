use Rattle.std.proofs.Common.{sym, ap, ◌∙◌}
use Rattle.cq_map.specs.Totals.{total}
use Rattle.cq_table.specs.Records.{whole_len}
use Rattle.std.specs.FinMap as map
use Rattle.cq_table.proofs.ByFile.{no_records, total_empty}
use Rattle.cq_table.proofs.files.live_in.Goals as goal

pub returns-in-None : goal.returns-in-None
returns-in-None c = sym (ap (total whole_len) (no_records c.args.files.now c.args.file (ap (map.get c.args.files.now) (sym c.from.ensures) ∙ sym c.in-None.ensures)) ∙ total_empty)
