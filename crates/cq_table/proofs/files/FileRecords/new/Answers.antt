use Rattle.std.proofs.Common.{sym, ap, ◌∙◌}
use Rattle.cq_map.specs.Totals.{total}
use Rattle.cq_table.specs.Records.{whole_len}
use Rattle.cq_table.proofs.ByFile.{total_empty}
use Rattle.cq_table.proofs.files.FileRecords.new.Goals as goal

pub invariant_of-result : goal.invariant_of-result
invariant_of-result c = sym (ap (total whole_len) c.new.ensures ∙ total_empty)
