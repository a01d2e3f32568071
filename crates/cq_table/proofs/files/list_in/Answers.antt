use Rattle.std.proofs.Common.{sym, ap, ◌∙◌}
use Rattle.std.proofs.lemmas.List.Sorted.{IsPermutation-refl}
use Rattle.std.specs.FinMap as map
use Rattle.cq_table.proofs.ByFile.{no_records, blocks_of-empty}
use Rattle.cq_table.proofs.files.list_in.Goals as goal

pub returns-in-None-clause-all : goal.returns-in-None-clause-all
returns-in-None-clause-all c = rw (c.new.ensures.items, no_records c.args.files.now c.args.file (ap (map.get c.args.files.now) (sym c.from.ensures) ∙ sym c.in-None.ensures), blocks_of-empty) (IsPermutation-refl _)
