use Rattle.cq_grammar.proofs.Ranges.{script-in-range}
use Rattle.cq_grammar.proofs.reader.script_from.Goals as goal

pub finished-requires : goal.finished-requires
finished-requires c = script-in-range c.args.bytes.now c.in_ok-reading.reading c.in_ok-reading.ensures
