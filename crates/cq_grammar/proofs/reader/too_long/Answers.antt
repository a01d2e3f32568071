use Rattle.std.proofs.Common.{arith}
use Rattle.std.proofs.lemmas.List.{length-take-le}
use Rattle.cq_grammar.proofs.reader.too_long.Goals as goal

pub overflow_add-result : goal.overflow_add-result
overflow_add-result c = omega (arith, c.line_ends.ensures.few, length-take-le 67108864 c.args.bytes.now c.requires)
