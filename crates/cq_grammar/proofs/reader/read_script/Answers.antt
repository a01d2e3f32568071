use Rattle.cq_grammar.proofs.Limits.{read-keeps}
use Rattle.cq_grammar.proofs.Back.{reads-back}
use Rattle.cq_grammar.proofs.reader.read_script.Goals as goal

pub returns-clause-limits : goal.returns-clause-limits
returns-clause-limits c = read-keeps c.script_from.result c.args.bytes.now c.script_from.ensures

pub returns-clause-spelled : goal.returns-clause-spelled
returns-clause-spelled c = λ spelled i e. reads-back c.script_from.result c.args.bytes.now spelled c.script_from.ensures i e
