use Rattle.cq_script.proofs.Limits.{read-keeps}
use Rattle.cq_script.proofs.Spelled.{reads-back}
use Rattle.cq_script.proofs.reader.read_script.Goals as goal

pub returns-clause-limits : goal.returns-clause-limits
returns-clause-limits c = read-keeps c.script_from.result c.args.bytes.now c.script_from.ensures

pub returns-clause-spelled : goal.returns-clause-spelled
returns-clause-spelled c = λ requests steps spellable same. reads-back c.script_from.result c.args.bytes.now requests steps c.script_from.ensures spellable same
