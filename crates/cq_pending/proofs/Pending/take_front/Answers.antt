use Rattle.std.proofs.Common.{ap, ◌∙◌, drop}
use Rattle.std.proofs.lemmas.List.{drop-drop}
use Rattle.cq_pending.proofs.Pending.take_front.Goals as goal

pub loop-preserved : goal.loop-preserved
loop-preserved c = c.take_first.ensures ∙ ap (drop 1) c.loop.invariant ∙ drop-drop 1 c.loop.counter c.args.self.now
