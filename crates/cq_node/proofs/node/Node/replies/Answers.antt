use Rattle.std.proofs.Common.{◌≡◌, ℕ, map, sym, ap, ◌∙◌, subst, arith}
use Rattle.cq_journal.specs.Asks.{replies}
use Rattle.cq_core.specs.Answers.{bodiless}
use Rattle.cq_node.proofs.node.Node.replies.Goals as goal

pub returns-clause-same : goal.returns-clause-same
returns-clause-same g c =
    let zero : 0 ≡ c.args.client = omega (arith, c.requires, c.args.self.now.one_client) in
    subst (λ (client : ℕ). map bodiless c.replies.result.now ≡ map bodiless (replies c.args.self.now.core.entries client)) zero c.replies.ensures.same

pub returns-clause-whole : goal.returns-clause-whole
returns-clause-whole g c = λ told.
    let zero : 0 ≡ c.args.client = omega (arith, c.requires, c.args.self.now.one_client) in
    c.replies.ensures.told ∙ sym (c.args.self.now.whole told) ∙ ap (replies c.args.self.now.core.entries) zero
