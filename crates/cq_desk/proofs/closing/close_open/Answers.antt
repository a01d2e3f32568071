use Rattle.std.proofs.Common.{sym, ◌∙◌, subst}
use Rattle.cq_desk.specs.Desk.{HasWords}
use Rattle.cq_desk.proofs.Words.{from_contains, words-leave, without-absent}
use Rattle.cq_desk.proofs.closing.close_open.Goals as goal

pub close_word-requires-clause-opened : goal.close_word-requires-clause-opened
close_word-requires-clause-opened g c = from_contains (g.F.Flags.opened c.args.flags.now c.args.client) c.args.delivery (c.requires.words.each c.args.delivery ∙ sym c.is_open.ensures ∙ c.if-is_open.true)

pub returns-then-is_open-clause-words : goal.returns-then-is_open-clause-words
returns-then-is_open-clause-words g c =
    words-leave (g.F.Flags.opened c.args.flags.now c.args.client) (g.F.Flags.opened c.close_word.new.self c.args.client) c.args.opens.now c.args.delivery c.requires.words c.requires.once (sym c.is_open.ensures ∙ c.if-is_open.true) c.close_word.ensures.opened

pub returns-else-is_open-clause-words : goal.returns-else-is_open-clause-words
returns-else-is_open-clause-words g c = subst (HasWords (g.F.Flags.opened c.args.flags.now c.args.client)) (sym (without-absent c.args.opens.now c.args.delivery (sym c.is_open.ensures ∙ c.if-is_open.false))) c.requires.words
