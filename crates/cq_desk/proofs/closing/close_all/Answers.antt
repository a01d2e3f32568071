use Rattle.std.proofs.Common.{◌+◌, List, ◌∷◌, drop, get_or, refl, ◌∙◌, subst, arith}
use Rattle.std.proofs.lemmas.Bool.{or_left, eq-eqb}
use Rattle.std.proofs.lemmas.List.{drop_more}
use Rattle.cq_client.specs.declared.open.OpenDelivery.{OpenDelivery}
use Rattle.cq_desk.specs.Desk.{AreOnce, HasWords, numbers_of}
use Rattle.cq_desk.proofs.Words.{from_contains, words-first, once-drop}
use Rattle.cq_desk.proofs.closing.close_all.Goals as goal

pub close_word-requires-clause-opened : goal.close_word-requires-clause-opened
close_word-requires-clause-opened g c =
    let o : OpenDelivery = get_or c.args.opens.now c.loop-open.open-index (record { delivery = 0; queue = 0 }) in
    let here : HasWords (g.F.Flags.opened c.loop-open.flags c.args.client) (o ∷ drop (c.loop-open.open-index + 1) c.args.opens.now) = subst (HasWords (g.F.Flags.opened c.loop-open.flags c.args.client)) (drop_more c.args.opens.now c.loop-open.open-index (record { delivery = 0; queue = 0 }) (omega arith)) c.loop-open.invariant.0 in
    from_contains (g.F.Flags.opened c.loop-open.flags c.args.client) o.delivery (here.each o.delivery ∙ or_left _ _ (eq-eqb o.delivery o.delivery refl))

pub loop-open-preserved : goal.loop-open-preserved
loop-open-preserved g c =
    let o : OpenDelivery = get_or c.args.opens.now c.loop-open.open-index (record { delivery = 0; queue = 0 }) in
    let here : HasWords (g.F.Flags.opened c.loop-open.flags c.args.client) (o ∷ drop (c.loop-open.open-index + 1) c.args.opens.now) = subst (HasWords (g.F.Flags.opened c.loop-open.flags c.args.client)) (drop_more c.args.opens.now c.loop-open.open-index (record { delivery = 0; queue = 0 }) (omega arith)) c.loop-open.invariant.0 in
    let once : AreOnce (numbers_of (o ∷ drop (c.loop-open.open-index + 1) c.args.opens.now)) = subst (λ (os : List OpenDelivery). AreOnce (numbers_of os)) (drop_more c.args.opens.now c.loop-open.open-index (record { delivery = 0; queue = 0 }) (omega arith)) (once-drop c.args.opens.now c.loop-open.open-index c.requires.once) in (
      words-first (g.F.Flags.opened c.loop-open.flags c.args.client) (g.F.Flags.opened c.close_word.new.self c.args.client) o (drop (c.loop-open.open-index + 1) c.args.opens.now) here once c.close_word.ensures.opened,
      λ k other. c.close_word.ensures.other_opened k other ∙ c.loop-open.invariant.1 k other,
      c.close_word.ensures.clients ∙ c.loop-open.invariant.2,
    )
