use Rattle.std.proofs.Common.{◌<◌, length, length-set, sym, subst}
use Rattle.cq_history.specs.History.{HistoryValue}
use Rattle.cq_history.proofs.Lists.{changed-same}
use Rattle.cq_history.proofs.Steps.{kept_at, kept_same}
use Rattle.cq_history.proofs.history.History.reserve.Goals as goal

pub invariant_of-self-in_err-reserve-2 : goal.invariant_of-self-in_err-reserve-2
invariant_of-self-in_err-reserve-2 c =
    let near : c.args.client < length c.self.inside.clients.items = subst (λ (v : HistoryValue). c.args.client < length v.clients) (sym c.self.view_is) c.requires.client in
    kept_at c.reserve.ensures.entries (kept_same (length-set c.self.inside.clients.items c.args.client c.reserve-2.new.self)
    (changed-same c.self.inside.clients.items c.args.client c.index_mut.result.now c.reserve-2.new.self near c.index_mut.ensures.value c.reserve-2.ensures.account) c.self.invariant)

pub invariant_of-self-2 : goal.invariant_of-self-2
invariant_of-self-2 c =
    let near : c.args.client < length c.self.inside.clients.items = subst (λ (v : HistoryValue). c.args.client < length v.clients) (sym c.self.view_is) c.requires.client in
    kept_at c.reserve.ensures.entries (kept_same (length-set c.self.inside.clients.items c.args.client c.reserve-2.new.self)
    (changed-same c.self.inside.clients.items c.args.client c.index_mut.result.now c.reserve-2.new.self near c.index_mut.ensures.value c.reserve-2.ensures.account) c.self.invariant)
