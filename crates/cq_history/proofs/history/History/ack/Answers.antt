use Rattle.std.proofs.Common.{◌≡◌, ◌<◌, List, length, Some, sym, ap, ◌∙◌, subst}
use Rattle.std.specs.Prelude.{IfSome}
use Rattle.std.proofs.lemmas.List.{get_or_default}
use Rattle.cq_journal.specs.History.{open_deliveries}
use Rattle.cq_client.specs.Client.{ClientValue, queue_of}
use Rattle.cq_history.specs.History.{HistoryValue, account_at, no_client}
use Rattle.cq_history.specs.Steps.{IsOpenFrom}
use Rattle.cq_history.proofs.Lists.{open-below, open-from}
use Rattle.cq_history.proofs.history.History.ack.Goals as goal

pub returns-in-Some-clause-from : goal.returns-in-Some-clause-from
returns-in-Some-clause-from c =
    let clients : List ClientValue = c.self.inside.clients.items in
    let near : c.args.client < length clients = subst (λ (v : HistoryValue). c.args.client < length v.clients) (sym c.self.view_is) c.requires.ready.near in
    let account = c.self.invariant.accounts_are c.args.client near in
    let read : c.index.result.now.account.opens ≡ (account_at clients c.args.client).opens = ap (λ (k : ClientValue). k.account.opens) (c.index.ensures ∙ get_or_default clients c.args.client c.index.result.now no_client near) in
    let is : queue_of c.args.delivery (account_at clients c.args.client).opens ≡ Some c.in-Some.field-0 = sym (sym c.in-Some.is ∙ c.queue_of-queue.ensures ∙ ap (queue_of c.args.delivery) read) in
    let from : IsOpenFrom c.args.client c.args.delivery c.self.inside.journal.entries c.in-Some.field-0 = record {
      below = open-below (account_at clients c.args.client).opens c.args.delivery c.in-Some.field-0 account.below is;
      open_ = open-from (open_deliveries c.self.inside.journal.entries) c.args.client c.args.delivery c.in-Some.field-0 (ap (queue_of c.args.delivery) account.opens_are ∙ is);
    } in
    subst (λ r. IfSome r (IsOpenFrom c.args.client c.args.delivery c.args.self.now.entries)) (sym c.in-Some.is)
    (subst (λ (v : HistoryValue). IsOpenFrom c.args.client c.args.delivery v.entries c.in-Some.field-0) c.self.view_is from)
