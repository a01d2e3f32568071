use Rattle.std.proofs.Common.{◌≡◌, ◌<◌, ◌≤◌, length, length-set, sym, ap, ◌∙◌, subst, refl, ℕ, List}
use Rattle.cq_journal.specs.History.{waiting}
use Rattle.cq_journal.specs.Legal.{newest, IsFirst, Legal}
use Rattle.cq_journal.specs.declared.event.Event.TheVariants as event
use Rattle.cq_history.specs.Accounts.{after_delivery}
use Rattle.cq_history.specs.History.{HistoryValue, account_at}
use Rattle.cq_history.specs.Steps.{noted, MayGet, IsFirstMessage}
use Rattle.cq_history.proofs.Lists.{changed, number_is}
use Rattle.cq_history.proofs.Steps.{kept-delivered, legal-delivered, kept_at}
use Rattle.cq_client.specs.Client.{Account, ClientValue}
use Rattle.std.proofs.lemmas.List.{get_or_default}
use Rattle.cq_history.proofs.Steps.{first-body}
use Rattle.cq_history.proofs.Whole.{whole-step}
use Rattle.cq_journal.specs.declared.reply.Reply.TheVariants as reply
use Rattle.cq_journal.specs.Asks.{body_of}
use Rattle.cq_journal.specs.History.{line}
use Rattle.cq_history.proofs.history.History.deliver.Goals as goal

pub invariant_of-self : goal.invariant_of-self
invariant_of-self c =
    let near : c.args.client < length c.self.inside.clients.items = subst (λ (v : HistoryValue). c.args.client < length v.clients) (sym c.self.view_is) c.requires.ready.near in
    let later : newest c.self.inside.journal.entries ≤ c.args.stamp = subst (λ (v : HistoryValue). newest v.entries ≤ c.args.stamp) (sym c.self.view_is) c.requires.ready.later in
    let may : MayGet c.args.client c.self.inside.journal.entries = subst (λ (v : HistoryValue). MayGet c.args.client v.entries) (sym c.self.view_is) c.requires.may in
    let first : IsFirst c.args.id (waiting c.self.inside.journal.entries c.args.queue) = subst (λ (v : HistoryValue). IsFirst c.args.id (waiting v.entries c.args.queue)) (sym c.self.view_is) c.requires.first in
    let number : c.delivered-delivery.result ≡ (account_at c.self.inside.clients.items c.args.client).delivered = number_is c.self.inside.clients.items c.args.client c.index.result.now near c.index.ensures c.delivered-delivery.ensures in
    let is : c.push.new.self.entries ≡ noted (event.Delivered c.args.client (account_at c.self.inside.clients.items c.args.client).delivered c.args.queue c.args.id) c.args.stamp c.self.inside.journal.entries =
    c.push.ensures.entries ∙ ap (λ d. noted (event.Delivered c.args.client d c.args.queue c.args.id) c.args.stamp c.self.inside.journal.entries) number in
    kept_at is (kept-delivered c.args.client c.args.queue c.args.id c.args.stamp c.args.body _ _ c.self.invariant near c.requires.queue later may first (length-set c.self.inside.clients.items c.args.client c.deliver.new.self)
    (changed c.self.inside.clients.items c.args.client c.index_mut.result.now c.deliver.new.self (after_delivery c.args.queue c.args.body) near c.index_mut.ensures.value c.deliver.ensures))

pub returns-clause-legal : goal.returns-clause-legal
returns-clause-legal c =
    let near : c.args.client < length c.self.inside.clients.items = subst (λ (v : HistoryValue). c.args.client < length v.clients) (sym c.self.view_is) c.requires.ready.near in
    let later : newest c.self.inside.journal.entries ≤ c.args.stamp = subst (λ (v : HistoryValue). newest v.entries ≤ c.args.stamp) (sym c.self.view_is) c.requires.ready.later in
    let may : MayGet c.args.client c.self.inside.journal.entries = subst (λ (v : HistoryValue). MayGet c.args.client v.entries) (sym c.self.view_is) c.requires.may in
    let first : IsFirst c.args.id (waiting c.self.inside.journal.entries c.args.queue) = subst (λ (v : HistoryValue). IsFirst c.args.id (waiting v.entries c.args.queue)) (sym c.self.view_is) c.requires.first in
    let number : c.delivered-delivery.result ≡ (account_at c.self.inside.clients.items c.args.client).delivered = number_is c.self.inside.clients.items c.args.client c.index.result.now near c.index.ensures c.delivered-delivery.ensures in
    let is : c.push.new.self.entries ≡ noted (event.Delivered c.args.client (account_at c.self.inside.clients.items c.args.client).delivered c.args.queue c.args.id) c.args.stamp c.self.inside.journal.entries =
    c.push.ensures.entries ∙ ap (λ d. noted (event.Delivered c.args.client d c.args.queue c.args.id) c.args.stamp c.self.inside.journal.entries) number in
    subst Legal (sym is) (legal-delivered c.args.client c.args.queue c.args.id c.args.stamp c.self.invariant near later may first)

pub returns-clause-whole : goal.returns-clause-whole
returns-clause-whole c first =
    let near : c.args.client < length c.self.inside.clients.items = subst (λ (v : HistoryValue). c.args.client < length v.clients) (sym c.self.view_is) c.requires.ready.near in
    let here : IsFirstMessage c.args.id c.args.body (waiting c.self.inside.journal.entries c.args.queue) = subst (λ (v : HistoryValue). IsFirstMessage c.args.id c.args.body (waiting v.entries c.args.queue)) (sym c.self.view_is) first in
    let body : body_of c.args.id (line c.self.inside.journal.entries c.args.queue) ≡ c.args.body = first-body c.self.inside.journal.entries c.args.queue c.args.id c.args.body (waiting c.self.inside.journal.entries c.args.queue) c.self.invariant.legal refl here in
    let number : c.delivered-delivery.result ≡ c.index_mut.result.now.account.delivered = c.delivered-delivery.ensures ∙ ap (λ (k : ClientValue). k.account.delivered) (c.index.ensures ∙ get_or_default c.self.inside.clients.items c.args.client c.index.result.now c.index_mut.result.now near ∙ sym c.index_mut.ensures.value) in
    rw (← c.self.view_is) (whole-step c.self.inside.journal.entries c.push.new.self.entries (record { event = event.Delivered c.args.client c.delivered-delivery.result c.args.queue c.args.id; stamp = c.args.stamp }) c.self.inside.clients.items c.args.client c.index_mut.result.now c.deliver.new.self
    (reply.Got c.delivered-delivery.result c.args.queue (body_of c.args.id (line c.self.inside.journal.entries c.args.queue))) (reply.Got c.index_mut.result.now.account.delivered c.args.queue c.args.body) near c.index_mut.ensures.value (ap (λ (a : Account). a.replies) c.deliver.ensures)
    (ap (λ (p : ℕ × List ℕ). reply.Got p.0 c.args.queue p.1) (λ i. (number i, body i))) c.push.ensures.entries (λ k. refl))
