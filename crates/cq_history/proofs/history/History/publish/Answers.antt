use Rattle.std.proofs.Common.{◌≡◌, ℕ, ◌^◌, ◌<◌, ◌≤◌, List, length, length-set, set, refl, sym, ap, ◌∙◌, subst, arith}
use Rattle.std.specs.FinMap.{insert}
use Rattle.cq_journal.specs.Legal.{newest, Legal}
use Rattle.cq_journal.specs.declared.event.Event.TheVariants as event
use Rattle.cq_core.specs.Core.{IsNextId}
use Rattle.cq_history.specs.Accounts.{after_publish}
use Rattle.cq_history.specs.History.{HistoryValue, account_at}
use Rattle.cq_history.specs.Steps.{noted, AddsPublish}
use Rattle.cq_history.proofs.Lists.{changed, published_number, no_error}
use Rattle.cq_history.proofs.Numbers.{few-queues}
use Rattle.cq_history.proofs.Steps.{kept_at}
use Rattle.cq_history.proofs.Publishing.{legal-published, kept-published, next-id, one-next, fresh-lack, published-within}
use Rattle.cq_client.specs.Client.{Account, ClientValue}
use Rattle.std.proofs.lemmas.List.{get_or_default}
use Rattle.cq_history.proofs.Whole.{whole-step}
use Rattle.cq_journal.specs.declared.reply.Reply.TheVariants as reply
use Rattle.cq_history.proofs.history.History.publish.Goals as goal

pub overflow_cast-count : goal.overflow_cast-count
overflow_cast-count c = let few : length c.args.queues ≤ 256 = few-queues c.args.queues c.numbers.ensures.queues in omega (arith, few, ap length c.numbers.ensures.same)

pub add-requires-clause-fresh : goal.add-requires-clause-fresh
add-requires-clause-fresh c = rw c.next-id.ensures.next (fresh-lack c.self.invariant c.self.inside.ids.next (next-id c.self.invariant).new)

pub advance-requires : goal.advance-requires
advance-requires c = let few : length c.push.new.self.entries < 2 ^ 64 = c.count_of.ensures.few in omega (arith, few, ap length c.push.ensures.entries, c.self.invariant.ids_are.given)

pub publish-requires-clause-few : goal.publish-requires-clause-few
publish-requires-clause-few c =
    let near : c.args.client < length c.self.inside.clients.items = subst (λ (v : HistoryValue). c.args.client < length v.clients) (sym c.self.view_is) c.requires.ready.near in
    let few : length c.push.new.self.entries < 2 ^ 64 = c.count_of.ensures.few in
    let read : c.index_mut.result.now.account.published ≡ (account_at c.self.inside.clients.items c.args.client).published = published_number c.self.inside.clients.items c.args.client c.index_mut.result.now near c.index_mut.ensures.value refl in
    omega (arith, few, ap length c.push.ensures.entries, read, (c.self.invariant.accounts_are c.args.client near).published_is, published-within c.self.inside.journal.entries c.args.client)

pub invariant_of-self-2 : goal.invariant_of-self-2
invariant_of-self-2 c =
    let near : c.args.client < length c.self.inside.clients.items = subst (λ (v : HistoryValue). c.args.client < length v.clients) (sym c.self.view_is) c.requires.ready.near in
    let later : newest c.self.inside.journal.entries ≤ c.args.stamp = subst (λ (v : HistoryValue). newest v.entries ≤ c.args.stamp) (sym c.self.view_is) c.requires.ready.later in
    let number : c.published-number.result ≡ (account_at c.self.inside.clients.items c.args.client).published = published_number c.self.inside.clients.items c.args.client c.index.result.now near c.index.ensures c.published-number.ensures in
    let is : c.push.new.self.entries ≡ noted (event.Published c.args.client (account_at c.self.inside.clients.items c.args.client).published c.self.inside.ids.next c.args.queues c.args.body) c.args.stamp c.self.inside.journal.entries =
    c.push.ensures.entries ∙ ap (λ (p : ℕ × ℕ). noted (event.Published c.args.client p.0 p.1 c.args.queues c.args.body) c.args.stamp c.self.inside.journal.entries) (λ i. (number i, c.next-id.ensures.next i)) in
    let given : c.add.new.self ≡ insert c.self.inside.lacks c.next-id.result (record { client = c.args.client; number = c.published-number.result; queues = length c.numbers.result.now }) = no_error c.add.result (sym c.is_err.ensures.value ∙ c.if-is_err.false) c.add.ensures.ok in
    let added : c.add.new.self ≡ insert c.self.inside.lacks c.self.inside.ids.next (record { client = c.args.client; number = (account_at c.self.inside.clients.items c.args.client).published; queues = length c.args.queues }) =
    given ∙ ap (λ (p : (ℕ × ℕ) × List ℕ). insert c.self.inside.lacks p.0.0 (record { client = c.args.client; number = p.0.1; queues = length p.1 })) (λ i. ((c.next-id.ensures.next i, number i), c.numbers.ensures.same i)) in
    rw added (kept_at is (kept-published c.args.client c.args.stamp c.args.queues c.args.body _ _ c.advance.new.self c.self.invariant near later c.numbers.ensures.queues c.requires.some c.advance.ensures.taken c.advance.ensures.next c.advance.ensures.given
    (length-set c.self.inside.clients.items c.args.client c.publish.new.self)
    (changed c.self.inside.clients.items c.args.client c.index_mut.result.now c.publish.new.self after_publish near c.index_mut.ensures.value c.publish.ensures)))

pub returns-clause-adds : goal.returns-clause-adds
returns-clause-adds c =
    let near : c.args.client < length c.self.inside.clients.items = subst (λ (v : HistoryValue). c.args.client < length v.clients) (sym c.self.view_is) c.requires.ready.near in
    let number : c.published-number.result ≡ (account_at c.self.inside.clients.items c.args.client).published = published_number c.self.inside.clients.items c.args.client c.index.result.now near c.index.ensures c.published-number.ensures in
    let is : c.push.new.self.entries ≡ noted (event.Published c.args.client (account_at c.self.inside.clients.items c.args.client).published c.self.inside.ids.next c.args.queues c.args.body) c.args.stamp c.self.inside.journal.entries =
    c.push.ensures.entries ∙ ap (λ (p : ℕ × ℕ). noted (event.Published c.args.client p.0 p.1 c.args.queues c.args.body) c.args.stamp c.self.inside.journal.entries) (λ i. (number i, c.next-id.ensures.next i)) in
    let given : c.add.new.self ≡ insert c.self.inside.lacks c.next-id.result (record { client = c.args.client; number = c.published-number.result; queues = length c.numbers.result.now }) = no_error c.add.result (sym c.is_err.ensures.value ∙ c.if-is_err.false) c.add.ensures.ok in
    let added : c.add.new.self ≡ insert c.self.inside.lacks c.self.inside.ids.next (record { client = c.args.client; number = (account_at c.self.inside.clients.items c.args.client).published; queues = length c.args.queues }) =
    given ∙ ap (λ (p : (ℕ × ℕ) × List ℕ). insert c.self.inside.lacks p.0.0 (record { client = c.args.client; number = p.0.1; queues = length p.1 })) (λ i. ((c.next-id.ensures.next i, number i), c.numbers.ensures.same i)) in
    let new : HistoryValue = record { entries = c.push.new.self.entries; room = c.push.new.self.room; clients = set c.self.inside.clients.items c.args.client c.publish.new.self; lacks = c.add.new.self } in
    subst (λ (v : HistoryValue). (id : ℕ) → IsNextId v.entries id → AddsPublish c.args.client id c.args.stamp c.args.queues c.args.body v new) c.self.view_is
    (λ id next. let same : c.self.inside.ids.next ≡ id = one-next c.self.inside.journal.entries c.self.inside.ids.next id (next-id c.self.invariant) next in record {
      entries = is ∙ ap (λ x. noted (event.Published c.args.client (account_at c.self.inside.clients.items c.args.client).published x c.args.queues c.args.body) c.args.stamp c.self.inside.journal.entries) same;
      lacks = added ∙ ap (λ x. insert c.self.inside.lacks x (record { client = c.args.client; number = (account_at c.self.inside.clients.items c.args.client).published; queues = length c.args.queues })) same;
      count = length-set c.self.inside.clients.items c.args.client c.publish.new.self;
    })

pub returns-clause-legal : goal.returns-clause-legal
returns-clause-legal c =
    let near : c.args.client < length c.self.inside.clients.items = subst (λ (v : HistoryValue). c.args.client < length v.clients) (sym c.self.view_is) c.requires.ready.near in
    let later : newest c.self.inside.journal.entries ≤ c.args.stamp = subst (λ (v : HistoryValue). newest v.entries ≤ c.args.stamp) (sym c.self.view_is) c.requires.ready.later in
    let number : c.published-number.result ≡ (account_at c.self.inside.clients.items c.args.client).published = published_number c.self.inside.clients.items c.args.client c.index.result.now near c.index.ensures c.published-number.ensures in
    let is : c.push.new.self.entries ≡ noted (event.Published c.args.client (account_at c.self.inside.clients.items c.args.client).published c.self.inside.ids.next c.args.queues c.args.body) c.args.stamp c.self.inside.journal.entries =
    c.push.ensures.entries ∙ ap (λ (p : ℕ × ℕ). noted (event.Published c.args.client p.0 p.1 c.args.queues c.args.body) c.args.stamp c.self.inside.journal.entries) (λ i. (number i, c.next-id.ensures.next i)) in
    subst Legal (sym is) (legal-published c.args.client c.args.stamp c.args.queues c.args.body c.self.invariant near later c.numbers.ensures.queues c.requires.some)

pub returns-clause-whole : goal.returns-clause-whole
returns-clause-whole c =
    let near : c.args.client < length c.self.inside.clients.items = subst (λ (v : HistoryValue). c.args.client < length v.clients) (sym c.self.view_is) c.requires.ready.near in
    let number : c.published-number.result ≡ c.index_mut.result.now.account.published = c.published-number.ensures ∙ ap (λ (k : ClientValue). k.account.published) (c.index.ensures ∙ get_or_default c.self.inside.clients.items c.args.client c.index.result.now c.index_mut.result.now near ∙ sym c.index_mut.ensures.value) in
    rw (← c.self.view_is) (whole-step c.self.inside.journal.entries c.push.new.self.entries (record { event = event.Published c.args.client c.published-number.result c.next-id.result c.args.queues c.args.body; stamp = c.args.stamp }) c.self.inside.clients.items c.args.client c.index_mut.result.now c.publish.new.self
    (reply.Published c.published-number.result) (reply.Published c.index_mut.result.now.account.published) near c.index_mut.ensures.value (ap (λ (a : Account). a.replies) c.publish.ensures)
    (ap reply.Published number) c.push.ensures.entries (λ k. refl))
