use Rattle.std.proofs.Common.{arith, sym, ap, ◌∙◌, ◌≡◌, ◌+◌, subst, length, List, remove, ℕ, ◌<◌}
use Rattle.std.proofs.lemmas.List.Edits.{length-remove}
use Rattle.cq_inbox.specs.declared.words.Word.{Word}
use Rattle.cq_inbox.specs.Flags.{Leaves, deliveries, IsDropped}
use Rattle.cq_inbox.proofs.OpenWords.{Distinct, not_opened, close_distinct, close_leaves, close_dropped}
use Rattle.cq_inbox.proofs.words.Words.close.Goals as goal

pub invariant_of-self : goal.invariant_of-self
invariant_of-self c =
    let old : List Word = c.self.inside.words.items in
    let i : ℕ = c.in-Some.place in
    let was : old ≡ c.args.self.now = c.self.view_is in
    let items = c.remove.ensures.items in
    let near : i < length old = subst (λ (l : List Word). i < length l) (sym was) c.in-Some.ensures.0 in
    let long : length c.remove.new.self.items + 1 ≡ length old = ap (λ (l : List Word). length l + 1) items ∙ length-remove old i near in
    let few = c.self.invariant.few in record {
      few = omega arith;
      room = (let capacity = c.remove.ensures.capacity in let had = c.self.invariant.room in omega arith);
      distinct = subst (λ (l : List Word). Distinct l) (sym items) (close_distinct old i c.self.invariant.distinct near);
    }

pub returns-in-Some-clause-opened : goal.returns-in-Some-clause-opened
returns-in-Some-clause-opened c =
    let d : ℕ = c.args.delivery in
    let i : ℕ = c.in-Some.place in
    let now : List Word = c.args.self.now in
    let was : c.self.inside.words.items ≡ c.args.self.now = c.self.view_is in
    let items : c.remove.new.self.items ≡ remove now i = c.remove.ensures.items ∙ ap (λ (l : List Word). remove l i) was in
    subst (λ (l : List Word). Leaves d (deliveries now) (deliveries l)) (sym items) (close_leaves now i d (subst (λ (l : List Word). Distinct l) was c.self.invariant.distinct) c.in-Some.ensures.0 c.in-Some.ensures.1)

pub returns-in-Some-clause-dropped : goal.returns-in-Some-clause-dropped
returns-in-Some-clause-dropped c x =
    let d : ℕ = c.args.delivery in
    let i : ℕ = c.in-Some.place in
    let now : List Word = c.args.self.now in
    let was : c.self.inside.words.items ≡ c.args.self.now = c.self.view_is in
    let items : c.remove.new.self.items ≡ remove now i = c.remove.ensures.items ∙ ap (λ (l : List Word). remove l i) was in
    let both = close_dropped now i d (subst (λ (l : List Word). Distinct l) was c.self.invariant.distinct) c.in-Some.ensures.0 c.in-Some.ensures.1 x in (
      (λ h. both.0 (subst (λ (l : List Word). IsDropped l x) items h)),
      (λ h. subst (λ (l : List Word). IsDropped l x) (sym items) (both.1 h)),
    )

pub returns-in_default-clause-opened : goal.returns-in_default-clause-opened
returns-in_default-clause-opened c = absurd (not_opened c.args.self.now c.args.delivery c.in_default.ensures c.requires)

pub returns-in_default-clause-dropped : goal.returns-in_default-clause-dropped
returns-in_default-clause-dropped c x = absurd (not_opened c.args.self.now c.args.delivery c.in_default.ensures c.requires)
