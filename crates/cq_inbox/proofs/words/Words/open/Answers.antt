use Rattle.std.proofs.Common.{arith, refl, sym, ap, ◌∙◌, ◌≡◌, ◌+◌, false, subst, length, List, length-append, [], ◌∷◌, ℕ, Contains}
use Rattle.cq_inbox.specs.declared.words.Word.{Word}
use Rattle.cq_inbox.specs.Flags.{Joins, deliveries, IsDropped}
use Rattle.cq_inbox.proofs.OpenWords.{Distinct, open_distinct, open_joins, open_dropped, dropped_opened}
use Rattle.cq_inbox.proofs.words.Words.open.Goals as goal

abbrev fresh_word : ℕ → Word
fresh_word d = record { delivery = d; dropped = false }

pub invariant_of-self : goal.invariant_of-self
invariant_of-self c =
    let old : List Word = c.self.inside.words.items in
    let w : Word = fresh_word c.args.delivery in
    let was : old ≡ c.args.self.now = c.self.view_is in
    let items = c.push_reserved.ensures.items in
    let long : length c.push_reserved.new.self.items ≡ length old + 1 = ap (λ (l : List Word). length l) items ∙ length-append old (w ∷ []) in
    let same : length old ≡ length c.args.self.now = ap (λ (l : List Word). length l) was in
    let room = c.requires.room in record {
      few = omega arith;
      room = (let capacity = c.push_reserved.ensures.capacity in let had = c.self.invariant.room in omega arith);
      distinct = subst (λ (l : List Word). Distinct l) (sym items) (open_distinct old w c.self.invariant.distinct (λ h. c.requires.fresh (subst (λ (l : List Word). Contains (deliveries l) c.args.delivery) was h)));
    }

pub returns-clause-opened : goal.returns-clause-opened
returns-clause-opened c =
    let was : c.self.inside.words.items ≡ c.args.self.now = c.self.view_is in
    let items = c.push_reserved.ensures.items in
    subst (λ (y : List Word × List Word). Joins c.args.delivery (deliveries y.0) (deliveries y.1)) (λ i. (was i, sym items i)) (open_joins c.self.inside.words.items (fresh_word c.args.delivery))

pub returns-clause-fresh : goal.returns-clause-fresh
returns-clause-fresh c h =
    let was : c.self.inside.words.items ≡ c.args.self.now = c.self.view_is in
    let old = (open_dropped c.self.inside.words.items (fresh_word c.args.delivery) refl c.args.delivery).0 (subst (λ (l : List Word). IsDropped l c.args.delivery) c.push_reserved.ensures.items h) in
    c.requires.fresh (subst (λ (l : List Word). Contains (deliveries l) c.args.delivery) was (dropped_opened c.self.inside.words.items c.args.delivery old))

pub returns-clause-dropped : goal.returns-clause-dropped
returns-clause-dropped c d =
    let was : c.self.inside.words.items ≡ c.args.self.now = c.self.view_is in
    let items = c.push_reserved.ensures.items in
    let both = open_dropped c.self.inside.words.items (fresh_word c.args.delivery) refl d in (
      (λ h. subst (λ (l : List Word). IsDropped l d) was (both.0 (subst (λ (l : List Word). IsDropped l d) items h))),
      (λ h. subst (λ (l : List Word). IsDropped l d) (sym items) (both.1 (subst (λ (l : List Word). IsDropped l d) (sym was) h))),
    )
