use Rattle.std.proofs.Common.{rules, ◌≡◌, ◌+◌, ℕ, List, [], ◌∷◌, ◌++◌, get_or, take, sym, ◌∙◌, ap, subst}
use Rattle.std.proofs.lemmas.Bool.{false≢true}
use Rattle.cq_disk.specs.declared.name.Name.{Name}
use Rattle.cq_disk.specs.declared.name.Kind.TheVariants.{Index}
use Rattle.cq_back_q.specs.Numbers.{AreNumbersOf, IsNext}
use Rattle.cq_back_q.proofs.Rising.{numbers_next, numbers_none, numbers_same, taken_more}
use Rattle.cq_back_q.proofs.numbers.numbers_of.Goals.{then-is_next+in_ok-push, else-is_next}
use Rattle.cq_back_q.proofs.numbers.numbers_of.Goals as goal

abbrev first : Name
first = record { kind = Index; queue = 0; number = 0 }

pub loop-name-init : goal.loop-name-init
loop-name-init c = subst (AreNumbersOf c.args.kind c.args.queue []) (sym c.new-numbers.ensures.items) (numbers_none c.args.kind c.args.queue)

pub loop-name-preserved : goal.loop-name-preserved
loop-name-preserved c =
    let l = c.loop-name in
    let names = c.args.names.now in
    let name = get_or names l.name-index first in
    let seen = take l.name-index names in
    let ns = l.numbers.items in
    let same : c.deref.result.now ≡ ns = search rules in
    elim c.if-is_next.branch [
      | then-is_next+in_ok-push w ↦
          subst (AreNumbersOf c.args.kind c.args.queue (take (l.name-index + 1) names)) (sym (ap (λ v. v.items) w.numbers-is ∙ w.in_ok-push.ensures.items))
          (taken_more (λ (xs : List Name). AreNumbersOf c.args.kind c.args.queue xs (ns ++ name.number ∷ [])) names l.name-index first c.loop-name-test.true
          (numbers_next c.args.kind c.args.queue seen name ns l.invariant (subst (λ (l : List ℕ). IsNext c.args.kind c.args.queue l name) same (c.is_next.ensures.0 w.if-is_next.true))))
      | else-is_next w ↦
          subst (AreNumbersOf c.args.kind c.args.queue (take (l.name-index + 1) names)) (sym (ap (λ v. v.items) w.numbers-is))
          (taken_more (λ (xs : List Name). AreNumbersOf c.args.kind c.args.queue xs ns) names l.name-index first c.loop-name-test.true
          (numbers_same c.args.kind c.args.queue seen name ns l.invariant (λ next. false≢true (sym w.if-is_next.false ∙ c.is_next.ensures.1 (subst (λ (l : List ℕ). IsNext c.args.kind c.args.queue l name) (sym same) next)))))
    ]
