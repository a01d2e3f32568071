use Rattle.std.proofs.Common.{◌≡◌, ◌++◌, ◌∷◌, [], ◌∙◌, Bool, false, sym, ap, arith, refl}
use Rattle.cq_items.specs.Items.{skips}
use Rattle.cq_queue.specs.Planning.HasPlanned.{Skips, Keeps, Stops}
use Rattle.cq_queue.proofs.queue.planning.Plan.add.Goals as goal

pub returns-then-is_skipped : goal.returns-then-is_skipped
returns-then-is_skipped c = λ skip has. Skips (ap (λ (b : Bool). skips b c.args.item.now) (sym (has c.args.item.now.id)) ∙ sym c.is_skipped.ensures ∙ c.if-is_skipped.true)
    (record { passed = c.in_ok-push.ensures.items ∙ (λ j. c.args.self.now.passed.items ++ record { id = c.id.ensures j; kept = false } ∷ []); entries = refl; records = refl; room = refl; end = refl })

pub returns-then-self-eq0 : goal.returns-then-self-eq0
returns-then-self-eq0 c = λ skip has. Stops (ap (λ (b : Bool). skips b c.args.item.now) (sym (has c.args.item.now.id)) ∙ sym c.is_skipped.ensures ∙ c.if-is_skipped.false) (omega (arith, c.if-self-eq0.true)) refl

pub returns : goal.returns
returns c = λ skip has. Keeps (ap (λ (b : Bool). skips b c.args.item.now) (sym (has c.args.item.now.id)) ∙ sym c.is_skipped.ensures ∙ c.if-is_skipped.false) c.in_ok-keep.ensures
