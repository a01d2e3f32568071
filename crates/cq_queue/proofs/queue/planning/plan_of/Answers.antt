use Rattle.std.proofs.Common.{◌≡◌, ◌∙◌, true, false, List, Some, length, sym, ap, subst, arith}
use Rattle.std.specs.Prelude.{slice_get}
use Rattle.cq_items.specs.Item.{Item}
use Rattle.cq_items.specs.Items.{undecided_items}
use Rattle.cq_queue.specs.Passing.{IsReady}
use Rattle.cq_queue.proofs.Changes.{all_at}
use Rattle.cq_queue.proofs.Planned.{Goes, drop_none, get_below, goes_end, planned_end, planned_longer, planned_next}
use Rattle.cq_queue.proofs.queue.planning.plan_of.Goals as goal

pub returns-then-not-branch : goal.returns-then-not-branch
returns-then-not-branch c =
    let all = undecided_items c.args.items.now.items in
    let old = c.loop-item.plan in
    let len : c.len.result ≡ length old.passed.items = omega (arith, c.len.ensures) in
    let is : slice_get all (length old.passed.items) ≡ Some c.in-Some.item = ap (slice_get all) (sym len) ∙ sym c.in-Some.ensures in
    let no' : c.in_ok-add.field-0 ≡ false = c.if-not-branch.true in
    planned_end c.args.skip.now c.args.room c.args.base all c.in-Some.item old c.add.new.self is c.loop-item.invariant c.in_ok-add.field-0 (c.in_ok-add.ensures c.args.skip.now c.in_ok-skipped.ensures) no'

pub loop-item-smaller : goal.loop-item-smaller
loop-item-smaller c =
    let all = undecided_items c.args.items.now.items in
    let old = c.loop-item.plan in
    let len : c.len.result ≡ length old.passed.items = omega (arith, c.len.ensures) in
    let is : slice_get all (length old.passed.items) ≡ Some c.in-Some.item = ap (slice_get all) (sym len) ∙ sym c.in-Some.ensures in
    let yes' : c.in_ok-add.field-0 ≡ true = c.if-not-branch.false in
    let longer = planned_longer c.args.skip.now c.args.room c.args.base all c.in-Some.item old c.add.new.self is c.loop-item.invariant c.in_ok-add.field-0 (c.in_ok-add.ensures c.args.skip.now c.in_ok-skipped.ensures) yes' in
    let below = get_below all (length old.passed.items) c.in-Some.item is in
    omega (arith, longer, below)

pub loop-item-preserved : goal.loop-item-preserved
loop-item-preserved c =
    let all = undecided_items c.args.items.now.items in
    let old = c.loop-item.plan in
    let len : c.len.result ≡ length old.passed.items = omega (arith, c.len.ensures) in
    let is : slice_get all (length old.passed.items) ≡ Some c.in-Some.item = ap (slice_get all) (sym len) ∙ sym c.in-Some.ensures in
    let yes' : c.in_ok-add.field-0 ≡ true = c.if-not-branch.false in
    planned_next c.args.skip.now c.args.room c.args.base all c.in-Some.item old c.add.new.self is c.loop-item.invariant c.in_ok-add.field-0 (c.in_ok-add.ensures c.args.skip.now c.in_ok-skipped.ensures)
    (all_at IsReady all (length old.passed.items) c.in-Some.item is c.requires.ready) yes'

pub returns : goal.returns
returns c =
    let all = undecided_items c.args.items.now.items in
    let plan = c.loop-item.plan in
    let len : c.len.result ≡ length plan.passed.items = omega (arith, c.len.ensures) in
    goes_end c.args.skip.now c.args.room c.args.base all plan
    (subst (λ (l : List Item). Goes c.args.skip.now c.args.room c.args.base all l plan) (drop_none all (length plan.passed.items) (c.in_default.ensures ∙ ap (slice_get all) len)) c.loop-item.invariant)
