use Rattle.std.proofs.Common.{◌≡◌, ◌+◌, ◌<◌, ◌≤◌, ◌∙◌, ℕ, List, length, drop, true, false, sym, ap, subst, arith}
use Rattle.cq_items.specs.Item.{Item}
use Rattle.cq_items.specs.declared.item.Passed.{Passed}
use Rattle.cq_items.specs.declared.item.Stand.{Stand}
use Rattle.cq_items.specs.Items.{pass_first}
use Rattle.cq_items.specs.Queue.{Queue}
use Rattle.cq_queue.specs.Passing.{commit_items}
use Rattle.cq_queue.proofs.Passes.{Passing, keep_turn, keep_within, pass_end, skip_turn}
use Rattle.cq_queue.proofs.Planned.{drop_past}
use Rattle.cq_queue.proofs.queue.planning.pass_all.Goals as goal
use Rattle.cq_queue.proofs.queue.planning.pass_all.Goals.{then-passed, else-passed}

pub index-entry-requires : goal.index-entry-requires
index-entry-requires c =
    let r = c.requires.can in
    let ps = c.args.plan.now.passed.items in
    let es = c.args.plan.now.entries.items in
    let below : c.loop-at.at < length ps = omega (arith, c.loop-at-test.true, c.len-at-end.ensures) in
    let within = keep_within r.skip c.args.segment c.args.count (commit_items r.skip r.room c.args.segment c.args.count r.base c.args.items.now.items) c.loop-at.items.items ps c.loop-at.at c.index-passed.result.now es c.loop-at.kept below c.index-passed.ensures c.if-passed.true (c.loop-at.invariant.left r.skip r.room r.base r.may r.is) in
    omega (arith, within)

pub overflow_cast-stand : goal.overflow_cast-stand
overflow_cast-stand c =
    let r = c.requires.can in
    let ps = c.args.plan.now.passed.items in
    let es = c.args.plan.now.entries.items in
    let below : c.loop-at.at < length ps = omega (arith, c.loop-at-test.true, c.len-at-end.ensures) in
    let within = keep_within r.skip c.args.segment c.args.count (commit_items r.skip r.room c.args.segment c.args.count r.base c.args.items.now.items) c.loop-at.items.items ps c.loop-at.at c.index-passed.result.now es c.loop-at.kept below c.index-passed.ensures c.if-passed.true (c.loop-at.invariant.left r.skip r.room r.base r.may r.is) in
    let few = r.few in
    omega (arith, within, few)

pub overflow_add-stand : goal.overflow_add-stand
overflow_add-stand c =
    let r = c.requires.can in
    let ps = c.args.plan.now.passed.items in
    let es = c.args.plan.now.entries.items in
    let below : c.loop-at.at < length ps = omega (arith, c.loop-at-test.true, c.len-at-end.ensures) in
    let within = keep_within r.skip c.args.segment c.args.count (commit_items r.skip r.room c.args.segment c.args.count r.base c.args.items.now.items) c.loop-at.items.items ps c.loop-at.at c.index-passed.result.now es c.loop-at.kept below c.index-passed.ensures c.if-passed.true (c.loop-at.invariant.left r.skip r.room r.base r.may r.is) in
    let few = r.few in
    omega (arith, within, few)

pub loop-at-preserved : goal.loop-at-preserved
loop-at-preserved c =
    let ps = c.args.plan.now.passed.items in
    let es = c.args.plan.now.entries.items in
    let p = c.index-passed.result.now in
    let k = c.loop-at.at in
    let j = c.loop-at.kept in
    let old = c.loop-at.items in
    let below : k < length ps = omega (arith, c.loop-at-test.true, c.len-at-end.ensures) in
    elim c.if-passed.branch [
      | then-passed w ↦
          let e = w.index-entry.result.now in
          let st : Stand = record { segment = c.args.segment; at = c.args.count + j; place = e.place } in
          let items : c.if-passed.items ≡ record { items = pass_first false st old.items; reserved = old.reserved } = cc (w.items-is, w.pass.ensures.queue) in
          let kept : c.if-passed.kept ≡ j + 1 = omega (arith, w.kept-is) in
          record {
            left = λ skip room base may is.
                let goal_items = commit_items skip room c.args.segment c.args.count base c.args.items.now.items in
                subst (λ (l : List Item). Passing skip c.args.segment (c.args.count + c.if-passed.kept) goal_items l (drop (k + 1) ps) (drop c.if-passed.kept es)) (sym (ap (λ (q : Queue). q.items) items))
                (subst (λ (n : ℕ). Passing skip c.args.segment (c.args.count + n) goal_items (pass_first false st old.items) (drop (k + 1) ps) (drop n es)) (sym kept)
                (keep_turn skip c.args.segment c.args.count goal_items old.items ps k p es j below c.index-passed.ensures w.if-passed.true (c.loop-at.invariant.left skip room base may is) e w.index-entry.ensures));
            reserved = ap (λ (q : Queue). q.reserved) items ∙ c.loop-at.invariant.reserved;
          }
      | else-passed w ↦
          let st : Stand = record { segment = c.args.segment; at = 0; place = 0 } in
          let items : c.if-passed.items ≡ record { items = pass_first true st old.items; reserved = old.reserved } = cc (w.items-is, w.pass-else-passed.ensures.queue) in
          let kept : c.if-passed.kept ≡ j = omega (arith, w.kept-is) in
          record {
            left = λ skip room base may is.
                let goal_items = commit_items skip room c.args.segment c.args.count base c.args.items.now.items in
                subst (λ (l : List Item). Passing skip c.args.segment (c.args.count + c.if-passed.kept) goal_items l (drop (k + 1) ps) (drop c.if-passed.kept es)) (sym (ap (λ (q : Queue). q.items) items))
                (subst (λ (n : ℕ). Passing skip c.args.segment (c.args.count + n) goal_items (pass_first true st old.items) (drop (k + 1) ps) (drop n es)) (sym kept)
                ((skip_turn skip c.args.segment (c.args.count + j) goal_items old.items ps k p (drop j es) below c.index-passed.ensures w.if-passed.false (c.loop-at.invariant.left skip room base may is)).1 st));
            reserved = ap (λ (q : Queue). q.reserved) items ∙ c.loop-at.invariant.reserved;
          }
    ]

pub returns : goal.returns
returns c = λ skip room base may is.
    let ps = c.args.plan.now.passed.items in
    let es = c.args.plan.now.entries.items in
    let past : length ps ≤ c.loop-at.at = omega (arith, c.loop-at-test.false, c.len-at-end.ensures) in
    let goal_items = commit_items skip room c.args.segment c.args.count base c.args.items.now.items in
    let done = pass_end skip c.args.segment (c.args.count + c.loop-at.kept) goal_items c.loop-at.items.items (drop c.loop-at.kept es)
    (subst (λ (l : List Passed). Passing skip c.args.segment (c.args.count + c.loop-at.kept) goal_items c.loop-at.items.items l (drop c.loop-at.kept es)) (drop_past ps c.loop-at.at past) (c.loop-at.invariant.left skip room base may is)) in
    λ j. record { items = done j; reserved = c.loop-at.invariant.reserved j }
