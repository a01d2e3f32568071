use Rattle.std.proofs.Common.{◌≡◌, ◌≤◌, ◌+◌, ◌∙◌, ℕ, Option, sym, ap, subst}
use Rattle.cq_queue.specs.declared.segment.QueueSegment.{QueueSegment}
use Rattle.cq_queue.specs.QueueCalls.{calls_at, calls_to_remove_at}
use Rattle.cq_queue.specs.Lists.{AreAt}
use Rattle.cq_queue.specs.Tied.{AreInPlace, IsTied}
use Rattle.cq_queue.proofs.Changes.{all_at, next}
use Rattle.cq_queue.proofs.Idle.{nothing_keeps}
use Rattle.cq_queue.proofs.Removing.{Finished, is_finished, other_files, stand_without, tied_without}
use Rattle.cq_queue.proofs.queue.QueueCore.remove_segment.Goals as goal

pub returns-in_default-clause-touches : goal.returns-in_default-clause-touches
returns-in_default-clause-touches g c = λ told. let d = g.D.Disk in
    nothing_keeps d (record { only = g.met.D.Disk.now_only told; each = g.met.D.Disk.now_each told; readable = g.met.D.Disk.reads_left told }) _ c.args.disk.now

pub returns-in_err-remove-clause-touches : goal.returns-in_err-remove-clause-touches
returns-in_err-remove-clause-touches g c = λ told.
    let d = g.D.Disk in
    let s = c.args.self.now in
    let ps = s.segments.list.items in
    let f : Finished ps c.in-Some.index = is_finished s.segments.most ps c.in-Some.index (sym c.finished.ensures.first ∙ c.in-Some.is) in
    let own : f.segment.queue ≡ s.segments.queue = all_at (λ (r : QueueSegment). r.queue ≡ s.segments.queue) ps c.in-Some.index f.segment f.is s.segments.are.0 in
    let run = c.remove.ensures.touches told f.segment f.is in
    record { others = other_files s.segments.queue f.segment (d.files c.args.disk.now) (d.files c.remove.new.disk) own run.others; any_moment = run.any_moment; held = run.held }

pub invariant_of-self-2 : goal.invariant_of-self-2
invariant_of-self-2 g c =
    let s = c.args.self.now in
    let ps = s.segments.list.items in
    let f : Finished ps c.in-Some.index = is_finished s.segments.most ps c.in-Some.index (sym c.finished.ensures.first ∙ c.in-Some.is) in
    record {
      few = subst (λ (n : ℕ). n ≤ 4096) (sym (c.remove.ensures.same.most)) s.few;
      tied = λ running. subst (IsTied s.items.items) (sym c.remove.ensures.shown) (next (IsTied s.items.items) ps c.in-Some.index (tied_without s.items.items ps c.in-Some.index f (s.tied c.requires.running)));
    }

pub returns-clause-at : goal.returns-clause-at
returns-clause-at g c = λ told running.
    let d = g.D.Disk in
    let s = c.args.self.now in
    let ps = s.segments.list.items in
    let f : Finished ps c.in-Some.index = is_finished s.segments.most ps c.in-Some.index (sym c.finished.ensures.first ∙ c.in-Some.is) in
    record {
      segments = subst (λ (q : ℕ). AreAt q c.remove.new.self.list.items (d.files c.remove.new.disk)) (sym c.remove.ensures.same.queue) (c.in_ok-remove.ensures.at told);
      stands = subst (λ (q : ℕ). AreInPlace q (d.files c.remove.new.disk) s.items.items) (sym c.remove.ensures.same.queue)
          (stand_without s.segments.queue s.items.items ps c.in-Some.index f (d.files c.args.disk.now) (d.files c.remove.new.disk) (c.remove.ensures.touches told f.segment f.is).others s.segments.are.1 (s.tied c.requires.running) (c.requires.at told).stands);
    }

pub returns-clause-touches : goal.returns-clause-touches
returns-clause-touches g c = λ told.
    let d = g.D.Disk in
    let s = c.args.self.now in
    let ps = s.segments.list.items in
    let f : Finished ps c.in-Some.index = is_finished s.segments.most ps c.in-Some.index (sym c.finished.ensures.first ∙ c.in-Some.is) in
    let own : f.segment.queue ≡ s.segments.queue = all_at (λ (r : QueueSegment). r.queue ≡ s.segments.queue) ps c.in-Some.index f.segment f.is s.segments.are.0 in
    let run = c.remove.ensures.touches told f.segment f.is in
    record { others = other_files s.segments.queue f.segment (d.files c.args.disk.now) (d.files c.remove.new.disk) own run.others; any_moment = run.any_moment; held = run.held }

pub returns-clause-calls : goal.returns-clause-calls
returns-clause-calls g c =
    let d = g.D.Disk in
    let s = c.args.self.now in
    let ps = s.segments.list.items in
    let f : Finished ps c.in-Some.index = is_finished s.segments.most ps c.in-Some.index (sym c.finished.ensures.first ∙ c.in-Some.is) in
    c.in_ok-remove.ensures.calls f.segment f.is
    ∙ ap (λ (o : Option QueueSegment). d.moment c.args.disk.now + calls_at o) (sym f.is)
    ∙ ap (λ (o : Option ℕ). d.moment c.args.disk.now + calls_to_remove_at ps o) (sym (sym c.finished.ensures.first ∙ c.in-Some.is))
