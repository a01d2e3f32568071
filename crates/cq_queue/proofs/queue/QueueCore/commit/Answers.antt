use Rattle.std.proofs.Common.{rules, ◌≡◌, ◌≤◌, ◌+◌, ◌++◌, ◌∷◌, [], ◌∙◌, ◌<◌, ℕ, List, length, refl, sym, ap, subst, arith}
use Rattle.std.specs.Prelude.{vec_len}
use Rattle.std.proofs.lemmas.Bool.{eqb-false, eqb-true}
use Rattle.cq_entry.specs.declared.entry.Entry.{Entry as IndexEntry}
use Rattle.cq_items.specs.Item.{Item}
use Rattle.cq_items.specs.Queue.{Queue}
use Rattle.cq_queue.specs.Lists.{AreAt, AreBelow}
use Rattle.cq_queue.specs.QueueCalls.{committed_in, kept_in, pick_in, room_in}
use Rattle.cq_queue.specs.QueueSegment.{CanCommit, Commits, HasCommitted, IsMore}
use Rattle.cq_queue.specs.Tied.{AreInPlace, IsTied}
use Rattle.cq_queue.specs.Values.{value_of}
use Rattle.cq_queue.proofs.Commits.{can_commit, commit_calls_are, commits_only, committed_is, err_memory, has_joined, joined_none, kept_held, more_is, none_kept, nothing_commits, nothing_held, stands_after, tied_after, unchanged}
use Rattle.cq_queue.proofs.Committed.{commit_anywhere}
use Rattle.cq_queue.proofs.Picked.{picked_is}
use Rattle.cq_queue.proofs.Runs.{Tells}
use Rattle.cq_queue.proofs.Unmoved.{at_all_same, below_more, places_none, tied_none, tied_same}
use Rattle.cq_queue.proofs.Trying.{picked_below, wider_below}
use Rattle.cq_queue.proofs.queue.QueueCore.commit.Goals as goal

pub returns-in_err-plan-clause-err : goal.returns-in_err-plan-clause-err
returns-in_err-plan-clause-err g c =
    let v = value_of c.args.self.now in
    err_memory c.from_residual.result v v (c.args.disk.now ≡ c.args.disk.now) (search rules) (unchanged v) refl

pub returns-in_err-plan-clause-touches : goal.returns-in_err-plan-clause-touches
returns-in_err-plan-clause-touches g c = λ told.
    let t : Tells g.D.Disk = record { only = g.met.D.Disk.now_only told; each = g.met.D.Disk.now_each told; readable = g.met.D.Disk.reads_left told } in
    nothing_commits g.D.Disk c.args.skip.now (value_of c.args.self.now) t c.args.disk.now

pub invariant_of-self : goal.invariant_of-self
invariant_of-self g c =
    let d = g.D.Disk in
    let s = c.args.self.now in
    let v = value_of s in
    let skip = c.args.skip.now in
    let plan = c.in_ok-plan.plan in
    let planned = c.in_ok-plan.ensures in
    let tied = s.tied c.requires.can.running in
    let none = none_kept skip v plan planned tied.ready (let zero_is = eqb-true (vec_len plan.entries) 0 (sym c.is_empty.ensures ∙ c.if-is_empty.true) in omega (arith, zero_is)) in
    let items = ap (λ (q : Queue). q.items) (c.pass_all.ensures skip (room_in v) (pick_in v).base c.requires.can.may_skip planned) in
    record { few = s.few; tied = λ running. subst (λ (l : List Item). IsTied l s.segments.list.items) (sym items) (tied_none skip (room_in v) 0 0 (pick_in v).base s.items.items none s.segments.list.items tied) }

pub returns-then-is_empty-clause-ok : goal.returns-then-is_empty-clause-ok
returns-then-is_empty-clause-ok g c =
    let d = g.D.Disk in
    let s = c.args.self.now in
    let v = value_of s in
    let skip = c.args.skip.now in
    let plan = c.in_ok-plan.plan in
    let planned = c.in_ok-plan.ensures in
    let tied = s.tied c.requires.can.running in
    let none = none_kept skip v plan planned tied.ready (let zero_is = eqb-true (vec_len plan.entries) 0 (sym c.is_empty.ensures ∙ c.if-is_empty.true) in omega (arith, zero_is)) in
    let passes = c.pass_all.ensures skip (room_in v) (pick_in v).base c.requires.can.may_skip planned in
    record {
      passed_is = planned.passed;
      items = ap (λ (q : Queue). q.items) passes ∙ commit_anywhere skip (room_in v) 0 0 (pick_in v).base (pick_in v).number (pick_in v).count (pick_in v).base s.items.items none;
      segments = joined_none v.queue v.most v.segments (kept_in skip v) none;
      same = record { reserved = ap (λ (q : Queue). q.reserved) passes; queue = refl; most = refl; running = c.requires.can.running };
    }

pub returns-then-is_empty-clause-numbers : goal.returns-then-is_empty-clause-numbers
returns-then-is_empty-clause-numbers g c = λ n below. wider_below n (value_of c.args.self.now).segments below

pub returns-then-is_empty-clause-at : goal.returns-then-is_empty-clause-at
returns-then-is_empty-clause-at g c = λ told.
    let d = g.D.Disk in
    let s = c.args.self.now in
    let v = value_of s in
    let skip = c.args.skip.now in
    let plan = c.in_ok-plan.plan in
    let planned = c.in_ok-plan.ensures in
    let tied = s.tied c.requires.can.running in
    let none = none_kept skip v plan planned tied.ready (let zero_is = eqb-true (vec_len plan.entries) 0 (sym c.is_empty.ensures ∙ c.if-is_empty.true) in omega (arith, zero_is)) in
    let items = ap (λ (q : Queue). q.items) (c.pass_all.ensures skip (room_in v) (pick_in v).base c.requires.can.may_skip planned) in
    λ running. record {
      segments = (c.requires.at told).segments;
      stands = subst (AreInPlace s.segments.queue (d.files c.args.disk.now)) (sym items) (places_none skip (room_in v) 0 0 (pick_in v).base s.items.items none s.segments.queue (d.files c.args.disk.now) (c.requires.at told).stands);
    }

pub returns-then-is_empty-clause-held : goal.returns-then-is_empty-clause-held
returns-then-is_empty-clause-held g c = λ told.
    let d = g.D.Disk in
    let s = c.args.self.now in
    let v = value_of s in
    let skip = c.args.skip.now in
    let plan = c.in_ok-plan.plan in
    let planned = c.in_ok-plan.ensures in
    let tied = s.tied c.requires.can.running in
    let none = none_kept skip v plan planned tied.ready (let zero_is = eqb-true (vec_len plan.entries) 0 (sym c.is_empty.ensures ∙ c.if-is_empty.true) in omega (arith, zero_is)) in
    nothing_held d skip v c.args.disk.now none

pub returns-then-is_empty-clause-touches : goal.returns-then-is_empty-clause-touches
returns-then-is_empty-clause-touches g c = λ told.
    let t : Tells g.D.Disk = record { only = g.met.D.Disk.now_only told; each = g.met.D.Disk.now_each told; readable = g.met.D.Disk.reads_left told } in
    nothing_commits g.D.Disk c.args.skip.now (value_of c.args.self.now) t c.args.disk.now

pub take-requires : goal.take-requires
take-requires g c =
    record { numbers = below_more c.args.self.now.segments.list.items c.requires.can.numbers }

pub invariant_of-self-in-Break-branch-2 : goal.invariant_of-self-in-Break-branch-2
invariant_of-self-in-Break-branch-2 g c =
    let d = g.D.Disk in
    let s = c.args.self.now in
    let v = value_of s in
    let skip = c.args.skip.now in
    let plan = c.in_ok-plan.plan in
    let planned = c.in_ok-plan.ensures in
    let tied = s.tied c.requires.can.running in
    record { few = subst (λ (n : ℕ). n ≤ 4096) (sym (c.take.ensures.same.most)) s.few; tied = λ running. tied_same s.items.items s.segments.list.items c.take.new.self.list.items c.in_err-segment.ensures.err tied }

pub returns-in_err-segment-clause-at : goal.returns-in_err-segment-clause-at
returns-in_err-segment-clause-at g c = λ told.
    let d = g.D.Disk in
    let s = c.args.self.now in
    let v = value_of s in
    let skip = c.args.skip.now in
    let plan = c.in_ok-plan.plan in
    let planned = c.in_ok-plan.ensures in
    let tied = s.tied c.requires.can.running in
    λ running. let q = c.take.new.self in
    record {
      segments = at_all_same q.queue s.segments.list.items q.list.items (d.files c.args.disk.now) c.in_err-segment.ensures.err (subst (λ (n : ℕ). AreAt n s.segments.list.items (d.files c.args.disk.now)) (sym c.take.ensures.same.queue) (c.requires.at told).segments);
      stands = subst (λ (n : ℕ). AreInPlace n (d.files c.args.disk.now) s.items.items) (sym c.take.ensures.same.queue) (c.requires.at told).stands;
    }

pub returns-in_err-segment-clause-touches : goal.returns-in_err-segment-clause-touches
returns-in_err-segment-clause-touches g c = λ told.
    let t : Tells g.D.Disk = record { only = g.met.D.Disk.now_only told; each = g.met.D.Disk.now_each told; readable = g.met.D.Disk.reads_left told } in
    nothing_commits g.D.Disk c.args.skip.now (value_of c.args.self.now) t c.args.disk.now

pub add-requires-clause-batch : goal.add-requires-clause-batch
add-requires-clause-batch g c =
    let d = g.D.Disk in
    let s = c.args.self.now in
    let v = value_of s in
    let skip = c.args.skip.now in
    let plan = c.in_ok-plan.plan in
    let planned = c.in_ok-plan.ensures in
    let tied = s.tied c.requires.can.running in
    let segment = c.in_ok-segment.segment in
    let taken = c.in_ok-segment.ensures.taken in
    let same = c.take.ensures.same in
    let own : segment.queue ≡ s.segments.queue = taken.follows.own ∙ same.queue in
    let pick = picked_is v.queue v.most v.segments c.take.new.self.list.items segment taken.picked in
    let some : 0 < length plan.entries.items = (let more = eqb-false (vec_len plan.entries) 0 (sym c.is_empty.ensures ∙ c.if-is_empty.false) in omega (arith, more)) in
    subst (CanCommit segment plan.records) (sym c.deref.ensures.value) (can_commit skip v plan planned tied.ready segment pick s.few some (let r = taken.reserved in let l = c.len.ensures in omega (arith, r, l)))

pub add-requires-clause-at : goal.add-requires-clause-at
add-requires-clause-at g c = λ told.
    let d = g.D.Disk in
    let s = c.args.self.now in
    let v = value_of s in
    let skip = c.args.skip.now in
    let plan = c.in_ok-plan.plan in
    let planned = c.in_ok-plan.ensures in
    let tied = s.tied c.requires.can.running in
    let segment = c.in_ok-segment.segment in
    let taken = c.in_ok-segment.ensures.taken in
    let same = c.take.ensures.same in
    let own : segment.queue ≡ s.segments.queue = taken.follows.own ∙ same.queue in
    let pick = picked_is v.queue v.most v.segments c.take.new.self.list.items segment taken.picked in
    let some : 0 < length plan.entries.items = (let more = eqb-false (vec_len plan.entries) 0 (sym c.is_empty.ensures ∙ c.if-is_empty.false) in omega (arith, more)) in
    subst (λ (n : ℕ). AreAt n (c.take.new.self.list.items ++ segment ∷ []) (d.files c.args.disk.now)) (sym same.queue) (c.in_ok-segment.ensures.at (d.files c.args.disk.now) (c.requires.at told).segments)

pub returns-in_err-add-clause-touches : goal.returns-in_err-add-clause-touches
returns-in_err-add-clause-touches g c = λ told.
    let d = g.D.Disk in
    let s = c.args.self.now in
    let v = value_of s in
    let skip = c.args.skip.now in
    let plan = c.in_ok-plan.plan in
    let planned = c.in_ok-plan.ensures in
    let tied = s.tied c.requires.can.running in
    let segment = c.in_ok-segment.segment in
    let taken = c.in_ok-segment.ensures.taken in
    let same = c.take.ensures.same in
    let own : segment.queue ≡ s.segments.queue = taken.follows.own ∙ same.queue in
    let pick = picked_is v.queue v.most v.segments c.take.new.self.list.items segment taken.picked in
    let some : 0 < length plan.entries.items = (let more = eqb-false (vec_len plan.entries) 0 (sym c.is_empty.ensures ∙ c.if-is_empty.false) in omega (arith, more)) in
    commits_only d skip v plan planned segment pick own c.args.disk.now c.add.new.disk (subst (λ (es : List IndexEntry). Commits d segment c.args.disk.now c.add.new.disk plan.records es) c.deref.ensures.value (c.add.ensures.touches told))

pub invariant_of-self-2 : goal.invariant_of-self-2
invariant_of-self-2 g c =
    let d = g.D.Disk in
    let s = c.args.self.now in
    let v = value_of s in
    let skip = c.args.skip.now in
    let plan = c.in_ok-plan.plan in
    let planned = c.in_ok-plan.ensures in
    let tied = s.tied c.requires.can.running in
    let segment = c.in_ok-segment.segment in
    let taken = c.in_ok-segment.ensures.taken in
    let same = c.take.ensures.same in
    let own : segment.queue ≡ s.segments.queue = taken.follows.own ∙ same.queue in
    let pick = picked_is v.queue v.most v.segments c.take.new.self.list.items segment taken.picked in
    let some : 0 < length plan.entries.items = (let more = eqb-false (vec_len plan.entries) 0 (sym c.is_empty.ensures ∙ c.if-is_empty.false) in omega (arith, more)) in
    let has = c.in_ok-add.ensures.shown in
    let is = subst (λ (es : List IndexEntry). IsMore segment has.last (length es) (length plan.records)) c.deref.ensures.value has.is in
    let passes = c.pass_all-2.ensures skip (room_in v) (pick_in v).base c.requires.can.may_skip planned in
    let items = ap (λ (q : Queue). q.items) passes ∙ committed_is skip v segment c.number-number.result c.count-count.result pick c.number-number.ensures c.count-count.ensures.count in
    let queue : c.add.new.self.queue ≡ s.segments.queue = c.add.ensures.same.queue ∙ same.queue in
    record {
      few = subst (λ (n : ℕ). n ≤ 4096) (sym (c.add.ensures.same.most ∙ same.most)) s.few;
      tied = λ running. subst (λ (l : List Item). IsTied l c.add.new.self.list.items) (sym items) (subst (IsTied (committed_in skip v)) (sym has.list)
          (tied_after skip v plan planned tied.ready c.take.new.self.list.items segment has.last taken.picked taken.follows.next has.number is tied));
    }

pub returns-clause-ok : goal.returns-clause-ok
returns-clause-ok g c =
    let d = g.D.Disk in
    let s = c.args.self.now in
    let v = value_of s in
    let skip = c.args.skip.now in
    let plan = c.in_ok-plan.plan in
    let planned = c.in_ok-plan.ensures in
    let tied = s.tied c.requires.can.running in
    let segment = c.in_ok-segment.segment in
    let taken = c.in_ok-segment.ensures.taken in
    let same = c.take.ensures.same in
    let own : segment.queue ≡ s.segments.queue = taken.follows.own ∙ same.queue in
    let pick = picked_is v.queue v.most v.segments c.take.new.self.list.items segment taken.picked in
    let some : 0 < length plan.entries.items = (let more = eqb-false (vec_len plan.entries) 0 (sym c.is_empty.ensures ∙ c.if-is_empty.false) in omega (arith, more)) in
    let has = c.in_ok-add.ensures.shown in
    let is = subst (λ (es : List IndexEntry). IsMore segment has.last (length es) (length plan.records)) c.deref.ensures.value has.is in
    let passes = c.pass_all-2.ensures skip (room_in v) (pick_in v).base c.requires.can.may_skip planned in
    let items = ap (λ (q : Queue). q.items) passes ∙ committed_is skip v segment c.number-number.result c.count-count.result pick c.number-number.ensures c.count-count.ensures.count in
    let queue : c.add.new.self.queue ≡ s.segments.queue = c.add.ensures.same.queue ∙ same.queue in
    record {
      passed_is = planned.passed;
      items = items;
      segments = has_joined skip v plan planned tied.ready segment pick s.few some c.take.new.self.list.items c.add.new.self.list.items has.last taken.picked has.list has.number is;
      same = record { reserved = ap (λ (q : Queue). q.reserved) passes; queue = queue; most = c.add.ensures.same.most ∙ same.most; running = refl };
    }

pub returns-clause-numbers : goal.returns-clause-numbers
returns-clause-numbers g c = λ n below.
    let s = c.args.self.now in
    let has = c.in_ok-add.ensures.shown in
    subst (AreBelow (n + 1)) (sym has.list) (picked_below s.segments.queue s.segments.most n s.segments.list.items c.take.new.self.list.items c.in_ok-segment.segment has.last c.in_ok-segment.ensures.taken.picked has.number.number below)

pub returns-clause-at : goal.returns-clause-at
returns-clause-at g c = λ told.
    let d = g.D.Disk in
    let s = c.args.self.now in
    let v = value_of s in
    let skip = c.args.skip.now in
    let plan = c.in_ok-plan.plan in
    let planned = c.in_ok-plan.ensures in
    let tied = s.tied c.requires.can.running in
    let segment = c.in_ok-segment.segment in
    let taken = c.in_ok-segment.ensures.taken in
    let same = c.take.ensures.same in
    let own : segment.queue ≡ s.segments.queue = taken.follows.own ∙ same.queue in
    let pick = picked_is v.queue v.most v.segments c.take.new.self.list.items segment taken.picked in
    let some : 0 < length plan.entries.items = (let more = eqb-false (vec_len plan.entries) 0 (sym c.is_empty.ensures ∙ c.if-is_empty.false) in omega (arith, more)) in
    let has = c.in_ok-add.ensures.shown in
    let is = subst (λ (es : List IndexEntry). IsMore segment has.last (length es) (length plan.records)) c.deref.ensures.value has.is in
    let passes = c.pass_all-2.ensures skip (room_in v) (pick_in v).base c.requires.can.may_skip planned in
    let items = ap (λ (q : Queue). q.items) passes ∙ committed_is skip v segment c.number-number.result c.count-count.result pick c.number-number.ensures c.count-count.ensures.count in
    let queue : c.add.new.self.queue ≡ s.segments.queue = c.add.ensures.same.queue ∙ same.queue in
    λ running. record {
      segments = subst (λ (n : ℕ). AreAt n c.add.new.self.list.items (d.files c.add.new.disk)) (sym c.add.ensures.same.queue) (c.in_ok-add.ensures.at told);
      stands = subst (λ (n : ℕ). AreInPlace n (d.files c.add.new.disk) c.pass_all-2.new.items.items) (sym queue) (subst (AreInPlace s.segments.queue (d.files c.add.new.disk)) (sym items)
          (stands_after d skip v plan planned segment pick own c.args.disk.now c.add.new.disk tied.ready (subst (λ (es : List IndexEntry). Commits d segment c.args.disk.now c.add.new.disk plan.records es) c.deref.ensures.value (c.add.ensures.touches told)) (subst (λ (es : List IndexEntry). HasCommitted d segment c.args.disk.now c.add.new.disk plan.records es) c.deref.ensures.value (c.in_ok-add.ensures.ok told)) (c.requires.at told).stands));
    }

pub returns-clause-held : goal.returns-clause-held
returns-clause-held g c = λ told.
    let d = g.D.Disk in
    let s = c.args.self.now in
    let v = value_of s in
    let skip = c.args.skip.now in
    let plan = c.in_ok-plan.plan in
    let planned = c.in_ok-plan.ensures in
    let tied = s.tied c.requires.can.running in
    let segment = c.in_ok-segment.segment in
    let taken = c.in_ok-segment.ensures.taken in
    let same = c.take.ensures.same in
    let own : segment.queue ≡ s.segments.queue = taken.follows.own ∙ same.queue in
    let pick = picked_is v.queue v.most v.segments c.take.new.self.list.items segment taken.picked in
    let some : 0 < length plan.entries.items = (let more = eqb-false (vec_len plan.entries) 0 (sym c.is_empty.ensures ∙ c.if-is_empty.false) in omega (arith, more)) in
    kept_held d skip v plan planned segment pick own c.args.disk.now c.add.new.disk (subst (λ (es : List IndexEntry). HasCommitted d segment c.args.disk.now c.add.new.disk plan.records es) c.deref.ensures.value (c.in_ok-add.ensures.ok told))

pub returns-clause-touches : goal.returns-clause-touches
returns-clause-touches g c = λ told.
    let d = g.D.Disk in
    let s = c.args.self.now in
    let v = value_of s in
    let skip = c.args.skip.now in
    let plan = c.in_ok-plan.plan in
    let planned = c.in_ok-plan.ensures in
    let tied = s.tied c.requires.can.running in
    let segment = c.in_ok-segment.segment in
    let taken = c.in_ok-segment.ensures.taken in
    let same = c.take.ensures.same in
    let own : segment.queue ≡ s.segments.queue = taken.follows.own ∙ same.queue in
    let pick = picked_is v.queue v.most v.segments c.take.new.self.list.items segment taken.picked in
    let some : 0 < length plan.entries.items = (let more = eqb-false (vec_len plan.entries) 0 (sym c.is_empty.ensures ∙ c.if-is_empty.false) in omega (arith, more)) in
    commits_only d skip v plan planned segment pick own c.args.disk.now c.add.new.disk (subst (λ (es : List IndexEntry). Commits d segment c.args.disk.now c.add.new.disk plan.records es) c.deref.ensures.value (c.add.ensures.touches told))

pub returns-clause-calls : goal.returns-clause-calls
returns-clause-calls g c =
    let d = g.D.Disk in
    let s = c.args.self.now in
    let v = value_of s in
    let skip = c.args.skip.now in
    let plan = c.in_ok-plan.plan in
    let planned = c.in_ok-plan.ensures in
    let tied = s.tied c.requires.can.running in
    let segment = c.in_ok-segment.segment in
    let taken = c.in_ok-segment.ensures.taken in
    let same = c.take.ensures.same in
    let own : segment.queue ≡ s.segments.queue = taken.follows.own ∙ same.queue in
    let pick = picked_is v.queue v.most v.segments c.take.new.self.list.items segment taken.picked in
    let some : 0 < length plan.entries.items = (let more = eqb-false (vec_len plan.entries) 0 (sym c.is_empty.ensures ∙ c.if-is_empty.false) in omega (arith, more)) in
    let kept : 0 < length (kept_in skip v) = (let m = more_is skip v plan planned tied.ready in omega (arith, m, some)) in
    c.in_ok-add.ensures.calls ∙ ap (λ (n : ℕ). d.moment c.args.disk.now + n) (commit_calls_are skip v plan planned tied.ready c.take.new.self.list.items segment taken.picked kept)
