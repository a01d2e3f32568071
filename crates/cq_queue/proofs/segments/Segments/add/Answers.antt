use Rattle.std.proofs.Common.{◌∙◌, ℕ, List, ◌++◌, ◌∷◌, [], sym, subst}
use Rattle.cq_queue.specs.declared.segment.QueueSegment.{QueueSegment}
use Rattle.cq_queue.specs.Lists.{AreAt, AreBelow}
use Rattle.cq_queue.proofs.Changes.{is_greatest, last_knows, last_changed}
use Rattle.cq_queue.proofs.segments.Segments.add.Goals as goal

pub commit-requires-clause-knows : goal.commit-requires-clause-knows
commit-requires-clause-knows g c = λ told.
    let s = c.args.self.now in
    let at = c.requires.at told in
    record {
      knows = last_knows s.queue s.list.items c.args.segment (g.D.Disk.files c.args.disk.now) at;
      greatest = is_greatest c.args.segment.queue s.list.items c.args.segment (g.D.Disk.files c.args.disk.now) (subst (λ (q : ℕ). AreAt q (s.list.items ++ c.args.segment ∷ []) (g.D.Disk.files c.args.disk.now)) (sym c.requires.follows.own) at) c.requires.follows.next;
    }

pub push-requires : goal.push-requires
push-requires g c = let s = c.args.self.now in
    record {
      room = c.requires.follows.room;
      own = c.commit.ensures.same.queue ∙ c.requires.follows.own;
      next = subst (λ (n : ℕ). AreBelow n s.list.items) (sym c.commit.ensures.same.number) c.requires.follows.next;
    }

pub returns-clause-at : goal.returns-clause-at
returns-clause-at g c = λ told.
    let d = g.D.Disk in
    let s = c.args.self.now in
    subst (λ (ps : List QueueSegment). AreAt s.queue ps (d.files c.commit.new.disk)) (sym c.push.ensures.list)
    (last_changed s.queue s.list.items c.args.segment c.commit.new.self (d.files c.args.disk.now) (d.files c.commit.new.disk) c.requires.follows.own c.commit.ensures.same.queue c.commit.ensures.same.number c.requires.follows.next (c.commit.ensures.touches told).others (c.in_ok-commit.ensures.knows told) (c.requires.at told))
