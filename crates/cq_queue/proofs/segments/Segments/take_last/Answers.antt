use Rattle.std.proofs.Common.{◌∙◌, ℕ, ◌++◌, ◌∷◌, [], sym, subst}
use Rattle.cq_queue.specs.Lists.{AreBelow, AreSame}
use Rattle.cq_queue.proofs.Changes.{same_push}
use Rattle.cq_queue.proofs.segments.Segments.take_last.Goals as goal

pub push-requires : goal.push-requires
push-requires c = let s = c.args.self.now in
    let same = c.reserve.ensures.same.number in
    record {
      room = c.requires.follows.room;
      own = same.queue ∙ c.requires.follows.own;
      next = subst (λ (n : ℕ). AreBelow n s.list.items) (sym same.number) c.requires.follows.next;
    }

pub returns-in-Err-clause-err : goal.returns-in-Err-clause-err
returns-in-Err-clause-err c = let s = c.args.self.now in
    subst (AreSame (s.list.items ++ c.args.last ∷ [])) (sym c.push.ensures.list) (same_push s.list.items c.args.last c.reserve.new.self c.reserve.ensures.same)
