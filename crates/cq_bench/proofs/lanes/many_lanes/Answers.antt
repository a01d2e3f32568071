use Rattle.std.proofs.Common.{◌≡◌, ◌≤◌, ◌∙◌, ℕ, List, [], length, get_or, sym, ap, subst, le_refl}
use Rattle.std.proofs.lemmas.List.{get_or-map}
use Rattle.cq_inbox.specs.declared.request.Request.{Request}
use Rattle.cq_lane.specs.Lanes.{OneSender, sent_by}
use Rattle.cq_bench.proofs.lanes.many_lanes.Goals as goal

pub beside_many-requires-clause-few : goal.beside_many-requires-clause-few
beside_many-requires-clause-few g c κs within = λ k d near.
    let senders : List OneSender = c.in_ok-made.made.senders.items in
    let none : sent_by (get_or senders k d) ≡ [] = sym (get_or-map sent_by senders k d [] near) ∙ (c.in_ok-made.ensures.fresh k).0 in
    subst (λ (n : ℕ). n ≤ 0) (sym (ap (λ (l : List Request). length l) none)) (le_refl 0)
