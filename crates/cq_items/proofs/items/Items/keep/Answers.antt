use Rattle.std.proofs.Common.{◌≡◌, List, length, sym, ap, ◌∙◌, subst, arith, length-set}
use Rattle.std.specs.Prelude.{Option, option_map}
use Rattle.cq_items.specs.Item.{Item}
use Rattle.cq_items.specs.Items.{decide, MayKeep, undecided_items}
use Rattle.cq_items.specs.Slots.{slot_at, alive}
use Rattle.cq_items.specs.Queue.{Queue}
use Rattle.cq_items.proofs.Steps.{room-enough}
use Rattle.cq_items.proofs.Decided.{head-kept, indexed-committed, committed-view}
use Rattle.cq_items.proofs.Unseen.{unseen-committed}
use Rattle.cq_items.proofs.items.Items.keep.Goals as goal

pub commit-requires : goal.commit-requires
commit-requires c = (head-kept _ _ c.self.invariant.0.is_split (subst (λ (v : Queue). MayKeep (undecided_items v.items)) (sym c.self.view_is) c.requires)).0.head.within

pub invariant_of-self : goal.invariant_of-self
invariant_of-self c =
    let t = head-kept _ _ c.self.invariant.0.is_split (subst (λ (v : Queue). MayKeep (undecided_items v.items)) (sym c.self.view_is) c.requires) in
    let ss : List (Option Item) = c.self.inside.slots.items in
    let same : length c.commit.new.slots.items ≡ length ss = ap length c.commit.ensures.slots ∙ length-set ss c.self.inside.first (option_map (decide c.args.stand) (slot_at ss c.self.inside.first)) in (
      rw c.commit.ensures.slots (indexed-committed c.args.stand _ _ _ _ _ t.0.item c.self.invariant.0 t.0.head t.1),
      room-enough c.self.invariant.1 _ _ _ _ _ _ _ _ _ (omega (arith, same)) (omega arith) (omega arith) (omega (arith, c.commit.ensures.capacity)) (omega arith) (omega arith) (omega arith),
      rw c.commit.ensures.slots (unseen-committed ss c.self.inside.unseen c.self.inside.first c.args.stand c.self.invariant.2 t.0.head.within),
    )

pub returns : goal.returns
returns c =
    let t = head-kept _ _ c.self.invariant.0.is_split (subst (λ (v : Queue). MayKeep (undecided_items v.items)) (sym c.self.view_is) c.requires) in
    rw (← c.self.view_is) (ap (λ (is : List Item). record { items = is; reserved = c.self.inside.reserved })
    (ap alive c.commit.ensures.slots ∙ committed-view c.args.stand _ _ t.0.item c.self.invariant.0.is_split t.0.head t.1))
