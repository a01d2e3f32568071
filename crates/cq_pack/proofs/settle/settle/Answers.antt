use Rattle.std.proofs.Common.{◌≡◌, ◌≢◌, ℕ, ◌+◌, ◌-◌, List, [], ◌∷◌, ◌++◌, length, vec_len, get_or, set, reverse, take, sym, ap, subst, ◌∙◌, arith, rules}
use Rattle.std.proofs.lemmas.List.{get_or_default, length-set}
use Rattle.cq_block.specs.declared.layout.Move.{Move}
use Rattle.cq_pack.specs.Packing.{IsPacking, end_of}
use Rattle.cq_pack.specs.Holes.{starts_before, sizes_before, IsLowest, NoneTakes}
use Rattle.cq_pack.proofs.Begun.{begun}
use Rattle.cq_pack.proofs.Going.{Going}
use Rattle.cq_pack.proofs.Moves.{front, last, Bounds, bounds, is_last, start_below, stops, Turn, turn_stops, turn_goes, answered}
use Rattle.cq_pack.proofs.settle.settle.Goals as goal

pub moves-init : goal.moves-init
moves-init c =
    let all = c.args.records.items in
    subst (λ (l : List Move). Going all all l c.in_ok-starts.starts.items c.in_ok-sizes.sizes) (sym c.new-moved.ensures.items)
    (subst (λ (l : List ℕ). Going all all [] l c.in_ok-sizes.sizes) (sym (c.in_ok-starts.ensures.0 ∙ ap (starts_before 128) c.deref.ensures.value))
    (subst (λ (l : List ℕ). Going all all [] (starts_before 128 all) l) (sym (c.in_ok-sizes.ensures ∙ c.in_ok-starts.ensures.1 ∙ ap (sizes_before 128) c.deref.ensures.value))
    (begun all c.requires)))

pub lowest-requires : goal.lowest-requires
lowest-requires c =
    let size : vec_len c.moves.standing ≡ length c.moves.standing.items = search rules in
    let is = is_last c.moves.standing.items c.index-last.result.now c.len.result c.moves.invariant.some (c.len.ensures ∙ size) c.index-last.ensures in
    let b : Bounds c.moves.standing.items c.moves.starts.items c.moves.sizes = bounds c.args.records.items c.moves.standing.items c.moves.moved.items c.moves.starts.items c.moves.sizes c.moves.invariant in
    omega (arith, b.ends, ap (λ (m : Move). m.len) is)

pub overflow_add-last : goal.overflow_add-last
overflow_add-last c =
    let size : vec_len c.moves.standing ≡ length c.moves.standing.items = search rules in
    let is = is_last c.moves.standing.items c.index-last.result.now c.len.result c.moves.invariant.some (c.len.ensures ∙ size) c.index-last.ensures in
    let b : Bounds c.moves.standing.items c.moves.starts.items c.moves.sizes = bounds c.args.records.items c.moves.standing.items c.moves.moved.items c.moves.starts.items c.moves.sizes c.moves.invariant in
    omega (arith, b.ends, ap (λ (m : Move). m.len) is, ap (λ (m : Move). m.to) is)

pub returns-in_default : goal.returns-in_default
returns-in_default c =
    let all = c.args.records.items in
    let size : vec_len c.moves.standing ≡ length c.moves.standing.items = search rules in
    let is = is_last c.moves.standing.items c.index-last.result.now c.len.result c.moves.invariant.some (c.len.ensures ∙ size) c.index-last.ensures in
    let refused : NoneTakes (last c.moves.standing.items).len c.moves.sizes = subst (λ (m : Move). NoneTakes m.len c.moves.sizes) is c.in_default.ensures in
    answered c.packing.result all (c.moves.standing.items ++ reverse c.moves.moved.items) (c.index-last.result.now.to + c.index-last.result.now.len) c.packing.ensures.moves c.packing.ensures.end
    (subst (λ (m : Move). IsPacking all (c.moves.standing.items ++ reverse c.moves.moved.items) (m.to + m.len)) (sym is)
    (stops all c.moves.standing.items c.moves.moved.items c.moves.starts.items c.moves.sizes c.moves.invariant refused))

pub overflow_add-to : goal.overflow_add-to
overflow_add-to c =
    let size : vec_len c.moves.standing ≡ length c.moves.standing.items = search rules in
    let is = is_last c.moves.standing.items c.index-last.result.now c.len.result c.moves.invariant.some (c.len.ensures ∙ size) c.index-last.ensures in
    let b : Bounds c.moves.standing.items c.moves.starts.items c.moves.sizes = bounds c.args.records.items c.moves.standing.items c.moves.moved.items c.moves.starts.items c.moves.sizes c.moves.invariant in
    let lowest : IsLowest (last c.moves.standing.items).len c.moves.sizes c.in-Some.hole = subst (λ (m : Move). IsLowest m.len c.moves.sizes c.in-Some.hole) is c.in-Some.ensures in
    let at = get_or_default c.moves.starts.items c.in-Some.hole c.index-to.result.now 0 (omega (arith, lowest.within, b.starts_len, b.sizes_len)) in
    omega (arith, b.ends, ap (λ (m : Move). m.len) is, c.index-to.ensures, at, start_below c.args.records.items c.moves.standing.items c.moves.moved.items c.moves.starts.items c.moves.sizes c.in-Some.hole c.moves.invariant lowest)

pub shrink-requires-clause-some : goal.shrink-requires-clause-some
shrink-requires-clause-some c =
    let size : vec_len c.moves.standing ≡ length c.moves.standing.items = search rules in
    let is = is_last c.moves.standing.items c.index-last.result.now c.len.result c.moves.invariant.some (c.len.ensures ∙ size) c.index-last.ensures in
    let b : Bounds c.moves.standing.items c.moves.starts.items c.moves.sizes = bounds c.args.records.items c.moves.standing.items c.moves.moved.items c.moves.starts.items c.moves.sizes c.moves.invariant in
    omega (arith, b.long, ap (λ (m : Move). m.len) is)

pub end-requires : goal.end-requires
end-requires c =
    let size : vec_len c.moves.standing ≡ length c.moves.standing.items = search rules in
    let b : Bounds c.moves.standing.items c.moves.starts.items c.moves.sizes = bounds c.args.records.items c.moves.standing.items c.moves.moved.items c.moves.starts.items c.moves.sizes c.moves.invariant in
    let rest : c.deref-in-moves.result.now ≡ front c.moves.standing.items = c.deref-in-moves.ensures.value ∙ c.pop.ensures.rest ∙ ap (λ n. take (n - 1) c.moves.standing.items) size in
    omega (arith, b.front_ends, ap end_of rest)

pub returns-then-new_end-end : goal.returns-then-new_end-end
returns-then-new_end-end c =
    let all = c.args.records.items in
    let size : vec_len c.moves.standing ≡ length c.moves.standing.items = search rules in
    let is = is_last c.moves.standing.items c.index-last.result.now c.len.result c.moves.invariant.some (c.len.ensures ∙ size) c.index-last.ensures in
    let rest : c.pop.new.self.items ≡ front c.moves.standing.items = c.pop.ensures.rest ∙ ap (λ n. take (n - 1) c.moves.standing.items) size in
    let left : vec_len c.pop.new.self ≡ length c.pop.new.self.items = search rules in
    let turn : Turn all c.moves.standing.items c.moves.moved.items c.moves.starts.items c.moves.sizes c.in-Some.hole c.index-last.result.now c.index-to.result.now c.index-new_end.result.now c.len-in-moves.result =
    record { going = c.moves.invariant; is = is; lowest = c.in-Some.ensures; at = c.index-to.ensures; count = c.len-in-moves.ensures ∙ left ∙ ap length rest; ends = c.index-new_end.ensures } in
    let apart : c.index-new_end.result.now ≢ end_of (front c.moves.standing.items) = λ e. c.if-new_end-end.true (e ∙ sym (c.end.ensures ∙ ap end_of (c.deref-in-moves.ensures.value ∙ rest))) in
    let moves : c.pop.new.self.items ++ reverse c.push.new.self.items ≡ front c.moves.standing.items ++ reverse (c.moves.moved.items ++ record c.index-last.result.now { to = c.index-to.result.now } ∷ []) =
    λ i. rest i ++ reverse (c.in_ok-push.ensures.items i) in
    answered c.packing-then-new_end-end.result all (c.pop.new.self.items ++ reverse c.push.new.self.items) c.index-new_end.result.now c.packing-then-new_end-end.ensures.moves c.packing-then-new_end-end.ensures.end
    (subst (λ (l : List Move). IsPacking all l c.index-new_end.result.now) (sym moves)
    (turn_stops all c.moves.standing.items c.moves.moved.items c.moves.starts.items c.moves.sizes c.in-Some.hole c.index-last.result.now c.index-to.result.now c.index-new_end.result.now c.len-in-moves.result turn apart))

pub moves-preserved : goal.moves-preserved
moves-preserved c =
    let all = c.args.records.items in
    let size : vec_len c.moves.standing ≡ length c.moves.standing.items = search rules in
    let is = is_last c.moves.standing.items c.index-last.result.now c.len.result c.moves.invariant.some (c.len.ensures ∙ size) c.index-last.ensures in
    let rest : c.pop.new.self.items ≡ front c.moves.standing.items = c.pop.ensures.rest ∙ ap (λ n. take (n - 1) c.moves.standing.items) size in
    let left : vec_len c.pop.new.self ≡ length c.pop.new.self.items = search rules in
    let turn : Turn all c.moves.standing.items c.moves.moved.items c.moves.starts.items c.moves.sizes c.in-Some.hole c.index-last.result.now c.index-to.result.now c.index-new_end.result.now c.len-in-moves.result =
    record { going = c.moves.invariant; is = is; lowest = c.in-Some.ensures; at = c.index-to.ensures; count = c.len-in-moves.ensures ∙ left ∙ ap length rest; ends = c.index-new_end.ensures } in
    let here : c.index-new_end.result.now ≡ end_of (front c.moves.standing.items) = c.if-new_end-end.false ∙ c.end.ensures ∙ ap end_of (c.deref-in-moves.ensures.value ∙ rest) in
    let goes = turn_goes all c.moves.standing.items c.moves.moved.items c.moves.starts.items c.moves.sizes c.in-Some.hole c.index-last.result.now c.index-to.result.now c.index-new_end.result.now c.len-in-moves.result turn here in
    let new = set c.moves.starts.items c.in-Some.hole (c.index-to.result.now + c.index-last.result.now.len) in
    let many : vec_len c.moves.starts ≡ length c.moves.starts.items = search rules in
    let starts : c.pop-in-moves.new.self.items ≡ take (length new - 1) new =
    c.pop-in-moves.ensures.rest ∙ ap (λ n. take (n - 1) new) (many ∙ sym (length-set c.moves.starts.items c.in-Some.hole (c.index-to.result.now + c.index-last.result.now.len))) in
    let left_sizes = set c.moves.sizes c.in-Some.hole (get_or c.moves.sizes c.in-Some.hole 0 - c.index-last.result.now.len) in
    let sizes : c.drop_last.new.self ≡ take (length left_sizes - 1) left_sizes = c.drop_last.ensures ∙ (λ i. take (length (c.in_ok-shrink.ensures i) - 1) (c.in_ok-shrink.ensures i)) in
    let moved = c.moves.moved.items ++ record c.index-last.result.now { to = c.index-to.result.now } ∷ [] in
    subst (λ (l : List Move). Going all l c.push.new.self.items c.pop-in-moves.new.self.items c.drop_last.new.self) (sym rest)
    (subst (λ (l : List Move). Going all (front c.moves.standing.items) l c.pop-in-moves.new.self.items c.drop_last.new.self) (sym c.in_ok-push.ensures.items)
    (subst (λ (l : List ℕ). Going all (front c.moves.standing.items) moved l c.drop_last.new.self) (sym starts)
    (subst (λ (l : List ℕ). Going all (front c.moves.standing.items) moved (take (length new - 1) new) l) (sym sizes) goes)))
