use Rattle.std.proofs.Common.{◌≡◌, ◌++◌, ◌∷◌, [], cond, true, List, ℕ, length, take, sym, ap, ◌∙◌, arith}
use Rattle.std.specs.Prelude.{Option, None, Some}
use Rattle.std.proofs.lemmas.List.{get_or_read, take_all}
use Rattle.cq_items.specs.Item.{Item}
use Rattle.cq_items.specs.Items.{waits, out_for, settles}
use Rattle.cq_items.specs.Slots.{slot_at, passes, places}
use Rattle.cq_items.specs.Line.{put_in}
use Rattle.cq_items.specs.Outs.{find}
use Rattle.cq_items.proofs.Packed.{places-more, places-put, places-fit, IsNoted, out-listed, found-more, known-more, found-all}
use Rattle.cq_items.proofs.items.packing.renumber.Goals as goal

pub note_waiting-requires : goal.note_waiting-requires
note_waiting-requires c = λ h.
    let ss : List (Option Item) = c.args.slots.now.items in
    let read : c.index-slot.result.now ≡ slot_at ss c.loop-at.at = get_or_read ss c.loop-at.at c.index-slot.result.now (omega arith) c.index-slot.ensures None in
    let there : passes waits (slot_at ss c.loop-at.at) ≡ true = sym (ap (passes waits) read) ∙ h in
    omega (arith, places-fit waits ss c.loop-at.at (omega arith) there, ap length c.loop-at.invariant.waiting_is, c.requires.waiting_fits, c.loop-at.invariant.waiting_room)

pub note_out-requires : goal.note_out-requires
note_out-requires c = λ a b h.
    let ss : List (Option Item) = c.args.slots.now.items in
    let read : c.index-slot.result.now ≡ slot_at ss c.loop-at.at = get_or_read ss c.loop-at.at c.index-slot.result.now (omega arith) c.index-slot.ensures None in
    c.loop-at.invariant.known a b ∙ out-listed ss c.loop-at.at a b (sym (ap (passes (out_for a b)) read) ∙ h)

pub note_settling-requires : goal.note_settling-requires
note_settling-requires c = λ h.
    let ss : List (Option Item) = c.args.slots.now.items in
    let read : c.index-slot.result.now ≡ slot_at ss c.loop-at.at = get_or_read ss c.loop-at.at c.index-slot.result.now (omega arith) c.index-slot.ensures None in
    let there : passes settles (slot_at ss c.loop-at.at) ≡ true = sym (ap (passes settles) read) ∙ h in
    omega (arith, places-fit settles ss c.loop-at.at (omega arith) there, ap length c.loop-at.invariant.gone_is, c.requires.gone_fits, c.loop-at.invariant.gone_room)

pub loop-at-preserved : goal.loop-at-preserved
loop-at-preserved c =
    let ss : List (Option Item) = c.args.slots.now.items in
    let at : ℕ = c.loop-at.at in
    let read : c.index-slot.result.now ≡ slot_at ss at = get_or_read ss at c.index-slot.result.now (omega arith) c.index-slot.ensures None in
    let noted : IsNoted ss c.loop-at.outs.held c.note_out.new.outs.held at = λ x y.
    c.note_out.ensures.places x y ∙ ap (λ (s : Option Item). cond (passes (out_for x y) s) (Some at) (find x y c.loop-at.outs.held)) read in
    record {
      waiting_is = c.note_waiting.ensures.items ∙ ap (λ ws. ws ++ cond (passes waits c.index-slot.result.now) (at ∷ []) []) c.loop-at.invariant.waiting_is
          ∙ ap (λ (s : Option Item). places waits 0 (take at ss) ++ cond (passes waits s) (at ∷ []) []) read ∙ sym (places-more waits ss at (omega arith));
      waiting_room = c.note_waiting.ensures.capacity ∙ c.loop-at.invariant.waiting_room;
      gone_is = c.note_settling.ensures.items ∙ ap (λ ws. cond (passes settles c.index-slot.result.now) (put_in at ws) ws) c.loop-at.invariant.gone_is
          ∙ ap (λ (s : Option Item). cond (passes settles s) (put_in at (places settles 0 (take at ss))) (places settles 0 (take at ss))) read ∙ sym (places-put settles ss at (omega arith));
      gone_room = omega (arith, c.note_settling.ensures.room, c.loop-at.invariant.gone_room);
      found = found-more ss c.loop-at.outs.held c.note_out.new.outs.held at c.requires.once c.loop-at.invariant.found noted;
      known = known-more ss c.loop-at.outs.held c.note_out.new.outs.held at c.loop-at.invariant.known noted;
      out_len = c.note_out.ensures.len ∙ c.loop-at.invariant.out_len;
      out_room = c.note_out.ensures.room ∙ c.loop-at.invariant.out_room;
    }

pub returns-clause-out : goal.returns-clause-out
returns-clause-out c = found-all c.args.slots.now.items c.loop-at.outs.held c.loop-at.at (omega arith) c.loop-at.invariant.found c.loop-at.invariant.known

pub returns-clause-gone : goal.returns-clause-gone
returns-clause-gone c = c.loop-at.invariant.gone_is ∙ ap (places settles 0) (take_all c.loop-at.at c.args.slots.now.items (omega arith))
