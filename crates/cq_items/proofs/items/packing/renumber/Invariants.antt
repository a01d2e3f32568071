use Rattle.std.proofs.Common.{◌≡◌, ◌≤◌, length, take}
use Rattle.cq_items.specs.Items.{waits, settles}
use Rattle.cq_items.specs.Slots.{places}
use Rattle.cq_items.proofs.Packed.{FindsBelow, AreKnown}
use Rattle.cq_items.proofs.items.packing.renumber.Given as goal

abbrev pub invariant-loop-at : goal.invariant-loop-at
invariant-loop-at l = record {
  waiting_is : l.waiting.items ≡ places waits 0 (take l.at l.slots.items);
  waiting_room : l.waiting.room ≡ l.fn.waiting.room;
  gone_is : l.gone.items ≡ places settles 0 (take l.at l.slots.items);
  gone_room : l.fn.gone.room ≤ l.gone.room;
  found : FindsBelow l.slots.items l.outs.held l.at;
  known : AreKnown l.slots.items l.outs.held;
  out_len : length l.outs.held ≡ length l.fn.outs.held;
  out_room : l.outs.room ≡ l.fn.outs.room;
}
