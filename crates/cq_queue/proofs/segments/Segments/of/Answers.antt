use Rattle.std.proofs.Common.{◌≡◌, ◌<◌, ◌∙◌, ℕ, length, take, Some, refl, sym, ap, subst, arith}
use Rattle.std.specs.Prelude.{slice_get}
use Rattle.std.proofs.lemmas.Option.{slice_get_read}
use Rattle.cq_queue.specs.Ascending.{Ascend}
use Rattle.cq_queue.specs.Lists.{put_empty}
use Rattle.cq_queue.proofs.Emptied.{empties_ascend, empties_next, few_taken, rise_take}
use Rattle.cq_queue.proofs.segments.Segments.of.Goals as goal

pub list_empty-requires-clause-rise : goal.list_empty-requires-clause-rise
list_empty-requires-clause-rise c =
    let ps = c.args.list.items in
    let i = c.loop-index.index in
    subst Ascend (sym c.loop-index.invariant.numbers) (empties_ascend (take i ps) (rise_take ps i c.requires.1))

pub list_empty-requires-clause-room : goal.list_empty-requires-clause-room
list_empty-requires-clause-room c =
    let ps = c.args.list.items in
    let i = c.loop-index.index in
    let within : i < length ps = omega (arith, c.loop-index-test.true, c.len-index-end.ensures) in
    let few = few_taken ps i within in
    let same = ap length c.loop-index.invariant.numbers in
    let room = c.loop-index.invariant.room in
    omega (arith, few, same, room)

pub loop-index-preserved : goal.loop-index-preserved
loop-index-preserved c =
    let ps = c.args.list.items in
    let i = c.loop-index.index in
    let x = c.index.result.now in
    let within : i < length ps = omega (arith, c.loop-index-test.true, c.len-index-end.ensures) in
    let is : slice_get ps i ≡ Some x = slice_get_read ps (length ps) i x refl within c.index.ensures in
    let room = c.loop-index.invariant.room in
    let capacity = c.list_empty.ensures.capacity in
    record {
      numbers = c.list_empty.ensures.items ∙ ap (put_empty x) c.loop-index.invariant.numbers ∙ empties_next ps i x c.requires.1 is;
      room = omega (arith, room, capacity);
    }
