use Rattle.std.proofs.Common.{length, ap, arith}
use Rattle.cq_queue.proofs.Emptied.{empties_few}
use Rattle.cq_queue.proofs.segments.Segments.reserve_one.Goals as goal

pub overflow_sub-len : goal.overflow_sub-len
overflow_sub-len c = let s = c.args.self.now in
    let few = empties_few s.list.items in
    let same = ap length s.empty_are in
    let long_empty = s.empty.ok.0 in
    let long = s.list.ok.0 in
    omega (arith, few, same, long_empty, long, c.len.ensures, c.len-2.ensures, c.reserve.ensures.len)
