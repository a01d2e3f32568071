use Rattle.std.proofs.Common.{◌≡◌, inr, ◌+◌, arith}
use Rattle.cq_disk_tests.proofs.segments.three.Goals as goal

pub returns-in-Ok-clause-present : goal.returns-in-Ok-clause-present
returns-in-Ok-clause-present g c = λ k lt.
    let none : c.create.new.self.count ≡ 0 = c.create.ensures.same.count in
    let grows = c.in-Ok.ensures.shown.1 in
    let all : c.add.new.self.count ≡ c.create.new.self.count + 3 = grows.count in
    (grows.present k).1 (inr (omega (arith, none), omega (arith, lt, none, all)))
