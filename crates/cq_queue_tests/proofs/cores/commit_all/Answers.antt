use Rattle.std.proofs.Common.{◌^◌, arith}
use Rattle.cq_queue.specs.Values.{value_of}
use Rattle.cq_queue_tests.proofs.Goes.{can_pass}
use Rattle.cq_queue_tests.proofs.cores.commit_all.Goals as goal

pub commit-requires-clause-can : goal.commit-requires-clause-can
commit-requires-clause-can g c = let l = c.loop-number in
    can_pass l.number (value_of l.core) g.D.Disk.tells (g.D.Disk.files l.disk) (omega (arith, c.loop-number-test.true)) l.invariant

pub loop-number-preserved : goal.loop-number-preserved
loop-number-preserved g c = let l = c.loop-number in
    let running = c.in_ok-commit.ensures.ok.same.running in
    record {
      running = running;
      numbers = c.in_ok-commit.ensures.numbers l.number l.invariant.numbers;
      at = λ told. c.commit.ensures.at told running;
    }
