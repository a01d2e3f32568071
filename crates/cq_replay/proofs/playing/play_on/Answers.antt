use Rattle.cq_replay.specs.Played.{HasFailed}
use Rattle.cq_replay.proofs.Endings.{on_next}
use Rattle.cq_replay.proofs.playing.play_on.Goals as goal

pub returns-in-Err-clause-ends : goal.returns-in-Err-clause-ends
returns-in-Err-clause-ends g c =
    let i = c.loop-next.invariant in
    let over = c.in-Err.over in
    record {
      fault = c.in-Err.ensures.ends.fault;
      ran = on_next g.C.Disk c.args.pause.scratch c.loop-next.pause.scratch over.scratch ⊥ (HasFailed over.ending) (HasFailed over.ending) (λ has. has)
          (record { later = i.later; faults = i.faults_later; struck = i.struck_later; cause = λ no. absurd no; strike = λ no. absurd no; planned = i.planned }) c.in-Err.ensures.ends.ran;
    }
