use Rattle.std.proofs.Common.{◌≡◌, ◌++◌, ◌∷◌, [], arith, ⊎_elim}
use Rattle.std.specs.Prelude.{codes}
use Rattle.cq_io.specs.declared.status.Status.TheVariants as status
use Rattle.cq_replay.specs.Played.{HasFailed}
use Rattle.cq_replay.specs.Sessions.{texts_of}
use Rattle.cq_replay.proofs.Endings.{on_less}
use Rattle.cq_replay.proofs.UpTo.{adds_then}
use Rattle.cq_replay.proofs.Tops.{was_served, output_was, fault_was}
use Rattle.cq_replay.proofs.top.served.Goals as goal

pub returns-clause-held : goal.returns-clause-held
returns-clause-held g c =
    let end = c.play-ending.result.ending in
    let answer = c.last_line-status.result in
    let w = g.W.Sink in
    record {
      held = λ ok. (c.play-ending.ensures.served (was_served end answer c.last_line-status.ensures.status ok)).held;
      texts = λ ok. adds_then (w.pieces c.args.sink.now) (w.pieces c.play-ending.new.sink) (w.pieces c.last_line-status.new.sink) (texts_of 0 c.play-ending.result.sessions.items) ((codes "ok" ++ 10 ∷ []) ∷ [])
          (c.play-ending.ensures.served (was_served end answer c.last_line-status.ensures.status ok)).texts (c.last_line-status.ensures.ok ok);
      left = c.play-ending.ensures.left;
    }

pub returns-clause-causes : goal.returns-clause-causes
returns-clause-causes g c =
    let end = c.play-ending.result.ending in
    let answer = c.last_line-status.result in
    let line = c.last_line-status.ensures in
    let puts = c.play-ending.ensures.puts in
    record {
      disk = on_less g.C.Disk c.args.scratch c.play-ending.result.scratch (HasFailed end) (answer ≡ status.DiskFault) (fault_was end answer line.status) c.play-ending.ensures.ends.ran;
      sink = record {
        later = omega (arith, puts.later, line.later);
        cause = λ is. ⊎_elim (λ text. (let rose = puts.cause text in omega (arith, rose, line.later))) (λ last. (let rose = line.output last is in omega (arith, rose, puts.later))) (output_was end answer line.status is);
      };
    }
