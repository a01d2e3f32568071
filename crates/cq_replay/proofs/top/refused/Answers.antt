use Rattle.std.proofs.Common.{refl, subst, ◌∙◌}
use Rattle.cq_io.specs.Streams.{PutAdds}
use Rattle.cq_replay.specs.Outcomes.{refusal_of}
use Rattle.cq_replay.proofs.Tops.{took_line}
use Rattle.cq_replay.proofs.top.refused.Goals as goal

pub returns-clause-refused : goal.returns-clause-refused
returns-clause-refused g c =
    let w = g.W.Sink in
    record {
      none = c.new.ensures.items;
      same = refl;
      line = took_line w c.args.sink.now c.put.new.self c.put.result (refusal_of c.args.status)
          (subst (λ line. PutAdds (w.pieces c.args.sink.now) (w.pieces c.put.new.self) c.put.result line) (c.as_bytes.ensures.value ∙ c.refusal.ensures) c.put.ensures.pieces) c.put.ensures.cause;
    }
