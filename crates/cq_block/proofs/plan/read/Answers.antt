use Rattle.std.proofs.Common.{◌∙◌, ◌+◌, arith}
use Rattle.std.specs.Int.{w64, w128}
use Rattle.cq_block.specs.Plans.{move_at}
use Rattle.cq_block.proofs.Fields.{read_field}
use Rattle.cq_block.proofs.plan.read.Goals as goal

pub returns : goal.returns
unfolding move_at
returns c = λ i. record {
  id = (c.unwrap_or.ensures ∙ read_field w128 c.args.bytes.now c.args.at c.take_u128.result c.take_u128.ensures (omega arith)) i;
  from = (c.unwrap_or-2.ensures ∙ read_field w64 c.args.bytes.now (c.args.at + 16) c.take_u64.result c.take_u64.ensures (omega arith)) i;
  to = (c.unwrap_or-3.ensures ∙ read_field w64 c.args.bytes.now (c.args.at + 24) c.take_u64-2.result c.take_u64-2.ensures (omega arith)) i;
  len = (c.unwrap_or-4.ensures ∙ read_field w64 c.args.bytes.now (c.args.at + 32) c.take_u64-3.result c.take_u64-3.ensures (omega arith)) i;
}
