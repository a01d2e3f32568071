use Rattle.std.proofs.Common.{List, IfOk, sym, subst}
use Rattle.cq_block.specs.declared.layout.Move.{Move}
use Rattle.cq_pack.specs.Packing.{ArePackable, IsPacking}
use Rattle.cq_pack.proofs.Begun.{packable}
use Rattle.cq_pack.proofs.Packed.{packed_answer}
use Rattle.cq_pack.proofs.pack.Goals as goal

pub settle-requires : goal.settle-requires
settle-requires c = subst ArePackable (sym c.in_ok-records.ensures) (packable c.args.blocks.now c.args.live.now c.requires)

pub returns-clause-laws : goal.returns-clause-laws
returns-clause-laws c =
    packed_answer c.settle.result c.args.blocks.now c.args.live.now c.requires
    (subst (λ (l : List Move). IfOk c.settle.result (λ p. IsPacking l p.moves.items p.new_end)) c.in_ok-records.ensures c.settle.ensures)
