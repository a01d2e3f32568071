use Rattle.std.proofs.Common.{rules, ◌∙◌, not}
use Rattle.std.specs.Prelude.{◌==◌}
use Rattle.std.proofs.lemmas.Fn.{filter_same}
use Rattle.cq_block.specs.declared.layout.Block.{Block}
use Rattle.cq_rdq.proofs.Listing.{among_filter, chain_stands}
use Rattle.cq_rdq.proofs.list.listed.Goals as goal

pub returns-clause-records : goal.returns-clause-records
returns-clause-records c = record {
  blocks = c.in_ok-blocks.blocks.items;
  chain = c.in_ok-blocks.ensures.chain;
  are = filter_same _ (λ (b : Block). not (b.id == 0)) _ (λ x b f' k. search rules) _ _ c.retain.ensures.filtered ∙ among_filter c.in_ok-blocks.blocks.items;
}

pub returns-clause-stand : goal.returns-clause-stand
returns-clause-stand c = chain_stands c.args.content.now c.retain.new.self.items (returns-clause-records c)
