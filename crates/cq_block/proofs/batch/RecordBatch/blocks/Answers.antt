use Rattle.std.proofs.Common.{ℕ, List, ◌+◌, ◌++◌, length, subst}
use Rattle.cq_block.specs.Blocks.{Batch, IsChain, moved_by}
use Rattle.cq_block.specs.declared.layout.Block.{Block}
use Rattle.cq_block.proofs.Runs.{chain_longer}
use Rattle.cq_block.proofs.batch.RecordBatch.blocks.Goals as goal

pub returns-clause-appended : goal.returns-clause-appended
returns-clause-appended c =
    subst (λ (b : Batch). (content : List ℕ) (before : List Block) → IsChain content before → IsChain (content ++ b.bytes) (before ++ moved_by (128 + length content) b.blocks)) c.self.view_is
    (chain_longer c.self.inside.spelled.items c.self.inside.records.items c.self.invariant)
