use Rattle.cq_node.proofs.Files.{index_as}
use Rattle.cq_node.proofs.queue_files.QueueFiles.reserve.Goals as goal

pub invariant_of-self : goal.invariant_of-self
invariant_of-self g c =
    let s = c.args.self.now in
    record { small_filed = s.small_filed; index_filed = λ running. index_as _ s.index c.reserve.new.self _ c.reserve.ensures.same (s.index_filed running); alone = s.alone }
