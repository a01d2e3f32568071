use Rattle.cq_queue.specs.Values.{value_of}
use Rattle.cq_queue_tests.proofs.Goes.{fit_empty, fit_goes}
use Rattle.cq_queue_tests.proofs.cores.filled.Goals as goal

pub commit_all-requires : goal.commit_all-requires
commit_all-requires g c =
    let d = g.D.Disk in
    let start = value_of c.vacant-core.result in
    record { fit = fit_goes 0 start (value_of c.publish_all.new.core) d.tells (d.files c.args.disk.now) (fit_empty 0 16 start d.tells (d.files c.args.disk.now) c.vacant-core.ensures c.requires) c.in_ok-publish_all.ensures }
