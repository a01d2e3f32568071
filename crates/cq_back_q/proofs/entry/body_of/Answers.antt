use Rattle.std.proofs.Common.{rules, [], refl, arith}
use Rattle.cq_small.specs.Store.{name_of as store_name}
use Rattle.cq_folder.specs.Held.{as_read}
use Rattle.cq_back_q.specs.Damage.WasUnfit.{Lacking}
use Rattle.cq_back_q.proofs.Taking.{lacks, unfit_at}
use Rattle.cq_back_q.proofs.entry.body_of.Goals as goal

pub returns-in-Ok-None-clause-damaged : goal.returns-in-Ok-None-clause-damaged
returns-in-Ok-None-clause-damaged g c =
    let files = g.D.Disk.files c.args.disk.now in
    let h = c.args.held.now in
    unfit_at g.D.Disk.tells (as_read files) h 24 c.broken.result (search rules) (omega arith) c.requires.next.valid (Lacking refl (search rules)) (λ told. (c.requires.told told).at)
    (λ told. lacks files h.queue h.segment h.at h.entry (store_name c.args.store.now) c.requires.next.named (search rules) (c.in-Ok-None.ensures.body.none (search rules) told))
