use Rattle.std.proofs.Common.{rules, ◌≡◌, true, false, refl, sym, ◌∙◌, arith}
use Rattle.cq_bytes.specs.Numbers.{contains}
use Rattle.cq_folder.specs.Held.{as_read}
use Rattle.cq_back_q.specs.Found.{ids_of}
use Rattle.cq_back_q.specs.Damage.WasUnfit.{Repeated}
use Rattle.cq_back_q.proofs.Taking.{repeats, takes_more, unfit_at}
use Rattle.cq_back_q.proofs.entry.take_in.Goals as goal

pub returns-then-not-branch-clause-damaged : goal.returns-then-not-branch-clause-damaged
returns-then-not-branch-clause-damaged g c =
    let image = as_read (g.D.Disk.files c.args.disk.now) in
    let h = c.args.next in
    let taken = c.args.reader.now.taken in
    let has : contains (ids_of taken.held.items) h.entry.id ≡ true = sym (c.requires.read.read.ids h.entry.id) ∙ (search rules) in
    unfit_at g.D.Disk.tells image h 8 c.broken.result (search rules) (omega arith) c.requires.next.valid (Repeated refl) (λ told. (c.requires.told told).at)
    (λ told. repeats h.queue image h.segment h.at h.entry taken.held.items taken.bodies.items c.requires.read.read.fit (c.requires.read.read.stand told) c.requires.read.before has)

pub returns-in_ok-push-in-Ok-2-clause-taken : goal.returns-in_ok-push-in-Ok-2-clause-taken
returns-in_ok-push-in-Ok-2-clause-taken g c =
    let h = c.args.next in
    let taken = c.args.reader.now.taken in
    let is_new : contains (ids_of taken.held.items) h.entry.id ≡ false = sym (c.requires.read.read.ids h.entry.id) ∙ (search rules) in
    takes_more g.D.Disk.tells h.queue (g.D.Disk.files c.args.disk.now) taken _ h c.in-Ok.body c.requires.read.read is_new (search rules) (search rules) (search rules) (search rules) (search rules)
