use Rattle.std.proofs.Common.{◌≡◌, ◌∙◌, ◌≤◌, ℕ, Option, refl, sym, subst}
use Rattle.cq_disk.specs.declared.name.Name.{Name}
use Rattle.cq_disk.specs.File.{File}
use Rattle.cq_queue.specs.Opening.{AreJoined}
use Rattle.cq_queue.specs.Tied.{IsQueueAt}
use Rattle.cq_queue.proofs.Joining.{cant_open, joined_at, joined_found, joined_open, joined_segments}
use Rattle.cq_queue.proofs.Reading.{opened_tied}
use Rattle.cq_queue.proofs.queue.QueueCore.open.Goals as goal

pub of-requires : goal.of-requires
of-requires g c = joined_segments c.args.queue c.args.segments.items c.args.stores.items c.in_ok-list.list.items c.requires.files c.in_ok-list.ensures

pub find_all-requires-clause-rise : goal.find_all-requires-clause-rise
find_all-requires-clause-rise g c =
    let list = c.in_ok-segments.segments.list.items in
    let joined = subst (AreJoined c.args.segments.items c.args.stores.items) (sym c.in_ok-segments.ensures.list) c.in_ok-list.ensures in
    joined_segments c.args.queue c.args.segments.items c.args.stores.items list c.requires.files joined

pub find_all-requires-clause-at : goal.find_all-requires-clause-at
find_all-requires-clause-at g c = λ told.
    let list = c.in_ok-segments.segments.list.items in
    let joined = subst (AreJoined c.args.segments.items c.args.stores.items) (sym c.in_ok-segments.ensures.list) c.in_ok-list.ensures in
    joined_found c.args.queue c.args.segments.items c.args.stores.items list (g.D.Disk.files c.args.disk.now) c.requires.files joined (c.requires.at told) (c.requires.whole told)

pub invariant_of-result : goal.invariant_of-result
invariant_of-result g c =
    let list = c.in_ok-segments.segments.list.items in
    let joined = subst (AreJoined c.args.segments.items c.args.stores.items) (sym c.in_ok-segments.ensures.list) c.in_ok-list.ensures in
    record {
      few = subst (λ (n : ℕ). n ≤ 4096) (sym c.in_ok-segments.ensures.most) c.requires.length.high;
      tied = λ running. opened_tied g.D.Disk.tells c.args.queue (g.D.Disk.files c.args.disk.now) list c.find_all.new.items
          (joined_open c.args.queue c.args.segments.items c.args.stores.items list c.requires.files joined) c.in-Ok.ensures.found;
    }

pub returns-in-Ok-clause-ok : goal.returns-in-Ok-clause-ok
returns-in-Ok-clause-ok g c =
    let found = c.in-Ok.ensures.found in
    record {
      running = refl;
      queue = c.in_ok-segments.ensures.queue;
      most = c.in_ok-segments.ensures.most;
      reserved = found.reserved;
      joined = subst (AreJoined c.args.segments.items c.args.stores.items) (sym c.in_ok-segments.ensures.list) c.in_ok-list.ensures;
      listing = found.listing;
      found = found.found;
    }

pub returns-in-Ok-clause-at : goal.returns-in-Ok-clause-at
returns-in-Ok-clause-at g c = λ told. let d = g.D.Disk in
    let list = c.in_ok-segments.segments.list.items in
    let joined = subst (AreJoined c.args.segments.items c.args.stores.items) (sym c.in_ok-segments.ensures.list) c.in_ok-list.ensures in
    let same : d.files c.find_all.new.disk ≡ d.files c.args.disk.now = (λ j n. (c.in-Ok.ensures.reads told).files n j) in
    subst (λ (q : ℕ). IsQueueAt q list c.find_all.new.items.items (d.files c.find_all.new.disk)) (sym c.in_ok-segments.ensures.queue)
    (subst (IsQueueAt c.args.queue list c.find_all.new.items.items) (sym same) (record {
      segments = joined_at c.args.queue c.args.segments.items c.args.stores.items list (d.files c.args.disk.now) c.requires.files joined (c.requires.at told);
      stands = c.in-Ok.ensures.found.stands told;
    }))

pub returns-in-Err-clause-damaged : goal.returns-in-Err-clause-damaged
returns-in-Err-clause-damaged g c =
    let list = c.in_ok-segments.segments.list.items in
    let joined = subst (AreJoined c.args.segments.items c.args.stores.items) (sym c.in_ok-segments.ensures.list) c.in_ok-list.ensures in
    cant_open g.D.Disk.tells c.args.queue c.args.segments.items c.args.stores.items list c.requires.files joined c.in-Err.error c.in-Err.ensures.damaged
