use Rattle.std.proofs.Common.{◌≡◌, ◌∙◌, List, Option, Err, sym, subst, rules}
use Rattle.cq_disk.specs.declared.name.Name.{Name}
use Rattle.cq_disk.specs.File.{File}
use Rattle.cq_small.specs.declared.store.SmallStore.{SmallStore}
use Rattle.cq_index.specs.declared.segment.Segment.{Segment}
use Rattle.cq_folder.specs.Held.{as_read}
use Rattle.cq_folder.specs.Queue.{AreIndexesAt, AreStoresAt}
use Rattle.cq_back_q.specs.declared.found.FoundQueue.{FoundQueue}
use Rattle.cq_back_q.specs.Names.{AreNamesOf}
use Rattle.cq_back_q.specs.Found.{AreTaken}
use Rattle.cq_back_q.specs.Read.{AreReadIndexes, AreReadStores, HaveStood}
use Rattle.cq_back_q.proofs.Sounds.{is_sound}
use Rattle.cq_back_q.proofs.Same.{damaged_before, misread_before, same_files}
use Rattle.cq_back_q.proofs.open.open_queue.Goals as goal

pub open_stores-requires-clause-names : goal.open_stores-requires-clause-names
open_stores-requires-clause-names g c = λ told.
    let first = same_files (g.D.Disk.files c.args.disk.now) (g.D.Disk.files c.open_indexes.new.disk) ((c.in_ok-segments.ensures.reads told).files) in
    subst (λ (fs : Name → Option File). AreNamesOf c.args.queue fs c.args.names.now) (sym first) (c.requires.names told)

pub returns-in_err-stores-clause-damaged : goal.returns-in_err-stores-clause-damaged
returns-in_err-stores-clause-damaged g c =
    let is : c.from_residual-in_err-stores.result ≡ Err c.in_err-stores.field-0.0 = search rules in
    rw is (damaged_before g.D.Disk.tells c.args.queue (g.D.Disk.files c.args.disk.now) (g.D.Disk.files c.open_indexes.new.disk) (λ told. (c.in_ok-segments.ensures.reads told).files) c.in_err-stores.field-0.0 c.in_err-stores.ensures.damaged)

pub read_all-requires-clause-read : goal.read_all-requires-clause-read
read_all-requires-clause-read g c = λ told.
    let mid = g.D.Disk.files c.open_indexes.new.disk in
    let new = g.D.Disk.files c.open_stores.new.disk in
    let next = same_files mid new ((c.in_ok-stores.ensures.reads told).files) in
    let first = same_files (g.D.Disk.files c.args.disk.now) mid ((c.in_ok-segments.ensures.reads told).files) in
    record {
      indexes = subst (λ (ss : List Segment). AreReadIndexes c.args.queue ss new) (sym c.deref-2.ensures.value) (subst (λ (fs : Name → Option File). AreReadIndexes c.args.queue c.in_ok-segments.segments.items fs) (sym (next ∙ first)) (c.in_ok-segments.ensures.read told));
      smalls = subst (λ (ss : List Segment). AreReadStores c.args.queue ss c.deref-3.result.now new) (sym c.deref-2.ensures.value) (subst (λ (ts : List SmallStore). AreReadStores c.args.queue c.in_ok-segments.segments.items ts new) (sym c.deref-3.ensures.value)
          (subst (λ (ss : List Segment). AreReadStores c.args.queue ss c.in_ok-stores.stores.items new) c.deref.ensures.value (subst (λ (fs : Name → Option File). AreReadStores c.args.queue c.deref.result.now c.in_ok-stores.stores.items fs) (sym next) (c.in_ok-stores.ensures.read told))));
    }

pub returns-in_err-taken-clause-damaged : goal.returns-in_err-taken-clause-damaged
returns-in_err-taken-clause-damaged g c =
    let is : c.from_residual-in_err-taken.result ≡ Err c.in_err-taken.field-0.0 = search rules in
    rw is (misread_before g.D.Disk.tells c.args.queue (g.D.Disk.files c.args.disk.now) (g.D.Disk.files c.open_stores.new.disk)
    (λ told n. (c.in_ok-stores.ensures.reads told).files n ∙ (c.in_ok-segments.ensures.reads told).files n) c.in_err-taken.field-0.0 c.in_err-taken.ensures.damaged)

pub returns-clause-sound : goal.returns-clause-sound
returns-clause-sound g c = λ told.
    let old = g.D.Disk.files c.args.disk.now in
    let mid = g.D.Disk.files c.open_indexes.new.disk in
    let first = same_files old mid ((c.in_ok-segments.ensures.reads told).files) in
    let both = same_files mid (g.D.Disk.files c.open_stores.new.disk) ((c.in_ok-stores.ensures.reads told).files) ∙ first in
    let found : FoundQueue = record { segments = c.in_ok-segments.segments; stores = c.in_ok-stores.stores; held = c.in_ok-taken.taken.held; bodies = c.in_ok-taken.taken.bodies } in
    is_sound c.args.queue old (g.met.D.Disk.reads_left told c.args.disk.now) found c.in_ok-segments.ensures.indexes (c.in_ok-segments.ensures.read told)
    (subst (λ (fs : Name → Option File). AreReadStores c.args.queue c.in_ok-segments.segments.items c.in_ok-stores.stores.items fs) first
    (subst (λ (ss : List Segment). AreReadStores c.args.queue ss c.in_ok-stores.stores.items mid) c.deref.ensures.value (c.in_ok-stores.ensures.read told)))
    (subst (λ (ss : List Segment). AreTaken c.args.queue ss c.in_ok-taken.taken.held.items c.in_ok-taken.taken.bodies.items) c.deref-2.ensures.value c.in_ok-taken.ensures.taken)
    (subst (λ (fs : Name → Option File). HaveStood (as_read fs) c.in_ok-taken.taken.held.items c.in_ok-taken.taken.bodies.items) both (c.in_ok-taken.ensures.stand told))

pub returns-clause-at : goal.returns-clause-at
returns-clause-at g c = λ told.
    let old = g.D.Disk.files c.args.disk.now in
    let mid = g.D.Disk.files c.open_indexes.new.disk in
    let late = g.D.Disk.files c.open_stores.new.disk in
    let new = g.D.Disk.files c.read_all.new.disk in
    let last = same_files late new ((c.in_ok-taken.ensures.reads told).files) in
    let next = same_files mid late ((c.in_ok-stores.ensures.reads told).files) in
    let first = same_files old mid ((c.in_ok-segments.ensures.reads told).files) in
    record {
      indexes = subst (λ (fs : Name → Option File). AreIndexesAt c.args.queue c.in_ok-segments.segments.items fs) (sym (last ∙ next ∙ first)) (c.in_ok-segments.ensures.read told).at;
      smalls = subst (λ (fs : Name → Option File). AreStoresAt c.args.queue c.in_ok-segments.segments.items c.in_ok-stores.stores.items fs) (sym (last ∙ next))
          (subst (λ (ss : List Segment). AreStoresAt c.args.queue ss c.in_ok-stores.stores.items mid) c.deref.ensures.value (c.in_ok-stores.ensures.read told).at);
    }
