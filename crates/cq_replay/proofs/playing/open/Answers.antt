use Rattle.std.proofs.Common.{◌≡◌, refl}
use Rattle.cq_disk.specs.RunLemmas.{unfused_on}
use Rattle.cq_disk.specs.declared.disk.OpenError.TheVariants as error
use Rattle.cq_replay.specs.declared.playing.Ending.TheVariants as ending
use Rattle.cq_replay.specs.Played.{HasFailed}
use Rattle.cq_replay.proofs.Endings.{on_none, on_less, memory_ends}
use Rattle.cq_folder.proofs.Images.{reads_image}
use Rattle.cq_replay.proofs.Ready.{room_after, not_broken, unopened_fault, unopened_was, not_in_session, agrees_same, agrees_then}
use Rattle.cq_replay.proofs.playing.open.Goals as goal

pub returns-in_default-clause-agrees : goal.returns-in_default-clause-agrees
returns-in_default-clause-agrees g c = λ past agrees image is. agrees_same (g.C.Disk.files c.args.scratch) c.requires.ready.settled past agrees image is

pub invariant_of-result-clause-few : goal.invariant_of-result-clause-few
invariant_of-result-clause-few g c =
    let d = g.C.Disk in
    let told = g.met.C.Crashable.told in
    let node = c.in-Ok-open.node in
    let opened = c.in-Ok-open.ensures in
    room_after (d.files c.args.scratch) (d.fuse c.args.scratch) c.args.rest.items c.args.rest.items c.requires.ready node.opened (d.moment node.store.disk) node.core.entries node.waiting
    (reads_image (d.files c.args.scratch) (g.met.C.Disk.reads_left told c.args.scratch)) (opened.entries told) opened.opened opened.requests refl

pub unopened-requires : goal.unopened-requires
unopened-requires g c =
    let d = g.C.Disk in
    not_broken (d.files c.args.scratch) (d.fuse c.args.scratch) c.args.rest.items c.requires.ready d.tells g.met.C.Crashable.told c.in-Err.field-0.error c.in-Err.ensures.refuses

pub returns-in-Ok-open-clause-found : goal.returns-in-Ok-open-clause-found
returns-in-Ok-open-clause-found g c = (c.in-Ok-open.ensures.held g.met.C.Crashable.told).held

pub returns-in-Err-clause-between : goal.returns-in-Err-clause-between
returns-in-Err-clause-between g c =
    let d = g.C.Disk in
    let whole = not_broken (d.files c.args.scratch) (d.fuse c.args.scratch) c.args.rest.items c.requires.ready d.tells g.met.C.Crashable.told c.in-Err.field-0.error c.in-Err.ensures.refuses in
    not_in_session c.in-Err.field-0.error c.unopened.result whole c.unopened.ensures.fault c.unopened.ensures.memory

pub returns-in-Err-clause-agrees : goal.returns-in-Err-clause-agrees
returns-in-Err-clause-agrees g c = λ past agrees image is.
    let d = g.C.Disk in
    let told = g.met.C.Crashable.told in
    let start = c.args.scratch in
    let back = c.in-Err.field-0.disk in
    agrees_then (d.files start) c.requires.ready.settled past agrees d.moment d.left start back (d.files back) (λ image later is. g.met.C.Disk.now_each told back (d.moment start) image later is) (λ lines still. (c.in-Err.ensures.meanwhile lines told still).1) image is

pub returns-in-Ok-open-clause-ran : goal.returns-in-Ok-open-clause-ran
returns-in-Ok-open-clause-ran g c =
    let d = g.C.Disk in
    unfused_on d c.args.scratch c.in-Ok-open.node.store.disk ⊥ c.requires.ready.no_fuse c.in-Ok-open.ensures.ran

pub returns-in_default-clause-ends : goal.returns-in_default-clause-ends
returns-in_default-clause-ends g c = memory_ends g.C.Disk c.args.scratch c.args.scratch ending.Memory refl (on_none g.C.Disk c.args.scratch)

pub returns-in-Err-clause-ends : goal.returns-in-Err-clause-ends
returns-in-Err-clause-ends g c =
    let d = g.C.Disk in
    let start = c.args.scratch in
    let back = c.in-Err.field-0.disk in
    let whole = not_broken (d.files start) (d.fuse start) c.args.rest.items c.requires.ready d.tells g.met.C.Crashable.told c.in-Err.field-0.error c.in-Err.ensures.refuses in
    record {
      fault = unopened_fault c.in-Err.field-0.error c.unopened.result whole c.unopened.ensures.fault c.unopened.ensures.memory;
      ran = on_less d start back (c.in-Err.field-0.error ≡ error.Fault) (HasFailed c.unopened.result) (unopened_was c.in-Err.field-0.error c.unopened.result whole c.unopened.ensures.fault c.unopened.ensures.memory)
          (unfused_on d start back (c.in-Err.field-0.error ≡ error.Fault) c.requires.ready.no_fuse c.in-Err.ensures.ran);
    }
