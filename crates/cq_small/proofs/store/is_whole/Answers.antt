use Rattle.std.proofs.Common.{◌≡◌, ◌≤◌, ◌+◌, Option, subst, arith, rules}
use Rattle.cq_small.proofs.Stores.{other_length, same_length}
use Rattle.cq_disk.specs.There.{there_among}
use Rattle.cq_gate.specs.Gate.{IsGate}
use Rattle.std.specs.Prelude.{slice_index}
use Rattle.std.specs.Int.{w32}
use Rattle.cq_bytes.specs.Field.{number_at}
use Rattle.cq_disk.specs.File.{File}
use Rattle.cq_disk.specs.Files.{Among}
use Rattle.cq_gate.specs.declared.gate.Gate.{Gate}
use Rattle.cq_small.proofs.store.is_whole.Goals as goal

pub returns-then-branch-len-clause-whole : goal.returns-then-branch-len-clause-whole
returns-then-branch-len-clause-whole g c = λ told.
    other_length _ c.args.gate.now c.args.place c.args.len c.in_ok-number.field-0 c.ranges.len.fits (there_among _ (IsGate c.args.gate.now) (c.requires told)) (c.in_ok-number.ensures.value told) (search rules)

pub returns-clause-whole : goal.returns-clause-whole
returns-clause-whole g c = λ told.
    let d = g.D.Disk in
    let gate = c.args.gate.now in
    let same : c.args.len ≡ c.in_ok-number.field-0 = search rules in
    let room : c.args.place + c.args.len + 5 ≤ gate.end = omega arith in
    let last = c.in_ok-byte.field-0 in
    let end = c.args.place + 4 + c.args.len in
    let in_gate : Among (d.files c.number.new.disk gate.name) (λ f. last ≡ slice_index f.reads end) = subst (λ (g' : Gate). Among (d.files c.number.new.disk g'.name) (λ f. last ≡ slice_index f.reads end)) c.in_ok-number.ensures.same (c.in_ok-byte.ensures.value told) in
    let byte : Among (d.files c.args.disk.now gate.name) (λ f. last ≡ slice_index f.reads end) = subst (λ (o : Option File). Among o (λ f. last ≡ slice_index f.reads end)) ((c.in_ok-number.ensures.reads told).files gate.name) in_gate in
    let number : Among (d.files c.args.disk.now gate.name) (λ f. c.args.len ≡ number_at w32 f.reads c.args.place) = rw same (c.in_ok-number.ensures.value told) in
    same_length (d.files c.args.disk.now gate.name) gate c.args.place c.args.len last c.ranges.len.fits (λ f is. (g.met.D.Disk.reads_left told c.args.disk.now gate.name f is).bytes) (omega arith) room (there_among _ (IsGate gate) (c.requires told)) number byte
