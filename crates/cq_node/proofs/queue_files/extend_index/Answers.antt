use Rattle.std.proofs.Common.{◌≡◌, ◌++◌, sym, ◌∙◌, subst, arith}
use Rattle.cq_disk.specs.declared.name.Name.{Name}
use Rattle.cq_disk.specs.File.{settled}
use Rattle.cq_gate.specs.Calls.{Moves, Touches}
use Rattle.cq_gate.specs.Format.{content}
use Rattle.cq_gate.specs.Gated.{KeepsOrAdds}
use Rattle.cq_index.specs.Calls.{TakesMore}
use Rattle.cq_index.specs.Places.{index_name, entries_bytes, Adds}
use Rattle.cq_index.specs.Segments.{count_of, IsSegment}
use Rattle.cq_index.proofs.Known.{filed, of_filed}
use Rattle.cq_node.proofs.Few.{few_more}
use Rattle.cq_folder.proofs.Images.{step_part}
use Rattle.cq_node.proofs.Agreeing.{index_steady, index_stands}
use Rattle.cq_node.proofs.queue_files.extend_index.Goals as goal

pub add-requires-clause-entries : goal.add-requires-clause-entries
add-requires-clause-entries g c = record { is_open = c.requires.open; some = c.requires.entries.0; valid = c.requires.entries.1; few = c.requires.few; reserved = c.requires.reserved }

pub add-requires-clause-segment : goal.add-requires-clause-segment
add-requires-clause-segment g c = λ told.
    subst (λ (n : Name). TakesMore c.args.index.now (g.D.Disk.files c.args.disk.now n)) (sym c.requires.named) (record { is = of_filed c.args.index.now _ (c.requires.knows told); bare = c.requires.bare told })

pub returns-in_err-add-clause-others : goal.returns-in_err-add-clause-others
returns-in_err-add-clause-others g c = λ told.
    let touches = subst (λ (n : Name). Touches g.D.Disk n c.args.disk.now c.add.new.disk (KeepsOrAdds 1 (entries_bytes c.args.entries.now))) c.requires.named (c.add.ensures.touches told) in
    touches.others

pub returns-clause-others : goal.returns-clause-others
returns-clause-others g c = λ told.
    let touches = subst (λ (n : Name). Touches g.D.Disk n c.args.disk.now c.add.new.disk (KeepsOrAdds 1 (entries_bytes c.args.entries.now))) c.requires.named (c.add.ensures.touches told) in
    touches.others

pub returns-in_err-add-clause-steady : goal.returns-in_err-add-clause-steady
returns-in_err-add-clause-steady g c = λ told past lines ms legal.
    let d = g.D.Disk in
    let touches = subst (λ (n : Name). Touches d n c.args.disk.now c.add.new.disk (KeepsOrAdds 1 (entries_bytes c.args.entries.now))) c.requires.named (c.add.ensures.touches told) in
    index_steady d.moment d.left d.files (g.met.D.Disk.now_only told) (g.met.D.Disk.now_each told) (g.met.D.Disk.reads_left told) c.args.disk.now c.add.new.disk c.args.entries.now touches.any_moment past lines ms legal

pub returns-clause-steady : goal.returns-clause-steady
returns-clause-steady g c = λ told past lines ms legal.
    let d = g.D.Disk in
    let touches = subst (λ (n : Name). Touches d n c.args.disk.now c.add.new.disk (KeepsOrAdds 1 (entries_bytes c.args.entries.now))) c.requires.named (c.add.ensures.touches told) in
    index_steady d.moment d.left d.files (g.met.D.Disk.now_only told) (g.met.D.Disk.now_each told) (g.met.D.Disk.reads_left told) c.args.disk.now c.add.new.disk c.args.entries.now touches.any_moment past lines ms legal

pub returns-clause-stands : goal.returns-clause-stands
returns-clause-stands g c = λ told past lines ms legal.
    let d = g.D.Disk in
    let entries = c.args.entries.now in
    let touches = subst (λ (n : Name). Touches d n c.args.disk.now c.add.new.disk (KeepsOrAdds 1 (entries_bytes entries))) c.requires.named (c.add.ensures.touches told) in
    let added = c.in_ok-add.ensures.ok told in
    index_stands d.moment d.left d.files (g.met.D.Disk.now_only told) (g.met.D.Disk.now_each told) (g.met.D.Disk.reads_left told) c.args.disk.now c.add.new.disk entries touches.any_moment past lines ms legal
    (subst (λ (n : Name). Moves d n c.args.disk.now c.add.new.disk (λ f k. content k.reads ≡ content f.reads ++ entries_bytes entries)) c.requires.named added.grown)
    (step_part _ _ (Adds (count_of c.args.index.now) entries) (λ f k. k ≡ settled k.reads) (λ f k x. x.all) (subst (λ (n : Name). Moves d n c.args.disk.now c.add.new.disk (Adds (count_of c.args.index.now) entries)) c.requires.named added.step))
    touches.others

pub returns-in_err-add-clause-more : goal.returns-in_err-add-clause-more
returns-in_err-add-clause-more g c = λ told n few.
    let d = g.D.Disk in
    let touches = subst (λ (n : Name). Touches d n c.args.disk.now c.add.new.disk (KeepsOrAdds 1 (entries_bytes c.args.entries.now))) c.requires.named (c.add.ensures.touches told) in
    few_more d.moment d.left d.files (g.met.D.Disk.now_each told) (g.met.D.Disk.reads_left told) c.args.disk.now c.add.new.disk (index_name 0 0) c.args.entries.now n touches.any_moment few

pub returns-clause-more : goal.returns-clause-more
returns-clause-more g c = λ told n few.
    let d = g.D.Disk in
    let touches = subst (λ (n : Name). Touches d n c.args.disk.now c.add.new.disk (KeepsOrAdds 1 (entries_bytes c.args.entries.now))) c.requires.named (c.add.ensures.touches told) in
    few_more d.moment d.left d.files (g.met.D.Disk.now_each told) (g.met.D.Disk.reads_left told) c.args.disk.now c.add.new.disk (index_name 0 0) c.args.entries.now n touches.any_moment few

pub returns-clause-file : goal.returns-clause-file
returns-clause-file g c =
    let d = g.D.Disk in
    let grows = c.in_ok-add.ensures.shown.1 in
    record {
      named = c.add.ensures.name ∙ c.requires.named;
      knows = λ told. filed c.add.new.self _ (subst (λ (n : Name). IsSegment c.add.new.self (d.files c.add.new.disk n)) c.requires.named (c.in_ok-add.ensures.ok told).is);
      bare = λ told there short. absurd (omega (arith, grows.len, short));
    }
