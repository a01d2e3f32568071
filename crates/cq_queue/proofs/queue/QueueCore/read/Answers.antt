use Rattle.std.proofs.Common.{rules, ◌≡◌, ◌∙◌, ℕ, List, length, Option, Some, sym, ap, subst}
use Rattle.std.specs.Option.{option_copied}
use Rattle.std.specs.Prelude.{slice_get}
use Rattle.cq_disk.specs.declared.name.Name.{Name}
use Rattle.cq_disk.specs.File.{File}
use Rattle.cq_entry.specs.declared.entry.EntryKind.TheVariants.{Small}
use Rattle.cq_items.specs.Items.{waiting_items}
use Rattle.cq_items.specs.Item.{Item}
use Rattle.cq_small.specs.Record.{StandsIn}
use Rattle.cq_folder.specs.Queue.{content_in}
use Rattle.cq_queue.specs.declared.segments.Segments.{Segments}
use Rattle.cq_queue.specs.Calls.{list_of, queue_of}
use Rattle.cq_queue.specs.Lists.{place_in}
use Rattle.cq_queue.specs.Passing.{HasLength}
use Rattle.cq_queue.specs.QueueCalls.{IsBodyHeld}
use Rattle.cq_queue.specs.Tied.{IsQueueAt}
use Rattle.cq_queue.proofs.Changes.{some_same}
use Rattle.cq_queue.proofs.Goes.{found_within, within_get}
use Rattle.cq_queue.proofs.Bodies.{body_is_held, first_in, has_body, in_place, in_range, is_listed_there, is_whole, name_is}
use Rattle.cq_queue.proofs.Runs.{Tells}
use Rattle.cq_queue.proofs.queue.QueueCore.read.Goals as goal

pub unreachable-requires-in_default-place_of : goal.unreachable-requires-in_default-place_of
unreachable-requires-in_default-place_of g c =
    let s = c.args.self.now in
    let i = c.in-Some.first in
    let first : slice_get (waiting_items s.items.items) 0 ≡ Some i = sym c.first_item.ensures ∙ c.in-Some.is in
    is_listed_there s.items.items s.segments.list.items i c.in-Some-stand.stand (s.tied c.requires.can.running) (first_in s.items.items i first) (sym c.stand.ensures ∙ c.in-Some-stand.is) (sym c.place_of.ensures ∙ c.in_default-place_of.is)

pub read-requires-clause-can : goal.read-requires-clause-can
read-requires-clause-can g c =
    let s = c.args.self.now in
    let i = c.in-Some.first in
    let first : slice_get (waiting_items s.items.items) 0 ≡ Some i = sym c.first_item.ensures ∙ c.in-Some.is in
    let same : c.requires.can.first ≡ i = some_same c.requires.can.first i (sym c.requires.can.is_first ∙ first) in
    let found : place_in c.in-Some-stand.stand.segment s.segments.list.items ≡ Some c.in-Some-place_of.index = sym c.place_of.ensures ∙ c.in-Some-place_of.is in
    record {
      within = found_within s.segments.list.items c.in-Some-stand.stand.segment c.in-Some-place_of.index found;
      range = in_range s.items.items s.segments.list.items i c.in-Some-stand.stand (s.tied c.requires.can.running) (first_in s.items.items i first) (sym c.stand.ensures ∙ c.in-Some-stand.is) c.in-Some-place_of.index (length c.args.into.now) found
          (ap (λ (j : Item). j.kind) (sym same) ∙ c.requires.can.small) (ap (λ (j : Item). j.len) (sym same) ∙ c.requires.can.is_len);
    }

pub read-requires-clause-stands : goal.read-requires-clause-stands
read-requires-clause-stands g c = λ told.
    let s = c.args.self.now in
    let i = c.in-Some.first in
    let first : slice_get (waiting_items s.items.items) 0 ≡ Some i = sym c.first_item.ensures ∙ c.in-Some.is in
    let same : c.requires.can.first ≡ i = some_same c.requires.can.first i (sym c.requires.can.is_first ∙ first) in
    let found : place_in c.in-Some-stand.stand.segment s.segments.list.items ≡ Some c.in-Some-place_of.index = sym c.place_of.ensures ∙ c.in-Some-place_of.is in
    is_whole s.items.items s.segments.list.items i c.in-Some-stand.stand (s.tied c.requires.can.running) (first_in s.items.items i first) (sym c.stand.ensures ∙ c.in-Some-stand.is) c.in-Some-place_of.index (length c.args.into.now) found
    (ap (λ (j : Item). j.kind) (sym same) ∙ c.requires.can.small) (ap (λ (j : Item). j.len) (sym same) ∙ c.requires.can.is_len) s.segments.queue s.segments.are (g.D.Disk.files c.args.disk.now) (c.requires.at told).stands

pub returns-in_err-read-clause-at : goal.returns-in_err-read-clause-at
returns-in_err-read-clause-at g c = λ told running.
    let d = g.D.Disk in
    let s = c.args.self.now in
    subst (λ (x : Segments). IsQueueAt (queue_of x) (list_of x) s.items.items (d.files c.read.new.disk)) (sym c.read.ensures.same)
    (subst (λ (f : Name → Option File). IsQueueAt (queue_of s.segments) (list_of s.segments) s.items.items f) (sym (λ j n. (c.read.ensures.reads told).files n j)) (c.requires.at told))

pub returns-in-Some-stand-clause-at : goal.returns-in-Some-stand-clause-at
returns-in-Some-stand-clause-at g c = λ told running.
    let d = g.D.Disk in
    let s = c.args.self.now in
    subst (λ (x : Segments). IsQueueAt (queue_of x) (list_of x) s.items.items (d.files c.read.new.disk)) (sym c.read.ensures.same)
    (subst (λ (f : Name → Option File). IsQueueAt (queue_of s.segments) (list_of s.segments) s.items.items f) (sym (λ j n. (c.read.ensures.reads told).files n j)) (c.requires.at told))

pub returns-in-Some-stand-clause-body : goal.returns-in-Some-stand-clause-body
returns-in-Some-stand-clause-body g c = λ told other is some.
    let d = g.D.Disk in
    let t : Tells d = record { only = g.met.D.Disk.now_only told; each = g.met.D.Disk.now_each told; readable = g.met.D.Disk.reads_left told } in
    let s = c.args.self.now in
    let i = c.in-Some.first in
    let st = c.in-Some-stand.stand in
    let k = c.in-Some-place_of.index in
    let files = d.files c.args.disk.now in
    let first : slice_get (waiting_items s.items.items) 0 ≡ Some i = sym c.first_item.ensures ∙ c.in-Some.is in
    let there = first_in s.items.items i first in
    let same : c.requires.can.first ≡ i = some_same c.requires.can.first i (sym c.requires.can.is_first ∙ first) in
    let found : place_in st.segment s.segments.list.items ≡ Some k = sym c.place_of.ensures ∙ c.in-Some-place_of.is in
    let small : i.kind ≡ Small = ap (λ (j : Item). j.kind) (sym same) ∙ c.requires.can.small in
    let len_is : i.len ≡ length c.args.into.now = ap (λ (j : Item). j.len) (sym same) ∙ c.requires.can.is_len in
    let tied = s.tied c.requires.can.running in
    let p = within_get s.segments.list.items k (found_within s.segments.list.items st.segment k found) in
    let name = name_is s.items.items s.segments.list.items i st tied there (sym c.stand.ensures ∙ c.in-Some-stand.is) k (length c.args.into.now) found small len_is s.segments.queue s.segments.are files (c.requires.at told).stands p.0 p.1 in
    let stands = subst (λ (m : Name). StandsIn (content_in (files m)) st.place c.read.new.into) (sym name) (c.in_ok-read.ensures.body told p.0 p.1) in
    let long : length c.read.new.into ≡ length c.args.into.now = search rules in
    subst (λ (x : ℕ). IsBodyHeld s.segments.queue files x c.read.new.into) (ap (λ (j : Item). j.id) (sym same) ∙ c.requires.can.is_id)
    (body_is_held d t c.args.disk.now s.segments.queue i st c.read.new.into
    (in_place s.items.items s.segments.list.items i st tied there (sym c.stand.ensures ∙ c.in-Some-stand.is) k (length c.args.into.now) found small len_is s.segments.queue s.segments.are files (c.requires.at told).stands)
    small stands (long ∙ sym len_is))

pub unreachable-requires-in_default-body : goal.unreachable-requires-in_default-body
unreachable-requires-in_default-body g c =
    let s = c.args.self.now in
    let i = c.in-Some.first in
    let first : slice_get (waiting_items s.items.items) 0 ≡ Some i = sym c.first_item.ensures ∙ c.in-Some.is in
    let same : c.requires.can.first ≡ i = some_same c.requires.can.first i (sym c.requires.can.is_first ∙ first) in
    subst (λ (b : Option (List ℕ)). HasLength b i.len) (sym c.body.ensures ∙ ap option_copied c.in_default-body.is)
    (has_body s.items.items s.segments.list.items i (s.tied c.requires.can.running) (first_in s.items.items i first) (sym c.stand.ensures ∙ c.in_default-stand.is) (ap (λ (j : Item). j.kind) (sym same) ∙ c.requires.can.small))

pub copy_from_slice-requires : goal.copy_from_slice-requires
copy_from_slice-requires g c =
    let s = c.args.self.now in
    let i = c.in-Some.first in
    let first : slice_get (waiting_items s.items.items) 0 ≡ Some i = sym c.first_item.ensures ∙ c.in-Some.is in
    let same : c.requires.can.first ≡ i = some_same c.requires.can.first i (sym c.requires.can.is_first ∙ first) in
    let len_is : i.len ≡ length c.args.into.now = ap (λ (j : Item). j.len) (sym same) ∙ c.requires.can.is_len in
    let long : length c.in-Some-body.body.now ≡ i.len = subst (λ (b : Option (List ℕ)). HasLength b i.len) (sym c.body.ensures ∙ ap option_copied c.in-Some-body.is)
    (has_body s.items.items s.segments.list.items i (s.tied c.requires.can.running) (first_in s.items.items i first) (sym c.stand.ensures ∙ c.in_default-stand.is) (ap (λ (j : Item). j.kind) (sym same) ∙ c.requires.can.small)) in
    sym len_is ∙ sym long ∙ ap length (sym c.bytes.ensures.same)
