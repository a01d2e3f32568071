use Rattle.std.proofs.Common.{◌∙◌, ℕ, Option, Some, false, true, sym, ap}
use Rattle.std.specs.Prelude.{is_some}
use Rattle.std.proofs.lemmas.Bool.{false≢true}
use Rattle.cq_disk.specs.declared.name.Name.{Name}
use Rattle.cq_entry.specs.declared.entry.Entry.{Entry}
use Rattle.cq_entry.specs.declared.entry.EntryKind.{EntryKind}
use Rattle.cq_index.specs.Places.{index_name}
use Rattle.cq_items.specs.declared.item.Stand.{Stand}
use Rattle.cq_queue.proofs.Reading.{fresh_stands, shown_is}
use Rattle.cq_queue.proofs.queue.QueueCore.fresh.Goals as goal

pub returns-in_default-stand : goal.returns-in_default-stand
returns-in_default-stand c = absurd (false≢true (sym (ap is_some (sym c.stand.ensures ∙ c.in_default-stand.is)) ∙ fresh_stands c.args.self.now.items.items c.args.at c.in-Some.item (sym c.in-Some.ensures)))

pub returns : goal.returns
returns c =
    let st : Stand = c.in-Some-stand.stand in
    let shown : EntryKind → ℕ → ℕ → Option (Name × ℕ × Entry) = λ k n i. Some (index_name c.args.self.now.segments.queue st.segment, st.at, record { kind = k; len = n; id = i; place = st.place }) in
    (λ j. shown (c.kind.ensures j) (c.len.ensures j) (c.id.ensures j)) ∙ sym (shown_is c.args.self.now.segments.queue c.args.self.now.items.items c.args.at c.in-Some.item c.in-Some-stand.stand (sym c.in-Some.ensures) (sym c.stand.ensures ∙ c.in-Some-stand.is))
