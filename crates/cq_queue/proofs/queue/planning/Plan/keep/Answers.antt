use Rattle.std.proofs.Common.{◌≡◌, ◌++◌, ◌∷◌, [], ◌∙◌, sym, ap, subst, arith, true}
use Rattle.cq_entry.specs.declared.entry.Entry.{Entry}
use Rattle.cq_entry.specs.declared.entry.EntryKind.{EntryKind}
use Rattle.cq_entry.specs.Entry.{IsEntry}
use Rattle.cq_queue.specs.declared.queue.planning.Plan.{Plan}
use Rattle.cq_queue.specs.Laid.{place_of}
use Rattle.cq_queue.specs.Planning.{IsReadBack}
use Rattle.cq_queue.proofs.queue.planning.Plan.keep.Goals as goal

pub entry_of-entry-requires : goal.entry_of-entry-requires
entry_of-entry-requires c =
    let i = c.args.item.now in
    let e : Entry = record { kind = i.kind; len = i.len; id = i.id; place = c.in_ok-place.place } in
    let told : Entry = record { kind = c.kind.result; len = c.len.result; id = c.id.result; place = c.in_ok-place.place } in
    let same : e ≡ told = sym (λ j. record { kind = c.kind.ensures j; len = c.len.ensures j; id = c.id.ensures j; place = c.in_ok-place.place }) in
    subst IsEntry same (record { short = c.requires.ready.short; named = c.requires.ready.named; unplaced = λ shared. c.in_ok-place.ensures.place_is ∙ ap (λ (k : EntryKind). place_of k c.args.self.now.end) shared })

pub returns : goal.returns
returns c =
    let r = c.in_ok-place.ensures in
    let i = c.args.item.now in
    record {
      passed = c.in_ok-push-2.ensures.items ∙ (λ j. (r.plan j).passed.items ++ record { id = c.id-2.ensures j; kept = true } ∷ []);
      entries = c.in_ok-push.ensures.items ∙ (λ j. (r.plan j).entries.items ++ c.entry_of-entry.ensures.same j ∷ []) ∙ (λ j. c.args.self.now.entries.items ++ record { kind = c.kind.ensures j; len = c.len.ensures j; id = c.id.ensures j; place = r.place_is j } ∷ []);
      records = ap (λ (p : Plan). p.records) r.plan;
      room = (let e = ap (λ (p : Plan). p.room) r.plan in omega (arith, e, c.requires.room));
      end = ap (λ (p : Plan). p.end) r.plan;
      present = subst IsReadBack (c.entry_of-entry.ensures.same ∙ (λ j. record { kind = c.kind.ensures j; len = c.len.ensures j; id = c.id.ensures j; place = r.place_is j })) c.entry_of-entry.ensures.present;
    }
