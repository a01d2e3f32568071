use Rattle.std.proofs.Common.{◌≡◌, false, Ok, IsErrOf, ℕ, ◌≤◌, ◌<◌, ◌+◌, ◌-◌, List, length, subst, refl, sym, ap, ◌∙◌, arith}
use Rattle.std.specs.Prelude.{All}
use Rattle.cq_folder.specs.Holding.{joined}
use Rattle.std.specs.List.{AllByRecursion, AllZip}
use Rattle.std.proofs.Math.Logic.{∥∥₁_elim, ∥∥₁_map}
use Rattle.std.proofs.lemmas.Bool.{false≢true}
use Rattle.cq_disk.specs.Run.{Ran}
use Rattle.cq_entry.specs.Entry.{IsEntry}
use Rattle.cq_small.specs.Record.{HasRecord, StandsIn}
use Rattle.cq_small.specs.Store.{small_name, len_of as small_len, end_of, gate_of as small_gate}
use Rattle.cq_index.specs.Segments.{gate_of}
use Rattle.cq_index.specs.Places.{index_name}
use Rattle.cq_inbox.specs.Requests.{publishes}
use Rattle.cq_journal.specs.Asks.{asks, replies}
use Rattle.cq_journal.specs.Confirms.{confirmed}
use Rattle.cq_journal.specs.History.{line}
use Rattle.cq_journal.specs.Legal.{delivered}
use Rattle.cq_folder.specs.Held.{as_read, Held}
use Rattle.cq_folder.specs.Steady.{Steady, Steady-prop}
use Rattle.cq_folder.specs.Standing.{Standing, confirm_all}
use Rattle.cq_core.specs.declared.queue.RecordPlace.{RecordPlace}
use Rattle.cq_core.specs.Answers.{AddsSince}
use Rattle.cq_core.specs.Batch.{IsBatch}
use Rattle.cq_core.specs.Core.{undecided, AddsConfirmsAlone, HasReplies, IsWritable}
use Rattle.cq_back.specs.Folder.{no_sharing}
use Rattle.cq_core.specs.Stored.{IsPlaceOf, stored, unstored, stored_count, records_of, spots_of, passes, content_in}
use Rattle.cq_core.proofs.Counts.{published-asked}
use Rattle.cq_core.proofs.Laid.{length-spots, count-entries}
use Rattle.cq_core.proofs.Passing.{passed_stand}
use Rattle.cq_core.proofs.Stands.{spots-match}
use Rattle.cq_node.specs.Agreeing.{stored_lines, WillJoin}
use Rattle.cq_node.specs.Files.{append_calls, HasFew}
use Rattle.cq_node.specs.declared.outcome.NodeError.TheVariants.{Fault, Memory, Stopped}
use Rattle.cq_node.specs.declared.outcome.Step.TheVariants.{Did}
use Rattle.cq_node.proofs.Agreeing.{laws}
use Rattle.cq_node.proofs.Few.{has_room}
use Rattle.cq_node.proofs.Answered.{few_upto, all_drop, confirmed_all, placed_all, within_all, places_now}
use Rattle.cq_node.proofs.Steadying.{all_lines, all_safe, come, now_lines, stands_held}
use Rattle.cq_node.proofs.Writes.{no_error, not_err, an_error, no_fault, since_earlier, batch_long}
use Rattle.cq_node.proofs.node.Node.write_step.Goals as goal

pub batch_of-requires-clause-few : goal.batch_of-requires-clause-few
batch_of-requires-clause-few g c = omega (arith, c.undecided-2.ensures.count, c.args.self.now.few, published-asked c.args.self.now.core.entries)

pub batch_of-requires-clause-writable : goal.batch_of-requires-clause-writable
batch_of-requires-clause-writable g c =
    let journal = c.args.self.now.core.entries in
    subst (λ ms. AllByRecursion IsWritable ms) (sym c.undecided-2.ensures.same) (all_drop IsWritable (stored_count journal) (line journal 0) c.undecided.ensures.tells.writable)

pub commit-written-requires-clause-records : goal.commit-written-requires-clause-records
commit-written-requires-clause-records g c =
    let journal = c.args.self.now.core.entries in
    let ms = c.undecided-2.result.now.items in
    let few : length ms ≤ 4096 = omega (arith, c.undecided-2.ensures.count, c.args.self.now.few, published-asked journal) in
    let some : 0 < length ms = omega (arith, c.undecided.ensures.count, c.undecided-2.ensures.count, c.len-count.ensures, c.if-count-eq0.false) in
    (batch_long c.base-base.result ms c.in-Ok.batch c.in-Ok.ensures some few).0

pub commit-written-requires-clause-entries : goal.commit-written-requires-clause-entries
commit-written-requires-clause-entries g c =
    let journal = c.args.self.now.core.entries in
    let ms = c.undecided-2.result.now.items in
    let few : length ms ≤ 4096 = omega (arith, c.undecided-2.ensures.count, c.args.self.now.few, published-asked journal) in
    let some : 0 < length ms = omega (arith, c.undecided.ensures.count, c.undecided-2.ensures.count, c.len-count.ensures, c.if-count-eq0.false) in
    let count = (batch_long c.base-base.result ms c.in-Ok.batch c.in-Ok.ensures some few).1 in
    (omega (arith, ap length c.deref.ensures.value, count, some), subst (All IsEntry) (sym c.deref.ensures.value) c.in-Ok.ensures.valid)

pub commit-written-requires-clause-reserved : goal.commit-written-requires-clause-reserved
commit-written-requires-clause-reserved g c =
    let journal = c.args.self.now.core.entries in
    let ms = c.undecided-2.result.now.items in
    let few : length ms ≤ 4096 = omega (arith, c.undecided-2.ensures.count, c.args.self.now.few, published-asked journal) in
    let some : 0 < length ms = omega (arith, c.undecided.ensures.count, c.undecided-2.ensures.count, c.len-count.ensures, c.if-count-eq0.false) in
    let count = (batch_long c.base-base.result ms c.in-Ok.batch c.in-Ok.ensures some few).1 in
    omega (arith, ap length c.deref.ensures.value, count, c.undecided.ensures.count, c.undecided-2.ensures.count, c.len-count.ensures, no_error c.reserve-else-is_err.result (sym c.is_err-else-is_err.ensures.value ∙ c.if-is_err-2.false) c.reserve-else-is_err.ensures.reserved)

pub commit-written-requires-clause-few : goal.commit-written-requires-clause-few
commit-written-requires-clause-few g c =
    let journal = c.args.self.now.core.entries in
    let ms = c.undecided-2.result.now.items in
    let few : length ms ≤ 4096 = omega (arith, c.undecided-2.ensures.count, c.args.self.now.few, published-asked journal) in
    let some : 0 < length ms = omega (arith, c.undecided.ensures.count, c.undecided-2.ensures.count, c.len-count.ensures, c.if-count-eq0.false) in
    let count = (batch_long c.base-base.result ms c.in-Ok.batch c.in-Ok.ensures some few).1 in
    omega (arith, ap length c.deref.ensures.value, count, c.reserve-else-is_err.ensures.same.4, c.args.self.now.counted c.if-self.false, c.undecided-2.ensures.count, some, c.args.self.now.few, published-asked journal)

pub returns-then-count-eq0-clause-idle : goal.returns-then-count-eq0-clause-idle
returns-then-count-eq0-clause-idle g c = λ idle.
    let none : undecided c.args.self.now.core.entries ≡ 0 = omega (arith, c.undecided.ensures.count, c.len-count.ensures, c.if-count-eq0.true) in
    (c.undecided.ensures.tells.all_confirmed none, refl)

pub returns-then-count-eq0-clause-held : goal.returns-then-count-eq0-clause-held
returns-then-count-eq0-clause-held g c = λ idle told.
    let d = g.D.Disk in
    let a = c.args.self.now in
    let journal = a.core.entries in
    let none : undecided journal ≡ 0 = omega (arith, c.undecided.ensures.count, c.len-count.ensures, c.if-count-eq0.true) in
    subst (λ lines. ∥ Held (as_read (d.files a.store.disk)) lines ∥₁) (all_lines journal c.undecided.ensures.tells.alone (c.undecided.ensures.tells.all_stored none))
    (∥∥₁_map (a.standing c.if-self.false told) (stands_held d.moment d.left d.files (g.met.D.Disk.now_only told) (g.met.D.Disk.now_each told) (g.met.D.Disk.reads_left told) a.store.disk journal (stored_lines journal)))

pub confirm_all-requires-clause-places : goal.confirm_all-requires-clause-places
confirm_all-requires-clause-places g c =
    let is = c.in-Ok.ensures in
    let ms = c.undecided-2.result.now.items in
    subst (λ (l : List RecordPlace). AllZip IsPlaceOf l (unstored c.reserve.new.self.entries)) (sym (c.deref-2.ensures.value ∙ is.spots))
    (subst (λ l. AllZip IsPlaceOf (spots_of c.base-base.result ms) l) (c.undecided-2.ensures.same ∙ ap unstored (sym c.reserve.ensures.entries)) (spots-match c.base-base.result ms))

pub confirm_all-requires-clause-reserved : goal.confirm_all-requires-clause-reserved
confirm_all-requires-clause-reserved g c =
    let spots : length c.deref-2.result.now ≡ length c.undecided-2.result.now.items = ap length c.deref-2.ensures.value ∙ ap length c.in-Ok.ensures.spots ∙ length-spots c.base-base.result c.undecided-2.result.now.items in
    omega (arith, spots, no_error c.reserve.result (sym c.is_err.ensures.value ∙ c.if-is_err.false) c.reserve.ensures.reserved, c.undecided.ensures.count, c.undecided-2.ensures.count, c.len-count.ensures)

pub invariant_of-self-3-clause-counted : goal.invariant_of-self-3-clause-counted
invariant_of-self-3-clause-counted g c = λ running.
    let d = g.D.Disk in
    let a = c.args.self.now in
    let journal = a.core.entries in
    let now = c.confirm_all.new.self.entries in
    let base = c.base-base.result in
    let ms = c.undecided-2.result.now.items in
    let same = c.reserve-else-is_err.ensures.same in
    let is : IsBatch base (unstored journal) c.in-Ok.batch = subst (λ l. IsBatch base l c.in-Ok.batch) c.undecided-2.ensures.same c.in-Ok.ensures in
    let all : stored now ≡ line journal 0 = c.confirm_all.ensures.all ∙ ap (λ l. line l 0) c.reserve.ensures.entries in
    let some : 0 < length (unstored journal) = omega (arith, ap length c.undecided-2.ensures.same, c.undecided.ensures.count, c.undecided-2.ensures.count, c.len-count.ensures, c.if-count-eq0.false) in
    let passed : now ≡ confirm_all c.moment-stamp.result (passes (confirmed journal) (unstored journal)) journal = c.confirm_all.ensures.exact ∙ ap (λ l. confirm_all c.moment-stamp.result (passes (confirmed l) (unstored l)) l) c.reserve.ensures.entries in
    let long : length c.deref.result.now ≡ length (unstored journal) = ap length (c.deref.ensures.value ∙ is.entries) ∙ count-entries base (unstored journal) in
    let more : confirmed now ≡ confirmed journal + length (unstored journal) = ap confirmed passed ∙ confirmed_all c.moment-stamp.result (confirmed journal) (unstored journal) journal in
    omega (arith, (no_error c.commit-written.result (sym c.is_err-2.ensures.value ∙ c.if-is_err-3.false) c.commit-written.ensures.ok).1, long, more, same.4, a.counted c.if-self.false)

pub invariant_of-self-3-clause-within : goal.invariant_of-self-3-clause-within
invariant_of-self-3-clause-within g c = λ running.
    let d = g.D.Disk in
    let a = c.args.self.now in
    let journal = a.core.entries in
    let now = c.confirm_all.new.self.entries in
    let base = c.base-base.result in
    let ms = c.undecided-2.result.now.items in
    let same = c.reserve-else-is_err.ensures.same in
    let is : IsBatch base (unstored journal) c.in-Ok.batch = subst (λ l. IsBatch base l c.in-Ok.batch) c.undecided-2.ensures.same c.in-Ok.ensures in
    let all : stored now ≡ line journal 0 = c.confirm_all.ensures.all ∙ ap (λ l. line l 0) c.reserve.ensures.entries in
    let some : 0 < length (unstored journal) = omega (arith, ap length c.undecided-2.ensures.same, c.undecided.ensures.count, c.undecided-2.ensures.count, c.len-count.ensures, c.if-count-eq0.false) in
    let longer = no_error c.commit-written.result (sym c.is_err-2.ensures.value ∙ c.if-is_err-3.false) c.commit-written.ensures.longer in
    let end : end_of c.reserve-else-is_err.new.self.small ≡ base = ap end_of same.2 ∙ sym c.base-base.ensures.end in
    let records : length c.in-Ok.batch.records ≡ length (records_of (unstored journal)) = ap length is.records in
    within_all (small_len a.store.small) (small_len c.commit-written.new.self.small) base a.core.places c.confirm_all.new.self.places (delivered journal 0 - stored_count journal) (unstored journal)
    (places_now a.core.places c.reserve.new.self.places c.confirm_all.new.self.places c.deref-2.result.now (spots_of base (unstored journal)) journal c.reserve.new.self.entries c.confirm_all.ensures.places c.reserve.ensures.places c.reserve.ensures.entries (c.deref-2.ensures.value ∙ is.spots))
    (omega (arith, longer.0, ap small_len same.2)) (omega (arith, longer.1, end, records)) (a.within c.if-self.false)

pub invariant_of-self-3-clause-placed : goal.invariant_of-self-3-clause-placed
invariant_of-self-3-clause-placed g c = λ running told.
    let d = g.D.Disk in
    let a = c.args.self.now in
    let journal = a.core.entries in
    let now = c.confirm_all.new.self.entries in
    let base = c.base-base.result in
    let ms = c.undecided-2.result.now.items in
    let same = c.reserve-else-is_err.ensures.same in
    let is : IsBatch base (unstored journal) c.in-Ok.batch = subst (λ l. IsBatch base l c.in-Ok.batch) c.undecided-2.ensures.same c.in-Ok.ensures in
    let all : stored now ≡ line journal 0 = c.confirm_all.ensures.all ∙ ap (λ l. line l 0) c.reserve.ensures.entries in
    let some : 0 < length (unstored journal) = omega (arith, ap length c.undecided-2.ensures.same, c.undecided.ensures.count, c.undecided-2.ensures.count, c.len-count.ensures, c.if-count-eq0.false) in
    let content = content_in (d.files a.store.disk (small_name 0 0)) in
    let content' = content_in (d.files c.commit-written.new.self.disk (small_name 0 0)) in
    let end : end_of c.reserve-else-is_err.new.self.small ≡ base = ap end_of same.2 ∙ sym c.base-base.ensures.end in
    let kept = subst (λ disk. (place : ℕ) (body : List ℕ) → StandsIn (content_in (d.files disk (small_name 0 0))) place body → StandsIn content' place body) same.0 (no_error c.commit-written.result (sym c.is_err-2.ensures.value ∙ c.if-is_err-3.false) c.commit-written.ensures.kept told) in
    let added = subst (λ b. (offset : ℕ) (body : List ℕ) → HasRecord c.in-Ok.batch.records offset body → StandsIn content' (b + offset) body) end (no_error c.commit-written.result (sym c.is_err-2.ensures.value ∙ c.if-is_err-3.false) c.commit-written.ensures.added told) in
    placed_all content content' base a.core.places c.confirm_all.new.self.places journal now kept (λ offset body has. added offset body (subst (λ (l : List ℕ). HasRecord l offset body) (sym is.records) has))
    (places_now a.core.places c.reserve.new.self.places c.confirm_all.new.self.places c.deref-2.result.now (spots_of base (unstored journal)) journal c.reserve.new.self.entries c.confirm_all.ensures.places c.reserve.ensures.places c.reserve.ensures.entries (c.deref-2.ensures.value ∙ is.spots))
    all (c.confirm_all.ensures.delivered ∙ ap (λ l. delivered l 0) c.reserve.ensures.entries) some (a.placed c.if-self.false told)

pub invariant_of-self-3-clause-whole : goal.invariant_of-self-3-clause-whole
invariant_of-self-3-clause-whole g c = λ told.
    let whole = c.args.self.now.whole told in
    let kept : HasReplies c.reserve.new.self = ap (λ l. replies l 0) c.reserve.ensures.entries ∙ whole ∙ sym c.reserve.ensures.told in
    c.confirm_all.ensures.whole kept

pub invariant_of-self-3-clause-few : goal.invariant_of-self-3-clause-few
invariant_of-self-3-clause-few g c =
    let same : publishes (asks c.confirm_all.new.self.entries 0) ≡ publishes (asks c.args.self.now.core.entries 0) = ap publishes (c.confirm_all.ensures.quiet.asked ∙ ap (λ l. asks l 0) c.reserve.ensures.entries) in
    omega (arith, same, c.args.self.now.few)

pub invariant_of-self-3-clause-short : goal.invariant_of-self-3-clause-short
invariant_of-self-3-clause-short g c = λ running told.
    let d = g.D.Disk in
    let a = c.args.self.now in
    let journal = a.core.entries in
    let now = c.confirm_all.new.self.entries in
    let base = c.base-base.result in
    let ms = c.undecided-2.result.now.items in
    let same = c.reserve-else-is_err.ensures.same in
    let is : IsBatch base (unstored journal) c.in-Ok.batch = subst (λ l. IsBatch base l c.in-Ok.batch) c.undecided-2.ensures.same c.in-Ok.ensures in
    let all : stored now ≡ line journal 0 = c.confirm_all.ensures.all ∙ ap (λ l. line l 0) c.reserve.ensures.entries in
    let some : 0 < length (unstored journal) = omega (arith, ap length c.undecided-2.ensures.same, c.undecided.ensures.count, c.undecided-2.ensures.count, c.len-count.ensures, c.if-count-eq0.false) in
    let passed : now ≡ confirm_all c.moment-stamp.result (passes (confirmed journal) (unstored journal)) journal = c.confirm_all.ensures.exact ∙ ap (λ l. confirm_all c.moment-stamp.result (passes (confirmed l) (unstored l)) l) c.reserve.ensures.entries in
    let long : length c.deref.result.now ≡ length (unstored journal) = ap length (c.deref.ensures.value ∙ is.entries) ∙ count-entries base (unstored journal) in
    let more : confirmed now ≡ confirmed journal + length (unstored journal) = ap confirmed passed ∙ confirmed_all c.moment-stamp.result (confirmed journal) (unstored journal) journal in
    few_upto (d.files c.commit-written.new.self.disk (index_name 0 0)) (a.opened + confirmed journal + length c.deref.result.now) (a.opened + confirmed now) (omega (arith, more, long))
    (c.commit-written.ensures.more told (a.opened + confirmed journal) (subst (λ disk. HasFew (d.files disk (index_name 0 0)) (a.opened + confirmed journal)) (sym same.0) (a.short c.if-self.false told)))

pub invariant_of-self-3-clause-bounded : goal.invariant_of-self-3-clause-bounded
invariant_of-self-3-clause-bounded g c = λ told.
    let d = g.D.Disk in
    let a = c.args.self.now in
    let journal = a.core.entries in
    let base = c.base-base.result in
    let same = c.reserve-else-is_err.ensures.same in
    let is : IsBatch base (unstored journal) c.in-Ok.batch = subst (λ l. IsBatch base l c.in-Ok.batch) c.undecided-2.ensures.same c.in-Ok.ensures in
    let asked : publishes (asks c.confirm_all.new.self.entries 0) ≡ publishes (asks journal 0) = ap publishes (c.confirm_all.ensures.quiet.asked ∙ ap (λ l. asks l 0) c.reserve.ensures.entries) in
    let long : length c.deref.result.now ≡ length (unstored journal) = ap length (c.deref.ensures.value ∙ is.entries) ∙ count-entries base (unstored journal) in
    few_upto (d.files c.commit-written.new.self.disk (index_name 0 0)) (a.opened + confirmed journal + length c.deref.result.now) (a.opened + publishes (asks c.confirm_all.new.self.entries 0))
    (omega (arith, asked, long, ap length c.undecided-2.ensures.same, c.undecided-2.ensures.count, c.undecided.ensures.count, c.len-count.ensures, c.if-count-eq0.false, published-asked journal))
    (c.commit-written.ensures.more told (a.opened + confirmed journal) (subst (λ disk. HasFew (d.files disk (index_name 0 0)) (a.opened + confirmed journal)) (sym same.0) (a.short c.if-self.false told)))

pub returns-clause-calls : goal.returns-clause-calls
returns-clause-calls g c = λ done.
    let d = g.D.Disk in
    let same = c.reserve-else-is_err.ensures.same in
    no_error c.commit-written.result (sym c.is_err-2.ensures.value ∙ c.if-is_err-3.false) c.commit-written.ensures.calls
    ∙ ap (λ disk. d.moment disk + (append_calls (small_gate c.reserve-else-is_err.new.self.small) + append_calls (gate_of c.reserve-else-is_err.new.self.index))) same.0
    ∙ ap (λ small. d.moment c.args.self.now.store.disk + (append_calls (small_gate small) + append_calls (gate_of c.reserve-else-is_err.new.self.index))) same.2
    ∙ ap (λ gate. d.moment c.args.self.now.store.disk + (append_calls (small_gate c.args.self.now.store.small) + append_calls gate)) same.3

-- the commit has failed
pub invariant_of-self-then-is_err-3-clause-few : goal.invariant_of-self-then-is_err-3-clause-few
invariant_of-self-then-is_err-3-clause-few g c = omega (arith, ap (λ l. publishes (asks l 0)) c.reserve.ensures.entries, c.args.self.now.few)

pub invariant_of-self-then-is_err-3-clause-standing : goal.invariant_of-self-then-is_err-3-clause-standing
invariant_of-self-then-is_err-3-clause-standing g c = λ running told. absurd (false≢true (sym running ∙ an_error c.commit-written.result (sym c.is_err-2.ensures.value ∙ c.if-is_err-3.true) c.commit-written.ensures.err))

pub invariant_of-self-then-is_err-3-clause-placed : goal.invariant_of-self-then-is_err-3-clause-placed
invariant_of-self-then-is_err-3-clause-placed g c = λ running told. absurd (false≢true (sym running ∙ an_error c.commit-written.result (sym c.is_err-2.ensures.value ∙ c.if-is_err-3.true) c.commit-written.ensures.err))

pub invariant_of-self-then-is_err-3-clause-within : goal.invariant_of-self-then-is_err-3-clause-within
invariant_of-self-then-is_err-3-clause-within g c = λ running. absurd (false≢true (sym running ∙ an_error c.commit-written.result (sym c.is_err-2.ensures.value ∙ c.if-is_err-3.true) c.commit-written.ensures.err))

pub invariant_of-self-then-is_err-3-clause-short : goal.invariant_of-self-then-is_err-3-clause-short
invariant_of-self-then-is_err-3-clause-short g c = λ running told. absurd (false≢true (sym running ∙ an_error c.commit-written.result (sym c.is_err-2.ensures.value ∙ c.if-is_err-3.true) c.commit-written.ensures.err))

pub invariant_of-self-then-is_err-3-clause-counted : goal.invariant_of-self-then-is_err-3-clause-counted
invariant_of-self-then-is_err-3-clause-counted g c = λ running. absurd (false≢true (sym running ∙ an_error c.commit-written.result (sym c.is_err-2.ensures.value ∙ c.if-is_err-3.true) c.commit-written.ensures.err))

pub invariant_of-self-then-is_err-3-clause-bounded : goal.invariant_of-self-then-is_err-3-clause-bounded
invariant_of-self-then-is_err-3-clause-bounded g c = λ told.
    let d = g.D.Disk in
    let a = c.args.self.now in
    let journal = a.core.entries in
    let base = c.base-base.result in
    let same = c.reserve-else-is_err.ensures.same in
    let is : IsBatch base (unstored journal) c.in-Ok.batch = subst (λ l. IsBatch base l c.in-Ok.batch) c.undecided-2.ensures.same c.in-Ok.ensures in
    let asked : publishes (asks c.reserve.new.self.entries 0) ≡ publishes (asks journal 0) = ap (λ l. publishes (asks l 0)) c.reserve.ensures.entries in
    let long : length c.deref.result.now ≡ length (unstored journal) = ap length (c.deref.ensures.value ∙ is.entries) ∙ count-entries base (unstored journal) in
    few_upto (d.files c.commit-written.new.self.disk (index_name 0 0)) (a.opened + confirmed journal + length c.deref.result.now) (a.opened + publishes (asks c.reserve.new.self.entries 0))
    (omega (arith, asked, long, ap length c.undecided-2.ensures.same, c.undecided-2.ensures.count, c.undecided.ensures.count, c.len-count.ensures, c.if-count-eq0.false, published-asked journal))
    (c.commit-written.ensures.more told (a.opened + confirmed journal) (subst (λ disk. HasFew (d.files disk (index_name 0 0)) (a.opened + confirmed journal)) (sym same.0) (a.short c.if-self.false told)))

pub invariant_of-self-then-is_err-3-clause-steady : goal.invariant_of-self-then-is_err-3-clause-steady
invariant_of-self-then-is_err-3-clause-steady g c = λ told.
    let d = g.D.Disk in
    let a = c.args.self.now in
    let journal = a.core.entries in
    let lines = stored_lines journal in
    let base = c.base-base.result in
    let same = c.reserve-else-is_err.ensures.same in
    let disk = c.reserve-else-is_err.new.self.disk in
    let new = c.commit-written.new.self.disk in
    let is : IsBatch base (unstored journal) c.in-Ok.batch = subst (λ l. IsBatch base l c.in-Ok.batch) c.undecided-2.ensures.same c.in-Ok.ensures in
    let stands = subst (λ k. ∥ Standing (d.files k) no_sharing journal lines ∥₁) (sym same.0) (a.standing c.if-self.false told) in
    let long : length c.deref.result.now ≡ length (unstored journal) = ap length (c.deref.ensures.value ∙ is.entries) ∙ count-entries base (unstored journal) in
    let fit : a.opened + confirmed journal + length c.deref.result.now ≤ 4096 = omega (arith, long, ap length c.undecided-2.ensures.same, c.undecided-2.ensures.count, a.few, published-asked journal) in
    let room = has_room (d.files disk) (index_name 0 0) (a.opened + confirmed journal) (length c.deref.result.now) (g.met.D.Disk.reads_left told disk)
    (subst (λ k. HasFew (d.files k (index_name 0 0)) (a.opened + confirmed journal)) (sym same.0) (a.short c.if-self.false told)) fit in
    let will = subst (λ b. WillJoin (d.files disk) b c.in-Ok.batch.records journal lines c.deref.result.now (unstored journal)) (c.base-base.ensures.end ∙ ap end_of (sym same.2))
    (come journal (d.files disk) base c.in-Ok.batch c.deref.result.now (c.reserve-else-is_err.new.self.alone told) room c.undecided.ensures.tells.unsettled is c.deref.ensures.value) in
    subst (Steady (d.left new) (d.moment new)) (sym c.reserve.ensures.entries) (∥∥₁_elim stands (Steady-prop (d.left new) (d.moment new) journal) (λ s.
    c.commit-written.ensures.steady told journal lines (unstored journal) c.undecided.ensures.tells.legal s will (subst (λ k. Steady (d.left k) (d.moment k) journal) (sym same.0) (a.steady told))))

pub invariant_of-self-3-clause-standing : goal.invariant_of-self-3-clause-standing
invariant_of-self-3-clause-standing g c = λ running told.
    let d = g.D.Disk in
    let a = c.args.self.now in
    let journal = a.core.entries in
    let now = c.confirm_all.new.self.entries in
    let base = c.base-base.result in
    let ms = c.undecided-2.result.now.items in
    let same = c.reserve-else-is_err.ensures.same in
    let is : IsBatch base (unstored journal) c.in-Ok.batch = subst (λ l. IsBatch base l c.in-Ok.batch) c.undecided-2.ensures.same c.in-Ok.ensures in
    let all : stored now ≡ line journal 0 = c.confirm_all.ensures.all ∙ ap (λ l. line l 0) c.reserve.ensures.entries in
    let some : 0 < length (unstored journal) = omega (arith, ap length c.undecided-2.ensures.same, c.undecided.ensures.count, c.undecided-2.ensures.count, c.len-count.ensures, c.if-count-eq0.false) in
    let lines = stored_lines journal in
    let disk = c.reserve-else-is_err.new.self.disk in
    let stands = subst (λ k. ∥ Standing (d.files k) no_sharing journal lines ∥₁) (sym same.0) (a.standing c.if-self.false told) in
    let long : length c.deref.result.now ≡ length (unstored journal) = ap length (c.deref.ensures.value ∙ is.entries) ∙ count-entries base (unstored journal) in
    let fit : a.opened + confirmed journal + length c.deref.result.now ≤ 4096 = omega (arith, long, ap length c.undecided-2.ensures.same, c.undecided-2.ensures.count, a.few, published-asked journal) in
    let room = has_room (d.files disk) (index_name 0 0) (a.opened + confirmed journal) (length c.deref.result.now) (g.met.D.Disk.reads_left told disk)
    (subst (λ k. HasFew (d.files k (index_name 0 0)) (a.opened + confirmed journal)) (sym same.0) (a.short c.if-self.false told)) fit in
    let will = subst (λ b. WillJoin (d.files disk) b c.in-Ok.batch.records journal lines c.deref.result.now (unstored journal)) (c.base-base.ensures.end ∙ ap end_of (sym same.2))
    (come journal (d.files disk) base c.in-Ok.batch c.deref.result.now (c.reserve-else-is_err.new.self.alone told) room c.undecided.ensures.tells.unsettled is c.deref.ensures.value) in
    let passed : now ≡ confirm_all c.moment-stamp.result (passes (confirmed journal) (unstored journal)) journal = c.confirm_all.ensures.exact ∙ ap (λ l. confirm_all c.moment-stamp.result (passes (confirmed l) (unstored l)) l) c.reserve.ensures.entries in
    let joins = no_error c.commit-written.result (sym c.is_err-2.ensures.value ∙ c.if-is_err-3.false) c.commit-written.ensures.stands in
    subst (λ l. ∥ Standing (d.files c.commit-written.new.self.disk) no_sharing now l ∥₁) (now_lines journal c.undecided.ensures.tells.alone now all)
    (subst (λ l. ∥ Standing (d.files c.commit-written.new.self.disk) no_sharing l (joined 0 (unstored journal) lines) ∥₁) (sym passed)
    (∥∥₁_map stands (λ s. passed_stand (d.files c.commit-written.new.self.disk) no_sharing (joined 0 (unstored journal) lines) c.moment-stamp.result (passes (confirmed journal) (unstored journal)) journal (all_safe journal c.undecided.ensures.tells.alone)
    (joins told journal lines (unstored journal) c.undecided.ensures.tells.legal will s))))

pub invariant_of-self-3-clause-steady : goal.invariant_of-self-3-clause-steady
invariant_of-self-3-clause-steady g c = λ told.
    let d = g.D.Disk in
    let a = c.args.self.now in
    let journal = a.core.entries in
    let now = c.confirm_all.new.self.entries in
    let base = c.base-base.result in
    let ms = c.undecided-2.result.now.items in
    let same = c.reserve-else-is_err.ensures.same in
    let is : IsBatch base (unstored journal) c.in-Ok.batch = subst (λ l. IsBatch base l c.in-Ok.batch) c.undecided-2.ensures.same c.in-Ok.ensures in
    let all : stored now ≡ line journal 0 = c.confirm_all.ensures.all ∙ ap (λ l. line l 0) c.reserve.ensures.entries in
    let some : 0 < length (unstored journal) = omega (arith, ap length c.undecided-2.ensures.same, c.undecided.ensures.count, c.undecided-2.ensures.count, c.len-count.ensures, c.if-count-eq0.false) in
    let lines = stored_lines journal in
    let disk = c.reserve-else-is_err.new.self.disk in
    let stands = subst (λ k. ∥ Standing (d.files k) no_sharing journal lines ∥₁) (sym same.0) (a.standing c.if-self.false told) in
    let long : length c.deref.result.now ≡ length (unstored journal) = ap length (c.deref.ensures.value ∙ is.entries) ∙ count-entries base (unstored journal) in
    let fit : a.opened + confirmed journal + length c.deref.result.now ≤ 4096 = omega (arith, long, ap length c.undecided-2.ensures.same, c.undecided-2.ensures.count, a.few, published-asked journal) in
    let room = has_room (d.files disk) (index_name 0 0) (a.opened + confirmed journal) (length c.deref.result.now) (g.met.D.Disk.reads_left told disk)
    (subst (λ k. HasFew (d.files k (index_name 0 0)) (a.opened + confirmed journal)) (sym same.0) (a.short c.if-self.false told)) fit in
    let will = subst (λ b. WillJoin (d.files disk) b c.in-Ok.batch.records journal lines c.deref.result.now (unstored journal)) (c.base-base.ensures.end ∙ ap end_of (sym same.2))
    (come journal (d.files disk) base c.in-Ok.batch c.deref.result.now (c.reserve-else-is_err.new.self.alone told) room c.undecided.ensures.tells.unsettled is c.deref.ensures.value) in
    let new = c.commit-written.new.self.disk in
    let ps = passes (confirmed journal) (unstored journal) in
    let passed : now ≡ confirm_all (d.moment new) ps journal = c.confirm_all.ensures.exact ∙ ap (λ l. confirm_all c.moment-stamp.result (passes (confirmed l) (unstored l)) l) c.reserve.ensures.entries ∙ ap (λ stamp. confirm_all stamp ps journal) c.moment-stamp.ensures in
    let joins = no_error c.commit-written.result (sym c.is_err-2.ensures.value ∙ c.if-is_err-3.false) c.commit-written.ensures.stands in
    let steady = subst (λ k. Steady (d.left k) (d.moment k) journal) (sym same.0) (a.steady told) in
    subst (Steady (d.left new) (d.moment new)) (sym passed)
    (∥∥₁_elim stands (Steady-prop (d.left new) (d.moment new) (confirm_all (d.moment new) ps journal)) (λ s.
    (laws d.moment d.left d.files (g.met.D.Disk.now_only told) (g.met.D.Disk.now_each told) (g.met.D.Disk.reads_left told)).confirmed new no_sharing journal (joined 0 (unstored journal) lines) ps (λ p there. all_safe journal c.undecided.ensures.tells.alone p.id)
    (joins told journal lines (unstored journal) c.undecided.ensures.tells.legal will s)
    (c.commit-written.ensures.steady told journal lines (unstored journal) c.undecided.ensures.tells.legal s will steady)))

pub returns-clause-wrote : goal.returns-clause-wrote
returns-clause-wrote g c =
    let moment = g.D.Disk.moment in
    let a = c.args.self.now in
    let now = c.confirm_all.new.self.entries in
    let later : moment a.store.disk ≤ c.moment-stamp.result = omega (arith, c.moment-stamp.ensures, c.commit-written.ensures.ran.later, ap moment c.reserve-else-is_err.ensures.same.0) in (
      omega (arith, c.undecided.ensures.count, c.len-count.ensures, c.if-count-eq0.false),
      c.confirm_all.ensures.none,
      subst (λ l. AddsConfirmsAlone l now) c.reserve.ensures.entries c.confirm_all.ensures.quiet,
      subst (λ l. AddsSince (moment a.store.disk) l now) c.reserve.ensures.entries (since_earlier (moment a.store.disk) c.moment-stamp.result c.reserve.new.self.entries now later c.confirm_all.ensures.since),
    )

pub returns-clause-steps : goal.returns-clause-steps
returns-clause-steps g c =
    let d = g.D.Disk in
    let a = c.args.self.now in
    let new = c.commit-written.new.self in
    let running : new.halted ≡ false = (no_error c.commit-written.result (sym c.is_err-2.ensures.value ∙ c.if-is_err-3.false) c.commit-written.ensures.ok).0 in
    record {
      same_config = refl;
      same_opened = refl;
      stopped = (λ is. absurd (not_err Did Stopped is), λ is. absurd (false≢true (sym c.if-self.false ∙ is)));
      halts = (λ is. absurd (false≢true (sym running ∙ is)), λ no. absurd no);
      goes_on = running;
      memory = λ is. absurd (not_err Did Memory is);
      at_rest = λ is. absurd (not_err Did Stopped is);
      legal = c.confirm_all.ensures.legal;
      ran = subst (λ disk. Ran d disk new.disk (IsErrOf (Ok Did) Fault)) c.reserve-else-is_err.ensures.same.0 (no_fault d c.reserve-else-is_err.new.self.disk new.disk _ (IsErrOf (Ok Did) Fault) (not_err Did Fault) c.commit-written.ensures.ran);
    }
