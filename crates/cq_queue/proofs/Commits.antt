-- A commit of a queue, put together from its plan and from what its segments did.
use Rattle.std.proofs.Common.{◌≡◌, ◌≢◌, ℕ, ◌+◌, ◌<◌, ◌≤◌, Bool, true, false, List, [], ◌∷◌, ◌++◌, length, Option, Some, None, refl, sym, ap, ◌∙◌, subst, arith, length-append, Result, Err, IfErr}
use Rattle.std.specs.Prelude.{All, if◌then◌else◌, ◌==◌, ◌||◌}
use Rattle.std.specs.List.{AllByRecursion}
use Rattle.std.proofs.lemmas.List.Elements.{All-nil, All-cons, recursion_from_All}
use Rattle.cq_disk.specs.declared.name.Name.{Name}
use Rattle.cq_disk.specs.declared.disk.Disk.{Ghosts}
use Rattle.cq_entry.specs.declared.entry.Entry.{Entry as IndexEntry}
use Rattle.cq_entry.specs.Entry.{IsEntry}
use Rattle.cq_small.specs.Store.{small_name, gate_of as store_gate}
use Rattle.cq_index.specs.Places.{index_name}
use Rattle.cq_journal.specs.declared.event.Message.{Message}
use Rattle.cq_folder.specs.Folder.{Sharing}
use Rattle.cq_folder.specs.Holding.{StillHeld, joined}
use Rattle.cq_items.specs.Item.{Item}
use Rattle.cq_items.specs.declared.item.Stand.{Stand}
use Rattle.cq_items.specs.Items.{undecided_items}
use Rattle.cq_queue.specs.declared.segment.QueueSegment.{QueueSegment}
use Rattle.cq_queue.specs.declared.queue.planning.Plan.{Plan}
use Rattle.cq_queue.specs.Laid.{Lays}
use Rattle.cq_queue.specs.Lists.{AreBelow, IsPicked}
use Rattle.cq_queue.specs.Passing.{HasLength, IsReady, bytes_of, commit_items}
use Rattle.cq_queue.specs.Planning.{body_record, records_in, IsPlanned, IsReadBack, entries_in}
use Rattle.cq_queue.specs.QueueSegment.{SameNumber, present_of, commit_calls, index_calls, small_calls, IsNew, CanCommit, Commits, HasCommitted, IsMore, OthersStay, count_of, end_of, reserved_of}
use Rattle.cq_queue.specs.QueueCalls.{Leaves, calls_to_commit, calls_to_join, has_small, is_small, joining, AreOf, CommitsOnly, HasJoined, HaveJoined, KeptAreHeld, coming, committed_in, kept_in, pick_in, room_in}
use Rattle.cq_queue.specs.Files.{append_calls, some_calls, ComesHeld, ComesHeldOn, HasEntriesFrom, HasRecords}
use Rattle.cq_folder.specs.Queue.{content_in}
use Rattle.cq_queue.specs.Tied.{IsTied, AreInPlace, IsInPlace, OtherFilesStay, Pick}
use Rattle.cq_queue.specs.Values.{IsUnchanged, QueueValue}
use Rattle.cq_queue.specs.declared.error.QueueError.{QueueError}
use Rattle.cq_queue.specs.declared.error.QueueError.TheVariants.{Memory}
use Rattle.cq_queue.specs.Lists.IsPicked.{Last, Next, First}
use Rattle.cq_entry.specs.declared.entry.EntryKind.{EntryKind}
use Rattle.cq_entry.specs.declared.entry.EntryKind.TheVariants.{Small, Shared as SharedEntry}
use Rattle.cq_small.specs.Record.{small_record}
use Rattle.cq_queue.proofs.Changes.{same_parts}
use Rattle.cq_queue.proofs.Committed.{commit_all, places_come, places_stay}
use Rattle.cq_queue.proofs.Files.{apart}
use Rattle.cq_queue.proofs.Laying.{bytes_most, entries_length, kept_all, kept_few, nothing_coming, planned_lays, records_length}
use Rattle.cq_queue.proofs.Picked.{as_pick, joining_last, picked_is, right_nil, rising_climbs}
use Rattle.cq_queue.proofs.Grown.{grown_tied}
use Rattle.cq_queue.proofs.Planned.{lt_false, lt_true}
use Rattle.cq_queue.proofs.Come.{length_record}
use Rattle.cq_queue.proofs.Runs.{Tells, nothing_on, only_stays}

valid_all : (es : List IndexEntry) → AllByRecursion IsReadBack es → All IsEntry es
valid_all [] all = All-nil IsEntry
valid_all (e ∷ es) all = All-cons IsEntry e es all.0.valid (valid_all es all.1)

empty : (ks : List Item) → length ks ≡ 0 → ks ≡ []
empty [] is = refl
empty (i ∷ is) some = absurd (omega (arith, some))

joined_some : (queue most : ℕ) (old new : List QueueSegment) (ks : List Item) → 0 < length ks → HasJoined queue most old new (length ks) (bytes_of ks) → HaveJoined queue most old new ks
joined_some queue most old new [] some has = absurd (omega (arith, some))
joined_some queue most old new (i ∷ is) some has = has

pub joined_none : (queue most : ℕ) (list : List QueueSegment) (ks : List Item) → ks ≡ [] → HaveJoined queue most list list ks
joined_none queue most list ks none = subst (HaveJoined queue most list list) (sym none) (same_parts list)

-- the calls on its two files that joining a segment takes
abbrev join_gates : Option QueueSegment → ℕ × ℕ
join_gates None = (8, 8)
join_gates (Some s) = (small_calls s, index_calls s)

-- ---- where something is kept

module _ (skip : List ℕ) (v : QueueValue) (plan : Plan) (planned : IsPlanned skip v plan) (ready : AllByRecursion IsReady (undecided_items v.items)) where
  kept_ready : AllByRecursion IsReady (kept_in skip v)
  kept_ready = kept_all IsReady skip (room_in v) (undecided_items v.items) ready

  pub more_is : length plan.entries.items ≡ length (kept_in skip v)
  more_is = ap length planned.entries ∙ entries_length (pick_in v).base (kept_in skip v)

  pub bytes_is : length plan.records ≡ bytes_of (kept_in skip v)
  bytes_is = ap length planned.records ∙ records_length (kept_in skip v) kept_ready

  module _ (segment : QueueSegment) (pick : pick_in v ≡ as_pick segment) (most : v.most ≤ 4096) (some : 0 < length plan.entries.items) where
    pub can_commit : length plan.entries.items ≤ reserved_of segment → CanCommit segment plan.records plan.entries.items
    can_commit reserved =
        let few = kept_few skip (room_in v) (undecided_items v.items) in
        let bytes = bytes_most (kept_in skip v) kept_ready in
        let count : (pick_in v).count ≡ count_of segment = ap (λ (p : Pick). p.count) pick in
        record {
          short = omega (arith, bytes_is, bytes, few, most);
          some = some;
          valid = valid_all plan.entries.items planned.present;
          few = omega (arith, more_is, few, most, count, some);
          reserved = reserved;
        }

    pub has_joined : (front new : List QueueSegment) (last : QueueSegment) → IsPicked v.queue v.most v.segments front segment → new ≡ front ++ last ∷ [] → SameNumber segment last → IsMore segment last (length plan.entries.items) (length plan.records)
        → HaveJoined v.queue v.most v.segments new (kept_in skip v)
    has_joined front new last picked list number is =
        joined_some v.queue v.most v.segments new (kept_in skip v) (omega (arith, some, more_is)) (record {
          front = front;
          segment = segment;
          last = last;
          picked = picked;
          list = list;
          number = number;
          is = subst (IsMore segment last (length (kept_in skip v))) bytes_is (subst (λ (n : ℕ). IsMore segment last n (length plan.records)) more_is is);
        })

  -- where nothing is kept
  pub none_kept : length plan.entries.items ≡ 0 → kept_in skip v ≡ []
  none_kept none = empty (kept_in skip v) (sym more_is ∙ none)

one_nil : (b : Bool) (l : List Message) → l ≡ (if b then l ++ [] else l)
one_nil true l = sym (right_nil l)
one_nil false l = refl

module _ {D : Type 0} (g : Ghosts D) (skip : List ℕ) (v : QueueValue) where
  -- ---- no call of the disk

  pub nothing_commits : Tells g → (disk : D) → CommitsOnly g skip v disk disk
  nothing_commits t disk = record { others = λ n other. refl; any_moment = λ sharing ms of. only_stays g t disk disk v.queue sharing (coming skip v ms) (nothing_on g t disk) }

  joined_nil : (queue : ℕ) (lines : ℕ → List Message) → lines ≡ joined queue [] lines
  joined_nil queue lines = λ j q. one_nil (q == queue) (lines q) j

  pub nothing_held : (disk : D) → kept_in skip v ≡ [] → KeptAreHeld g skip v disk disk
  nothing_held disk none sharing ms of lines h =
      subst (λ (l : ℕ → List Message). StillHeld (g.files disk) sharing l) (joined_nil v.queue lines ∙ ap (λ (ms : List Message). joined v.queue ms lines) (sym (nothing_coming skip v sharing ms none of))) h

  -- ---- by the calls of the segments

  module _ (plan : Plan) (planned : IsPlanned skip v plan) (segment : QueueSegment) (pick : pick_in v ≡ as_pick segment) (own : segment.queue ≡ v.queue) (old new : D) where
    lays : (sharing : Sharing) (ms : List Message) → AreOf skip v sharing ms → Lays sharing (end_of segment) (coming skip v ms) plan.records plan.entries.items
    lays sharing ms of = subst (λ (p : Pick). Lays sharing p.base (coming skip v ms) plan.records plan.entries.items) pick (planned_lays skip v plan sharing ms planned of)

    pub kept_held : HasCommitted g segment old new plan.records plan.entries.items → KeptAreHeld g skip v old new
    kept_held has sharing ms of = subst (λ (q : ℕ). ComesHeld (g.files old) (g.files new) q sharing (coming skip v ms)) own (has.held sharing (coming skip v ms) (lays sharing ms of))

    pub commits_only : Commits g segment old new plan.records plan.entries.items → CommitsOnly g skip v old new
    commits_only run = record {
      others = subst (λ (q : ℕ). OtherFilesStay q (g.files old) (g.files new)) own (λ n other. run.others n (other segment.number).1 (other segment.number).0);
      any_moment = λ sharing ms of. subst (λ (q : ℕ). ComesHeldOn g old new q sharing (coming skip v ms)) own (run.any_moment sharing (coming skip v ms) (lays sharing ms of));
    }

    number_of : (queue : ℕ) (n k : ℕ) → n ≢ k → index_name queue n ≢ index_name queue k
    number_of queue n k other same = other (ap (λ (m : Name). m.number) same)

    small_number : (queue : ℕ) (n k : ℕ) → n ≢ k → small_name queue n ≢ small_name queue k
    small_number queue n k other same = other (ap (λ (m : Name). m.number) same)

    small_apart : (q n r k : ℕ) → small_name q n ≢ index_name r k
    small_apart q n r k same = apart r k q n (sym same)

    others_stay : OthersStay segment (g.files old) (g.files new) → (n : ℕ) → n ≢ segment.number
        → (g.files new (index_name segment.queue n) ≡ g.files old (index_name segment.queue n)) × (g.files new (small_name segment.queue n) ≡ g.files old (small_name segment.queue n))
    others_stay stay n other = (
      stay (index_name segment.queue n) (apart segment.queue n segment.queue segment.number) (number_of segment.queue n segment.number other),
      stay (small_name segment.queue n) (small_number segment.queue n segment.number other) (small_apart segment.queue n segment.queue segment.number),
    )

    pub stands_after : AllByRecursion IsReady (undecided_items v.items) → Commits g segment old new plan.records plan.entries.items → HasCommitted g segment old new plan.records plan.entries.items
        → AreInPlace v.queue (g.files old) v.items → AreInPlace v.queue (g.files new) (committed_in skip v)
    stands_after ready run has stood =
        subst (λ (p : Pick). AreInPlace v.queue (g.files new) (commit_items skip (room_in v) p.number p.count p.base v.items)) (sym pick)
        (subst (λ (q : ℕ). AreInPlace q (g.files new) (commit_items skip (room_in v) segment.number (count_of segment) (end_of segment) v.items)) own
        (commit_all skip segment.number (λ i. (s : Stand) → i.stand ≡ Some s → IsInPlace segment.queue (g.files new) i s) (room_in v) (count_of segment) (end_of segment) v.items
        (places_stay segment.queue segment.number (g.files old) (g.files new) has.kept_records has.kept_entries (others_stay run.others) v.items (subst (λ (q : ℕ). AreInPlace q (g.files old) v.items) (sym own) stood))
        (places_come segment.queue segment.number (g.files new) (count_of segment) (end_of segment) (kept_in skip v) (kept_all IsReady skip (room_in v) (undecided_items v.items) ready)
        (subst (λ (r : List ℕ). HasRecords (end_of segment) r (content_in (g.files new (small_name segment.queue segment.number)))) planned.records has.new_records)
        (subst (λ (p : Pick). HasEntriesFrom (count_of segment) (entries_in p.base (kept_in skip v)) (content_in (g.files new (index_name segment.queue segment.number)))) pick (subst (λ (es : List IndexEntry). HasEntriesFrom (count_of segment) es (content_in (g.files new (index_name segment.queue segment.number)))) planned.entries has.new_entries)))))

-- ---- an error, and the calls

pub unchanged : (v : QueueValue) → IsUnchanged v v
unchanged v = record { items = refl; reserved = refl; queue = refl; most = refl; halted = refl; segments = same_parts v.segments }

pub err_memory : {T : Type 0} (r : Result T QueueError) (old new : QueueValue) (P : Type 0) → r ≡ Err Memory → IsUnchanged old new → P → IfErr r (Leaves old new P)
err_memory {T} r old new P is same stays = subst (λ (x : Result T QueueError). IfErr x (Leaves old new P)) (sym is) (same, stays)

some_long : (xs : List ℕ) (n : ℕ) → 0 < length xs → some_calls xs n ≡ n
some_long [] n some = absurd (omega (arith, some))
some_long (x ∷ xs) n some = refl

one_calls : (kind : EntryKind) (body : Option (List ℕ)) (len n : ℕ) (rest : List ℕ) (more : Bool) → (kind ≡ Small → HasLength body len) → some_calls rest n ≡ (if more then n else 0) → some_calls (body_record kind body ++ rest) n ≡ (if is_small kind || more then n else 0)
one_calls Small None len n rest more has is = absurd (has refl)
one_calls Small (Some body) len n rest more has is = some_long (body_record Small (Some body) ++ rest) n (let l = length-append (small_record body) rest in let r = length_record body in omega (arith, l, r))
one_calls SharedEntry body len n rest more has is = is

records_calls : (n : ℕ) (ks : List Item) → AllByRecursion IsReady ks → some_calls (records_in ks) n ≡ (if has_small ks then n else 0)
records_calls n [] ready = refl
records_calls n (i ∷ ks) ready = one_calls i.kind i.body i.len n (records_in ks) (has_small ks) ready.0.body (records_calls n ks ready.1)

abbrev gates : QueueSegment → ℕ × ℕ
gates s = (small_calls s, index_calls s)

join_calls : (s : Option QueueSegment) (ks : List Item) (small index : ℕ) → 0 < length ks → join_gates s ≡ (small, index) → calls_to_join s ks ≡ (if has_small ks then small else 0) + index
join_calls s [] small index some is = absurd (omega (arith, some))
join_calls None (i ∷ ks) small index some is = λ j. (if has_small (i ∷ ks) then (is j).0 else 0) + (is j).1
join_calls (Some s) (i ∷ ks) small index some is = λ j. (if has_small (i ∷ ks) then (is j).0 else 0) + (is j).1

new_gates : (queue number : ℕ) (s : QueueSegment) → IsNew queue number s → (8, 8) ≡ gates s
new_gates queue number s new = λ j. (append_calls (sym new.vacant.small j), append_calls (sym new.vacant.index j))

picked_gates : (queue most : ℕ) (old new : List QueueSegment) (s : QueueSegment) → IsPicked queue most old new s → join_gates (joining most old) ≡ gates s
picked_gates queue most old new s (Last last is same less) =
    ap (λ (l : List QueueSegment). join_gates (joining most l)) is ∙ ap join_gates (joining_last most new last) ∙ ap (λ (b : Bool). join_gates (if b then Some last else None)) (lt_true (count_of last) most less)
    ∙ (λ j. (append_calls (store_gate (sym same.small j)), append_calls (sym same.index.gate j)))
picked_gates queue most old new s (Next front last is full same fresh) =
    ap (λ (l : List QueueSegment). join_gates (joining most l)) is ∙ ap join_gates (joining_last most front last) ∙ ap (λ (b : Bool). join_gates (if b then Some last else None)) (lt_false (count_of last) most full)
    ∙ new_gates queue (last.number + 1) s fresh
picked_gates queue most old new s (First is none fresh) = ap (λ (l : List QueueSegment). join_gates (joining most l)) is ∙ new_gates queue 0 s fresh

-- a commit makes as many calls as its plan and its segment tell
pub commit_calls_are : (skip : List ℕ) (v : QueueValue) (plan : Plan) (planned : IsPlanned skip v plan) (ready : AllByRecursion IsReady (undecided_items v.items)) (front : List QueueSegment) (segment : QueueSegment)
    → IsPicked v.queue v.most v.segments front segment → 0 < length (kept_in skip v) → commit_calls segment plan.records ≡ calls_to_commit skip v
commit_calls_are skip v plan planned ready front segment picked some =
    ap (λ (r : List ℕ). commit_calls segment r) planned.records
    ∙ ap (λ (n : ℕ). n + index_calls segment) (records_calls (small_calls segment) (kept_in skip v) (kept_all IsReady skip (room_in v) (undecided_items v.items) ready))
    ∙ sym (join_calls (joining v.most v.segments) (kept_in skip v) (small_calls segment) (index_calls segment) some (picked_gates v.queue v.most v.segments front segment picked))

-- ---- the value afterwards

-- the messages, where the segment's number and count are these
pub committed_is : (skip : List ℕ) (v : QueueValue) (segment : QueueSegment) (n k : ℕ) → pick_in v ≡ as_pick segment → n ≡ segment.number → k ≡ count_of segment
    → commit_items skip (room_in v) n k (pick_in v).base v.items ≡ committed_in skip v
committed_is skip v segment n k pick number count =
    ap (λ (m : ℕ). commit_items skip (room_in v) m k (pick_in v).base v.items) (number ∙ sym (ap (λ (p : Pick). p.number) pick))
    ∙ ap (λ (m : ℕ). commit_items skip (room_in v) (pick_in v).number m (pick_in v).base v.items) (count ∙ sym (ap (λ (p : Pick). p.count) pick))

pub tied_after : (skip : List ℕ) (v : QueueValue) (plan : Plan) (planned : IsPlanned skip v plan) (ready : AllByRecursion IsReady (undecided_items v.items)) (front : List QueueSegment) (segment last : QueueSegment)
    → IsPicked v.queue v.most v.segments front segment → AreBelow segment.number front → SameNumber segment last → IsMore segment last (length plan.entries.items) (length plan.records)
    → IsTied v.items v.segments → IsTied (committed_in skip v) (front ++ last ∷ [])
tied_after skip v plan planned ready front segment last picked below number grown tied =
    subst (λ (p : Pick). IsTied (commit_items skip (room_in v) p.number p.count p.base v.items) (front ++ last ∷ [])) (sym (picked_is v.queue v.most v.segments front segment picked))
    (grown_tied v.queue v.most v.segments front segment last (length plan.entries.items) (length plan.records) picked below number grown skip (room_in v) (end_of segment) v.items refl (more_is skip v plan planned ready) (bytes_is skip v plan planned ready)
    (rising_climbs (present_of segment) segment.index.rising) (rising_climbs (present_of last) last.index.rising) (recursion_from_All (λ (k : ℕ). k < count_of segment) (present_of segment) segment.index.below) tied)
