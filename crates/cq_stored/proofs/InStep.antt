-- What keeps a queue in step with the journal and with what is held.
use Rattle.std.proofs.Common.{◌≡◌, ◌⊎◌, inl, inr, ⊎_elim, ℕ, Bool, true, false, not, cond, List, [], ◌∷◌, ◌++◌, filter, map, Option, refl, sym, ap, ◌∙◌, subst, append-nil}
use Rattle.std.specs.Prelude.{is_some, ◌==◌, ◌&&◌, ◌||◌}
use Rattle.std.specs.List.{AllByRecursion, AllZip}
use Rattle.std.proofs.lemmas.Bool.{false≢true, cases_Bool, eq-eqb, eqb-true, both_ways, not_from_false, false_from_ne_true, or_parts, or_from, or_cases, or_left, or_right}
use Rattle.std.proofs.lemmas.List.Elements.{filter-append}
use Rattle.std.proofs.lemmas.List.Folds.{list_any-append}
use Rattle.cq_bytes.specs.Numbers.{contains}
use Rattle.cq_entry.specs.declared.entry.EntryKind.{EntryKind}
use Rattle.cq_journal.specs.declared.event.Event.{Event}
use Rattle.cq_journal.specs.declared.event.Event.TheVariants as event
use Rattle.cq_journal.specs.declared.event.Entry.{Entry}
use Rattle.cq_journal.specs.declared.event.Message.{Message}
use Rattle.cq_journal.specs.declared.lines.Line.{Line}
use Rattle.cq_journal.specs.Lists.{IsSublist}
use Rattle.cq_journal.specs.History.{has_id, adds, opened_in, line, acked, settles, settled}
use Rattle.cq_journal.specs.Legal.{Legal, has}
use Rattle.cq_journal.proofs.Laws.{acked-unbrought}
use Rattle.cq_journal.proofs.Lists.{filter-congr, filter-others}
use Rattle.cq_journal.proofs.More.{eqb-sym, settled-removed}
use Rattle.cq_folder.specs.Holding.{left_out}
use Rattle.cq_folder.specs.HeldLaws.{settle_at, settle_all}
use Rattle.cq_folder.proofs.Sublists.{sublist_self, sublist_front, clash}
use Rattle.cq_folder.proofs.Splits.{sublist_trans}
use Rattle.cq_items.specs.Item.{Item}
use Rattle.cq_items.specs.declared.item.Holder.{Holder}
use Rattle.cq_items.specs.declared.item.Holder.TheVariants.{Waiting}
use Rattle.cq_items.specs.Items.{ack, ack_one, back_one, hand_out, has_item, holding, new_item, others_items, settling_ids, undecided_items}
use Rattle.cq_queue_laws.specs.Follows.{Whereabouts, bare, standing, is_unsettled, Follows}
use Rattle.cq_queue_laws.specs.Laws.{items_after}
use Rattle.cq_queue_laws.proofs.Entries.{entry-keeps, opened-keeps}
use Rattle.cq_queue_laws.proofs.Keeps.{keeps-published}
use Rattle.cq_queue_laws.proofs.Settles.{settled-each, settling-filters}
use Rattle.cq_queue_laws.proofs.Standing.{standing-dropped, standing-quiet}
use Rattle.cq_queue_laws.proofs.Told.{follows-once}
use Rattle.cq_queue.specs.Passing.{Suits, commit_items}
use Rattle.cq_queue.specs.Tied.{AreSplit}
use Rattle.cq_stored.specs.Stored.{is_stored, unsettled_line, coming, AreStored, HasBodies}
use Rattle.cq_stored.specs.InStep.{IsInStep, IsFound, skipped_of, publish_at, InStepLaws, PassingLaws}
use Rattle.cq_stored.proofs.Alike.{Alike, become_bodies, alike_becomes, alike_stored, alike_split, alike_self, alike_map, alike_handed, split_filter, unnamed, bodies_left}
use Rattle.cq_stored.proofs.History.{Reads, unsettled_same, follows_moved, line_settled, standing_settled, settled_here, settled_there, reads_over, unsettled_left, settle_same}
use Rattle.cq_stored.proofs.Holding.{stored_laws, same_ids, left_has, others_stored, left_out_sublist, stored_unsettled}
use Rattle.cq_stored.proofs.Skipped.{commit_decides, commit_split, decides_become, decides_bare}

-- ---- histories that say the same of the line, and messages that are alike

moved : (kinds : Message → EntryKind) (is js : List Item) (a b : List Entry) (q : ℕ) (held : List Message) → Reads a b q → AllZip Alike is js → Follows js b q → IsInStep kinds is a q held → IsInStep kinds js b q held
moved kinds is js a b q held same alike follows s = record {
  follows = follows;
  split = alike_split is js alike s.split;
  bodies = subst (AllZip (HasBodies kinds) js) (sym (unsettled_same a b q same)) (become_bodies kinds is js (unsettled_line a q) (alike_becomes is js alike) s.bodies);
  stored = record {
    sublist = subst (IsSublist held) (sym same.line_is) s.stored.sublist;
    ids = λ x. s.stored.ids x ∙ sym (alike_stored is js x alike);
  };
}

-- ---- some ids are settled, and their messages leave

left_in_step : (kinds : Message → EntryKind) (items : List Item) (past : List Entry) (q : ℕ) (held : List Message) (stamp : ℕ) (ids : List ℕ) → IsInStep kinds items past q held
    → IsInStep kinds (unnamed ids items) (settle_all stamp q ids past) q (left_out ids held)
left_in_step kinds items past q held stamp ids s = record {
  follows = subst (λ (p : List Entry). Follows (unnamed ids items) p q) (settle_same stamp q ids past) (settled-each ids items past stamp q s.follows);
  split = split_filter (λ (i : Item). not (contains ids i.id)) items s.split;
  bodies = subst (AllZip (HasBodies kinds) (unnamed ids items)) (sym (unsettled_left stamp q ids past)) (bodies_left kinds ids items (unsettled_line past q) s.bodies);
  stored = record {
    sublist = subst (IsSublist (left_out ids held)) (sym (line_settled stamp q ids past q)) (sublist_trans (left_out ids held) held (line past q) (left_out_sublist ids held) s.stored.sublist);
    ids = λ x. left_has ids held x ∙ ap (λ (b : Bool). b && not (contains ids x)) (s.stored.ids x) ∙ sym (others_stored ids items x);
  };
}

settled_in_step : (kinds : Message → EntryKind) (items : List Item) (past : List Entry) (q : ℕ) (held : List Message) (stamp : ℕ) → Legal past → IsInStep kinds items past q held
    → IsInStep kinds (others_items items) (settle_all stamp q (settling_ids items) past) q (left_out (settling_ids items) held)
settled_in_step kinds items past q held stamp legal s =
    subst (λ (is : List Item). IsInStep kinds is (settle_all stamp q (settling_ids items) past) q (left_out (settling_ids items) held)) (sym (settling-filters items (follows-once items past q legal s.follows)))
    (left_in_step kinds items past q held stamp (settling_ids items) s)

committed_in_step : (kinds : Message → EntryKind) (items : List Item) (past : List Entry) (q : ℕ) (held : List Message) (skip : List ℕ) (room segment at place stamp : ℕ) → Legal past → IsInStep kinds items past q held
    → IsInStep kinds (commit_items skip room segment at place items) (settle_all stamp q (skipped_of skip room (undecided_items items)) past) q (held ++ coming skip room items past q)
committed_in_step kinds items past q held skip room segment at place stamp legal s =
    let ids : List ℕ = skipped_of skip room (undecided_items items) in
    let now : List Item = commit_items skip room segment at place items in
    let left = left_in_step kinds items past q held stamp ids s in
    let decides = commit_decides skip room segment at place items (follows-once items past q legal s.follows) in
    let are : AreStored now past q (held ++ coming skip room items past q) = stored_laws.committed kinds items past q held skip room segment at place legal s.split s.bodies s.stored in
    record {
      follows = decides_bare (unnamed ids items) now decides ∙ left.follows;
      split = commit_split skip room segment at place items s.split;
      bodies = become_bodies kinds (unnamed ids items) now (unsettled_line (settle_all stamp q ids past) q) (decides_become (unnamed ids items) now decides) left.bodies;
      stored = record {
        sublist = subst (IsSublist (held ++ coming skip room items past q)) (sym (line_settled stamp q ids past q)) are.sublist;
        ids = are.ids;
      };
    }

-- ---- another queue

same_map : (is : List Item) → map (holding (λ (h : Holder). h)) is ≡ is
same_map [] = refl
same_map (i ∷ is) = ap (λ (l : List Item). i ∷ l) (same_map is)

-- nobody's holder changes
stays : (kinds : Message → EntryKind) (items : List Item) (a b : List Entry) (q : ℕ) (held : List Message) → Reads a b q → ((x : ℕ) → standing b q x ≡ standing a q x) → IsInStep kinds items a q held → IsInStep kinds items b q held
stays kinds items a b q held same stand s = moved kinds items items a b q held same (alike_self items)
    (subst (λ (is : List Item). Follows is b q) (same_map items) (follows_moved items a b q (λ (h : Holder). h) same stand s.follows)) s

elsewhere_in_step : (kinds : Message → EntryKind) (items : List Item) (past : List Entry) (q r : ℕ) (held : List Message) (stamp : ℕ) (ids : List ℕ) → (q == r) ≡ false → IsInStep kinds items past r held → IsInStep kinds items (settle_all stamp q ids past) r held
elsewhere_in_step kinds items past q r held stamp ids other s = stays kinds items past (settle_all stamp q ids past) r held
    (record { line_is = line_settled stamp q ids past r; settled_is = λ x. ap (λ (l : List ℕ). contains l x) (settled_there stamp q ids past r other) })
    (standing_settled stamp q ids past r) s

-- ---- an entry that brings no message

reads_next : (past : List Entry) (e : Entry) (q : ℕ) → adds q e.event ≡ [] → settles q e.event ≡ [] → Reads past (e ∷ past) q
reads_next past e q none same = record {
  line_is = ap (λ (l : List Message). line past q ++ l) none ∙ append-nil (line past q);
  settled_is = λ x. ap (λ (l : List ℕ). contains (settled past q ++ l) x) same ∙ ap (λ (l : List ℕ). contains l x) (append-nil (settled past q));
}

abbrev after_alike : ℕ → Event → List Item → Type 0
after_alike q e items = (settles q e ≡ []) × AllZip Alike items (items_after e q items)

quiet_alike : (q : ℕ) (items : List Item) (e : Event) → after_alike q e items ⊎ ((queue : ℕ) × ((id : ℕ) × ((e ≡ event.Settled queue id) × ((queue == q) ≡ true))))
quiet_alike q items (event.Opened lines) = inl (refl, alike_self items)
quiet_alike q items (event.Published c n id queues body) = inl (refl, alike_self items)
quiet_alike q items (event.Delivered c n queue id) = inl (refl, elim (queue == q) as (λ (b : Bool). AllZip Alike items (cond b (hand_out c n items) items)) [ true ↦ alike_handed c n items | false ↦ alike_self items ])
quiet_alike q items (event.Empty c queue) = inl (refl, alike_self items)
quiet_alike q items (event.Busy c queue) = inl (refl, alike_self items)
quiet_alike q items (event.Acked c n) = inl (refl, alike_map (ack_one c n) items)
quiet_alike q items (event.Unknown c n) = inl (refl, alike_self items)
quiet_alike q items (event.Dropped c n) = inl (refl, alike_map (ack_one c n) items)
quiet_alike q items (event.Ended c) = inl (refl, alike_map (back_one c) items)
quiet_alike q items (event.Confirmed c n id) = inl (refl, alike_self items)
quiet_alike q items (event.Settled queue id) = ⊎_elim
    (λ here. inr (queue, (id, (refl, here))))
    (λ other. inl (
      ap (λ (b : Bool). cond b (id ∷ []) []) other,
      subst (λ (b : Bool). AllZip Alike items (cond b (filter (λ (i : Item). not (i.id == id)) items) items)) (sym other) (alike_self items),
    )) (cases_Bool (queue == q))

or_nil : (b : Bool) → (b || false) ≡ b
or_nil true = refl
or_nil false = refl

left_same : (id : ℕ) (ms : List Message) → has_id ms id ≡ false → left_out (id ∷ []) ms ≡ ms
left_same id ms lacks = filter-congr (λ (m : Message). not (contains (id ∷ []) m.id)) (λ (m : Message). not (id == m.id)) (λ m. ap not (or_nil (id == m.id))) ms ∙ filter-others id ms lacks

one_settled : (kinds : Message → EntryKind) (items : List Item) (past : List Entry) (stamp q id : ℕ) (held : List Message) → has_id held id ≡ false → IsInStep kinds items past q held
    → IsInStep kinds (filter (λ (i : Item). not (i.id == id)) items) (settle_at stamp q id ∷ past) q held
one_settled kinds items past stamp q id held lacks s =
    subst (λ (is : List Item). IsInStep kinds is (settle_at stamp q id ∷ past) q held)
    (filter-congr (λ (i : Item). not (contains (id ∷ []) i.id)) (λ (i : Item). not (i.id == id)) (λ i. ap not (or_nil (id == i.id) ∙ eqb-sym id i.id)) items)
    (subst (λ (ms : List Message). IsInStep kinds (unnamed (id ∷ []) items) (settle_at stamp q id ∷ past) q ms) (left_same id held lacks) (left_in_step kinds items past q held stamp (id ∷ []) s))

quiet_in_step : (kinds : Message → EntryKind) (items : List Item) (past : List Entry) (e : Entry) (q : ℕ) (held : List Message) → Legal (e ∷ past) → adds q e.event ≡ []
    → ((x : ℕ) → contains (settles q e.event) x ≡ true → has_id held x ≡ false) → IsInStep kinds items past q held → IsInStep kinds (items_after e.event q items) (e ∷ past) q held
quiet_in_step kinds items past e q held legal none lacks s = ⊎_elim
    (λ alike. moved kinds items (items_after e.event q items) past (e ∷ past) q held (reads_next past e q none alike.0) alike.1 (entry-keeps items past e q legal none s.follows) s)
    (λ is.
    let queue : ℕ = is.0 in
    let id : ℕ = is.1.0 in
    let here : queue ≡ q = eqb-true queue q is.1.1.1 in
    let own : e.event ≡ event.Settled q id = is.1.1.0 ∙ ap (λ (k : ℕ). event.Settled k id) here in
    let itself : contains (settles q (event.Settled q id)) id ≡ true = ap (λ (b : Bool). contains (cond b (id ∷ []) []) id) (ap (λ (k : ℕ). k == q) (sym here) ∙ is.1.1.1) ∙ or_left (id == id) false (same_number id) in
    let all_lack : has_id held id ≡ false = lacks id (ap (λ (v : Event). contains (settles q v) id) own ∙ itself) in
    subst (λ (v : Event). IsInStep kinds (items_after v q items) (record { event = v; stamp = e.stamp } ∷ past) q held) (sym own)
    (subst (λ (b : Bool). IsInStep kinds (cond b (filter (λ (i : Item). not (i.id == id)) items) items) (settle_at e.stamp q id ∷ past) q held) (sym (same_number q))
    (one_settled kinds items past e.stamp q id held all_lack s)))
    (quiet_alike q items e.event)
  where
    same_number : (n : ℕ) → (n == n) ≡ true
    same_number n = eq-eqb n n refl

-- ---- a publish, and an opening

open_at_end : (is : List Item) (i : Item) → is_some i.stand ≡ false → AreSplit is → AreSplit (is ++ i ∷ [])
open_at_end [] i open_ split = ((λ none. tt), tt)
open_at_end (j ∷ is) i open_ split = ((λ none. more is (split.0 none)), open_at_end is i open_ split.1)
  where
    more : (js : List Item) → AllByRecursion (λ (k : Item). is_some k.stand ≡ false) js → AllByRecursion (λ (k : Item). is_some k.stand ≡ false) (js ++ i ∷ [])
    more [] all = (open_, tt)
    more (k ∷ js) all = (all.0, more js all.1)

bodies_at_end : (kinds : Message → EntryKind) (is : List Item) (i : Item) (ms : List Message) (m : Message) → HasBodies kinds i m → AllZip (HasBodies kinds) is ms → AllZip (HasBodies kinds) (is ++ i ∷ []) (ms ++ m ∷ [])
bodies_at_end kinds [] i [] m h z = (h, tt)
bodies_at_end kinds [] i (k ∷ ms) m h z = absurd z
bodies_at_end kinds (j ∷ is) i [] m h z = absurd z
bodies_at_end kinds (j ∷ is) i (k ∷ ms) m h z = (z.0, bodies_at_end kinds is i ms m h z.1)

and_no : (b : Bool) → (b && false) ≡ false
and_no true = refl
and_no false = refl

published_in_step : (kinds : Message → EntryKind) (items : List Item) (past : List Entry) (q : ℕ) (held : List Message) (stamp client number : ℕ) (queues : List ℕ) (m : Message) (body : Option (List ℕ)) (len : ℕ)
    → Legal (publish_at stamp client number queues m ∷ past) → contains queues q ≡ true → Suits kinds (new_item m.id body len) m → IsInStep kinds items past q held
    → IsInStep kinds (items ++ new_item m.id body len ∷ []) (publish_at stamp client number queues m ∷ past) q held
published_in_step kinds items past q held stamp client number queues m body len legal there suits s =
    let e : Entry = publish_at stamp client number queues m in
    let i : Item = new_item m.id body len in
    let u : Message → Bool = is_unsettled past q in
    let fresh : contains (settled past q) m.id ≡ false = false_from_ne_true _ (λ t. both_ways _ (acked-unbrought past q m.id legal.3 legal.0.1) (settled-removed past q m.id legal.3 t)) in
    let lines : unsettled_line (e ∷ past) q ≡ unsettled_line past q ++ m ∷ [] =
    ap (λ b. filter (is_unsettled (e ∷ past) q) (line past q ++ cond b (m ∷ []) [])) there
    ∙ filter-congr (is_unsettled (e ∷ past) q) u (λ k. ap (λ xs. not (contains xs k.id)) (append-nil (settled past q))) (line past q ++ m ∷ [])
    ∙ filter-append u (line past q) (m ∷ [])
    ∙ ap (λ b. unsettled_line past q ++ cond b (m ∷ []) []) (not_from_false _ fresh) in
    let has : HasBodies kinds i m = record { id = suits.id; len = suits.len; kind = suits.kind; body = λ small open_. suits.body small } in
    record {
      follows = keeps-published items past stamp client number m.id q len queues m.body body legal.3 legal.0.1 there s.follows;
      split = open_at_end items i refl s.split;
      bodies = subst (AllZip (HasBodies kinds) (items ++ i ∷ [])) (sym lines) (bodies_at_end kinds items i (unsettled_line past q) m has s.bodies);
      stored = record {
        sublist = sublist_front held (line past q) (adds q e.event) s.stored.sublist;
        ids = λ x. s.stored.ids x ∙ sym (list_any-append (λ (j : Item). j.id == x && is_some j.stand) items (i ∷ [])
            ∙ ap (λ (b : Bool). is_stored items x || (b || false)) (and_no (m.id == x)) ∙ or_nil (is_stored items x));
      };
    }

-- what was found, side by side
found_bare : (kinds : Message → EntryKind) (is : List Item) (ms : List Message) → AllZip (IsFound kinds) is ms → map bare is ≡ map (λ (m : Message). record { id = m.id; holder = Waiting }) ms
found_bare kinds [] [] z = refl
found_bare kinds [] (m ∷ ms) z = absurd z
found_bare kinds (i ∷ is) [] z = absurd z
found_bare kinds (i ∷ is) (m ∷ ms) z =
    ap (λ (k : ℕ). record { id = k; holder = i.holder } ∷ map bare is) z.0.id ∙ ap (λ (h : Holder). record { id = m.id; holder = h } ∷ map bare is) z.0.holder
    ∙ ap (λ (l : List Whereabouts). record { id = m.id; holder = Waiting } ∷ l) (found_bare kinds is ms z.1)

found_split : (kinds : Message → EntryKind) (is : List Item) (ms : List Message) → AllZip (IsFound kinds) is ms → AreSplit is
found_split kinds [] ms z = tt
found_split kinds (i ∷ is) [] z = absurd z
found_split kinds (i ∷ is) (m ∷ ms) z = ((λ open_. absurd (false≢true (sym open_ ∙ z.0.stands))), found_split kinds is ms z.1)

found_bodies : (kinds : Message → EntryKind) (is : List Item) (ms : List Message) → AllZip (IsFound kinds) is ms → AllZip (HasBodies kinds) is ms
found_bodies kinds [] [] z = tt
found_bodies kinds [] (m ∷ ms) z = absurd z
found_bodies kinds (i ∷ is) [] z = absurd z
found_bodies kinds (i ∷ is) (m ∷ ms) z = (record { id = z.0.id; len = z.0.len; kind = z.0.kind; body = λ small open_. absurd (false≢true (sym open_ ∙ z.0.stands)) }, found_bodies kinds is ms z.1)

found_ids : (kinds : Message → EntryKind) (is : List Item) (ms : List Message) (x : ℕ) → AllZip (IsFound kinds) is ms → has_id ms x ≡ is_stored is x
found_ids kinds [] [] x z = refl
found_ids kinds [] (m ∷ ms) x z = absurd z
found_ids kinds (i ∷ is) [] x z = absurd z
found_ids kinds (i ∷ is) (m ∷ ms) x z =
    ap (λ (k : ℕ). (k == x) || has_id ms x) (sym z.0.id) ∙ ap (λ (b : Bool). b || has_id ms x) (sym (and_yes (i.id == x)))
    ∙ ap (λ (b : Bool). (i.id == x && b) || has_id ms x) (sym z.0.stands) ∙ ap (λ (b : Bool). (i.id == x && is_some i.stand) || b) (found_ids kinds is ms x z.1)
  where
    and_yes : (b : Bool) → (b && true) ≡ b
    and_yes true = refl
    and_yes false = refl

filter_all : (ms : List Message) → filter (λ (m : Message). true) ms ≡ ms
filter_all [] = refl
filter_all (m ∷ ms) = ap (λ (l : List Message). m ∷ l) (filter_all ms)

opened_in_step : (kinds : Message → EntryKind) (items : List Item) (stamp q : ℕ) (lines : List Line) → AllZip (IsFound kinds) items (opened_in q lines)
    → IsInStep kinds items (record { event = event.Opened lines; stamp = stamp } ∷ []) q (opened_in q lines)
opened_in_step kinds items stamp q lines z = record {
  follows = opened-keeps items stamp q lines (found_bare kinds items (opened_in q lines) z);
  split = found_split kinds items (opened_in q lines) z;
  bodies = subst (AllZip (HasBodies kinds) items) (sym (filter_all (opened_in q lines))) (found_bodies kinds items (opened_in q lines) z);
  stored = record { sublist = sublist_self (opened_in q lines); ids = λ x. found_ids kinds items (opened_in q lines) x z };
}

pub in_step_laws : InStepLaws
in_step_laws = record {
  opened = opened_in_step;
  published = published_in_step;
  quiet = quiet_in_step;
  committed = committed_in_step;
  settled = settled_in_step;
  elsewhere = elsewhere_in_step;
}

-- ---- between a commit and the last of its entries

has_filter : (p : Message → Bool) (ms : List Message) (x : ℕ) → ((m : Message) → (m.id == x) ≡ true → p m ≡ true) → has_id ms x ≡ true → has_id (filter p ms) x ≡ true
has_filter p [] x passes has = has
has_filter p (m ∷ ms) x passes has = ⊎_elim
    (λ here. subst (λ (b : Bool). has_id (cond b (m ∷ filter p ms) (filter p ms)) x ≡ true) (sym (passes m here)) (or_left (m.id == x) (has_id (filter p ms) x) here))
    (λ later. (elim (p m) as (λ (b : Bool). has_id (cond b (m ∷ filter p ms) (filter p ms)) x ≡ true) [
      | true ↦ or_right (m.id == x) (has_id (filter p ms) x) (has_filter p ms x passes later)
      | false ↦ has_filter p ms x passes later
    ]))
    (or_cases (m.id == x) (has_id ms x) has)

-- what is there and isn't undecided is committed
decided_stored : (is : List Item) (x : ℕ) → has_item is x ≡ true → has_item (undecided_items is) x ≡ false → is_stored is x ≡ true
decided_stored [] x has none = has
decided_stored (i ∷ is) x has none =
    (elim (is_some i.stand) as (λ (b : Bool). has_item (cond (not b) (i ∷ undecided_items is) (undecided_items is)) x ≡ false → ((i.id == x && b) || is_stored is x) ≡ true) [
      | true ↦ λ none. ⊎_elim
          (λ here. or_left (i.id == x && true) (is_stored is x) (ap (λ (b : Bool). b && true) here))
          (λ later. or_right (i.id == x && true) (is_stored is x) (decided_stored is x later none))
          (or_cases (i.id == x) (has_item is x) has)
      | false ↦ λ none. (
          let parts = or_parts (i.id == x) (has_item (undecided_items is) x) none in
          ⊎_elim
          (λ here. clash (i.id == x) parts.0 here)
          (λ later. or_right (i.id == x && false) (is_stored is x) (decided_stored is x later parts.1))
          (or_cases (i.id == x) (has_item is x) has))
    ]) none

safe_in_step : (kinds : Message → EntryKind) (items : List Item) (past : List Entry) (q r : ℕ) (held : List Message) (stamp x : ℕ) (ids : List ℕ) → Legal past → IsInStep kinds items (settle_all stamp q ids past) r held
    → (contains ids x ≡ true → contains (acked past q) x ≡ true) → has_item (undecided_items items) x ≡ false
    → has_id (line past r) x ≡ true → contains (acked past r) x ≡ false → has_id held x ≡ true
safe_in_step kinds items past q r held stamp x ids legal s gone decided there waits =
    let now : List Entry = settle_all stamp q ids past in
    let before : contains (settled past r) x ≡ false = false_from_ne_true _ (λ t. both_ways _ waits (settled-removed past r x legal t)) in
    let open_ : contains (settled now r) x ≡ false = ⊎_elim
    (λ here. let same : q ≡ r = eqb-true q r here in
    subst (λ (k : ℕ). contains (settled now k) x ≡ false) same
    (settled_here stamp q ids past x ∙ or_from (contains (settled past q) x) (contains ids x) (subst (λ (k : ℕ). contains (settled past k) x ≡ false) (sym same) before)
    (false_from_ne_true _ (λ t. both_ways _ (subst (λ (k : ℕ). contains (acked past k) x ≡ false) (sym same) waits) (gone t)))))
    (λ other. ap (λ (l : List ℕ). contains l x) (settled_there stamp q ids past r other) ∙ before)
    (cases_Bool (q == r)) in
    let in_line : has_id (line now r) x ≡ true = ap (λ (l : List Message). has_id l x) (line_settled stamp q ids past r) ∙ there in
    let waiting : has_id (unsettled_line now r) x ≡ true = has_filter (is_unsettled now r) (line now r) x
    (λ m same. ap not (ap (contains (settled now r)) (eqb-true m.id x same) ∙ open_)) in_line in
    s.stored.ids x ∙ decided_stored items x (same_ids kinds items (unsettled_line now r) x s.bodies ∙ waiting) decided

lacks_in_step : (kinds : Message → EntryKind) (items : List Item) (past : List Entry) (q : ℕ) (held : List Message) (stamp x : ℕ) (ids : List ℕ) → IsInStep kinds items (settle_all stamp q ids past) q held
    → contains ids x ≡ true → has_id held x ≡ false
lacks_in_step kinds items past q held stamp x ids s there =
    let now : List Entry = settle_all stamp q ids past in
    let gone : contains (settled now q) x ≡ true = settled_here stamp q ids past x ∙ or_right (contains (settled past q) x) (contains ids x) there in
    s.stored.ids x ∙ false_from_ne_true _ (λ stored. both_ways _ (stored_unsettled kinds items now q x s.bodies stored) gone)

pub passing_laws : PassingLaws
passing_laws = record {
  confirmed = λ kinds items past q r held stamp now client number id ids s.
      let e : Entry = record { event = event.Confirmed client number id; stamp = now } in
      stays kinds items (settle_all stamp q ids past) (settle_all stamp q ids (e ∷ past)) r held
      (reads_over stamp q ids past (e ∷ past) r (append-nil (line past r)) (append-nil (settled past r)))
      (λ x. standing_settled stamp q ids (e ∷ past) r x ∙ standing-quiet past e r x refl refl ∙ sym (standing_settled stamp q ids past r x)) s;
  dropped = λ kinds items past q r held stamp now client number ids legal s.
      let e : Entry = record { event = event.Dropped client number; stamp = now } in
      let a : List Entry = settle_all stamp q ids past in
      let b : List Entry = settle_all stamp q ids (e ∷ past) in
      let same : Reads a b r = reads_over stamp q ids past (e ∷ past) r (append-nil (line past r)) (append-nil (settled past r)) in
      moved kinds items (ack client number items) a b r held same (alike_map (ack_one client number) items)
      (follows_moved items a b r (ack_one client number) same
      (λ x. standing_settled stamp q ids (e ∷ past) r x ∙ standing-dropped past now client number r x legal ∙ ap (ack_one client number) (sym (standing_settled stamp q ids past r x))) s.follows) s;
  safe = safe_in_step;
  lacks = lacks_in_step;
}
