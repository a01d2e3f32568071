-- A publish keeps what is in memory in step, and room alone changes nothing of it.
use Rattle.std.proofs.Common.{◌≡◌, ℕ, Bool, true, false, cond, List, [], ◌∷◌, ◌++◌, length, Some, refl, sym, ap, ◌∙◌, subst, inl, inr}
use Rattle.std.specs.Prelude.{◌==◌, ◌||◌, ◌&&◌, OnErr, Result, Ok, Err}
use Rattle.std.specs.Ordering.{nat_cmp}
use Rattle.std.specs.FinMap.{FinMap, get, insert}
use Rattle.std.proofs.Math.Logic.{∥∥₁_map}
use Rattle.std.proofs.lemmas.Bool.{cases_eq, cond-false, cond-true, eq-eqb, ne_eqb}
use Rattle.std.proofs.lemmas.List.Folds.{list_any-append}
use Rattle.cq_bytes.specs.Numbers.{AreQueues, contains}
use Rattle.cq_entry.specs.declared.entry.EntryKind.TheVariants.{Small}
use Rattle.cq_map.proofs.Totals.{get_put}
use Rattle.cq_journal.specs.declared.event.Entry.{Entry}
use Rattle.cq_journal.specs.declared.event.Message.{Message}
use Rattle.cq_journal.specs.History.{line}
use Rattle.cq_journal.specs.Legal.{Legal, brings, has}
use Rattle.cq_journal.proofs.Laws.{line-unbrought}
use Rattle.cq_journal.proofs.Lists.{any-filter}
use Rattle.cq_core.specs.Core.{IsNextId}
use Rattle.cq_items.specs.Item.{Item}
use Rattle.cq_items.specs.Items.{has_item, new_item, undecided, undecided_items}
use Rattle.cq_queue_laws.specs.Follows.{is_unsettled}
use Rattle.cq_queue_laws.specs.Refs.{count_below}
use Rattle.cq_queue_laws.proofs.Referred.{below-queues, count-contains, count-same}
use Rattle.cq_queue_laws.proofs.Undecided.{undecided-publish}
use Rattle.cq_confirm.specs.declared.lack.Lack.{Lack}
use Rattle.cq_confirm.specs.Lacking.{count_of}
use Rattle.cq_queue.specs.Passing.{Suits}
use Rattle.cq_queue.specs.Values.{QueueValue}
use Rattle.cq_stored.specs.InStep.{IsInStep, publish_at}
use Rattle.cq_stored.specs.Queues.{AreInStep}
use Rattle.cq_stored.specs.Stored.{unsettled_line}
use Rattle.cq_stored.proofs.Holding.{same_ids}
use Rattle.cq_stored.proofs.Queues.{published_each, queues_laws}
use Rattle.cq_history.proofs.Publishing.{one-next}
use Rattle.cq_queues.specs.Changes.{AreBelow, ChangesRoom, HasJoined, StayOnDisk, joined_by}
use Rattle.cq_queues.proofs.Loops.{room_stays, stay_more}
use Rattle.cq_broker.specs.InMemory.{IsInMemory, KeepsInStep, is_undecided, items_of, small_sharing}
use Rattle.cq_broker.specs.Publishing.{HasJoinedNext, with_message}

-- ---- numbers of queues

pub queues-below : (qs : List ℕ) → AreQueues qs → AreBelow qs
queues-below [] a = tt
queues-below (q ∷ qs) a = (a.0, queues-below qs a.2)

-- ---- what a message is that is published

abbrev message : ℕ → List ℕ → Message
message id body = record { id = id; body = body }

abbrev item : ℕ → List ℕ → Item
item id body = new_item id (Some body) (length body)

suits : (id : ℕ) (body : List ℕ) → Suits (λ m. Small) (item id body) (message id body)
suits id body = record { id = refl; len = refl; kind = refl; body = λ _. refl }

-- a message that none brought is undecided nowhere
fresh-undecided : (items : List Item) (past : List Entry) (q id : ℕ) (held : List Message) → IsInStep (λ m. Small) items past q held → has (brings id) past ≡ false → has_item (undecided_items items) id ≡ false
fresh-undecided items past q id held s new =
    any-filter (λ (i : Item). i.id == id) undecided items
    (same_ids (λ m. Small) items (unsettled_line past q) id s.bodies ∙ any-filter (λ (m : Message). m.id == id) (is_unsettled past q) (line past q) (line-unbrought past q id new))

or_false : (b : Bool) → (b || false) ≡ b
or_false true = refl
or_false false = refl

and_true : (b : Bool) → (b && true) ≡ b
and_true true = refl
and_true false = refl

and_false : (b : Bool) → (b && false) ≡ false
and_false true = refl
and_false false = refl

undecided-joined : (b : Bool) (is : List Item) (id x : ℕ) (body : List ℕ) → has_item (undecided_items (cond b (is ++ item id body ∷ []) is)) x ≡ (has_item (undecided_items is) x || (b && id == x))
undecided-joined true is id x body =
    ap (λ (l : List Item). has_item l x) (undecided-publish is id (length body) (Some body))
    ∙ list_any-append (λ (i : Item). i.id == x) (undecided_items is) (item id body ∷ []) ∙ ap (λ c. has_item (undecided_items is) x || c) (or_false (id == x))
undecided-joined false is id x body = sym (or_false (has_item (undecided_items is) x))

-- ---- the step

abbrev JoinsAt : List ℕ → ℕ → List ℕ → (ℕ → List Item) → (ℕ → List Item) → Type 0
JoinsAt queues id body old new = (r : ℕ) → new r ≡ cond (contains queues r) (old r ++ item id body ∷ []) (old r)

published-lacking : (old new : ℕ → List Item) (past : List Entry) (lacks : FinMap nat_cmp Lack) (client number id : ℕ) (queues body : List ℕ) → AreQueues queues → has (brings id) past ≡ false
    → JoinsAt queues id body old new → IsInMemory old past lacks → (x : ℕ)
    → count_of (get (insert lacks id (record { client = client; number = number; queues = length queues })) x) ≡ count_below 256 (is_undecided new x)
published-lacking old new past lacks client number id queues body are fresh joins m x =
    let l : Lack = record { client = client; number = number; queues = length queues } in
    let has-now : (r : ℕ) → is_undecided new x r ≡ (is_undecided old x r || (contains queues r && id == x)) =
    λ r. ap (λ (is : List Item). has_item (undecided_items is) x) (joins r) ∙ undecided-joined (contains queues r) (old r) id x body in
    ap count_of (get_put lacks id l x) ∙ (elim (cases_eq x id) [
      | inl same ↦
          ap count_of (cond-true (x == id) (Some l) (get lacks x) (eq-eqb x id same))
          ∙ sym (count-same 256 (is_undecided new x) (contains queues) (λ r near. has-now r
          ∙ ap (λ b. b || (contains queues r && id == x)) (ap (λ y. is_undecided old y r) same ∙ fresh-undecided (old r) past r id (m.lines r) (m.in_step r) fresh)
          ∙ ap (λ b. contains queues r && b) (eq-eqb id x (sym same)) ∙ and_true (contains queues r))
          ∙ count-contains 256 queues (below-queues queues are))
      | inr other ↦
          ap count_of (cond-false (x == id) (Some l) (get lacks x) (ne_eqb x id other)) ∙ m.lacking x
          ∙ count-same 256 (is_undecided old x) (is_undecided new x) (λ r near. sym (has-now r
          ∙ ap (λ b. is_undecided old x r || (contains queues r && b)) (ne_eqb id x (λ e. other (sym e)))
          ∙ ap (λ b. is_undecided old x r || b) (and_false (contains queues r)) ∙ or_false (is_undecided old x r)))
    ])

published-memory : (old new : ℕ → List Item) (past : List Entry) (lacks : FinMap nat_cmp Lack) (stamp client number id : ℕ) (queues body : List ℕ) → Legal (publish_at stamp client number queues (message id body) ∷ past)
    → JoinsAt queues id body old new → IsInMemory old past lacks
    → IsInMemory new (publish_at stamp client number queues (message id body) ∷ past) (insert lacks id (record { client = client; number = number; queues = length queues }))
published-memory old new past lacks stamp client number id queues body legal joins m = record {
  lines = m.lines;
  in_step = published_each (λ m. Small) old new past m.lines stamp client number queues (message id body) (Some body) (length body) legal (suits id body) m.in_step joins;
  lacking = published-lacking old new past lacks client number id queues body legal.0.4 legal.0.1 joins m;
}

-- the same where entry and lack are told by equations
pub published-kept : (old new : ℕ → List Item) (past now : List Entry) (lacks after : FinMap nat_cmp Lack) (stamp client number id : ℕ) (queues body : List ℕ)
    → now ≡ publish_at stamp client number queues (message id body) ∷ past → after ≡ insert lacks id (record { client = client; number = number; queues = length queues }) → Legal now
    → JoinsAt queues id body old new → ∥ IsInMemory old past lacks ∥₁ → ∥ IsInMemory new now after ∥₁
published-kept old new past now lacks after stamp client number id queues body is lack legal joins kept = ∥∥₁_map kept (λ m.
    subst (λ (l : FinMap nat_cmp Lack). IsInMemory new now l) (sym lack)
    (subst (λ (j : List Entry). IsInMemory new j (insert lacks id (record { client = client; number = number; queues = length queues }))) (sym is)
    (published-memory old new past lacks stamp client number id queues body (subst Legal is legal) joins m)))

pub published-keeps : (old new : ℕ → QueueValue) (past now : List Entry) (stamp client number id : ℕ) (queues body : List ℕ) → now ≡ publish_at stamp client number queues (message id body) ∷ past → Legal now
    → JoinsAt queues id body (items_of old) (items_of new) → StayOnDisk old new → KeepsInStep old new past now
published-keeps old new past now stamp client number id queues body is legal joins stay = record {
  files = stay;
  standing = λ files shelves lines s.
      subst (λ (j : List Entry). AreInStep files (small_sharing shelves) (items_of new) j j lines) (sym is)
      (queues_laws.published files (small_sharing shelves) (items_of old) (items_of new) past lines stamp client number queues (message id body) (Some body) (length body) (subst Legal is legal) (suits id body) s joins);
}

-- ---- room

-- where room alone has changed the messages are the same
pub room-same : (old new : ℕ → QueueValue) → ChangesRoom old new → items_of new ≡ items_of old
room-same old new room = λ i q. (room q i).items

pub room-kept : (old new : ℕ → QueueValue) (past : List Entry) (lacks : FinMap nat_cmp Lack) → ChangesRoom old new → ∥ IsInMemory (items_of old) past lacks ∥₁ → ∥ IsInMemory (items_of new) past lacks ∥₁
room-kept old new past lacks room kept = subst (λ (items : ℕ → List Item). ∥ IsInMemory items past lacks ∥₁) (sym (room-same old new room)) kept

pub room-first : (old mid new : ℕ → QueueValue) (past now : List Entry) → ChangesRoom old mid → KeepsInStep mid new past now → KeepsInStep old new past now
room-first old mid new past now room keeps = record {
  files = stay_more old mid new (room_stays old mid room) keeps.files;
  standing = λ files shelves lines s. keeps.standing files shelves lines (subst (λ (items : ℕ → List Item). AreInStep files (small_sharing shelves) items past past lines) (sym (room-same old mid room)) s);
}

pub keeps-same : (queues : ℕ → QueueValue) (past : List Entry) → KeepsInStep queues queues past past
keeps-same queues past = record { files = λ q files at. at; standing = λ files shelves lines s. s }

-- a message joins queues of which room alone had changed
pub room-joined : (id : ℕ) (body queues : List ℕ) (old mid new : ℕ → QueueValue) → ChangesRoom old mid → ChangesRoom (with_message id body queues mid) new → ChangesRoom (with_message id body queues old) new
room-joined id body queues old mid new room joined q =
    joined q
    ∙ ap (λ (v : QueueValue). record (cond (contains queues q) (joined_by id body (length body) v) v) { reserved = (new q).reserved }) (room q)
    ∙ (elim (contains queues q) as (λ b. record (cond b (joined_by id body (length body) (record (old q) { reserved = (mid q).reserved })) (record (old q) { reserved = (mid q).reserved })) { reserved = (new q).reserved }
    ≡ record (cond b (joined_by id body (length body) (old q)) (old q)) { reserved = (new q).reserved }) [ true ↦ refl | false ↦ refl ])

-- ---- as the calls tell it

-- where the queues and the length are told by equations
pub joined-exactly : (id : ℕ) (body bytes queues numbers : List ℕ) (old new : ℕ → QueueValue) → bytes ≡ body → numbers ≡ queues → HasJoined id body (length bytes) numbers old new → HasJoined id body (length body) queues old new
joined-exactly id body bytes queues numbers old new same are joined = subst (λ (p : List ℕ × List ℕ). HasJoined id body (length p.0) p.1 old new) (λ i. (same i, are i)) joined

pub joined-items : (id : ℕ) (body queues : List ℕ) (old new : ℕ → QueueValue) → HasJoined id body (length body) queues old new → JoinsAt queues id body (items_of old) (items_of new)
joined-items id body queues old new joined r =
    ap (λ (v : QueueValue). v.items) (joined r)
    ∙ (elim (contains queues r) as (λ b. (cond b (joined_by id body (length body) (old r)) (old r)).items ≡ cond b ((old r).items ++ item id body ∷ []) (old r).items) [ true ↦ refl | false ↦ refl ])

pub joined-next : (past : List Entry) (id : ℕ) (body queues : List ℕ) (old new : ℕ → QueueValue) → IsNextId past id → HasJoined id body (length body) queues old new → HasJoinedNext past body queues old new
joined-next past id body queues old new next joined other is q =
    subst (λ k. new q ≡ record (with_message k body queues old q) { reserved = (new q).reserved }) (one-next past id other next is)
    (joined q ∙ ap (λ (v : QueueValue). record (with_message id body queues old q) { reserved = v.reserved }) (sym (joined q)))

-- where an answer is an error nothing has changed after the room
pub room-refused : {T E : Type 0} (result : Result T E) (old mid new : ℕ → QueueValue) → ChangesRoom old mid → OnErr result (new ≡ mid) → OnErr result (ChangesRoom old new)
room-refused (Ok v) old mid new room same = same
room-refused (Err e) old mid new room same = subst (ChangesRoom old) (sym same) room
