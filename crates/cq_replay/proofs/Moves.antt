-- How the entries and the client's requests move on.
use Rattle.std.proofs.Common.{◌≡◌, ℕ, ◌+◌, ◌<◌, ◌≤◌, List, [], ◌∷◌, ◌++◌, length, Result, Ok, Err, OnOk, refl, sym, ap, ◌∙◌, arith, append_assoc, length-append, true, false, cond}
use Rattle.std.specs.Prelude.{◌==◌, map}
use Rattle.std.specs.List.{AllByRecursion}
use Rattle.std.proofs.lemmas.List.{length-map}
use Rattle.cq_journal.specs.declared.event.Event.{Event}
use Rattle.cq_journal.specs.declared.event.Event.TheVariants as event
use Rattle.cq_journal.specs.declared.reply.Reply.{Reply}
use Rattle.cq_core.specs.Answers.{bodiless}
use Rattle.cq_inbox.specs.declared.request.Request.{Request}
use Rattle.cq_journal.specs.declared.event.Entry.{Entry}
use Rattle.cq_journal.specs.Asks.{ask, asks, own, reply_of, replies}
use Rattle.cq_journal.specs.Legal.{newest}
use Rattle.cq_node.specs.Opening.{IsOpening}
use Rattle.cq_node.specs.declared.outcome.NodeError.{NodeError}
use Rattle.cq_node.specs.declared.outcome.Step.{Step}
use Rattle.cq_node.specs.declared.outcome.Step.TheVariants.{Did, Idle}
use Rattle.cq_node.specs.declared.outcome.Turn.{Turn}
use Rattle.cq_node.specs.declared.outcome.Turn.TheVariants.{Moved, Done}
use Rattle.cq_node.specs.Turned.{Turned, Moves, Wrote}
use Rattle.cq_node.specs.Waiting.{Handed}
use Rattle.cq_disk.specs.declared.disk.Disk.{Ghosts}
use Rattle.cq_disk.specs.RunLemmas.{ran_none, ran_next}
use Rattle.cq_node.specs.declared.node.Node.{Node}
use Rattle.cq_node.specs.View.{disk_of, IsRunning}
use Rattle.cq_replay.specs.Going.{Goes}
use Rattle.cq_journal.specs.declared.session.After.{After}
use Rattle.cq_replay.specs.Sessions.{opening_stamp}
use Rattle.cq_replay.specs.Running.{MovesOn, IsFresh, demand}

-- nothing has moved
pub stays : (moment : ℕ) (old new : List Entry) (w w' : Handed) (rest rest' : List Request) → new ≡ old → w'.requests ++ rest' ≡ w.requests ++ rest → MovesOn moment old new w w' rest rest'
stays moment old new w w' rest rest' same left = record {
  added = [];
  is = same;
  since = tt;
  same = append_assoc (asks new 0) w'.requests rest' ∙ ap (λ l. asks new 0 ++ l) left ∙ ap (λ l. asks l 0 ++ (w.requests ++ rest)) same ∙ sym (append_assoc (asks old 0) w.requests rest);
}

-- an entry that answers the oldest request
pub asked_one : (moment : ℕ) (old new : List Entry) (before after : List Request) (m : Moves moment old new before after) → asks new 0 ≡ asks old 0 ++ m.request ∷ []
asked_one moment old new before after m = ap (λ l. asks l 0) m.answers.added ∙ ap (λ l. asks old 0 ++ l) m.answers.asked

pub turned : (result : Result Turn NodeError) (moment : ℕ) (old new : List Entry) (w w' : Handed) (rest rest' : List Request) → Turned result moment old new w.requests w'.requests → rest' ≡ rest → MovesOn moment old new w w' rest rest'
turned (Ok Moved) moment old new w w' rest rest' m same = record {
  added = m.answers.entry ∷ [];
  is = m.answers.added;
  since = (omega (arith, m.since, m.answers.stamped), tt);
  same =
      ap (λ l. asks new 0 ++ w'.requests ++ l) same ∙ ap (λ l. l ++ w'.requests ++ rest) (asked_one moment old new w.requests w'.requests m)
      ∙ ap (λ l. l ++ rest) (append_assoc (asks old 0) (m.request ∷ []) w'.requests ∙ ap (λ l. asks old 0 ++ l) (sym m.oldest));
}
turned (Ok Done) moment old new w w' rest rest' (is, before, after) same = stays moment old new w w' rest rest' is (ap (λ l. l ++ rest') (after ∙ sym before) ∙ ap (λ l. w.requests ++ l) same)
turned (Err e) moment old new w w' rest rest' (is, waits) same = stays moment old new w w' rest rest' is (ap (λ l. l ++ rest') waits ∙ ap (λ l. w.requests ++ l) same)

pub wrote : (result : Result Step NodeError) (moment : ℕ) (old new : List Entry) (w w' : Handed) (rest rest' : List Request) → Wrote result moment old new → w' ≡ w → rest' ≡ rest → MovesOn moment old new w w' rest rest'
wrote (Ok Did) moment old new w w' rest rest' (some, none, quiet, adds) same also = record {
  added = adds.added;
  is = adds.is;
  since = adds.since;
  same = ap (λ l. l ++ w'.requests ++ rest') quiet.asked ∙ ap (λ (v : Handed). asks old 0 ++ v.requests ++ rest') same ∙ ap (λ l. asks old 0 ++ w.requests ++ l) also;
}
wrote (Ok Idle) moment old new w w' rest rest' (is, none) same also = stays moment old new w w' rest rest' is (ap (λ (v : Handed). v.requests ++ rest') same ∙ ap (λ l. w.requests ++ l) also)
wrote (Err e) moment old new w w' rest rest' is same also = stays moment old new w w' rest rest' is (ap (λ (v : Handed). v.requests ++ rest') same ∙ ap (λ l. w.requests ++ l) also)

-- a fact of entries that were added one after another
pub each_since : (m m' : ℕ) (xs ys : List Entry) → m ≤ m' → AllByRecursion (λ e. m' ≤ e.stamp) xs → AllByRecursion (λ e. m ≤ e.stamp) ys → AllByRecursion (λ e. m ≤ e.stamp) (xs ++ ys)
each_since m m' [] ys le second first = first
each_since m m' (x ∷ xs) ys le second first = (omega (arith, le, second.0), each_since m m' xs ys le second.1 first)

-- one after another
pub then : (m m' : ℕ) → m ≤ m' → (a b c : List Entry) (u v w : Handed) (p q r : List Request) → MovesOn m a b u v p q → MovesOn m' b c v w q r → MovesOn m a c u w p r
then m m' le a b c u v w p q r first second = record {
  added = second.added ++ first.added;
  since = each_since m m' second.added first.added le second.since first.since;
  is = second.is ∙ ap (λ l. second.added ++ l) first.is ∙ sym (append_assoc second.added first.added a);
  same = second.same ∙ first.same;
}

-- one after another, with a request handed in between
pub then_handed : (m m' m'' : ℕ) (a b c d : List Entry) (u v w x : Handed) (p q r s : List Request) → m ≤ m' → m'' ≡ m' → MovesOn m a b u v p q → c ≡ b → w.requests ++ r ≡ v.requests ++ q → MovesOn m'' c d w x r s → MovesOn m a d u x p s
then_handed m m' m'' a b c d u v w x p q r s le at first same moved second =
    then m m' le a b d u v x p q s first (then m' m'' (omega (arith, at)) b c d v w x q r s (stays m' b c v w q r same moved) second)

-- the same once a fuse was set, which moves nothing
pub fused : (m m' : ℕ) (a b c : List Entry) (u v w : Handed) (p q : List Request) → m' ≡ m → b ≡ a → v ≡ u → MovesOn m' b c v w p q → MovesOn m a c u w p q
fused m m' a b c u v w p q at same waits moves = then m m' (omega (arith, at)) a b c u v w p p q (stays m a b u v p p same (ap (λ (h : Handed). h.requests ++ p) waits)) moves

-- how many requests there are
pub length-demand : (journal : List Entry) (w : Handed) (rest : List Request) → length (demand journal w rest) ≡ length (asks journal 0) + length w.requests + length rest
length-demand journal w rest = length-append (asks journal 0 ++ w.requests) rest ∙ ap (λ n. n + length rest) (length-append (asks journal 0) w.requests)

-- each request that was answered has its reply
pub length-replies : (journal : List Entry) (c : ℕ) → length (replies journal c) ≡ length (asks journal c)
length-replies [] c = refl
length-replies (e ∷ past) c = length-append (replies past c) (reply_of past c e.event) ∙ omega (arith, length-replies past c, one e.event, length-append (asks past c) (ask c e.event))
  where
    owned : {A B : Type 0} (client c : ℕ) (x : A) (y : B) → length (own client c x) ≡ length (own client c y)
    owned client c x y = elim (client == c) as (λ b. length (cond b (x ∷ []) []) ≡ length (cond b (y ∷ []) [])) [ true ↦ refl | false ↦ refl ]

    one : (event : Event) → length (reply_of past c event) ≡ length (ask c event)
    one (event.Published client number id queues body) = owned client c _ _
    one (event.Delivered client number queue id) = owned client c _ _
    one (event.Empty client queue) = owned client c _ _
    one (event.Busy client queue) = owned client c _ _
    one (event.Acked client number) = owned client c _ _
    one (event.Unknown client number) = owned client c _ _
    one (event.Ended client) = owned client c _ _
    one (event.Opened lines) = refl
    one (event.Dropped client number) = refl
    one (event.Confirmed client number id) = refl
    one (event.Settled queue id) = refl

-- the same of what a node says
pub length-told : (told : List Reply) (journal : List Entry) (c : ℕ) → map bodiless told ≡ map bodiless (replies journal c) → length told ≡ length (asks journal c)
length-told told journal c same = sym (length-map told bodiless) ∙ ap length same ∙ length-map (replies journal c) bodiless ∙ length-replies journal c

-- a run of no step
pub goes_none : {D : Type 0} {g : Ghosts D} (node : Node D g) → IsRunning node → Goes {T = Unit {0}} node node (Ok tt)
goes_none {g = g} node running = record { opened = refl; goes_on = running; no_stop = λ is. cc; ran = ran_next g _ _ _ ⊥ ⊥ _ (λ is. clash is) (ran_none g (disk_of node)) (ran_none g (disk_of node)) }
  where
    clash : {T E : Type 0} {v : T} {e : E} → Path (Result T E) (Ok v) (Err e) → ⊥
    clash is = cc

-- a run that goes on by one step more
pub goes_next : {D S T : Type 0} {g : Ghosts D} (a b e : Node D g) (first : Result S NodeError) (result : Result T NodeError) → Goes a b first → Goes b e result → Goes a e result
goes_next {g = g} a b e first result so_far next = record {
  opened = next.opened ∙ so_far.opened;
  goes_on = next.goes_on;
  no_stop = next.no_stop;
  ran = ran_next g (disk_of a) (disk_of b) (disk_of e) _ _ _ (λ is. is) so_far.ran next.ran;
}

-- the same answers, of other types
ok_to : {S T E : Type 0} (v : S) (w : T) (e : E) → Path (Result T E) (Ok w) (Err e) → Path (Result S E) (Ok v) (Err e)
ok_to v w e is = cc

err_to : {S T E : Type 0} (error e : E) → Path (Result T E) (Err error) (Err e) → Path (Result S E) (Err error) (Err e)
err_to {S = S} {T = T} {E = E} error e is = let same : error ≡ e = one is in ap Err same
  where
    one : Path (Result T E) (Err error) (Err e) → error ≡ e
    one h = cc

pub goes_more : {D S : Type 0} {g : Ghosts D} (a b e : Node D g) (v : S) → Goes {T = Unit {0}} a b (Ok tt) → Goes {T = S} b e (Ok v) → Goes {T = Unit {0}} a e (Ok tt)
goes_more {g = g} a b e v so_far next = record {
  opened = next.opened ∙ so_far.opened;
  goes_on = next.goes_on;
  no_stop = λ is. next.no_stop (ok_to v tt _ is);
  ran = ran_next g (disk_of a) (disk_of b) (disk_of e) _ _ _ (ok_to v tt _) so_far.ran next.ran;
}

pub goes_fail : {D S : Type 0} {g : Ghosts D} (a b e : Node D g) (error : NodeError) → Goes {T = Unit {0}} a b (Ok tt) → Goes {T = S} b e (Err error) → Goes {T = Unit {0}} a e (Err error)
goes_fail {g = g} a b e error so_far next = record {
  opened = next.opened ∙ so_far.opened;
  goes_on = tt;
  no_stop = λ is. next.no_stop (err_to error _ is);
  ran = ran_next g (disk_of a) (disk_of b) (disk_of e) _ _ _ (err_to error _) so_far.ran next.ran;
}

-- a fact that follows from another one at Ok
pub on_map : {T E P Q : Type 0} (result : Result T E) → (P → Q) → OnOk result P → OnOk result Q
on_map (Ok v) step p = step p
on_map (Err e) step p = tt

pub ok_too : {T E P : Type 0} (result : Result T E) → P → OnOk result P
ok_too (Ok v) p = p
ok_too (Err e) p = tt

-- an opening is one entry, which asks nothing
pub opening_one : (m : ℕ) (journal : List Entry) → IsOpening m journal → length journal ≡ 1
opening_one m [] is = absurd is
opening_one m (e ∷ []) is = refl
opening_one m (e ∷ f ∷ past) is = absurd is

pub opening_newest : (m : ℕ) (journal : List Entry) → IsOpening m journal → newest journal ≡ m
opening_newest m [] is = absurd is
opening_newest m (e ∷ []) is = is.0
opening_newest m (e ∷ f ∷ past) is = absurd is

pub opening_asks : (m : ℕ) (journal : List Entry) → IsOpening m journal → asks journal 0 ≡ []
opening_asks m [] is = absurd is
opening_asks m (e ∷ []) is = one e.event is
  where
    one : (event : Event) → IsOpening m (record { event = event; stamp = e.stamp } ∷ []) → ask 0 event ≡ []
    one (event.Opened lines) is = refl
    one (event.Published client number id queues body) is = absurd is.1
    one (event.Delivered client number queue id) is = absurd is.1
    one (event.Empty client queue) is = absurd is.1
    one (event.Busy client queue) is = absurd is.1
    one (event.Acked client number) is = absurd is.1
    one (event.Unknown client number) is = absurd is.1
    one (event.Dropped client number) is = absurd is.1
    one (event.Ended client) is = absurd is.1
    one (event.Confirmed client number id) is = absurd is.1
    one (event.Settled queue id) is = absurd is.1
opening_asks m (e ∷ f ∷ past) is = absurd is

-- a journal that goes on from an opening has some entry
pub begun : (m : ℕ) (old now added : List Entry) → IsOpening m old → now ≡ added ++ old → 0 < length now
begun m old now added opened grown = omega (arith, ap length grown, length-append added old, opening_one m old opened)

-- its opening has this moment as its stamp
stamp_more : (e : Entry) (past : List Entry) → 0 < length past → opening_stamp (e ∷ past) ≡ opening_stamp past
stamp_more e [] some = absurd (omega (arith, some))
stamp_more e (f ∷ past) some = refl

stamp_grows : (added old : List Entry) → 0 < length old → opening_stamp (added ++ old) ≡ opening_stamp old
stamp_grows [] old some = refl
stamp_grows (e ∷ added) old some = stamp_more e (added ++ old) (omega (arith, some, length-append added old)) ∙ stamp_grows added old some

stamp_one : (m : ℕ) (journal : List Entry) → IsOpening m journal → opening_stamp journal ≡ m
stamp_one m [] is = absurd is
stamp_one m (e ∷ []) is = is.0
stamp_one m (e ∷ f ∷ past) is = absurd is

pub opening_since : (m : ℕ) (old now added : List Entry) → IsOpening m old → now ≡ added ++ old → m ≤ opening_stamp now
opening_since m old now added opened grown =
    let same : opening_stamp now ≡ m = ap opening_stamp grown ∙ stamp_grows added old (omega (arith, opening_one m old opened)) ∙ stamp_one m old opened in
    omega (arith, same)

-- what a session that has only begun has to serve
pub demand_fresh : (m : ℕ) (journal : List Entry) (w : Handed) (after : List After) (rest : List Request) → IsFresh m journal w after → demand journal w rest ≡ rest
demand_fresh m journal w after rest fresh = ap (λ l. l ++ w.requests ++ rest) (opening_asks m journal fresh.opened) ∙ ap (λ (v : Handed). v.requests ++ rest) fresh.none_waits
