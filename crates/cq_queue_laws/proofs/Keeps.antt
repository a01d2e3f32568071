-- How each entry keeps that a queue core follows the journal.
use Rattle.cq_journal.specs.Lists.{HasDistinctIds}
use Rattle.std.proofs.Common.{◌≡◌, ℕ, Bool, true, false, not, cond, List, [], ◌∷◌, ◌++◌, refl, sym, ap, ◌∙◌, subst, append-nil}
use Rattle.std.specs.Prelude.{◌==◌, ◌&&◌, ◌||◌, filter, map, Option}
use Rattle.std.proofs.lemmas.Bool.{or_parts, and_left, cond-true, cond-false, eq-eqb, both_ways, not_from_false, not_from_true, false_from_ne_true}
use Rattle.std.proofs.lemmas.List.Folds.{list_any-append}
use Rattle.std.proofs.lemmas.List.Elements.{filter-append}
use Rattle.std.proofs.lemmas.List.{map-append}
use Rattle.cq_bytes.specs.Numbers.{contains}
use Rattle.cq_journal.specs.declared.event.Event.TheVariants as event
use Rattle.cq_journal.specs.declared.event.Entry.{Entry}
use Rattle.cq_journal.specs.declared.event.Message.{Message}
use Rattle.cq_journal.specs.History.{has_id, adds, line, open_after, open_deliveries, removes, acked, is_waiting, waiting, settles, settled}
use Rattle.cq_journal.specs.Legal.{brings, has, IsFirst, Allowed, Legal}
use Rattle.cq_journal.proofs.More.{eqb-sym, settled-removed}
use Rattle.cq_journal.proofs.Laws.{acked-unbrought, out-unbrought, distinct-line}
use Rattle.cq_journal.proofs.Lists.{any-filter, filter-congr, filter-refine, distinct-filter}
use Rattle.cq_items.specs.Item.{Item}
use Rattle.cq_items.specs.declared.item.Holder.{Holder}
use Rattle.cq_items.specs.declared.item.Holder.TheVariants.{Waiting, Out, Gone}
use Rattle.cq_items.specs.Items.{is_free, ack_one, back_one, holding, taken_by, new_item, hand_out, ack, give_back, waiting_items}
use Rattle.cq_queue_laws.specs.Follows.{outside, standing, Whereabouts, bare, stands, is_unsettled, Follows}
use Rattle.cq_queue_laws.proofs.Standing.{standing-waits, outside-none, standing-acked, standing-dropped, standing-ended, standing-delivered, standing-quiet}

pub map-congr : {A B : Type 0} (f g : A → B) → ((x : A) → f x ≡ g x) → (xs : List A) → map f xs ≡ map g xs
map-congr f g h [] = refl
map-congr f g h (x ∷ xs) = ap (λ y. y ∷ map f xs) (h x) ∙ ap (λ ys. g x ∷ ys) (map-congr f g h xs)

-- the messages that aren't settled
abbrev pub unsettled : List Entry → ℕ → List Message
unsettled past q = filter (is_unsettled past q) (line past q)

abbrev pub seated : (Holder → Holder) → Whereabouts → Whereabouts
seated f p = record { id = p.id; holder = f p.holder }

pub bare-map : (f : Holder → Holder) (is : List Item) → map bare (map (holding f) is) ≡ map (seated f) (map bare is)
bare-map f [] = refl
bare-map f (i ∷ is) = ap (λ (ys : List Whereabouts). record { id = i.id; holder = f i.holder } ∷ ys) (bare-map f is)

pub stands-map : (past now : List Entry) (q : ℕ) (f : Holder → Holder) → ((x : ℕ) → standing now q x ≡ f (standing past q x)) → (ms : List Message) → map (stands now q) ms ≡ map (seated f) (map (stands past q) ms)
stands-map past now q f h [] = refl
stands-map past now q f h (m ∷ ms) =
    ap (λ (s : Holder). record { id = m.id; holder = s } ∷ map (stands now q) ms) (h m.id) ∙ ap (λ (ys : List Whereabouts). record { id = m.id; holder = f (standing past q m.id) } ∷ ys) (stands-map past now q f h ms)

same-lines : (past : List Entry) (e : Entry) (q : ℕ) → adds q e.event ≡ [] → settles q e.event ≡ [] → unsettled (e ∷ past) q ≡ unsettled past q
same-lines past e q none kept =
    ap (λ xs. filter (is_unsettled (e ∷ past) q) (line past q ++ xs)) none
    ∙ ap (λ xs. filter (is_unsettled (e ∷ past) q) xs) (append-nil (line past q))
    ∙ filter-congr _ _ (λ m. ap (λ xs. not (contains (settled past q ++ xs) m.id)) kept ∙ ap (λ xs. not (contains xs m.id)) (append-nil (settled past q))) (line past q)

-- an entry that changes each state by one map
pub keeps-map : (items : List Item) (past : List Entry) (e : Entry) (q : ℕ) (f : Holder → Holder)
    → ((x : ℕ) → standing (e ∷ past) q x ≡ f (standing past q x)) → adds q e.event ≡ [] → settles q e.event ≡ []
    → Follows items past q → Follows (map (holding f) items) (e ∷ past) q
keeps-map items past e q f h none kept follows =
    bare-map f items ∙ ap (map (seated f)) follows ∙ sym (stands-map past (e ∷ past) q f h (unsettled past q))
    ∙ ap (map (stands (e ∷ past) q)) (sym (same-lines past e q none kept))

pub keeps-acked : (items : List Item) (past : List Entry) (stamp c n q : ℕ) → Legal past → Follows items past q → Follows (ack c n items) (record { event = event.Acked c n; stamp = stamp } ∷ past) q
keeps-acked items past stamp c n q l = keeps-map items past (record { event = event.Acked c n; stamp = stamp }) q (ack_one c n) (λ x. standing-acked past stamp c n q x l) refl refl

pub keeps-dropped : (items : List Item) (past : List Entry) (stamp c n q : ℕ) → Legal past → Follows items past q → Follows (ack c n items) (record { event = event.Dropped c n; stamp = stamp } ∷ past) q
keeps-dropped items past stamp c n q l = keeps-map items past (record { event = event.Dropped c n; stamp = stamp }) q (ack_one c n) (λ x. standing-dropped past stamp c n q x l) refl refl

pub keeps-ended : (items : List Item) (past : List Entry) (stamp c q : ℕ) → Legal past → Follows items past q → Follows (give_back c items) (record { event = event.Ended c; stamp = stamp } ∷ past) q
keeps-ended items past stamp c q l = keeps-map items past (record { event = event.Ended c; stamp = stamp }) q (back_one c) (λ x. standing-ended past stamp c q x l) refl refl

-- an entry that touches no message of the queue
pub keeps-same : (items : List Item) (past : List Entry) (e : Entry) (q : ℕ)
    → ((x : ℕ) → standing (e ∷ past) q x ≡ standing past q x) → adds q e.event ≡ [] → settles q e.event ≡ []
    → Follows items past q → Follows items (e ∷ past) q
keeps-same items past e q h none kept follows =
    follows ∙ map-congr (stands past q) (stands (e ∷ past) q) (λ m. ap (λ (s : Holder). record { id = m.id; holder = s }) (sym (h m.id))) (unsettled past q)
    ∙ ap (map (stands (e ∷ past) q)) (sym (same-lines past e q none kept))

pub keeps-quiet : (items : List Item) (past : List Entry) (e : Entry) (q : ℕ)
    → removes q (open_deliveries past) e.event ≡ [] → open_after (open_deliveries past) e.event ≡ open_deliveries past → adds q e.event ≡ [] → settles q e.event ≡ []
    → Follows items past q → Follows items (e ∷ past) q
keeps-quiet items past e q gone same = keeps-same items past e q (λ x. standing-quiet past e q x gone same)

-- a publish to the queue
pub keeps-published : (items : List Item) (past : List Entry) (stamp c n id q len : ℕ) (queues body : List ℕ) (held : Option (List ℕ)) → Legal past → has (brings id) past ≡ false → contains queues q ≡ true
    → Follows items past q → Follows (items ++ new_item id held len ∷ []) (record { event = event.Published c n id queues body; stamp = stamp } ∷ past) q
keeps-published items past stamp c n id q len queues body held l new there follows =
    let e : Entry = record { event = event.Published c n id queues body; stamp = stamp } in
    let m : Message = record { id = id; body = body } in
    let u : Message → Bool = is_unsettled past q in
    let fresh : contains (settled past q) id ≡ false = false_from_ne_true _ (λ t. both_ways _ (acked-unbrought past q id l new) (settled-removed past q id l t)) in
    let waits' : standing past q id ≡ Waiting = cond-false (contains (acked past q) id) Gone (outside (open_deliveries past) q id) (acked-unbrought past q id l new)
    ∙ outside-none (open_deliveries past) q id (out-unbrought past q id l new) in
    let lines : unsettled (e ∷ past) q ≡ unsettled past q ++ m ∷ [] =
    ap (λ b. filter (is_unsettled (e ∷ past) q) (line past q ++ cond b (m ∷ []) [])) there
    ∙ filter-congr (is_unsettled (e ∷ past) q) u (λ k. ap (λ xs. not (contains xs k.id)) (append-nil (settled past q))) (line past q ++ m ∷ [])
    ∙ filter-append u (line past q) (m ∷ [])
    ∙ ap (λ b. unsettled past q ++ cond b (m ∷ []) []) (not_from_false _ fresh) in
    map-append bare items _
    ∙ ap (λ (ps : List Whereabouts). ps ++ record { id = id; holder = Waiting } ∷ []) follows
    ∙ ap (λ (s : Holder). map (stands past q) (unsettled past q) ++ record { id = id; holder = s } ∷ []) (sym waits')
    ∙ sym (map-append (stands past q) (unsettled past q) (m ∷ []))
    ∙ map-congr (stands past q) (stands (e ∷ past) q) (λ k. ap (λ (s : Holder). record { id = k.id; holder = s }) (sym (standing-quiet past e q k.id refl refl))) (unsettled past q ++ m ∷ [])
    ∙ ap (map (stands (e ∷ past) q)) (sym lines)

-- a publish to other queues
pub keeps-published-other : (items : List Item) (past : List Entry) (stamp c n id q : ℕ) (queues body : List ℕ) → contains queues q ≡ false
    → Follows items past q → Follows items (record { event = event.Published c n id queues body; stamp = stamp } ∷ past) q
keeps-published-other items past stamp c n id q queues body other =
    keeps-quiet items past (record { event = event.Published c n id queues body; stamp = stamp }) q refl refl (ap (λ b. cond b (record { id = id; body = body } ∷ []) []) other) refl

-- a settled message leaves
bare-filter : (id : ℕ) (is : List Item) → map bare (filter (λ i. not (i.id == id)) is) ≡ filter (λ (p : Whereabouts). not (p.id == id)) (map bare is)
bare-filter id [] = refl
bare-filter id (i ∷ is) =
    elim (i.id == id) as (λ b. map bare (cond (not b) (i ∷ filter (λ i. not (i.id == id)) is) (filter (λ i. not (i.id == id)) is)) ≡ cond (not b) (bare i ∷ filter (λ (p : Whereabouts). not (p.id == id)) (map bare is)) (filter (λ (p : Whereabouts). not (p.id == id)) (map bare is)))
    [ true ↦ bare-filter id is | false ↦ ap (λ (ys : List Whereabouts). bare i ∷ ys) (bare-filter id is) ]

stands-filter : (past : List Entry) (q id : ℕ) (ms : List Message) → filter (λ (p : Whereabouts). not (p.id == id)) (map (stands past q) ms) ≡ map (stands past q) (filter (λ m. not (m.id == id)) ms)
stands-filter past q id [] = refl
stands-filter past q id (m ∷ ms) =
    elim (m.id == id) as (λ b. cond (not b) (stands past q m ∷ filter (λ (p : Whereabouts). not (p.id == id)) (map (stands past q) ms)) (filter (λ (p : Whereabouts). not (p.id == id)) (map (stands past q) ms)) ≡ map (stands past q) (cond (not b) (m ∷ filter (λ m. not (m.id == id)) ms) (filter (λ m. not (m.id == id)) ms)))
    [ true ↦ stands-filter past q id ms | false ↦ ap (λ (ys : List Whereabouts). stands past q m ∷ ys) (stands-filter past q id ms) ]

not-both : (a b : Bool) → not (a || (b || false)) ≡ (not a && not b)
not-both true b = refl
not-both false true = refl
not-both false false = refl

pub keeps-settled : (items : List Item) (past : List Entry) (stamp id q : ℕ) → Follows items past q
    → Follows (filter (λ i. not (i.id == id)) items) (record { event = event.Settled q id; stamp = stamp } ∷ past) q
keeps-settled items past stamp id q follows =
    let e : Entry = record { event = event.Settled q id; stamp = stamp } in
    let adds-one : settled (e ∷ past) q ≡ settled past q ++ id ∷ [] = ap (λ b. settled past q ++ cond b (id ∷ []) []) (eq-eqb q q refl) in
    let lines : unsettled (e ∷ past) q ≡ filter (λ m. not (m.id == id)) (unsettled past q) =
    ap (λ xs. filter (is_unsettled (e ∷ past) q) xs) (append-nil (line past q))
    ∙ filter-refine (is_unsettled (e ∷ past) q) (is_unsettled past q) (λ m. not (m.id == id)) (λ m.
    ap (λ xs. not (contains xs m.id)) adds-one ∙ ap not (list_any-append (λ y. y == m.id) (settled past q) (id ∷ []))
    ∙ not-both (contains (settled past q) m.id) (id == m.id) ∙ ap (λ b. is_unsettled past q m && not b) (eqb-sym id m.id)) (line past q) in
    bare-filter id items ∙ ap (filter (λ (p : Whereabouts). not (p.id == id))) follows ∙ stands-filter past q id (unsettled past q)
    ∙ map-congr (stands past q) (stands (e ∷ past) q) (λ k. ap (λ (s : Holder). record { id = k.id; holder = s }) (sym (standing-quiet past e q k.id refl refl))) (filter (λ m. not (m.id == id)) (unsettled past q))
    ∙ ap (map (stands (e ∷ past) q)) (sym lines)

-- ---- a delivery

abbrev pub hand_whereabouts : ℕ → ℕ → List Whereabouts → List Whereabouts
hand_whereabouts c d [] = []
hand_whereabouts c d (p ∷ ps) = cond (is_free p.holder) (seated (λ _. Out c d) p ∷ ps) (p ∷ hand_whereabouts c d ps)

bare-hand_out : (c d : ℕ) (is : List Item) → map bare (hand_out c d is) ≡ hand_whereabouts c d (map bare is)
bare-hand_out c d [] = refl
bare-hand_out c d (i ∷ is) =
    elim (is_free i.holder) as (λ b. map bare (cond b (taken_by (Out c d) i ∷ is) (i ∷ hand_out c d is)) ≡ cond b (seated (λ _. Out c d) (bare i) ∷ map bare is) (bare i ∷ hand_whereabouts c d (map bare is)))
    [ true ↦ refl | false ↦ ap (λ (ps : List Whereabouts). bare i ∷ ps) (bare-hand_out c d is) ]

first-other : (ms : List Message) (id x : ℕ) → IsFirst id ms → has_id ms x ≡ false → (id == x) ≡ false
first-other [] id x f h = absurd f
first-other (m ∷ ms) id x f h = subst (λ i. (i == x) ≡ false) f (or_parts _ _ h).0

-- where each stands once the message with this id is out
abbrev pub handed : List Entry → ℕ → ℕ → ℕ → ℕ → Message → Whereabouts
handed past q c n id m = record { id = m.id; holder = cond (id == m.id) (Out c n) (standing past q m.id) }

handed-others : (past : List Entry) (q c n id : ℕ) (ms : List Message) → has_id ms id ≡ false → map (stands past q) ms ≡ map (handed past q c n id) ms
handed-others past q c n id [] h = refl
handed-others past q c n id (m ∷ ms) h =
    let parts = or_parts _ _ h in
    ap (λ (s : Holder). record { id = m.id; holder = s } ∷ map (stands past q) ms) (sym (cond-false (id == m.id) (Out c n) (standing past q m.id) (eqb-sym id m.id ∙ parts.0)))
    ∙ ap (λ (ps : List Whereabouts). handed past q c n id m ∷ ps) (handed-others past q c n id ms parts.1)

handed-first : (past : List Entry) (q c n id : ℕ) (ms : List Message) → HasDistinctIds ms → IsFirst id (filter (λ m. is_free (standing past q m.id)) ms)
    → hand_whereabouts c n (map (stands past q) ms) ≡ map (handed past q c n id) ms
handed-first past q c n id [] u f = absurd f
handed-first past q c n id (m ∷ ms) u f =
    (elim (is_free (standing past q m.id)) as (λ b. IsFirst id (cond b (m ∷ filter (λ m. is_free (standing past q m.id)) ms) (filter (λ m. is_free (standing past q m.id)) ms))
    → cond b (seated (λ _. Out c n) (stands past q m) ∷ map (stands past q) ms) (stands past q m ∷ hand_whereabouts c n (map (stands past q) ms)) ≡ handed past q c n id m ∷ map (handed past q c n id) ms) [
      | true ↦ λ f. (
          let e : m.id ≡ id = f in
          ap (λ (s : Holder). record { id = m.id; holder = s } ∷ map (stands past q) ms) (sym (cond-true (id == m.id) (Out c n) (standing past q m.id) (eq-eqb id m.id (sym e))))
          ∙ ap (λ (ps : List Whereabouts). handed past q c n id m ∷ ps) (handed-others past q c n id ms (subst (λ k. has_id ms k ≡ false) e u.0)))
      | false ↦ λ f. (
          let other : (id == m.id) ≡ false = first-other (filter (λ m. is_free (standing past q m.id)) ms) id m.id f (any-filter (λ k. k.id == m.id) (λ m. is_free (standing past q m.id)) ms u.0) in
          ap (λ (s : Holder). record { id = m.id; holder = s } ∷ hand_whereabouts c n (map (stands past q) ms)) (sym (cond-false (id == m.id) (Out c n) (standing past q m.id) other))
          ∙ ap (λ (ps : List Whereabouts). handed past q c n id m ∷ ps) (handed-first past q c n id ms u.1 f))
    ]) f

-- those that wait are among those that aren't settled
filter-within : {A : Type 0} (p r : A → Bool) → ((x : A) → r x ≡ false → p x ≡ false) → (xs : List A) → filter p (filter r xs) ≡ filter p xs
filter-within p r h [] = refl
filter-within p r h (x ∷ xs) =
    (elim (r x) as (λ b. r x ≡ b → filter p (cond b (x ∷ filter r xs) (filter r xs)) ≡ cond (p x) (x ∷ filter p xs) (filter p xs)) [
      | true ↦ λ _. ap (λ ys. cond (p x) (x ∷ ys) ys) (filter-within p r h xs)
      | false ↦ λ e. filter-within p r h xs ∙ sym (cond-false (p x) (x ∷ filter p xs) (filter p xs) (h x e))
    ]) refl

true_of : (b : Bool) → not b ≡ false → b ≡ true
true_of true h = refl
true_of false h = cc

pub waiting-unsettled : (past : List Entry) (q : ℕ) → Legal past → filter (λ m. is_free (standing past q m.id)) (unsettled past q) ≡ waiting past q
waiting-unsettled past q l =
    filter-congr (λ m. is_free (standing past q m.id)) (is_waiting past q) (standing-waits past q) (unsettled past q)
    ∙ filter-within (is_waiting past q) (is_unsettled past q) (λ m h. and_left _ _ (not_from_true _ (settled-removed past q m.id l (true_of (contains (settled past q) m.id) h)))) (line past q)

pub keeps-delivered : (items : List Item) (past : List Entry) (stamp c n id q : ℕ) → Legal past → Allowed past (event.Delivered c n q id)
    → Follows items past q → Follows (hand_out c n items) (record { event = event.Delivered c n q id; stamp = stamp } ∷ past) q
keeps-delivered items past stamp c n id q l a follows =
    let e : Entry = record { event = event.Delivered c n q id; stamp = stamp } in
    bare-hand_out c n items ∙ ap (hand_whereabouts c n) follows
    ∙ handed-first past q c n id (unsettled past q) (distinct-filter (is_unsettled past q) (line past q) (distinct-line past q l)) (subst (IsFirst id) (sym (waiting-unsettled past q l)) a.1)
    ∙ map-congr (handed past q c n id) (stands (e ∷ past) q) (λ m. ap (λ (s : Holder). record { id = m.id; holder = s })
    (ap (λ b. cond (b && id == m.id) (Out c n) (standing past q m.id)) (sym (eq-eqb q q refl)) ∙ sym (standing-delivered past stamp c n q id q m.id l a))) (unsettled past q)
    ∙ ap (map (stands (e ∷ past) q)) (sym (same-lines past e q refl refl))

-- a delivery from another queue
pub keeps-delivered-other : (items : List Item) (past : List Entry) (stamp c n id queue q : ℕ) → Legal past → Allowed past (event.Delivered c n queue id) → (queue == q) ≡ false
    → Follows items past q → Follows items (record { event = event.Delivered c n queue id; stamp = stamp } ∷ past) q
keeps-delivered-other items past stamp c n id queue q l a other =
    keeps-same items past (record { event = event.Delivered c n queue id; stamp = stamp }) q (λ x. standing-delivered past stamp c n queue id q x l a ∙ cond-false (queue == q && id == x) (Out c n) (standing past q x) (and_left _ _ other)) refl refl

-- ---- what the node reads off

waiting-places : (is : List Item) → map (λ (i : Item). i.id) (waiting_items is) ≡ map (λ (p : Whereabouts). p.id) (filter (λ (p : Whereabouts). is_free p.holder) (map bare is))
waiting-places [] = refl
waiting-places (i ∷ is) =
    elim (is_free i.holder) as (λ b. map (λ (i : Item). i.id) (cond b (i ∷ waiting_items is) (waiting_items is)) ≡ map (λ (p : Whereabouts). p.id) (cond b (bare i ∷ filter (λ (p : Whereabouts). is_free p.holder) (map bare is)) (filter (λ (p : Whereabouts). is_free p.holder) (map bare is))))
    [ true ↦ ap (λ xs. i.id ∷ xs) (waiting-places is) | false ↦ waiting-places is ]

waiting-stands : (past : List Entry) (q : ℕ) (ms : List Message) → map (λ (p : Whereabouts). p.id) (filter (λ (p : Whereabouts). is_free p.holder) (map (stands past q) ms)) ≡ map (λ (m : Message). m.id) (filter (λ m. is_free (standing past q m.id)) ms)
waiting-stands past q [] = refl
waiting-stands past q (m ∷ ms) =
    elim (is_free (standing past q m.id)) as (λ b. map (λ (p : Whereabouts). p.id) (cond b (stands past q m ∷ filter (λ (p : Whereabouts). is_free p.holder) (map (stands past q) ms)) (filter (λ (p : Whereabouts). is_free p.holder) (map (stands past q) ms)))
    ≡ map (λ (m : Message). m.id) (cond b (m ∷ filter (λ m. is_free (standing past q m.id)) ms) (filter (λ m. is_free (standing past q m.id)) ms)))
    [ true ↦ ap (λ xs. m.id ∷ xs) (waiting-stands past q ms) | false ↦ waiting-stands past q ms ]

-- what is_free in the core is_free in the journal
pub follows-waiting : (items : List Item) (past : List Entry) (q : ℕ) → Legal past → Follows items past q → map (λ (i : Item). i.id) (waiting_items items) ≡ map (λ (m : Message). m.id) (waiting past q)
follows-waiting items past q l follows =
    waiting-places items ∙ ap (λ (ps : List Whereabouts). map (λ (p : Whereabouts). p.id) (filter (λ (p : Whereabouts). is_free p.holder) ps)) follows
    ∙ waiting-stands past q (unsettled past q) ∙ ap (map (λ (m : Message). m.id)) (waiting-unsettled past q l)
