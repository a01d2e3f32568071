-- What a history says once some ids are settled in a queue.
use Rattle.std.proofs.Common.{◌≡◌, ℕ, Bool, true, false, not, cond, List, [], ◌∷◌, ◌++◌, filter, map, refl, sym, ap, ◌∙◌, append-nil}
use Rattle.std.specs.Prelude.{◌==◌, ◌||◌, ◌&&◌}
use Rattle.std.proofs.lemmas.Bool.{eq-eqb}
use Rattle.std.proofs.lemmas.List.Folds.{list_any-append}
use Rattle.cq_bytes.specs.Numbers.{contains}
use Rattle.cq_journal.specs.declared.event.Event.TheVariants.{Settled}
use Rattle.cq_journal.specs.declared.event.Entry.{Entry}
use Rattle.cq_journal.specs.declared.event.Message.{Message}
use Rattle.cq_journal.specs.History.{Delivery, line, acked, settles, settled, open_deliveries}
use Rattle.cq_journal.proofs.Lists.{filter-congr, filter-refine}
use Rattle.cq_folder.specs.Holding.{left_out}
use Rattle.cq_folder.specs.HeldLaws.{settle_at, settle_all}
use Rattle.cq_items.specs.Item.{Item}
use Rattle.cq_items.specs.declared.item.Holder.{Holder}
use Rattle.cq_items.specs.declared.item.Holder.TheVariants.{Gone}
use Rattle.cq_items.specs.Items.{holding}
use Rattle.cq_queue_laws.specs.Follows.{stands, outside, standing, is_unsettled, Follows}
use Rattle.cq_queue_laws.specs.Laws.{with_settled}
use Rattle.cq_queue_laws.proofs.Keeps.{seated, bare-map, stands-map}
use Rattle.cq_stored.specs.Stored.{unsettled_line}

-- two histories that say the same of a queue's line, and of what is settled there
pub record Reads (a b : List Entry) (q : ℕ) : Type 0 where
  pub line_is : line b q ≡ line a q
  pub settled_is : (x : ℕ) → contains (settled b q) x ≡ contains (settled a q) x

pub unsettled_same : (a b : List Entry) (q : ℕ) → Reads a b q → unsettled_line b q ≡ unsettled_line a q
unsettled_same a b q same = ap (filter (is_unsettled b q)) same.line_is
    ∙ filter-congr (is_unsettled b q) (is_unsettled a q) (λ m. ap not (same.settled_is m.id)) (line a q)

-- the holders change by one map
pub follows_moved : (items : List Item) (a b : List Entry) (q : ℕ) (f : Holder → Holder) → Reads a b q → ((x : ℕ) → standing b q x ≡ f (standing a q x)) → Follows items a q → Follows (map (holding f) items) b q
follows_moved items a b q f same moves follows =
    bare-map f items ∙ ap (map (seated f)) follows ∙ sym (stands-map a b q f moves (unsettled_line a q))
    ∙ ap (map (stands b q)) (sym (unsettled_same a b q same))

-- ---- once some ids are settled

pub line_settled : (stamp q : ℕ) (ids : List ℕ) (past : List Entry) (r : ℕ) → line (settle_all stamp q ids past) r ≡ line past r
line_settled stamp q [] past r = refl
line_settled stamp q (id ∷ ids) past r = line_settled stamp q ids (settle_at stamp q id ∷ past) r ∙ append-nil (line past r)

acked_settled : (stamp q : ℕ) (ids : List ℕ) (past : List Entry) (r : ℕ) → acked (settle_all stamp q ids past) r ≡ acked past r
acked_settled stamp q [] past r = refl
acked_settled stamp q (id ∷ ids) past r = acked_settled stamp q ids (settle_at stamp q id ∷ past) r ∙ append-nil (acked past r)

open_settled : (stamp q : ℕ) (ids : List ℕ) (past : List Entry) → open_deliveries (settle_all stamp q ids past) ≡ open_deliveries past
open_settled stamp q [] past = refl
open_settled stamp q (id ∷ ids) past = open_settled stamp q ids (settle_at stamp q id ∷ past)

pub standing_settled : (stamp q : ℕ) (ids : List ℕ) (past : List Entry) (r x : ℕ) → standing (settle_all stamp q ids past) r x ≡ standing past r x
standing_settled stamp q ids past r x =
    ap (λ (l : List ℕ). cond (contains l x) Gone (outside (open_deliveries (settle_all stamp q ids past)) r x)) (acked_settled stamp q ids past r)
    ∙ ap (λ (ds : List Delivery). cond (contains (acked past r) x) Gone (outside ds r x)) (open_settled stamp q ids past)

or_nil : (b : Bool) → (b || false) ≡ b
or_nil true = refl
or_nil false = refl

or_group : (s e k : Bool) → ((s || (e || false)) || k) ≡ (s || (e || k))
or_group true e k = refl
or_group false true k = refl
or_group false false k = refl

pub settled_here : (stamp q : ℕ) (ids : List ℕ) (past : List Entry) (x : ℕ) → contains (settled (settle_all stamp q ids past) q) x ≡ (contains (settled past q) x || contains ids x)
settled_here stamp q [] past x = sym (or_nil (contains (settled past q) x))
settled_here stamp q (id ∷ ids) past x =
    settled_here stamp q ids (settle_at stamp q id ∷ past) x
    ∙ ap (λ (b : Bool). contains (settled past q ++ cond b (id ∷ []) []) x || contains ids x) (eq-eqb q q refl)
    ∙ ap (λ (b : Bool). b || contains ids x) (list_any-append (λ y. y == x) (settled past q) (id ∷ []))
    ∙ or_group (contains (settled past q) x) (id == x) (contains ids x)

pub settled_there : (stamp q : ℕ) (ids : List ℕ) (past : List Entry) (r : ℕ) → (q == r) ≡ false → settled (settle_all stamp q ids past) r ≡ settled past r
settled_there stamp q [] past r other = refl
settled_there stamp q (id ∷ ids) past r other =
    settled_there stamp q ids (settle_at stamp q id ∷ past) r other
    ∙ ap (λ (b : Bool). settled past r ++ cond b (id ∷ []) []) other ∙ append-nil (settled past r)

-- the same is settled where it was so before
settled_over : (stamp q : ℕ) (ids : List ℕ) (a b : List Entry) (r : ℕ) → settled b r ≡ settled a r → settled (settle_all stamp q ids b) r ≡ settled (settle_all stamp q ids a) r
settled_over stamp q [] a b r same = same
settled_over stamp q (id ∷ ids) a b r same = settled_over stamp q ids (settle_at stamp q id ∷ a) (settle_at stamp q id ∷ b) r (ap (λ (l : List ℕ). l ++ settles r (Settled q id)) same)

pub reads_over : (stamp q : ℕ) (ids : List ℕ) (a b : List Entry) (r : ℕ) → line b r ≡ line a r → settled b r ≡ settled a r → Reads (settle_all stamp q ids a) (settle_all stamp q ids b) r
reads_over stamp q ids a b r lines same = record {
  line_is = line_settled stamp q ids b r ∙ lines ∙ sym (line_settled stamp q ids a r);
  settled_is = λ x. ap (λ (l : List ℕ). contains l x) (settled_over stamp q ids a b r same);
}

not_either : (a b : Bool) → not (a || b) ≡ (not a && not b)
not_either true b = refl
not_either false b = refl

pub unsettled_left : (stamp q : ℕ) (ids : List ℕ) (past : List Entry) → unsettled_line (settle_all stamp q ids past) q ≡ left_out ids (unsettled_line past q)
unsettled_left stamp q ids past =
    let b : List Entry = settle_all stamp q ids past in
    ap (filter (is_unsettled b q)) (line_settled stamp q ids past q)
    ∙ filter-refine (is_unsettled b q) (is_unsettled past q) (λ (m : Message). not (contains ids m.id))
    (λ m. ap not (settled_here stamp q ids past m.id) ∙ not_either (contains (settled past q) m.id) (contains ids m.id)) (line past q)

pub settle_same : (stamp q : ℕ) (ids : List ℕ) (past : List Entry) → with_settled ids stamp q past ≡ settle_all stamp q ids past
settle_same stamp q [] past = refl
settle_same stamp q (id ∷ ids) past = settle_same stamp q ids (settle_at stamp q id ∷ past)
