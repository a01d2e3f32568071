-- What the next get of a client finds is the first message that waits.
use Rattle.std.proofs.Common.{◌≡◌, ℕ, Bool, true, false, cond, List, [], ◌∷◌, length, map, None, Some, refl, sym, ap, ◌∙◌, subst, arith}
use Rattle.std.specs.Prelude.{filter, slice_get}
use Rattle.std.proofs.Math.Logic.{∥∥₁_elim}
use Rattle.std.specs.Coded.{Coded-set, coded_bool, coded_ℕ}
use Rattle.std.specs.List.{AllZip}
use Rattle.std.specs.Ordering.{nat_cmp}
use Rattle.std.specs.FinMap.{FinMap}
use Rattle.cq_entry.specs.declared.entry.EntryKind.{EntryKind}
use Rattle.cq_entry.specs.declared.entry.EntryKind.TheVariants.{Small, Shared}
use Rattle.cq_journal.specs.declared.event.Entry.{Entry}
use Rattle.cq_journal.specs.declared.event.Message.{Message}
use Rattle.cq_journal.specs.History.{waiting}
use Rattle.cq_journal.specs.Legal.{Legal}
use Rattle.cq_items.specs.Item.{Item}
use Rattle.cq_items.specs.Items.{first_of, is_free, waiting_items}
use Rattle.cq_items.specs.declared.item.First.{First}
use Rattle.cq_queue_laws.specs.Follows.{Whereabouts, bare, standing, stands}
use Rattle.cq_queue_laws.proofs.Keeps.{waiting-unsettled}
use Rattle.cq_queue_laws.proofs.Told.{follows-count}
use Rattle.cq_confirm.specs.declared.lack.Lack.{Lack}
use Rattle.cq_stored.specs.Stored.{HasBodies, unsettled_line}
use Rattle.cq_broker.specs.Broker.{IsFirstOf}
use Rattle.cq_broker.specs.InMemory.{IsInMemory}

-- ---- the first message that waits, as equations of numbers and of a test

abbrev is_small : EntryKind → Bool
is_small Small = true
is_small Shared = false

small_is : (k : EntryKind) → is_small k ≡ true → k ≡ Small
small_is Small s = refl
small_is Shared s = cc

abbrev IsFirstIn : First → List Message → Type 0
IsFirstIn first [] = ⊥
IsFirstIn first (m ∷ ms) = (first.id ≡ m.id) × (first.len ≡ length m.body) × (is_small first.kind ≡ true)

first-prop : (first : First) (ms : List Message) → IsProp (IsFirstIn first ms)
first-prop first [] = hlevel
first-prop first (m ∷ ms) = hlevel (Coded-set coded_ℕ, Coded-set coded_bool)

first_is : (first : First) (ms : List Message) → IsFirstIn first ms → IsFirstOf first ms
first_is first [] f = f
first_is first (m ∷ ms) f = (f.0, f.1, small_is first.kind f.2)

-- ---- items and messages side by side

first_waits : (past : List Entry) (q : ℕ) (is : List Item) (ms : List Message) (first : First) → AllZip (HasBodies (λ m. Small)) is ms → map bare is ≡ map (stands past q) ms
    → slice_get (map first_of (waiting_items is)) 0 ≡ Some first → IsFirstIn first (filter (λ m. is_free (standing past q m.id)) ms)
first_waits past q [] ms first z same found = cc
first_waits past q (i ∷ is) [] first z same found = absurd z
first_waits past q (i ∷ is) (m ∷ ms) first z same found =
    let head : bare i ≡ stands past q m = cc in
    let tail : map bare is ≡ map (stands past q) ms = cc in
    let free : is_free i.holder ≡ is_free (standing past q m.id) = ap (λ (w : Whereabouts). is_free w.holder) head in
    subst (λ (b : Bool). IsFirstIn first (cond b (m ∷ filter (λ m. is_free (standing past q m.id)) ms) (filter (λ m. is_free (standing past q m.id)) ms))) free
    ((elim (is_free i.holder) as (λ (b : Bool). slice_get (map first_of (cond b (i ∷ waiting_items is) (waiting_items is))) 0 ≡ Some first
    → IsFirstIn first (cond b (m ∷ filter (λ m. is_free (standing past q m.id)) ms) (filter (λ m. is_free (standing past q m.id)) ms))) [
      | true ↦ λ found. (
          let this : first_of i ≡ first = cc in
          subst (λ (f : First). (f.id ≡ m.id) × (f.len ≡ length m.body) × (is_small f.kind ≡ true)) this (z.0.id, z.0.len, ap is_small z.0.kind))
      | false ↦ λ found. first_waits past q is ms first z.1 tail found
    ]) found)

pub finds_first : (items : ℕ → List Item) (past : List Entry) (lacks : FinMap nat_cmp Lack) (q : ℕ) (first : First) → Legal past → ∥ IsInMemory items past lacks ∥₁
    → slice_get (map first_of (waiting_items (items q))) 0 ≡ Some first → IsFirstOf first (waiting past q)
finds_first items past lacks q first legal kept found = first_is first (waiting past q) (∥∥₁_elim kept (first-prop first (waiting past q)) (λ m.
    subst (IsFirstIn first) (waiting-unsettled past q legal) (first_waits past q (items q) (unsettled_line past q) first (m.in_step q).bodies (m.in_step q).follows found)))

-- ---- nothing waits

same-prop : (a b : ℕ) → IsProp (a ≡ b)
same-prop a b = hlevel (Coded-set coded_ℕ)

none_first : (is : List Item) → slice_get (map first_of is) 0 ≡ None → length is ≡ 0
none_first [] none = refl
none_first (i ∷ is) none = cc

no_messages : (ms : List Message) → length ms ≡ 0 → ms ≡ []
no_messages [] none = refl
no_messages (m ∷ ms) none = absurd (omega (arith, none))

pub finds_none : (items : ℕ → List Item) (past : List Entry) (lacks : FinMap nat_cmp Lack) (q : ℕ) → Legal past → ∥ IsInMemory items past lacks ∥₁
    → slice_get (map first_of (waiting_items (items q))) 0 ≡ None → waiting past q ≡ []
finds_none items past lacks q legal kept none = no_messages (waiting past q) (∥∥₁_elim kept (same-prop (length (waiting past q)) 0) (λ m.
    sym (follows-count (items q) past q legal (m.in_step q).follows) ∙ none_first (waiting_items (items q)) none))
