-- Messages in memory of which only the holders, or where they stand, have changed; and some of the messages.
use Rattle.std.proofs.Common.{◌≡◌, ℕ, Bool, true, false, not, cond, List, [], ◌∷◌, filter, map, Option, refl, sym, ap, ◌∙◌, subst}
use Rattle.std.specs.Prelude.{is_some, ◌==◌, ◌&&◌, ◌||◌}
use Rattle.std.specs.List.{AllByRecursion, AllZip}
use Rattle.cq_bytes.specs.Numbers.{contains}
use Rattle.cq_entry.specs.declared.entry.EntryKind.{EntryKind}
use Rattle.cq_journal.specs.declared.event.Message.{Message}
use Rattle.cq_folder.specs.Holding.{left_out}
use Rattle.cq_items.specs.Item.{Item}
use Rattle.cq_items.specs.declared.item.Stand.{Stand}
use Rattle.cq_items.specs.declared.item.Holder.{Holder}
use Rattle.cq_items.specs.declared.item.Holder.TheVariants.{Out}
use Rattle.cq_items.specs.Items.{holding, taken_by, waits, hand_out}
use Rattle.cq_queue.specs.Tied.{AreSplit}
use Rattle.cq_stored.specs.Stored.{is_stored, HasBodies}

-- the same message, where an undecided one was undecided and has the same body
pub record Becomes (i j : Item) : Type 0 where
  pub id : j.id ≡ i.id
  pub len : j.len ≡ i.len
  pub kind : j.kind ≡ i.kind
  pub body : is_some j.stand ≡ false → (is_some i.stand ≡ false) × (j.body ≡ i.body)

pub has_bodies : (kinds : Message → EntryKind) (i j : Item) (m : Message) → Becomes i j → HasBodies kinds i m → HasBodies kinds j m
has_bodies kinds i j m b h = record {
  id = b.id ∙ h.id;
  len = b.len ∙ h.len;
  kind = b.kind ∙ h.kind;
  body = λ small open_. (b.body open_).1 ∙ h.body (sym b.kind ∙ small) (b.body open_).0;
}

pub become_bodies : (kinds : Message → EntryKind) (is js : List Item) (ms : List Message) → AllZip Becomes is js → AllZip (HasBodies kinds) is ms → AllZip (HasBodies kinds) js ms
become_bodies kinds [] [] [] b z = tt
become_bodies kinds [] [] (m ∷ ms) b z = absurd z
become_bodies kinds [] (j ∷ js) ms b z = absurd b
become_bodies kinds (i ∷ is) [] ms b z = absurd b
become_bodies kinds (i ∷ is) (j ∷ js) [] b z = absurd z
become_bodies kinds (i ∷ is) (j ∷ js) (m ∷ ms) b z = (has_bodies kinds i j m b.0 z.0, become_bodies kinds is js ms b.1 z.1)

-- ---- only the holders have changed

-- the same message, but for its holder
pub record Alike (i j : Item) : Type 0 where
  pub id : j.id ≡ i.id
  pub len : j.len ≡ i.len
  pub kind : j.kind ≡ i.kind
  pub stand : j.stand ≡ i.stand
  pub body : j.body ≡ i.body

pub alike_becomes : (is js : List Item) → AllZip Alike is js → AllZip Becomes is js
alike_becomes [] [] z = tt
alike_becomes [] (j ∷ js) z = absurd z
alike_becomes (i ∷ is) [] z = absurd z
alike_becomes (i ∷ is) (j ∷ js) z = (
  record { id = z.0.id; len = z.0.len; kind = z.0.kind; body = λ open_. (ap (λ (s : Option Stand). is_some s) (sym z.0.stand) ∙ open_, z.0.body) },
  alike_becomes is js z.1,
)

pub alike_stored : (is js : List Item) (x : ℕ) → AllZip Alike is js → is_stored js x ≡ is_stored is x
alike_stored [] [] x z = refl
alike_stored [] (j ∷ js) x z = absurd z
alike_stored (i ∷ is) [] x z = absurd z
alike_stored (i ∷ is) (j ∷ js) x z =
    ap (λ (k : ℕ). (k == x && is_some j.stand) || is_stored js x) z.0.id
    ∙ ap (λ (s : Option Stand). (i.id == x && is_some s) || is_stored js x) z.0.stand
    ∙ ap (λ (b : Bool). (i.id == x && is_some i.stand) || b) (alike_stored is js x z.1)

alike_undecided : (is js : List Item) → AllZip Alike is js → AllByRecursion (λ (i : Item). is_some i.stand ≡ false) is → AllByRecursion (λ (i : Item). is_some i.stand ≡ false) js
alike_undecided [] [] z all = tt
alike_undecided [] (j ∷ js) z all = absurd z
alike_undecided (i ∷ is) [] z all = absurd z
alike_undecided (i ∷ is) (j ∷ js) z all = (ap (λ (s : Option Stand). is_some s) z.0.stand ∙ all.0, alike_undecided is js z.1 all.1)

pub alike_split : (is js : List Item) → AllZip Alike is js → AreSplit is → AreSplit js
alike_split [] [] z split = tt
alike_split [] (j ∷ js) z split = absurd z
alike_split (i ∷ is) [] z split = absurd z
alike_split (i ∷ is) (j ∷ js) z split = (
  λ open_. alike_undecided is js z.1 (split.0 (ap (λ (s : Option Stand). is_some s) (sym z.0.stand) ∙ open_)),
  alike_split is js z.1 split.1,
)

pub alike_self : (is : List Item) → AllZip Alike is is
alike_self [] = tt
alike_self (i ∷ is) = (record { id = refl; len = refl; kind = refl; stand = refl; body = refl }, alike_self is)

pub alike_map : (f : Holder → Holder) (is : List Item) → AllZip Alike is (map (holding f) is)
alike_map f [] = tt
alike_map f (i ∷ is) = (record { id = refl; len = refl; kind = refl; stand = refl; body = refl }, alike_map f is)

pub alike_handed : (c d : ℕ) (is : List Item) → AllZip Alike is (hand_out c d is)
alike_handed c d [] = tt
alike_handed c d (i ∷ is) = elim (waits i) as (λ (b : Bool). AllZip Alike (i ∷ is) (cond b (taken_by (Out c d) i ∷ is) (i ∷ hand_out c d is))) [
  | true ↦ (record { id = refl; len = refl; kind = refl; stand = refl; body = refl }, alike_self is)
  | false ↦ (record { id = refl; len = refl; kind = refl; stand = refl; body = refl }, alike_handed c d is)
]

-- ---- some of the messages

pub all_filter : {A : Type 0} (P : A → Type 0) (p : A → Bool) (xs : List A) → AllByRecursion P xs → AllByRecursion P (filter p xs)
all_filter P p [] all = tt
all_filter P p (x ∷ xs) all = elim (p x) as (λ (b : Bool). AllByRecursion P (cond b (x ∷ filter p xs) (filter p xs))) [
  | true ↦ (all.0, all_filter P p xs all.1)
  | false ↦ all_filter P p xs all.1
]

pub split_filter : (p : Item → Bool) (is : List Item) → AreSplit is → AreSplit (filter p is)
split_filter p [] split = tt
split_filter p (i ∷ is) split = elim (p i) as (λ (b : Bool). AreSplit (cond b (i ∷ filter p is) (filter p is))) [
  | true ↦ ((λ open_. all_filter (λ (j : Item). is_some j.stand ≡ false) p is (split.0 open_)), split_filter p is split.1)
  | false ↦ split_filter p is split.1
]

-- the messages but those of these ids
abbrev pub unnamed : List ℕ → List Item → List Item
unnamed ids is = filter (λ (i : Item). not (contains ids i.id)) is

pub bodies_left : (kinds : Message → EntryKind) (ids : List ℕ) (is : List Item) (ms : List Message) → AllZip (HasBodies kinds) is ms → AllZip (HasBodies kinds) (unnamed ids is) (left_out ids ms)
bodies_left kinds ids [] [] z = tt
bodies_left kinds ids [] (m ∷ ms) z = absurd z
bodies_left kinds ids (i ∷ is) [] z = absurd z
bodies_left kinds ids (i ∷ is) (m ∷ ms) z =
    subst (λ (b : Bool). AllZip (HasBodies kinds) (cond (not b) (i ∷ unnamed ids is) (unnamed ids is)) (cond (not (contains ids m.id)) (m ∷ left_out ids ms) (left_out ids ms))) (sym (ap (contains ids) z.0.id))
    (elim (contains ids m.id) as (λ (b : Bool). AllZip (HasBodies kinds) (cond (not b) (i ∷ unnamed ids is) (unnamed ids is)) (cond (not b) (m ∷ left_out ids ms) (left_out ids ms))) [
      | true ↦ bodies_left kinds ids is ms z.1
      | false ↦ (z.0, bodies_left kinds ids is ms z.1)
    ])
