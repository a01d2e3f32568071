-- The messages that go stand at their places of their segment.
use Prim.Native.Nat.{zero, suc}
use Rattle.std.proofs.Common.{◌≡◌, ℕ, Bool, true, false, cond, List, [], ◌∷◌, filter, map, Option, Some, refl, sym, ap, ◌∙◌, subst, arith}
use Rattle.std.specs.Prelude.{Contains, ◌==◌, ◌||◌}
use Rattle.std.specs.List.{AllByRecursion}
use Rattle.std.proofs.lemmas.Bool.{eq-eqb, eqb-true, false≢true, and_parts}
use Rattle.cq_bytes.specs.Numbers.{contains}
use Rattle.cq_disk.specs.declared.name.Name.{Name}
use Rattle.cq_disk.specs.File.{File}
use Rattle.cq_entry.specs.declared.entry.Entry.{Entry}
use Rattle.cq_index.specs.Places.{index_name}
use Rattle.cq_folder.specs.Holding.{IsAt, AreAtPlaces}
use Rattle.cq_folder.specs.Queue.{content_in}
use Rattle.cq_folder.proofs.Sublists.{or_true}
use Rattle.cq_items.specs.Item.{Item}
use Rattle.cq_items.specs.declared.item.Stand.{Stand}
use Rattle.cq_items.specs.Items.{at_of, segment_of, settles}
use Rattle.cq_queue.specs.Tied.{entry_at, IsInPlace, AreInPlace}
use Rattle.cq_queue.proofs.Lowest.{goes, going, stand_is}

-- a message stands in its place of this segment
record StandsOf (queue number : ℕ) (files : Name → Option File) (i : Item) : Type 0 where
  stand : Stand
  is : i.stand ≡ Some stand
  own : stand.segment ≡ number
  in_place : IsInPlace queue files i stand

module _ (queue number : ℕ) (files : Name → Option File) where
  abbrev content : List ℕ
  content = content_in (files (index_name queue number))

  -- the entry of one of them
  entry_of : (i : Item) (k x : ℕ) → StandsOf queue number files i → at_of i.stand ≡ k → i.id ≡ x → (e : Entry) × (IsAt content k e × (e.id ≡ x))
  entry_of i k x s at id = (
    entry_at i s.stand,
    (subst (λ (j : ℕ). IsAt content j (entry_at i s.stand)) (ap at_of (sym s.is) ∙ at) (subst (λ (n : ℕ). IsAt (content_in (files (index_name queue n))) s.stand.at (entry_at i s.stand)) s.own s.in_place.entry), id),
  )

  -- each place has an entry of one of the ids
  each : (items : List Item) → AllByRecursion (StandsOf queue number files) items → (k : ℕ) → Contains (map (λ (i : Item). at_of i.stand) items) k
      → (e : Entry) × (IsAt content k e × (contains (map (λ (i : Item). i.id) items) e.id ≡ true))
  each [] all k has = absurd (omega (arith, has.1))
  each (i ∷ is) all k (zero, lt, is_k) =
      let e = entry_of i k i.id all.0 is_k refl in
      (e.0, (e.1.0, ap (λ (b : Bool). b || contains (map (λ (j : Item). j.id) is) e.0.id) (eq-eqb i.id e.0.id (sym e.1.1))))
  each (i ∷ is) all k (suc j, lt, is_k) =
      let e = each is all.1 k (j, omega (arith, lt), is_k) in
      (e.0, (e.1.0, or_true (i.id == e.0.id) (contains (map (λ (j : Item). j.id) is) e.0.id) e.1.1))

  -- each id is that of an entry at one of the places
  every : (items : List Item) → AllByRecursion (StandsOf queue number files) items → (x : ℕ) → contains (map (λ (i : Item). i.id) items) x ≡ true
      → (k : ℕ) × (Contains (map (λ (i : Item). at_of i.stand) items) k × ((e : Entry) × (IsAt content k e × (e.id ≡ x))))
  every [] all x has = absurd (false≢true has)
  every (i ∷ is) all x has = (elim (i.id == x) as (λ (b : Bool). (i.id == x) ≡ b → (b || contains (map (λ (j : Item). j.id) is) x) ≡ true → (k : ℕ) × (Contains (at_of i.stand ∷ map (λ (j : Item). at_of j.stand) is) k × ((e : Entry) × (IsAt content k e × (e.id ≡ x))))) [
    | true ↦ λ same any. (at_of i.stand, ((0, omega arith, refl), entry_of i (at_of i.stand) x all.0 refl (eqb-true i.id x same)))
    | false ↦ λ other later. let r = every is all.1 x later in let lt = r.1.0.1 in (r.0, ((suc r.1.0.0, omega (arith, lt), r.1.0.2), r.1.1))
  ]) refl has

  those_stand : (items : List Item) → AreInPlace queue files items → AllByRecursion (StandsOf queue number files) (filter (goes number) items)
  those_stand [] all = tt
  those_stand (i ∷ is) all = (elim (goes number i) as (λ (b : Bool). goes number i ≡ b → AllByRecursion (StandsOf queue number files) (cond b (i ∷ filter (goes number) is) (filter (goes number) is))) [
    | true ↦ λ own.
        let parts = and_parts (settles i) (segment_of i.stand == number) own in
        let s = stand_is i parts.0 in
        (record { stand = s.0; is = s.1; own = ap segment_of (sym s.1) ∙ eqb-true (segment_of i.stand) number parts.1; in_place = all.0 s.0 s.1 }, those_stand is all.1)
    | false ↦ λ other. those_stand is all.1
  ]) refl

  pub those_at_places : (items : List Item) → AreInPlace queue files items → AreAtPlaces content (going number items) (map (λ (i : Item). i.id) (filter (goes number) items))
  those_at_places items all = record {
    each = each (filter (goes number) items) (those_stand items all);
    all = every (filter (goes number) items) (those_stand items all);
  }
