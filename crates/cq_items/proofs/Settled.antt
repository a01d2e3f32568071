-- What settles leaves, one after another.
use Prim.Native.Nat.{suc}
use Rattle.std.proofs.Common.{◌≡◌, ℕ, ◌+◌, ◌<◌, true, false, not, cond, List, [], ◌∷◌, length, set, refl, sym, ap, ◌∙◌, subst, arith}
use Rattle.std.specs.Prelude.{◌==◌, ◌&&◌, map, is_some, Option, None, Some}
use Rattle.std.proofs.lemmas.Bool.{cond-true, cond-false, and_from, and_parts}
use Rattle.cq_items.specs.Item.{Item}
use Rattle.cq_items.specs.declared.outs.Held.{Held}
use Rattle.cq_items.specs.declared.items.settling.Left.{Left}
use Rattle.cq_items.specs.Items.{is_gone, waits, out_for, undecided, settles, settled_items, segment_of, at_of, lowest_segment, is_in, settling_in, others_in, others_items}
use Rattle.cq_items.specs.Slots.{slot_at, passes, alive, places}
use Rattle.cq_items.specs.Queue.{Queue, IsIndexed, left_in, HasLeft}
use Rattle.cq_items.proofs.Places.{passes-within, length-places, places-set}
use Rattle.cq_items.proofs.Finds.{gone-not-free, gone-not-out, finds-same, splits-same}

pub settling-count : (ss : List (Option Item)) (ws : List ℕ) (held : List Held) (gone : List ℕ) (f : ℕ) → IsIndexed ss ws held gone f → length gone ≡ length (settled_items (alive ss))
settling-count ss ws held gone f h = sym (ap length h.gone_is) ∙ length-places settles 0 ss

-- ---- the first message that settles

pub record IsNextPlace (n : ℕ) (ss : List (Option Item)) (k : ℕ) (rest : List ℕ) : Type 0 where
  pub item : Item
  pub stands : slot_at ss k ≡ Some item
  pub settling : settles item ≡ true
  pub left : places settles n (set ss k None) ≡ rest
  pub lowest : lowest_segment (alive ss) ≡ Some (segment_of item.stand)
  pub told : (o : Option ℕ) → settling_in o (alive ss) ≡ cond (is_in o item) (item ∷ settling_in o (alive (set ss k None))) []
  pub others : (o : Option ℕ) → is_in o item ≡ true → others_in o (alive (set ss k None)) ≡ others_in o (alive ss)

next-place : (n : ℕ) (ss : List (Option Item)) (p : ℕ) (rest : List ℕ) → places settles n ss ≡ p ∷ rest → (k : ℕ) × ((p ≡ n + k) × IsNextPlace n ss k rest)
next-place n [] p rest e = cc
next-place n (None ∷ ss) p rest e =
    let f = next-place (n + 1) ss p rest e in
    let g : IsNextPlace (n + 1) ss f.0 rest = f.1.1 in
    (suc f.0, (omega (arith, f.1.0), record { item = g.item; stands = g.stands; settling = g.settling; left = g.left; lowest = g.lowest; told = g.told; others = g.others }))
next-place n (Some i ∷ ss) p rest e =
    (elim (settles i) as (λ b. settles i ≡ b → cond b (n ∷ places settles (n + 1) ss) (places settles (n + 1) ss) ≡ p ∷ rest → (k : ℕ) × ((p ≡ n + k) × IsNextPlace n (Some i ∷ ss) k rest)) [
      | true ↦ λ w e. (
          let same : n ≡ p = cc in
          let after : places settles (n + 1) ss ≡ rest = cc in (
            0,
            (
              omega arith,
              record {
                item = i;
                stands = refl;
                settling = w;
                left = after;
                lowest = cond-true (settles i) (Some (segment_of i.stand)) (lowest_segment (alive ss)) w;
                told = λ o. cond-true (settles i) (cond (is_in o i) (i ∷ settling_in o (alive ss)) []) (settling_in o (alive ss)) w;
                others = λ o h. sym (cond-true (settles i) (cond (is_in o i) (others_in o (alive ss)) (i ∷ alive ss)) (i ∷ others_in o (alive ss)) w ∙ cond-true (is_in o i) (others_in o (alive ss)) (i ∷ alive ss) h);
              },
            ),
          ))
      | false ↦ λ w e. (
          let f = next-place (n + 1) ss p rest e in
          let g : IsNextPlace (n + 1) ss f.0 rest = f.1.1 in
          let now : List Item = alive (set ss f.0 None) in (
            suc f.0,
            (
              omega (arith, f.1.0),
              record {
                item = g.item;
                stands = g.stands;
                settling = g.settling;
                left = cond-false (settles i) (n ∷ places settles (n + 1) (set ss f.0 None)) (places settles (n + 1) (set ss f.0 None)) w ∙ g.left;
                lowest = cond-false (settles i) (Some (segment_of i.stand)) (lowest_segment (alive ss)) w ∙ g.lowest;
                told = λ o. cond-false (settles i) (cond (is_in o i) (i ∷ settling_in o (alive ss)) []) (settling_in o (alive ss)) w ∙ g.told o
                    ∙ ap (λ (ys : List Item). cond (is_in o g.item) (g.item ∷ ys) []) (sym (cond-false (settles i) (cond (is_in o i) (i ∷ settling_in o now) []) (settling_in o now) w));
                others = λ o h. cond-false (settles i) (cond (is_in o i) (others_in o now) (i ∷ now)) (i ∷ others_in o now) w ∙ ap (λ (ys : List Item). i ∷ ys) (g.others o h)
                    ∙ sym (cond-false (settles i) (cond (is_in o i) (others_in o (alive ss)) (i ∷ alive ss)) (i ∷ others_in o (alive ss)) w);
              },
            ),
          ))
    ]) refl e

pub next-at : (ss : List (Option Item)) (ws : List ℕ) (held : List Held) (gone rest : List ℕ) (f k : ℕ) → IsIndexed ss ws held gone f → gone ≡ k ∷ rest → IsNextPlace 0 ss k rest
next-at ss ws held gone rest f k h e = let n = next-place 0 ss k rest (h.gone_is ∙ e) in let same : n.0 ≡ k = omega (arith, n.1.0) in subst (λ j. IsNextPlace 0 ss j rest) same n.1.1

pub next-within : (ss : List (Option Item)) (k : ℕ) (rest : List ℕ) → IsNextPlace 0 ss k rest → k < length ss
next-within ss k rest n = passes-within settles ss k (ap (passes settles) n.stands ∙ n.settling)

pub lowest-none : (ss : List (Option Item)) (n : ℕ) → length (places settles n ss) ≡ 0 → lowest_segment (alive ss) ≡ None
lowest-none [] n e = refl
lowest-none (None ∷ ss) n e = lowest-none ss (n + 1) e
lowest-none (Some i ∷ ss) n e =
    (elim (settles i) as (λ b. length (cond b (n ∷ places settles (n + 1) ss) (places settles (n + 1) ss)) ≡ 0 → cond b (Some (segment_of i.stand)) (lowest_segment (alive ss)) ≡ None) [
      | true ↦ λ e. absurd (omega arith)
      | false ↦ λ e. lowest-none ss (n + 1) e
    ]) e

pub none-in : (o : Option ℕ) (ss : List (Option Item)) (n : ℕ) → length (places settles n ss) ≡ 0 → settling_in o (alive ss) ≡ []
none-in o [] n e = refl
none-in o (None ∷ ss) n e = none-in o ss (n + 1) e
none-in o (Some i ∷ ss) n e =
    (elim (settles i) as (λ b. length (cond b (n ∷ places settles (n + 1) ss) (places settles (n + 1) ss)) ≡ 0 → cond b (cond (is_in o i) (i ∷ settling_in o (alive ss)) []) (settling_in o (alive ss)) ≡ []) [
      | true ↦ λ e. absurd (omega arith)
      | false ↦ λ e. none-in o ss (n + 1) e
    ]) e

-- ---- it leaves

pub indexed-settled : (ss : List (Option Item)) (ws : List ℕ) (held : List Held) (gone rest : List ℕ) (f k : ℕ) → IsIndexed ss ws held gone f → gone ≡ k ∷ rest → IsIndexed (set ss k None) ws held rest f
indexed-settled ss ws held gone rest f k h e =
    let s : IsNextPlace 0 ss k rest = next-at ss ws held gone rest f k h e in
    let l : k < length ss = next-within ss k rest s in
    let x : Item = s.item in
    let parts = and_parts (is_some x.stand) (is_gone x.holder) s.settling in
    record {
      waiting_is = places-set waits 0 ss k None (sym (ap (passes waits) s.stands ∙ gone-not-free x.holder parts.1)) ∙ h.waiting_is;
      finds_out = finds-same ss held k None h.finds_out l (λ c d. sym (ap (passes (out_for c d)) s.stands ∙ gone-not-out x.holder c d parts.1));
      gone_is = s.left;
      is_split = splits-same undecided ss f k None h.is_split l (sym (ap (passes undecided) s.stands ∙ ap not parts.0));
    }

abbrev telling : Item → Left
telling i = record { at = at_of i.stand; id = i.id }

left-is : (n : ℕ) (i : Item) (l : Left) → left_in n (Some i) ≡ Some l → ((segment_of i.stand == n) ≡ true) × ((at_of i.stand ≡ l.at) × (i.id ≡ l.id))
left-is n i l e =
    (elim (is_some i.stand && segment_of i.stand == n) as (λ b. (is_some i.stand && segment_of i.stand == n) ≡ b → cond b (Some (telling i)) None ≡ Some l → ((segment_of i.stand == n) ≡ true) × ((at_of i.stand ≡ l.at) × (i.id ≡ l.id))) [
      | true ↦ λ w e. (let same : telling i ≡ l = cc in ((and_parts (is_some i.stand) (segment_of i.stand == n) w).1, (ap (λ (m : Left). m.at) same, ap (λ (m : Left). m.id) same)))
      | false ↦ λ w e. cc
    ]) refl e

stays-in : (n : ℕ) (i : Item) → settles i ≡ true → left_in n (Some i) ≡ None → (segment_of i.stand == n) ≡ false
stays-in n i w e =
    (elim (segment_of i.stand == n) as (λ b. cond (is_some i.stand && b) (Some (telling i)) None ≡ None → b ≡ false) [
      | true ↦ λ e. (
          let there : (is_some i.stand && true) ≡ true = and_from (is_some i.stand) true (and_parts (is_some i.stand) (is_gone i.holder) w).0 refl in
          let n : Some (telling i) ≡ None = sym (cond-true (is_some i.stand && true) (Some (telling i)) None there) ∙ e in cc)
      | false ↦ λ e. refl
    ]) e

pub left-one : (ss : List (Option Item)) (k : ℕ) (rest : List ℕ) (n r : ℕ) (l : Left) → IsNextPlace 0 ss k rest → places settles 0 ss ≡ k ∷ rest → left_in n (slot_at ss k) ≡ Some l
    → HasLeft n l (record { items = alive ss; reserved = r }) (record { items = alive (set ss k None); reserved = r })
left-one ss k rest n r l f whole e =
    let is = left-is n f.item l (sym (ap (left_in n) f.stands) ∙ e) in
    let now : List Item = alive (set ss k None) in
    let told : settling_in (Some n) (alive ss) ≡ f.item ∷ settling_in (Some n) now = f.told (Some n) ∙ cond-true (segment_of f.item.stand == n) (f.item ∷ settling_in (Some n) now) [] is.0 in
    record {
      places = ap (map (λ (i : Item). at_of i.stand)) told ∙ ap (λ m. m ∷ map (λ (i : Item). at_of i.stand) (settling_in (Some n) now)) is.1.0;
      ids = ap (map (λ (i : Item). i.id)) told ∙ ap (λ m. m ∷ map (λ (i : Item). i.id) (settling_in (Some n) now)) is.1.1;
      others = f.others (Some n) is.0;
      reserved = refl;
      count = omega (arith, length-places settles 0 ss, length-places settles 0 (set ss k None), ap length f.left, ap length whole);
    }

pub stays-one : (ss : List (Option Item)) (k : ℕ) (rest : List ℕ) (n : ℕ) → IsNextPlace 0 ss k rest → left_in n (slot_at ss k) ≡ None → settling_in (Some n) (alive ss) ≡ []
stays-one ss k rest n f e =
    f.told (Some n) ∙ cond-false (segment_of f.item.stand == n) (f.item ∷ settling_in (Some n) (alive (set ss k None))) [] (stays-in n f.item f.settling (sym (ap (left_in n) f.stands) ∙ e))

-- ---- all that settle in a segment have left

pub others-all : (o : Option ℕ) (is : List Item) → settling_in o is ≡ [] → others_in o is ≡ is
others-all o [] e = refl
others-all o (i ∷ is) e =
    (elim (settles i) as (λ b. cond b (cond (is_in o i) (i ∷ settling_in o is) []) (settling_in o is) ≡ [] → cond b (cond (is_in o i) (others_in o is) (i ∷ is)) (i ∷ others_in o is) ≡ i ∷ is) [
      | true ↦ λ e. (elim (is_in o i) as (λ b. cond b (i ∷ settling_in o is) [] ≡ [] → cond b (others_in o is) (i ∷ is) ≡ i ∷ is) [
        | true ↦ λ e. cc
        | false ↦ λ e. refl
      ]) e
      | false ↦ λ e. ap (λ (js : List Item). i ∷ js) (others-all o is e)
    ]) e

pub others-none : (is : List Item) → others_in None is ≡ is
others-none [] = refl
others-none (i ∷ is) = elim (settles i) as (λ b. cond b (i ∷ is) (i ∷ others_in None is) ≡ i ∷ is) [
  | true ↦ refl
  | false ↦ ap (λ (js : List Item). i ∷ js) (others-none is)
]

pub all-left : (n : ℕ) (old now : Queue) → lowest_segment old.items ≡ Some n → settling_in (Some n) now.items ≡ [] → others_in (Some n) now.items ≡ others_in (Some n) old.items → now.reserved ≡ old.reserved
    → now ≡ record { items = others_items old.items; reserved = old.reserved }
all-left n old now low none others same =
    let items : now.items ≡ others_items old.items = sym (others-all (Some n) now.items none) ∙ others ∙ ap (λ (o : Option ℕ). others_in o old.items) (sym low) in
    ap (λ (is : List Item). record { items = is; reserved = now.reserved }) items ∙ ap (λ r. record { items = others_items old.items; reserved = r }) same
