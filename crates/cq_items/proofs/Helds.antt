-- The deliveries of nodes, where one is taken out.
use Prim.Native.Nat.{zero, suc}
use Rattle.std.proofs.Common.{◌≡◌, ℕ, ◌-◌, ◌<◌, ◌^◌, Bool, true, false, List, [], ◌∷◌, length, set, take, get_or, refl, sym, ap, ◌∙◌, subst, arith, inl, inr, length-set, get_or-set_same, get_or-set_other}
use Rattle.std.specs.List.{swap_remove}
use Rattle.std.proofs.lemmas.List.{get_or_default}
use Rattle.std.proofs.lemmas.Bool.{cases_eq}
use Rattle.cq_items.specs.declared.outs.Held.{Held}
use Rattle.cq_items.specs.declared.tree.Node.{Node}
use Rattle.cq_items.specs.OutsValue.{is_held, held_at, no_delivery, AreOnce}
use Rattle.cq_items.specs.Outs.{Puts}
use Rattle.std.specs.Prelude.{Some}
use Rattle.cq_items.proofs.Find.{once-moved, puts-moved}
use Rattle.cq_items.specs.Tree.{turn, Agree, helds, link, node_at, no_node, IsTaken, IsTree, IsUnlinked}
use Rattle.cq_items.proofs.Trees.{helds-length, helds-at, IsRekeyed, tree-rekeyed}

helds-set : (ns : List Node) (i : ℕ) (n : Node) → helds (set ns i n) ≡ set (helds ns) i n.held
helds-set [] i n = refl
helds-set (m ∷ ns) zero n = refl
helds-set (m ∷ ns) (suc i) n = ap (λ hs. m.held ∷ hs) (helds-set ns i n)

helds-take : (k : ℕ) (ns : List Node) → helds (take k ns) ≡ take k (helds ns)
helds-take zero ns = refl
helds-take (suc k) [] = refl
helds-take (suc k) (n ∷ ns) = ap (λ hs. n.held ∷ hs) (helds-take k ns)

helds-same : (ns ms : List Node) → length ns ≡ length ms → ((i : ℕ) → (node_at ns i).held ≡ (node_at ms i).held) → helds ns ≡ helds ms
helds-same [] [] e f = refl
helds-same [] (m ∷ ms) e f = absurd (omega (arith, e))
helds-same (n ∷ ns) [] e f = absurd (omega (arith, e))
helds-same (n ∷ ns) (m ∷ ms) e f = ap (λ h. h ∷ helds ns) (f 0) ∙ ap (λ hs. m.held ∷ hs) (helds-same ns ms (omega (arith, e)) (λ i. f (suc i)))

helds-removed : (ns : List Node) (i : ℕ) (x : Node) → 0 < length ns → helds (swap_remove ns i x) ≡ swap_remove (helds ns) i no_delivery
helds-removed ns i x l =
    let last : ℕ = length ns - 1 in
    let e : (get_or ns last x).held ≡ held_at (helds ns) last = ap (λ (n : Node). n.held) (get_or_default ns last x no_node (omega arith)) ∙ sym (helds-at ns last) in
    helds-take last (set ns i (get_or ns last x)) ∙ ap (take last) (helds-set ns i (get_or ns last x) ∙ ap (set (helds ns) i) e)
    ∙ ap (λ k. take (k - 1) (set (helds ns) i (held_at (helds ns) (k - 1)))) (sym (helds-length ns))

pub helds-cut : (ns un new : List Node) (leaf : ℕ) (x : Node) → 0 < length ns → IsUnlinked ns un leaf → new ≡ swap_remove un leaf x → helds new ≡ swap_remove (helds ns) leaf no_delivery
helds-cut ns un new leaf x l u e =
    ap helds e ∙ helds-removed un leaf x (omega (arith, u.len)) ∙ ap (λ hs. swap_remove hs leaf no_delivery) (helds-same un ns u.len u.held)

link-of : (r : Bool) (a : Node) (h : Held) → link r (record { held = h; level = a.level; left = a.left; right = a.right }) ≡ link r a
link-of true a h = refl
link-of false a h = refl

pub rekeyed : (ns : List Node) → IsTree ns → (i : ℕ) (a : Node) (h : Held) → i < length ns → a ≡ node_at ns i → Agree (node_at ns i).level (node_at ns i).held h → (h.client < 2 ^ 32) × (h.delivery < 2 ^ 32)
    → IsRekeyed ns (set ns i (record { held = h; level = a.level; left = a.left; right = a.right }))
rekeyed ns t i a h l ea s f =
    let m : Node = record { held = h; level = a.level; left = a.left; right = a.right } in
    let here : node_at (set ns i m) i ≡ m = get_or-set_same ns i m no_node l in
    let other : (k : ℕ) → (k ≡ i → ⊥) → node_at (set ns i m) k ≡ node_at ns k = λ k n. get_or-set_other ns i k m no_node n in
    record {
      len = length-set ns i m;
      level = λ k. elim (cases_eq k i) [
        | inl e ↦ subst (λ j. (node_at (set ns i m) j).level ≡ (node_at ns j).level) (sym e) (ap (λ (n : Node). n.level) here ∙ ap (λ (n : Node). n.level) ea)
        | inr n ↦ ap (λ (n : Node). n.level) (other k n)
      ];
      links = λ k r. elim (cases_eq k i) [
        | inl e ↦ subst (λ j. link r (node_at (set ns i m) j) ≡ link r (node_at ns j)) (sym e) (ap (link r) here ∙ link-of r a h ∙ ap (link r) ea)
        | inr n ↦ ap (link r) (other k n)
      ];
      same = λ k. elim (cases_eq k i) [
        | inl e ↦ subst (λ j. Agree (node_at ns j).level (node_at ns j).held (node_at (set ns i m) j).held) (sym e)
            (subst (λ (n : Node). Agree (node_at ns i).level (node_at ns i).held n.held) (sym here) s)
        | inr n ↦ subst (λ (m : Node). Agree (node_at ns k).level (node_at ns k).held m.held) (sym (other k n)) (λ j p. refl)
      ];
      fits = λ k. elim (cases_eq k i) [
        | inl e ↦ subst (λ j. ((node_at (set ns i m) j).held.client < 2 ^ 32) × ((node_at (set ns i m) j).held.delivery < 2 ^ 32)) (sym e)
            (subst (λ (n : Node). (n.held.client < 2 ^ 32) × (n.held.delivery < 2 ^ 32)) (sym here) f)
        | inr n ↦ subst (λ (m : Node). (m.held.client < 2 ^ 32) × (m.held.delivery < 2 ^ 32)) (sym (other k n)) (t.fits k)
      ];
    }

-- the message of one stands at another place
abbrev pub moved-node : Node → ℕ → Node
moved-node a at = record { held = record { client = a.held.client; delivery = a.held.delivery; at = at }; level = a.level; left = a.left; right = a.right }

pub tree-moved : (ns : List Node) → IsTree ns → (i at : ℕ) (a : Node) → i < length ns → a ≡ node_at ns i → IsTree (set ns i (moved-node a at))
tree-moved ns t i at a l ea =
    tree-rekeyed ns (set ns i (moved-node a at)) t (rekeyed ns t i a (record { client = a.held.client; delivery = a.held.delivery; at = at }) l ea
    (λ k p. ap (λ (n : Node). turn k n.held) (sym ea)) (subst (λ (n : Node). (n.held.client < 2 ^ 32) × (n.held.delivery < 2 ^ 32)) (sym ea) (t.fits i)))

pub once-replaced : (ns : List Node) (i at : ℕ) (a : Node) → i < length ns → a ≡ node_at ns i → AreOnce (helds ns) → AreOnce (helds (set ns i (moved-node a at)))
once-replaced ns i at a l ea o =
    subst (λ (hs : List Held). AreOnce hs) (sym (helds-set ns i (moved-node a at)))
    (once-moved (helds ns) i (moved-node a at).held (omega (arith, helds-length ns, l))
    (ap (λ (n : Node). n.held.client) ea ∙ ap (λ (h : Held). h.client) (sym (helds-at ns i)))
    (ap (λ (n : Node). n.held.delivery) ea ∙ ap (λ (h : Held). h.delivery) (sym (helds-at ns i))) o)

pub puts-replaced : (ns : List Node) (i at c d : ℕ) (a : Node) → i < length ns → a ≡ node_at ns i → AreOnce (helds ns) → is_held c d (held_at (helds ns) i) ≡ true → Puts c d (Some at) (helds ns) (helds (set ns i (moved-node a at)))
puts-replaced ns i at c d a l ea o e =
    subst (λ (hs : List Held). Puts c d (Some at) (helds ns) hs) (sym (helds-set ns i (moved-node a at)))
    (puts-moved (helds ns) i c d (moved-node a at).held (omega (arith, helds-length ns, l)) e
    (ap (λ (n : Node). n.held.client) ea ∙ ap (λ (h : Held). h.client) (sym (helds-at ns i)))
    (ap (λ (n : Node). n.held.delivery) ea ∙ ap (λ (h : Held). h.delivery) (sym (helds-at ns i))) o)

pub length-moved : (ns : List Node) (i at : ℕ) (a : Node) → length (helds (set ns i (moved-node a at))) ≡ length (helds ns)
length-moved ns i at a = helds-length (set ns i (moved-node a at)) ∙ length-set ns i (moved-node a at) ∙ sym (helds-length ns)

pub taken : (ns new : List Node) (i leaf : ℕ) (m : Node) → leaf < length ns → m.held ≡ (node_at ns leaf).held → helds new ≡ swap_remove (helds (set ns i m)) leaf no_delivery → IsTaken (helds ns) (helds new) i
taken ns new i leaf m l e f = record {
  leaf = leaf;
  within = omega (arith, helds-length ns, l);
  is = f ∙ ap (λ hs. swap_remove hs leaf no_delivery) (helds-set ns i m ∙ ap (set (helds ns) i) (e ∙ sym (helds-at ns leaf)));
}
