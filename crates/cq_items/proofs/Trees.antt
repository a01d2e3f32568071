-- What edits of its nodes leave of a tree.
use Prim.Native.Nat.{zero, suc}
use Rattle.std.proofs.Common.{◌≡◌, ℕ, ◌^◌, ◌<◌, ◌≤◌, Bool, true, false, List, [], ◌∷◌, ◌++◌, length, set, take, refl, sym, ap, ◌∙◌, subst, arith, inl, inr, ◌⊎◌, length-append, length-set, get_or-set_same, get_or-set_other}
use Rattle.std.proofs.lemmas.List.{get_or_append_left, get_or_push, get_or_past}
use Rattle.std.specs.Prelude.{Option, None, Some}
use Rattle.std.proofs.lemmas.Bool.{cases_eq, cases_lt}
use Rattle.cq_items.specs.declared.outs.Held.{Held}
use Rattle.cq_items.specs.declared.tree.Node.{Node}
use Rattle.cq_items.specs.Tree.{turn, Agree, node_at, no_node, link, some_index, step, way, helds, hung, is_wanted, IsBelow, IsFound, IsHung, IsTree}
use Rattle.cq_items.specs.OutsValue.{held_at}
use Rattle.cq_items.proofs.Ways.{way-agree, step-from, way-more, on-way}

-- one node is still below another, where levels and deliveries stay
pub below-same : (ns new : List Node) (r : Bool) (i j x y : ℕ) → y < length new
    → (node_at new x).held ≡ (node_at ns i).held → (node_at new x).level ≡ (node_at ns i).level
    → (node_at new y).held ≡ (node_at ns j).held → (node_at new y).level ≡ (node_at ns j).level → IsBelow ns r i j → IsBelow new r x y
below-same ns new r i j x y l hx vx hy vy w = record {
  within = l;
  level = vy ∙ w.level ∙ ap suc (sym vx);
  same = λ k p. ap (turn k) hx ∙ w.same k (omega (arith, vx)) ∙ ap (turn k) (sym hy);
  turns = ap (λ k. turn k (node_at new y).held) vx ∙ ap (turn (node_at ns i).level) hy ∙ w.turns;
}

-- ---- one more

pub record IsGrown (ns new : List Node) (h : Held) (level p : ℕ) (b : Bool) : Type 0 where
  pub len : length new ≡ suc (length ns)
  pub other : (i : ℕ) → i < length ns → (i ≡ p → ⊥) → node_at new i ≡ node_at ns i
  pub above : node_at new p ≡ hung b (length ns) (node_at ns p)
  pub last : node_at new (length ns) ≡ record { held = h; level = level; left = 0; right = 0 }
  pub past : (i : ℕ) → length ns < i → node_at new i ≡ no_node

hung-held : (b : Bool) (x : ℕ) (n : Node) → (hung b x n).held ≡ n.held
hung-held true x n = refl
hung-held false x n = refl

hung-level : (b : Bool) (x : ℕ) (n : Node) → (hung b x n).level ≡ n.level
hung-level true x n = refl
hung-level false x n = refl

hung-here : (b : Bool) (x : ℕ) (n : Node) → link b (hung b x n) ≡ x
hung-here true x n = refl
hung-here false x n = refl

hung-cases : (b r : Bool) (x : ℕ) (n : Node) → ((r ≡ b) × (link r (hung b x n) ≡ x)) ⊎ (link r (hung b x n) ≡ link r n)
hung-cases true true x n = inl (refl, refl)
hung-cases true false x n = inr refl
hung-cases false true x n = inr refl
hung-cases false false x n = inl (refl, refl)

grown-held : (ns new : List Node) (h : Held) (level p : ℕ) (b : Bool) → IsGrown ns new h level p b → (i : ℕ) → i < length ns → (node_at new i).held ≡ (node_at ns i).held
grown-held ns new h level p b g i l = elim (cases_eq i p) [
  | inl e ↦ subst (λ k. (node_at new k).held ≡ (node_at ns k).held) (sym e) (ap (λ (n : Node). n.held) g.above ∙ hung-held b (length ns) (node_at ns p))
  | inr n ↦ ap (λ (n : Node). n.held) (g.other i l n)
]

grown-level : (ns new : List Node) (h : Held) (level p : ℕ) (b : Bool) → IsGrown ns new h level p b → (i : ℕ) → i < length ns → (node_at new i).level ≡ (node_at ns i).level
grown-level ns new h level p b g i l = elim (cases_eq i p) [
  | inl e ↦ subst (λ k. (node_at new k).level ≡ (node_at ns k).level) (sym e) (ap (λ (n : Node). n.level) g.above ∙ hung-level b (length ns) (node_at ns p))
  | inr n ↦ ap (λ (n : Node). n.level) (g.other i l n)
]

grown-link : (ns new : List Node) (h : Held) (level p : ℕ) (b : Bool) → IsGrown ns new h level p b → (i : ℕ) (r : Bool) → i < length ns
    → ((i ≡ p) × (r ≡ b) × (link r (node_at new i) ≡ length ns)) ⊎ (link r (node_at new i) ≡ link r (node_at ns i))
grown-link ns new h level p b g i r l = elim (cases_eq i p) [
  | inr n ↦ inr (ap (link r) (g.other i l n))
  | inl e ↦ (
      let f : node_at new i ≡ hung b (length ns) (node_at ns i) = subst (λ k. node_at new k ≡ hung b (length ns) (node_at ns k)) (sym e) g.above in
      elim (hung-cases b r (length ns) (node_at ns i)) [
        | inl c ↦ inl (e, c.0, ap (link r) f ∙ c.1)
        | inr c ↦ inr (ap (link r) f ∙ c)
      ])
]

grown-more : (ns new : List Node) (h : Held) (level p : ℕ) (b : Bool) → IsGrown ns new h level p b → link b (node_at ns p) ≡ 0 → (i j : ℕ) (r : Bool) → i < length ns → link r (node_at ns i) ≡ j → 0 < j
    → link r (node_at new i) ≡ j
grown-more ns new h level p b g free i j r l e m = elim (grown-link ns new h level p b g i r l) [
  | inr c ↦ c ∙ e
  | inl c ↦ (
      let f : link r (node_at ns i) ≡ 0 = ap (λ k. link r (node_at ns k)) c.0 ∙ ap (λ k. link k (node_at ns p)) c.1 ∙ free in
      absurd (omega (arith, e, f, m)))
]

way-grown : (ns new : List Node) → IsTree ns → 0 < length ns → (h : Held) (level p : ℕ) (b : Bool) → IsGrown ns new h level p b → link b (node_at ns p) ≡ 0 → (k : Held) (m j : ℕ) → way ns k m ≡ Some j → way new k m ≡ Some j
way-grown ns new t some h level p b g free k zero j e = e
way-grown ns new t some h level p b g free k (suc m) j e =
    let s = step-from ns (turn m k) (way ns k m) j e in
    let w = on-way ns t some k m s.0 s.1 in
    way-more new k m s.0 j (way-grown ns new t some h level p b g free k m s.0 s.1) (grown-more ns new h level p b g free s.0 j (turn m k) w.within s.2 s.3) s.3

no-link : (r : Bool) (h : Held) (level j : ℕ) → link r (record { held = h; level = level; left = 0; right = 0 }) ≡ suc j → ⊥
no-link true h level j e = omega (arith, e)
no-link false h level j e = omega (arith, e)

-- an index of the nodes that were there, the last one, or one past it
which : (i n : ℕ) → (i < n) ⊎ ((i ≡ n) ⊎ (n < i))
which i n = elim (cases_lt i n) [ inl l ↦ inl l | inr g ↦ elim (cases_eq i n) [ inl e ↦ inr (inl e) | inr f ↦ inr (inr (omega arith)) ] ]

pub tree-grown : (ns new : List Node) → IsTree ns → 0 < length ns → (h : Held) (level p : ℕ) → IsGrown ns new h level p (turn (node_at ns p).level h) → h.client < 2 ^ 32 → h.delivery < 2 ^ 32 → level ≤ 64
    → level ≡ suc (node_at ns p).level → way ns h (node_at ns p).level ≡ Some p → link (turn (node_at ns p).level h) (node_at ns p) ≡ 0 → IsTree new
tree-grown ns new t some h level p g fc fd deep lev e free =
    let b = turn (node_at ns p).level h in
    let held = grown-held ns new h level p b g in
    let levels = grown-level ns new h level p b g in
    let here = on-way ns t some h (node_at ns p).level p e in
    let last-held : (node_at new (length ns)).held ≡ h = ap (λ (n : Node). n.held) g.last in
    let last-level : (node_at new (length ns)).level ≡ level = ap (λ (n : Node). n.level) g.last in
    let last-way : way new h level ≡ Some (length ns) =
    ap (way new h) lev ∙ way-more new h (node_at ns p).level p (length ns) (way-grown ns new t some h level p b g free h (node_at ns p).level p e)
    (ap (link b) g.above ∙ hung-here b (length ns) (node_at ns p)) some in
    record {
      root = levels 0 some ∙ t.root;
      depth = λ i. elim (which i (length ns)) [
        | inl l ↦ omega (arith, levels i l, t.depth i)
        | inr m ↦ elim m [
          | inl f ↦ subst (λ k. (node_at new k).level ≤ 64) (sym f) (omega (arith, last-level, deep))
          | inr f ↦ omega (arith, ap (λ (n : Node). n.level) (g.past i f))
        ]
      ];
      fits = λ i. elim (which i (length ns)) [
        | inl l ↦ subst (λ (k : Held). (k.client < 2 ^ 32) × (k.delivery < 2 ^ 32)) (sym (held i l)) (t.fits i)
        | inr m ↦ elim m [
          | inl f ↦ subst (λ k. ((node_at new k).held.client < 2 ^ 32) × ((node_at new k).held.delivery < 2 ^ 32)) (sym f) (subst (λ (k : Held). (k.client < 2 ^ 32) × (k.delivery < 2 ^ 32)) (sym last-held) (fc, fd))
          | inr f ↦ subst (λ (n : Node). (n.held.client < 2 ^ 32) × (n.held.delivery < 2 ^ 32)) (sym (g.past i f)) (omega arith, omega arith)
        ]
      ];
      on_way = λ i l. elim (which i (length ns)) [
        | inl m ↦ ap (λ k. way new k (node_at new i).level) (held i m) ∙ ap (way new (node_at ns i).held) (levels i m)
            ∙ way-grown ns new t some h level p b g free (node_at ns i).held (node_at ns i).level i (t.on_way i m)
        | inr m ↦ elim m [
          | inl f ↦ subst (λ k. way new (node_at new k).held (node_at new k).level ≡ Some k) (sym f)
              (ap (λ k. way new k (node_at new (length ns)).level) last-held ∙ ap (way new h) last-level ∙ last-way)
          | inr f ↦ absurd (omega (arith, g.len, l, f))
        ]
      ];
      links = λ i j r l f. elim (which i (length ns)) [
        | inl m ↦ elim (grown-link ns new h level p b g i r m) [
          | inr c ↦ (
              let w = t.links i j r m (sym c ∙ f) in
              below-same ns new r i (suc j) i (suc j) (omega (arith, w.within, g.len)) (held i m) (levels i m) (held (suc j) w.within) (levels (suc j) w.within) w)
          | inl c ↦ (
              let last : suc j ≡ length ns = sym f ∙ c.2 in
              subst (λ k. IsBelow new r i k) (sym last) (subst (λ k. IsBelow new r k (length ns)) (sym c.0) (subst (λ k. IsBelow new k p (length ns)) (sym c.1) (record {
                within = omega (arith, g.len);
                level = last-level ∙ lev ∙ ap suc (sym (levels p here.within));
                same = λ k q. ap (turn k) (held p here.within) ∙ here.same k (omega (arith, levels p here.within)) ∙ ap (turn k) (sym last-held);
                turns = ap (λ k. turn k (node_at new (length ns)).held) (levels p here.within) ∙ ap (turn (node_at ns p).level) last-held;
              }))))
        ]
        | inr m ↦ elim m [
          | inl e2 ↦ absurd (no-link r h level j (sym (ap (link r) (ap (node_at new) e2 ∙ g.last)) ∙ f))
          | inr e2 ↦ absurd (omega (arith, g.len, l, e2))
        ]
      ];
    }

-- ---- the deliveries of nodes

pub helds-length : (ns : List Node) → length (helds ns) ≡ length ns
helds-length [] = refl
helds-length (n ∷ ns) = ap suc (helds-length ns)

pub helds-at : (ns : List Node) (i : ℕ) → held_at (helds ns) i ≡ (node_at ns i).held
helds-at [] i = refl
helds-at (n ∷ ns) zero = refl
helds-at (n ∷ ns) (suc i) = helds-at ns i

helds-append : (ns ms : List Node) → helds (ns ++ ms) ≡ helds ns ++ helds ms
helds-append [] ms = refl
helds-append (n ∷ ns) ms = ap (λ hs. n.held ∷ hs) (helds-append ns ms)

helds-set_same : (ns : List Node) (i : ℕ) (n : Node) → n.held ≡ (node_at ns i).held → helds (set ns i n) ≡ helds ns
helds-set_same [] i n e = refl
helds-set_same (m ∷ ns) zero n e = ap (λ h. h ∷ helds ns) e
helds-set_same (m ∷ ns) (suc i) n e = ap (λ hs. m.held ∷ hs) (helds-set_same ns i n e)

pub fresh-node : (ns : List Node) (c d i : ℕ) → IsFound false c d (helds ns) None → i < length ns → is_wanted false c d (node_at ns i).held ≡ false
fresh-node ns c d i f l = ap (is_wanted false c d) (sym (helds-at ns i)) ∙ f i (omega (arith, helds-length ns))

pub fresh-helds : (ns : List Node) (any : Bool) (c d : ℕ) → ((i : ℕ) → i < length ns → is_wanted any c d (node_at ns i).held ≡ false) → IsFound any c d (helds ns) None
fresh-helds ns any c d f i l = ap (is_wanted any c d) (helds-at ns i) ∙ f i (omega (arith, helds-length ns))

first-fits : (h : Held) → h.client < 2 ^ 32 → h.delivery < 2 ^ 32 → (i : ℕ)
    → ((node_at (record { held = h; level = 0; left = 0; right = 0 } ∷ []) i).held.client < 2 ^ 32) × ((node_at (record { held = h; level = 0; left = 0; right = 0 } ∷ []) i).held.delivery < 2 ^ 32)
first-fits h fc fd zero = (fc, fd)
first-fits h fc fd (suc i) = (omega arith, omega arith)

pub tree-first : (ns : List Node) (h : Held) → length ns ≡ 0 → h.client < 2 ^ 32 → h.delivery < 2 ^ 32 → IsTree (ns ++ record { held = h; level = 0; left = 0; right = 0 } ∷ [])
tree-first (n ∷ ns) h e fc fd = absurd (omega (arith, e))
tree-first [] h e fc fd = record {
  root = refl;
  depth = λ i. elim i as (λ i. (node_at (record { held = h; level = 0; left = 0; right = 0 } ∷ []) i).level ≤ 64) [ zero ↦ omega arith | suc j ↦ omega arith ];
  fits = λ i. first-fits h fc fd i;
  on_way = λ i l. (let f : i ≡ 0 = omega (arith, l) in subst (λ k. way (record { held = h; level = 0; left = 0; right = 0 } ∷ []) (node_at (record { held = h; level = 0; left = 0; right = 0 } ∷ []) k).held (node_at (record { held = h; level = 0; left = 0; right = 0 } ∷ []) k).level ≡ Some k) (sym f) refl);
  links = λ i j r l f. (
      let first : i ≡ 0 = omega (arith, l) in
      absurd (no-link r h 0 j (ap (λ k. link r (node_at (record { held = h; level = 0; left = 0; right = 0 } ∷ []) k)) (sym first) ∙ f)));
}

-- what is hung and appended
pub grown-pushed : (ns more : List Node) (h : Held) (level : ℕ) (w : IsHung ns more h.client h.delivery level)
    → IsGrown ns (more ++ record { held = h; level = level; left = 0; right = 0 } ∷ []) h level w.above (turn (node_at ns w.above).level h)
grown-pushed ns more h level w =
    let x : Node = record { held = h; level = level; left = 0; right = 0 } in
    let m = hung (turn (node_at ns w.above).level h) (length ns) (node_at ns w.above) in
    let len : length more ≡ length ns = ap length w.is ∙ length-set ns w.above m in
    record {
      len = omega (arith, length-append more (x ∷ []), len);
      other = λ i l n. get_or_append_left more (x ∷ []) no_node i (omega (arith, len)) ∙ ap (λ (js : List Node). node_at js i) w.is ∙ get_or-set_other ns w.above i m no_node n;
      above = get_or_append_left more (x ∷ []) no_node w.above (omega (arith, len, w.within)) ∙ ap (λ (js : List Node). node_at js w.above) w.is ∙ get_or-set_same ns w.above m no_node w.within;
      last = get_or_push more x no_node (length ns) len;
      past = λ i l. get_or_past (more ++ x ∷ []) i no_node (omega (arith, length-append more (x ∷ []), len));
    }

pub hung-length : (ns more : List Node) (c d at : ℕ) → IsHung ns more c d at → length more ≡ length ns
hung-length ns more c d at w = ap length w.is ∙ length-set ns w.above (hung (turn (node_at ns w.above).level (record { client = c; delivery = d; at = 0 })) (length ns) (node_at ns w.above))

-- what a vector holds after its slice was written
pub written : (n : ℕ) (more rest : List Node) → length more ≡ n → take n (more ++ rest) ≡ more
written zero [] rest e = refl
written (suc n) [] rest e = absurd (omega (arith, e))
written zero (m ∷ more) rest e = absurd (omega (arith, e))
written (suc n) (m ∷ more) rest e = ap (λ (js : List Node). m ∷ js) (written n more rest (omega (arith, e)))

pub helds-pushed : (ns more : List Node) (h : Held) (level : ℕ) → IsHung ns more h.client h.delivery level → helds (more ++ record { held = h; level = level; left = 0; right = 0 } ∷ []) ≡ helds ns ++ h ∷ []
helds-pushed ns more h level w =
    let b = turn (node_at ns w.above).level h in
    helds-append more (record { held = h; level = level; left = 0; right = 0 } ∷ [])
    ∙ ap (λ (hs : List Held). hs ++ h ∷ []) (ap helds w.is ∙ helds-set_same ns w.above (hung b (length ns) (node_at ns w.above)) (hung-held b (length ns) (node_at ns w.above)))

pub tree-pushed : (ns more : List Node) (h : Held) (level : ℕ) → IsTree ns → IsHung ns more h.client h.delivery level → h.client < 2 ^ 32 → h.delivery < 2 ^ 32
    → IsTree (more ++ record { held = h; level = level; left = 0; right = 0 } ∷ [])
tree-pushed ns more h level t w fc fd =
    tree-grown ns (more ++ record { held = h; level = level; left = 0; right = 0 } ∷ []) t (omega (arith, w.within)) h level w.above (grown-pushed ns more h level w) fc fd w.depth w.level
    (way-agree ns h (record { client = h.client; delivery = h.delivery; at = 0 }) (node_at ns w.above).level (λ k q. refl) ∙ w.on_way) w.free

pub helds-first : (ns : List Node) (x : Node) → helds (ns ++ x ∷ []) ≡ helds ns ++ x.held ∷ []
helds-first ns x = helds-append ns (x ∷ [])

-- ---- other deliveries on the same ways

pub record IsRekeyed (ns new : List Node) : Type 0 where
  pub len : length new ≡ length ns
  pub level : (i : ℕ) → (node_at new i).level ≡ (node_at ns i).level
  pub links : (i : ℕ) (r : Bool) → link r (node_at new i) ≡ link r (node_at ns i)
  pub same : (i : ℕ) → Agree (node_at ns i).level (node_at ns i).held (node_at new i).held
  pub fits : (i : ℕ) → ((node_at new i).held.client < 2 ^ 32) × ((node_at new i).held.delivery < 2 ^ 32)

step-rekeyed : (ns new : List Node) → IsRekeyed ns new → (b : Bool) (o : Option ℕ) → step new b o ≡ step ns b o
step-rekeyed ns new g b None = refl
step-rekeyed ns new g b (Some i) = ap some_index (g.links i b)

way-rekeyed : (ns new : List Node) → IsRekeyed ns new → (h : Held) (m : ℕ) → way new h m ≡ way ns h m
way-rekeyed ns new g h zero = refl
way-rekeyed ns new g h (suc m) = ap (step new (turn m h)) (way-rekeyed ns new g h m) ∙ step-rekeyed ns new g (turn m h) (way ns h m)

pub tree-rekeyed : (ns new : List Node) → IsTree ns → IsRekeyed ns new → IsTree new
tree-rekeyed ns new t g = record {
  root = g.level 0 ∙ t.root;
  depth = λ i. omega (arith, g.level i, t.depth i);
  fits = g.fits;
  on_way = λ i l. (
      let m : i < length ns = omega (arith, g.len) in
      way-rekeyed ns new g (node_at new i).held (node_at new i).level ∙ ap (way ns (node_at new i).held) (g.level i)
      ∙ sym (way-agree ns (node_at ns i).held (node_at new i).held (node_at ns i).level (g.same i)) ∙ t.on_way i m);
  links = λ i j r l e. (
      let m : i < length ns = omega (arith, g.len) in
      let w = t.links i j r m (sym (g.links i r) ∙ e) in
      record {
        within = omega (arith, w.within, g.len);
        level = g.level (suc j) ∙ w.level ∙ ap suc (sym (g.level i));
        same = λ k q. sym (g.same i k (omega (arith, g.level i))) ∙ w.same k (omega (arith, g.level i)) ∙ g.same (suc j) k (omega (arith, g.level i, w.level));
        turns = ap (λ k. turn k (node_at new (suc j)).held) (g.level i) ∙ sym (g.same (suc j) (node_at ns i).level (omega (arith, w.level))) ∙ w.turns;
      });
}
