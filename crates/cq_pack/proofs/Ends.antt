-- Lists by their last element, and what a packing says of the last record.
use Rattle.std.proofs.Common.{◌≡◌, ℕ, ◌+◌, ◌<◌, List, [], ◌∷◌, ◌++◌, length, None, Some, refl, sym, ap, subst, ◌∙◌, arith, length-append}
use Rattle.cq_block.specs.declared.layout.Move.{Move}
use Rattle.cq_pack.specs.Packing.{lowest_hole, with_placed, last_of, front_of, Packs, done, more, end_of}

-- a list as a front and a last element
pub record Snoc {A : Type 0} (xs : List A) : Type 0 where
  pub init : List A
  pub last : A
  pub is : xs ≡ init ++ last ∷ []

pub snoc : {A : Type 0} (x : A) (xs : List A) → Snoc (x ∷ xs)
snoc x [] = record { init = []; last = x; is = refl }
snoc x (y ∷ ys) = let rest = snoc y ys in record { init = x ∷ rest.init; last = rest.last; is = ap (λ l. x ∷ l) rest.is }

-- a list that isn't empty
pub ends : {A : Type 0} (xs : List A) → 0 < length xs → Snoc xs
ends [] some = absurd (omega arith)
ends (x ∷ xs) some = snoc x xs

pub record SameEnds {A : Type 0} (xs ys : List A) (x y : A) : Type 0 where
  pub init : xs ≡ ys
  pub last : x ≡ y

too_long : {A : Type 0} (x : A) (ys : List A) (y : A) {P : Type 0} → [] ≡ ys ++ y ∷ [] → P
too_long x ys y e = absurd (omega (arith, length-append ys (y ∷ []), ap length e))

pub same_ends : {A : Type 0} (xs ys : List A) (x y : A) → xs ++ x ∷ [] ≡ ys ++ y ∷ [] → SameEnds xs ys x y
same_ends [] [] x y e = record { init = refl; last = cc }
same_ends {A} [] (b ∷ ys) x y e = let rest : [] ≡ ys ++ y ∷ [] = cc in too_long {A = A} b ys y rest
same_ends {A} (a ∷ xs) [] x y e = let rest : [] ≡ xs ++ x ∷ [] = cc in too_long {A = A} a xs x rest
same_ends (a ∷ xs) (b ∷ ys) x y e =
    let rest : xs ++ x ∷ [] ≡ ys ++ y ∷ [] = cc in
    let head : a ≡ b = cc in
    let same = same_ends xs ys x y rest in
    record { init = (λ i. head i ∷ same.init i); last = same.last }

last_of-snoc : (m : Move) (ms : List Move) (x : Move) → last_of m (ms ++ x ∷ []) ≡ x
last_of-snoc m [] x = refl
last_of-snoc m (y ∷ ys) x = last_of-snoc y ys x

front_of-snoc : (m : Move) (ms : List Move) (x : Move) → front_of m (ms ++ x ∷ []) ≡ m ∷ ms
front_of-snoc m [] x = refl
front_of-snoc m (y ∷ ys) x = ap (λ l. m ∷ l) (front_of-snoc y ys x)

pub end_of-snoc : (xs : List Move) (x : Move) → end_of (xs ++ x ∷ []) ≡ x.to + x.len
end_of-snoc [] x = refl
end_of-snoc (m ∷ ms) x = ap (λ (l : Move). l.to + l.len) (last_of-snoc m ms x)

-- the last record moves
pub more_end : (xs : List Move) (x : Move) (at : ℕ) (end : List Move) → lowest_hole x.len 128 (xs ++ x ∷ []) ≡ Some at → Packs (with_placed (record x { to = at }) xs) end → Packs (xs ++ x ∷ []) end
more_end [] x at end is packs = more x [] at end is packs
more_end (m ∷ ms) x at end is packs =
    more m (ms ++ x ∷ []) at end
    (ap (λ (l : Move). lowest_hole l.len 128 (m ∷ (ms ++ x ∷ []))) (last_of-snoc m ms x) ∙ is)
    (subst (λ (l : Move). Packs (with_placed (record l { to = at }) (front_of m (ms ++ x ∷ []))) end) (sym (last_of-snoc m ms x))
    (subst (λ (f : List Move). Packs (with_placed (record x { to = at }) f) end) (sym (front_of-snoc m ms x)) packs))

-- the last record fits no hole
pub done_end : (xs : List Move) (x : Move) → lowest_hole x.len 128 (xs ++ x ∷ []) ≡ None → Packs (xs ++ x ∷ []) (xs ++ x ∷ [])
done_end [] x is = done x [] is
done_end (m ∷ ms) x is = done m (ms ++ x ∷ []) (ap (λ (l : Move). lowest_hole l.len 128 (m ∷ (ms ++ x ∷ []))) (last_of-snoc m ms x) ∙ is)
