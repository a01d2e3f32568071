-- One queue more in a list of queues.
use Rattle.std.proofs.Common.{◌≡◌, ℕ, ◌<◌, Bool, true, false, ◌||◌, List, [], ◌∷◌, ◌++◌, refl, ◌∙◌, arith}
use Rattle.std.specs.Prelude.{◌==◌}
use Rattle.std.proofs.lemmas.Bool.Decides.{nat_tests}
use Rattle.std.proofs.lemmas.List.Folds.{list_any-append}
use Rattle.cq_bytes.specs.Numbers.{contains, AreQueues}

neither : (a b : Bool) → (a || b) ≡ false → (a ≡ false) × (b ≡ false)
neither true b h = cc
neither false b h = (refl, h)

or_none : (a b : Bool) → a ≡ false → b ≡ false → (a || (b || false)) ≡ false
or_none true b first second = first
or_none false true first second = second
or_none false false first second = refl

turned : (a b : ℕ) → (a == b) ≡ false → (b == a) ≡ false
turned a b h = grind (arith, nat_tests)

pub queues_push : (qs : List ℕ) (q : ℕ) → AreQueues qs → q < 256 → contains qs q ≡ false → AreQueues (qs ++ q ∷ [])
queues_push [] q are below new = (below, refl, tt)
queues_push (y ∷ ys) q are below new =
    let apart = neither (y == q) (contains ys q) new in (
      are.0,
      list_any-append (λ x. x == y) ys (q ∷ []) ∙ or_none (contains ys y) (q == y) are.1 (turned y q apart.0),
      queues_push ys q are.2 below apart.1,
    )
