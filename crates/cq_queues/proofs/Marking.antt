-- One queue is marked anew.
use Rattle.std.proofs.Common.{◌≡◌, ◌≢◌, ℕ, ◌<◌, Bool, List, [], ◌∷◌, map, refl, sym, ◌∙◌, subst, inl, inr}
use Rattle.std.specs.Prelude.{slice_get, is_some}
use Rattle.std.proofs.lemmas.Bool.{cases_eq}
use Rattle.cq_items.specs.Item.{Item}
use Rattle.cq_queue.specs.Values.{QueueValue, has_some}
use Rattle.cq_queues.specs.Marks.{marked}
use Rattle.cq_queues.specs.Values.{AreMarked, IsMarked}
use Rattle.cq_queues.specs.Changes.{OthersStay}

-- a list has a first element exactly where it has some
pub first_some : (is : List Item) → is_some (slice_get (map (λ (i : Item). i.id) is) 0) ≡ has_some is
first_some [] = refl
first_some (i ∷ is) = refl

pub note_all : (queues : ℕ → QueueValue) (q : ℕ) (u0 s0 f0 u s f : List Bool)
    → IsMarked (queues q) u s f q → ((r : ℕ) → r ≢ q → marked u r ≡ marked u0 r) → ((r : ℕ) → r ≢ q → marked s r ≡ marked s0 r) → ((r : ℕ) → r ≢ q → marked f r ≡ marked f0 r)
    → (r : ℕ) → r < 256 → (r ≢ q → IsMarked (queues r) u0 s0 f0 r) → IsMarked (queues r) u s f r
note_all queues q u0 s0 f0 u s f now us ss fs r l before = elim (cases_eq r q) [
  | inl same ↦ subst (λ (k : ℕ). IsMarked (queues k) u s f k) (sym same) now
  | inr other ↦ let b = before other in record { undecided_is = us r other ∙ b.undecided_is; settling_is = ss r other ∙ b.settling_is; finished_is = fs r other ∙ b.finished_is }
]

-- the marks of the others are right, where the others stay
pub marks_after : (old new : ℕ → QueueValue) (q : ℕ) (u0 s0 f0 u s f : List Bool) → OthersStay q old new → AreMarked old u0 s0 f0
    → ((r : ℕ) → r < 256 → (r ≢ q → IsMarked (new r) u0 s0 f0 r) → IsMarked (new r) u s f r) → AreMarked new u s f
marks_after old new q u0 s0 f0 u s f stay marks note r l = note r l (λ other. subst (λ (v : QueueValue). IsMarked v u0 s0 f0 r) (sym (stay r other)) (marks r l))
