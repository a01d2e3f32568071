-- The lowest finished segment.
use Rattle.std.proofs.Common.{◌≡◌, ℕ, zero, suc, ◌+◌, Bool, true, false, List, [], ◌∷◌, length, drop, Option, Some, None, refl, sym, ap, ◌∙◌, arith}
use Rattle.std.specs.Prelude.{nat_lt, if◌then◌else◌, option_map, slice_get}
use Rattle.std.proofs.lemmas.Bool.{and_parts, false≢true}
use Rattle.std.proofs.lemmas.Bool.Decides.{nat_tests}
use Rattle.cq_queue.specs.declared.segment.QueueSegment.{QueueSegment}
use Rattle.cq_queue.specs.QueueSegment.{is_empty, is_over, present_of}
use Rattle.cq_queue.specs.Lists.{Rise, is_there, first_over}
use Rattle.cq_queue.proofs.Searching.{RiseBy}
use Rattle.cq_queue.proofs.Changes.{some_same}

none_some : {A : Type 0} (a : A) → None ≡ Some a → ⊥
none_some a e = cc

pub more : (ps : List QueueSegment) → nat_lt 1 (suc (length ps)) ≡ is_there ps
more [] = refl
more (p ∷ ps) = grind (arith, nat_tests)

pub next_test : (i n : ℕ) → nat_lt (suc i + 1) (suc n) ≡ nat_lt (i + 1) n
next_test i n = grind (arith, nat_tests)

pub over_at : (most : ℕ) (ps : List QueueSegment) (i : ℕ) (x : QueueSegment) → slice_get ps i ≡ Some x → first_over most (drop i ps) ≡ (if is_over (nat_lt (i + 1) (length ps)) most x then Some 0 else option_map suc (first_over most (drop (suc i) ps)))
over_at most [] i x is = absurd (none_some x is)
over_at most (q ∷ ps) zero x is =
    ap (λ (b : Bool). if is_over b most q then Some 0 else option_map suc (first_over most ps)) (sym (more ps))
    ∙ ap (λ (p : QueueSegment). if is_over (nat_lt 1 (suc (length ps))) most p then Some 0 else option_map suc (first_over most ps)) (some_same q x is)
over_at most (q ∷ ps) (suc i) x is = over_at most ps i x is ∙ ap (λ (b : Bool). if is_over b most x then Some 0 else option_map suc (first_over most (drop (suc i) ps))) (sym (next_test i (length ps)))

map_map : (i : ℕ) (o : Option ℕ) → option_map (λ k. i + k) (option_map suc o) ≡ option_map (λ k. i + 1 + k) o
map_map i None = refl
map_map i (Some k) = (let e : i + suc k ≡ i + 1 + k = omega arith in ap Some e)

pub over_next : (most : ℕ) (ps : List QueueSegment) (i : ℕ) (x : QueueSegment) → slice_get ps i ≡ Some x → is_over (nat_lt (i + 1) (length ps)) most x ≡ false → option_map (λ k. i + k) (first_over most (drop i ps)) ≡ option_map (λ k. i + 1 + k) (first_over most (drop (i + 1) ps))
over_next most ps i x is over =
    let e : suc i ≡ i + 1 = omega arith in
    ap (option_map (λ k. i + k)) (over_at most ps i x is ∙ ap (λ (b : Bool). if b then Some 0 else option_map suc (first_over most (drop (suc i) ps))) over)
    ∙ map_map i (first_over most (drop (suc i) ps)) ∙ ap (λ (n : ℕ). option_map (λ k. i + 1 + k) (first_over most (drop n ps))) e

-- a finished one has no present entry
empty_of : (ks : List ℕ) → is_empty ks ≡ true → ks ≡ []
empty_of [] is = refl
empty_of (k ∷ ks) is = absurd (false≢true is)

pub over_empty : (later : Bool) (most : ℕ) (s : QueueSegment) → is_over later most s ≡ true → present_of s ≡ []
over_empty later most s is = empty_of (present_of s) (and_parts (is_empty (present_of s)) _ is).0

-- the numbers are keys that rise
pub rise_by : (ps : List QueueSegment) → Rise ps → RiseBy (λ (s : QueueSegment). s.number) ps
rise_by [] rise = tt
rise_by (p ∷ ps) rise = (rise.0, rise_by ps rise.1)
