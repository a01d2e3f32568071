-- Plans are read as they were written.
use Rattle.std.proofs.Common.{◌≡◌, ℕ, suc, ◌+◌, ◌*◌, ◌^◌, ◌<◌, true, List, [], ◌∷◌, ◌++◌, length, zero, Some, None, refl, ap, ◌∙◌, arith, length-append, append_assoc, cond}
use Rattle.std.specs.Int.{w64, w128, to_be_bytes}
use Rattle.std.specs.List.{flat_map}
use Rattle.std.proofs.lemmas.Bool.Decides.{nat_tests}
use Rattle.cq_bytes.specs.Field.{number_at}
use Rattle.cq_block.specs.Plans.{Fits, AllFit, move_bytes, plan_bytes, move_at, moves_from, told_count, is_plan, plan_of}
use Rattle.cq_block.specs.declared.layout.Move.{Move}
use Rattle.cq_block.proofs.Fields.{number_8, number_16, number_behind}

length-move : (m : Move) → length (move_bytes m) ≡ 40
unfolding move_bytes
length-move m = refl

pub length-moves : (ms : List Move) → length (flat_map move_bytes ms) ≡ 40 * length ms
length-moves [] = refl
length-moves (m ∷ ms) = length-append (move_bytes m) (flat_map move_bytes ms) ∙ omega (arith, length-move m, length-moves ms)

move_front : (m : Move) (rest : List ℕ) → Fits m → move_at (move_bytes m ++ rest) 0 ≡ m
unfolding move_at move_bytes
move_front m rest fits = λ i. record {
  id = number_16 m.id (to_be_bytes w64 m.from ++ to_be_bytes w64 m.to ++ to_be_bytes w64 m.len ++ rest) fits.id i;
  from = (number_behind w64 (to_be_bytes w128 m.id) (to_be_bytes w64 m.from ++ to_be_bytes w64 m.to ++ to_be_bytes w64 m.len ++ rest) 0 ∙ number_8 m.from (to_be_bytes w64 m.to ++ to_be_bytes w64 m.len ++ rest) fits.from) i;
  to = (number_behind w64 (to_be_bytes w128 m.id ++ to_be_bytes w64 m.from) (to_be_bytes w64 m.to ++ to_be_bytes w64 m.len ++ rest) 0 ∙ number_8 m.to (to_be_bytes w64 m.len ++ rest) fits.to) i;
  len = (number_behind w64 (to_be_bytes w128 m.id ++ to_be_bytes w64 m.from ++ to_be_bytes w64 m.to) (to_be_bytes w64 m.len ++ rest) 0 ∙ number_8 m.len rest fits.len) i;
}

move_behind : (before bytes : List ℕ) → move_at (before ++ bytes) (length before) ≡ move_at bytes 0
unfolding move_at
move_behind before bytes =
    let at : length before ≡ length before + 0 = omega arith in
    λ i. record {
      id = (ap (λ n. number_at w128 (before ++ bytes) n) at ∙ number_behind w128 before bytes 0) i;
      from = number_behind w64 before bytes 16 i;
      to = number_behind w64 before bytes 24 i;
      len = number_behind w64 before bytes 32 i;
    }

pub moves_back : (before : List ℕ) (ms : List Move) → AllFit ms → moves_from (length ms) (before ++ flat_map move_bytes ms) (length before) ≡ ms
moves_back before [] fit = refl
moves_back before (m ∷ ms) fit =
    let rest = flat_map move_bytes ms in
    let joined : before ++ (move_bytes m ++ rest) ≡ (before ++ move_bytes m) ++ rest = simp append_assoc in
    let further : length before + 40 ≡ length (before ++ move_bytes m) = omega (arith, length-append before (move_bytes m), length-move m) in
    let later : moves_from (length ms) (before ++ (move_bytes m ++ rest)) (length before + 40) ≡ ms =
    (λ i. moves_from (length ms) (joined i) (further i)) ∙ moves_back (before ++ move_bytes m) ms fit.1
    in
    let first : move_at (before ++ (move_bytes m ++ rest)) (length before) ≡ m = move_behind before (move_bytes m ++ rest) ∙ move_front m rest fit.0 in
    λ i. first i ∷ later i

told_count-plan : (ms : List Move) → length ms < 2 ^ 64 → told_count (plan_bytes ms) ≡ length ms
unfolding told_count
told_count-plan ms fits = number_8 (length ms) (flat_map move_bytes ms) fits

length-plan : (ms : List Move) → length (plan_bytes ms) ≡ 8 + 40 * length ms
length-plan ms = length-append (to_be_bytes w64 (length ms)) (flat_map move_bytes ms) ∙ ap (λ n. 8 + n) (length-moves ms)

-- what is written is read back
pub plan_back : (ms : List Move) → 0 < length ms → length ms < 2 ^ 64 → AllFit ms → plan_of (plan_bytes ms) ≡ Some ms
plan_back ms some few fit =
    let count = told_count-plan ms few in
    let all = length-plan ms in
    let is : is_plan (plan_bytes ms) ≡ true = rw (count, all) (grind (arith, nat_tests)) in
    (λ i. cond (is i) (Some (moves_from (count i) (plan_bytes ms) 8)) None) ∙ ap Some (moves_back (to_be_bytes w64 (length ms)) ms fit)

-- one more move of those that stand one after another
pub moves_more : (n : ℕ) (bytes : List ℕ) (at : ℕ) → moves_from (n + 1) bytes at ≡ moves_from n bytes at ++ move_at bytes (at + 40 * n) ∷ []
moves_more zero bytes at =
    let same : at ≡ at + 40 * 0 = omega arith in
    ap (λ (k : ℕ). move_at bytes k ∷ []) same
moves_more (suc n) bytes at =
    let first : moves_from (suc n + 1) bytes at ≡ move_at bytes at ∷ moves_from (n + 1) bytes (at + 40) =
    let sum : suc n + 1 ≡ suc (n + 1) = omega arith in ap (λ (k : ℕ). moves_from k bytes at) sum
    in
    let last : at + 40 + 40 * n ≡ at + 40 * suc n = omega arith in
    first ∙ ap (λ l. move_at bytes at ∷ l) (moves_more n bytes (at + 40)) ∙ ap (λ (k : ℕ). move_at bytes at ∷ (moves_from n bytes (at + 40) ++ move_at bytes k ∷ [])) last

pub fit_more : (ms : List Move) (m : Move) → AllFit ms → Fits m → AllFit (ms ++ m ∷ [])
fit_more [] m all one = (one, tt)
fit_more (x ∷ xs) m all one = (all.0, fit_more xs m all.1 one)
