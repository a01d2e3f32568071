-- The numbers that words spell.
use Rattle.std.proofs.Common.{◌≡◌, ℕ, ◌^◌, ◌<◌, ◌≤◌, Bool, true, false, cond, List, [], ◌∷◌, refl, ap, ◌∙◌, length, get_or, arith, rules, Some, None, Result, Ok, Err}
use Rattle.std.specs.Prelude.{zero, suc, ◌&&◌, ◌==◌, nat_lt}
use Rattle.std.specs.List.{list_all}
use Rattle.std.specs.Char.{is_ascii_digit}
use Rattle.std.specs.Str.{IsUtf8}
use Rattle.std.specs.Str.Parse.{digits_value, ParsesUnsigned}
use Rattle.std.specs.Fmt.{decimal}
use Rattle.std.proofs.lemmas.Str.{IsUtf8-from_ascii}
use Rattle.std.proofs.lemmas.Str.Parse.{IsNumeralModel, numerals_by_value, parse_digits}
use Rattle.std.proofs.lemmas.Fmt.{IsAscii-from_digits, decimal_is_IsNumeral, decimal_digit, first_decimal, digits_decimal}
use Rattle.std.proofs.lemmas.Bool.{eqb-true, ne_eqb, le-ltb, lt-ltb}
use Rattle.cq_grammar.specs.Words.{is_decimal, number_of}

own : IsNumeralModel (λ ds. list_all is_ascii_digit ds ≡ true) (digits_value 10)
own = numerals_by_value _ (search rules)

all-digits : (b : Bool) (x : ℕ) (xs : List ℕ) → (x == 48) ≡ b → cond b (length xs == 0) (list_all is_ascii_digit (x ∷ xs)) ≡ true → list_all is_ascii_digit (x ∷ xs) ≡ true
all-digits true x [] e h = let zero : x ≡ 48 = eqb-true x 48 e in ap (λ c. list_all is_ascii_digit (c ∷ [])) zero
all-digits true x (y ∷ ys) e h = let none : length (y ∷ ys) ≡ 0 = eqb-true (length (y ∷ ys)) 0 h in absurd (omega (arith, none))
all-digits false x xs e h = h

decimal-digits : (w : List ℕ) → is_decimal w ≡ true → (list_all is_ascii_digit w ≡ true) × (0 < length w)
decimal-digits [] h = cc
decimal-digits (x ∷ xs) h = (all-digits (x == 48) x xs refl h, omega arith)

-- decimal digits are a text
pub decimal-utf8 : (w : List ℕ) → is_decimal w ≡ true → IsUtf8 w
decimal-utf8 w h = IsUtf8-from_ascii w (IsAscii-from_digits w (own.to w (decimal-digits w h).0))

-- decimal digits that `parse` refuses spell no number below 2 ^ 64
pub refused : {E : Type 0} (w : List ℕ) (r : Result ℕ E) (e : E) → ParsesUnsigned 64 10 w r → is_decimal w ≡ true → r ≡ Err e → number_of w ≡ None
refused w (Ok n) e p h is = cc
refused w (Err x) e p h is =
    let d = decimal-digits w h in
    let not_small : digits_value 10 w < 2 ^ 64 → ⊥ = λ small. parse_digits own 64 w (Err x) p d.0 (d.1, small) in
    let large : 2 ^ 64 ≤ digits_value 10 w = omega (arith, not_small) in
    ap (λ b. cond (b && nat_lt (digits_value 10 w) (2 ^ 64)) (Some (digits_value 10 w)) None) h
    ∙ ap (λ b. cond b (Some (digits_value 10 w)) None) (le-ltb (digits_value 10 w) (2 ^ 64) large)

first-is : (w : List ℕ) → list_all is_ascii_digit w ≡ true → 48 < get_or w 0 0 → is_decimal w ≡ true
first-is [] a h = absurd (omega (arith, h))
first-is (x ∷ xs) a h = ap (λ b. cond b (length xs == 0) (list_all is_ascii_digit (x ∷ xs))) (ne_eqb x 48 (λ e. omega (arith, h, e))) ∙ a

pub decimal-all_digits : (n : ℕ) → n < 2 ^ 64 → list_all is_ascii_digit (decimal n) ≡ true
decimal-all_digits n small = digits_decimal own n small

decimal-is : (n : ℕ) → n < 2 ^ 64 → is_decimal (decimal n) ≡ true
decimal-is zero small = ap is_decimal (decimal_digit 0 (omega arith))
decimal-is (suc n) small = first-is (decimal (suc n)) (digits_decimal own (suc n) small) (first_decimal (suc n) (omega arith) small)

-- a number is spelled by its digits
pub number-decimal : (n : ℕ) → n < 2 ^ 64 → number_of (decimal n) ≡ Some n
number-decimal n small =
    ap (λ b. cond (b && nat_lt (digits_value 10 (decimal n)) (2 ^ 64)) (Some (digits_value 10 (decimal n))) None) (decimal-is n small)
    ∙ ap (λ v. cond (nat_lt v (2 ^ 64)) (Some v) None) (decimal_is_IsNumeral n small).1
    ∙ ap (λ b. cond b (Some n) None) (lt-ltb n (2 ^ 64) small)
