-- The words of a schedule, and the steps that they name.
use Rattle.std.proofs.Common.{◌≡◌, ℕ, ◌+◌, ◌^◌, ◌<◌, ◌≤◌, Bool, true, false, cond, List, [], ◌∷◌, ◌++◌, refl, ap, ◌∙◌, subst, length, length-append, take, drop, arith, Option, None, Some}
use Rattle.std.specs.Prelude.{not, ◌==◌, ◌&&◌, nat_le, nat_lt, codes}
use Rattle.std.specs.List.{AllByRecursion, list_all, position_or_len}
use Rattle.std.specs.Option.{option_map}
use Rattle.std.specs.Char.{is_ascii_digit}
use Rattle.std.specs.Str.{bytes_eq}
use Rattle.std.specs.Str.Parse.{digits_value}
use Rattle.std.specs.Fmt.{decimal}
use Rattle.std.proofs.lemmas.Bool.{and_parts, leb-true, le-leb, ltb-true, le-ltb, lt-ltb, eq-eqb, ne_eqb}
use Rattle.std.proofs.lemmas.Fmt.{length-decimal-le}
use Rattle.std.proofs.lemmas.List.Folds.{list_all-append}
use Rattle.std.proofs.Math.Seq.{take-append_seam, drop-append-add}
use Rattle.cq_bytes.specs.Texts.{is_visible}
use Rattle.cq_script.specs.declared.script.Halt.{Halt}
use Rattle.cq_script.specs.declared.script.Halt.TheVariants as halt
use Rattle.cq_script.specs.declared.script.StepWord.{StepWord}
use Rattle.cq_script.specs.declared.script.StepWord.TheVariants as step
use Rattle.cq_script.specs.Words.{is_decimal, number_of, halves, halt_of, stop_at, stop_by, stop_after, crash_by, crash_of, plain_step_of, step_of}
use Rattle.cq_script.specs.Scripts.{IsHalt, IsStep}
use Rattle.cq_script.specs.Spelling.{halt_word, step_word}
use Rattle.cq_script.proofs.Decimals.{decimal-all_digits, number-decimal}

-- ---- a step that a word names is one of the one client, and its numbers are small

pub some-of : {A : Type 0} (b : Bool) (x y : A) → cond b (Some x) None ≡ Some y → (b ≡ true) × (x ≡ y)
some-of true x y h = (refl, cc)
some-of false x y h = cc

number-small : (w : List ℕ) (n : ℕ) → number_of w ≡ Some n → n < 2 ^ 64
number-small w n h =
    let v = digits_value 10 w in
    let p = some-of (is_decimal w && nat_lt v (2 ^ 64)) v n h in
    let small : v < 2 ^ 64 = ltb-true v (2 ^ 64) (and_parts (is_decimal w) (nat_lt v (2 ^ 64)) p.0).1 in
    subst (λ m. m < 2 ^ 64) p.1 small

halt-is : (w : List ℕ) (t : Halt) → halt_of w ≡ Some t → IsHalt 1 t
halt-is w t h = named (bytes_eq w (codes "t0")) (bytes_eq w (codes "w")) t h
  where
    named : (a b : Bool) (t : Halt) → cond a (Some (halt.Turn 0)) (cond b (Some halt.Write) None) ≡ Some t → IsHalt 1 t
    named true b t h = let e : halt.Turn 0 ≡ t = cc in subst (IsHalt 1) e (omega arith)
    named false true t h = let e : halt.Write ≡ t = cc in subst (IsHalt 1) e tt
    named false false t h = cc

stop-is : (image : ℕ) (calls : Option ℕ) (t : Option Halt) (s : StepWord) → image < 2 ^ 64 → ((n : ℕ) → calls ≡ Some n → n < 2 ^ 64) → ((u : Halt) → t ≡ Some u → IsHalt 1 u)
    → stop_at image calls t ≡ Some s → IsStep 1 s
stop-is image None t s small f g h = cc
stop-is image (Some n) None s small f g h = cc
stop-is image (Some n) (Some u) s small f g h = let e : step.Stop image n u ≡ s = cc in subst (IsStep 1) e (small, f n refl, g u refl)

stop_by-is : (image : ℕ) (o : Option (List ℕ × List ℕ)) (s : StepWord) → image < 2 ^ 64 → stop_by image o ≡ Some s → IsStep 1 s
stop_by-is image None s small h = cc
stop_by-is image (Some (calls, t)) s small h = stop-is image (number_of calls) (halt_of t) s small (number-small calls) (halt-is t) h

stop_after-is : (o : Option ℕ) (w : List ℕ) (s : StepWord) → ((n : ℕ) → o ≡ Some n → n < 2 ^ 64) → stop_after o w ≡ Some s → IsStep 1 s
stop_after-is None w s f h = cc
stop_after-is (Some image) w s f h = stop_by-is image (halves 58 w) s (f image refl) h

crash-is : (o : Option ℕ) (s : StepWord) → ((n : ℕ) → o ≡ Some n → n < 2 ^ 64) → option_map step.Crash o ≡ Some s → IsStep 1 s
crash-is None s f h = cc
crash-is (Some image) s f h = let e : step.Crash image ≡ s = cc in subst (IsStep 1) e (f image refl)

crash_by-is : (w : List ℕ) (o : Option (List ℕ × List ℕ)) (s : StepWord) → crash_by w o ≡ Some s → IsStep 1 s
crash_by-is w None s h = crash-is (number_of w) s (number-small w) h
crash_by-is w (Some (image, rest)) s h = stop_after-is (number_of image) rest s (number-small image) h

plain-is : (w : List ℕ) (s : StepWord) → plain_step_of w ≡ Some s → IsStep 1 s
plain-is w s h = named (bytes_eq w (codes "c0")) (bytes_eq w (codes "t0")) (bytes_eq w (codes "w")) s h
  where
    named : (a b d : Bool) (s : StepWord) → cond a (Some (step.Client 0)) (cond b (Some (step.Turn 0)) (cond d (Some step.Write) None)) ≡ Some s → IsStep 1 s
    named true b d s h = let e : step.Client 0 ≡ s = cc in subst (IsStep 1) e (omega arith)
    named false true d s h = let e : step.Turn 0 ≡ s = cc in subst (IsStep 1) e (omega arith)
    named false false true s h = let e : step.Write ≡ s = cc in subst (IsStep 1) e tt
    named false false false s h = cc

pub step-is : (w : List ℕ) (s : StepWord) → step_of w ≡ Some s → IsStep 1 s
step-is [] s h = cc
step-is (b ∷ w) s h = marked (b == 33) h
  where
    marked : (m : Bool) → cond m (crash_of w) (plain_step_of (b ∷ w)) ≡ Some s → IsStep 1 s
    marked true h = crash_by-is w (halves 47 w) s h
    marked false h = plain-is (b ∷ w) s h

-- ---- the halves of a word

abbrev Lacks : ℕ → List ℕ → Type 0
Lacks c w = AllByRecursion (λ b. (b == c) ≡ false) w

first-none : (c : ℕ) (w : List ℕ) → Lacks c w → position_or_len (λ b. b == c) w ≡ length w
first-none c [] a = refl
first-none c (x ∷ xs) a =
    let one_more : 1 + length xs ≡ length (x ∷ xs) = omega arith in
    ap (λ b. cond (not b) (1 + position_or_len (λ b. b == c) xs) 0) a.0 ∙ ap (λ n. 1 + n) (first-none c xs a.1) ∙ one_more

first-at : (c : ℕ) (w rest : List ℕ) → Lacks c w → position_or_len (λ b. b == c) (w ++ c ∷ rest) ≡ length w
first-at c [] rest a = ap (λ b. cond (not b) (1 + position_or_len (λ b. b == c) rest) 0) (eq-eqb c c refl)
first-at c (x ∷ xs) rest a =
    let one_more : 1 + length xs ≡ length (x ∷ xs) = omega arith in
    ap (λ b. cond (not b) (1 + position_or_len (λ b. b == c) (xs ++ c ∷ rest)) 0) a.0 ∙ ap (λ n. 1 + n) (first-at c xs rest a.1) ∙ one_more

abbrev cut-at : List ℕ → ℕ → List ℕ × List ℕ
cut-at w place = (take place w, drop (place + 1) w)

halves-none : (c : ℕ) (w : List ℕ) → Lacks c w → halves c w ≡ None
halves-none c w a =
    ap (λ n. option_map (cut-at w) (cond (nat_lt n (length w)) (Some n) None)) (first-none c w a)
    ∙ ap (λ b. option_map (cut-at w) (cond b (Some (length w)) None)) (le-ltb (length w) (length w) (omega arith))

halves-at : (c : ℕ) (w rest : List ℕ) → Lacks c w → halves c (w ++ c ∷ rest) ≡ Some (w, rest)
halves-at c w rest a =
    let text = w ++ c ∷ rest in
    let within : length w < length text = omega (arith, length-append w (c ∷ rest)) in
    ap (λ n. option_map (cut-at text) (cond (nat_lt n (length text)) (Some n) None)) (first-at c w rest a)
    ∙ ap (λ b. option_map (cut-at text) (cond b (Some (length w)) None)) (lt-ltb (length w) (length text) within)
    ∙ ap (λ front. Some (front, drop (length w + 1) text)) (take-append_seam w (c ∷ rest))
    ∙ ap (λ back. Some (w, back)) (drop-append-add w (c ∷ rest) 1)

-- ---- a spelled step is read back

lacks : (c : ℕ) → ((x : ℕ) → is_ascii_digit x ≡ true → (x == c) ≡ false) → (w : List ℕ) → list_all is_ascii_digit w ≡ true → Lacks c w
lacks c f [] h = tt
lacks c f (x ∷ xs) h = let parts = and_parts (is_ascii_digit x) (list_all is_ascii_digit xs) h in (f x parts.0, lacks c f xs parts.1)

lacks-slash : (n : ℕ) → n < 2 ^ 64 → Lacks 47 (decimal n)
lacks-slash n small = lacks 47 (λ x d. let low : 48 ≤ x = leb-true 48 x (and_parts (nat_le 48 x) (nat_le x 57) d).0 in ne_eqb x 47 (λ e. omega (arith, e))) (decimal n) (decimal-all_digits n small)

lacks-colon : (n : ℕ) → n < 2 ^ 64 → Lacks 58 (decimal n)
lacks-colon n small = lacks 58 (λ x d. let high : x ≤ 57 = leb-true x 57 (and_parts (nat_le 48 x) (nat_le x 57) d).1 in ne_eqb x 58 (λ e. omega (arith, e))) (decimal n) (decimal-all_digits n small)

halt-read : (t : Halt) → IsHalt 1 t → halt_of (halt_word t) ≡ Some t
halt-read (halt.Turn c) a = let same : 0 ≡ c = omega (arith, a) in ap (λ d. Some (halt.Turn d)) same
halt-read halt.Write a = refl

pub step-read : (s : StepWord) → IsStep 1 s → step_of (step_word s) ≡ Some s
step-read (step.Client c) a = let same : 0 ≡ c = omega (arith, a) in ap (λ d. Some (step.Client d)) same
step-read (step.Turn c) a = let same : 0 ≡ c = omega (arith, a) in ap (λ d. Some (step.Turn d)) same
step-read step.Write a = refl
step-read (step.Crash image) a =
    ap (crash_by (decimal image)) (halves-none 47 (decimal image) (lacks-slash image a))
    ∙ ap (option_map step.Crash) (number-decimal image a)
step-read (step.Stop image calls t) (i, k, a) =
    let rest = decimal calls ++ 58 ∷ halt_word t in
    ap (crash_by (decimal image ++ 47 ∷ rest)) (halves-at 47 (decimal image) rest (lacks-slash image i))
    ∙ ap (λ n. stop_after n rest) (number-decimal image i)
    ∙ ap (stop_by image) (halves-at 58 (decimal calls) (halt_word t) (lacks-colon calls k))
    ∙ ap (λ n. stop_at image n (halt_of (halt_word t))) (number-decimal calls k)
    ∙ ap (stop_at image (Some calls)) (halt-read t a)

-- ---- the word of a step is short, and all of it can be seen

digits-visible : (w : List ℕ) → list_all is_ascii_digit w ≡ true → list_all is_visible w ≡ true
digits-visible [] h = refl
digits-visible (x ∷ xs) h =
    let parts = and_parts (is_ascii_digit x) (list_all is_ascii_digit xs) h in
    let range = and_parts (nat_le 48 x) (nat_le x 57) parts.0 in
    let low : 48 ≤ x = leb-true 48 x range.0 in
    let high : x ≤ 57 = leb-true x 57 range.1 in
    ap (λ b. (b && nat_le x 126) && list_all is_visible xs) (le-leb 33 x (omega arith))
    ∙ ap (λ b. b && list_all is_visible xs) (le-leb x 126 (omega arith))
    ∙ digits-visible xs parts.1

number-visible : (n : ℕ) (rest : List ℕ) → n < 2 ^ 64 → list_all is_visible rest ≡ true → list_all is_visible (decimal n ++ rest) ≡ true
number-visible n rest small h = list_all-append is_visible (decimal n) rest ∙ ap (λ b. b && list_all is_visible rest) (digits-visible (decimal n) (decimal-all_digits n small)) ∙ h

halt-visible : (t : Halt) → list_all is_visible (halt_word t) ≡ true
halt-visible (halt.Turn c) = refl
halt-visible halt.Write = refl

pub step-visible : (s : StepWord) → IsStep 1 s → list_all is_visible (step_word s) ≡ true
step-visible (step.Client c) a = refl
step-visible (step.Turn c) a = refl
step-visible step.Write a = refl
step-visible (step.Crash image) a = digits-visible (decimal image) (decimal-all_digits image a)
step-visible (step.Stop image calls t) (i, k, a) = number-visible image (47 ∷ (decimal calls ++ 58 ∷ halt_word t)) i (number-visible calls (58 ∷ halt_word t) k (halt-visible t))

number-short : (n : ℕ) → n < 2 ^ 64 → length (decimal n) ≤ 20
number-short n small = length-decimal-le 20 n (omega arith) (omega (arith, small)) small

halt-short : (t : Halt) → length (halt_word t) ≤ 2
halt-short (halt.Turn c) = omega arith
halt-short halt.Write = omega arith

pub step-short : (s : StepWord) → IsStep 1 s → (1 ≤ length (step_word s)) × (length (step_word s) ≤ 45)
step-short (step.Client c) a = omega arith
step-short (step.Turn c) a = omega arith
step-short step.Write a = omega arith
step-short (step.Crash image) a = (omega arith, omega (arith, number-short image a))
step-short (step.Stop image calls t) (i, k, a) =
    (omega arith, omega (arith, length-append (decimal image) (47 ∷ (decimal calls ++ 58 ∷ halt_word t)), length-append (decimal calls) (58 ∷ halt_word t), number-short image i, number-short calls k, halt-short t))
