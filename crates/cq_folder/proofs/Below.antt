-- Lists below a number, and lists that correspond.
use Rattle.cq_folder.specs.Folder.{below}
use Rattle.std.specs.List.{AllZip, AllByRecursion}
use Rattle.std.proofs.Common.{◌≡◌, ⊎_elim, ℕ, zero, suc, ◌+◌, ◌-◌, ◌≤◌, ◌<◌, List, [], ◌∷◌, ◌++◌, refl, sym, ap, ◌∙◌, append-nil, arith}
use Rattle.std.proofs.lemmas.Bool.{cases_lt}

pub below_same : {A : Type 0} (f g : ℕ → List A) (m : ℕ) → ((n : ℕ) → n < m → f n ≡ g n) → below f m ≡ below g m
below_same f g zero h = refl
below_same f g (suc k) h =
    let front = below_same f g k (λ n lt. h n (omega arith)) in
    let here = h k (omega arith) in
    λ i. front i ++ here i

pub below_more : {A : Type 0} (f : ℕ → List A) (m k : ℕ) → ((n : ℕ) → m ≤ n → f n ≡ []) → below f (k + m) ≡ below f m
below_more f m zero none = let e : zero + m ≡ m = omega arith in ap (below f) e
below_more f m (suc k) none =
    let e : suc k + m ≡ suc (k + m) = omega arith in
    ap (below f) e
    ∙ ap (λ xs. below f (k + m) ++ xs) (none (k + m) (omega arith))
    ∙ append-nil (below f (k + m))
    ∙ below_more f m k none

-- two bounds past all elements give one list
pub below_both : {A : Type 0} (f : ℕ → List A) (a b : ℕ) → ((n : ℕ) → a ≤ n → f n ≡ []) → ((n : ℕ) → b ≤ n → f n ≡ []) → below f a ≡ below f b
below_both f a b above_a above_b = ⊎_elim
    (λ lt. let e : (b - a) + a ≡ b = omega arith in sym (below_more f a (b - a) above_a) ∙ ap (below f) e)
    (λ ge. let e : a ≡ (a - b) + b = omega arith in ap (below f) e ∙ below_more f b (a - b) above_b)
    (cases_lt a b)

pub zip_append : {A B : Type 0} (R : A → B → Type 0) (xs xs' : List A) (ys ys' : List B) → AllZip R xs ys → AllZip R xs' ys' → AllZip R (xs ++ xs') (ys ++ ys')
zip_append R [] xs' [] ys' z z' = z'
zip_append R [] xs' (y ∷ ys) ys' z z' = absurd z
zip_append R (x ∷ xs) xs' [] ys' z z' = absurd z
zip_append R (x ∷ xs) xs' (y ∷ ys) ys' z z' = (z.0, zip_append R xs xs' ys ys' z.1 z')

pub zip_wider : {A B : Type 0} (R S : A → B → Type 0) (xs : List A) (ys : List B) → ((x : A) (y : B) → R x y → S x y) → AllZip R xs ys → AllZip S xs ys
zip_wider R S [] [] step z = tt
zip_wider R S [] (y ∷ ys) step z = absurd z
zip_wider R S (x ∷ xs) [] step z = absurd z
zip_wider R S (x ∷ xs) (y ∷ ys) step z = (step x y z.0, zip_wider R S xs ys step z.1)

-- one segment more in a list of them that rises
pub below_listed : {A : Type 0} (f g : ℕ → List A) (next k : ℕ) (xs : List A) → next ≤ k → ((n : ℕ) → next ≤ n → f n ≡ []) → ((n : ℕ) → n < k → g n ≡ f n) → g k ≡ xs → below g (suc k) ≡ below f next ++ xs
below_listed f g next k xs le none same here =
    let front : below g k ≡ below f next = below_same g f k same ∙ below_both f k next (λ n ge. none n (omega (arith, le, ge))) none in
    λ i. front i ++ here i

-- ---- what is true of each

pub all_append : {A : Type 0} (P : A → Type 0) (xs ys : List A) → AllByRecursion P xs → AllByRecursion P ys → AllByRecursion P (xs ++ ys)
all_append P [] ys a b = b
all_append P (x ∷ xs) ys a b = (a.0, all_append P xs ys a.1 b)

pub all_below : {A : Type 0} (P : A → Type 0) (f : ℕ → List A) (m : ℕ) → ((n : ℕ) → AllByRecursion P (f n)) → AllByRecursion P (below f m)
all_below P f zero each = tt
all_below P f (suc m) each = all_append P (below f m) (f m) (all_below P f m each) (each m)

pub zip_where : {A B : Type 0} (P : A → Type 0) (R S : A → B → Type 0) (xs : List A) (ys : List B) → AllByRecursion P xs → ((x : A) (y : B) → P x → R x y → S x y) → AllZip R xs ys → AllZip S xs ys
zip_where P R S [] [] all step z = tt
zip_where P R S [] (y ∷ ys) all step z = absurd z
zip_where P R S (x ∷ xs) [] all step z = absurd z
zip_where P R S (x ∷ xs) (y ∷ ys) all step z = (step x y all.0 z.0, zip_where P R S xs ys all.1 step z.1)
