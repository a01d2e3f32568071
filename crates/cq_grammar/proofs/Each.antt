-- One word after another, and one line after another.
use Rattle.std.proofs.Common.{◌≡◌, ℕ, ◌+◌, ◌<◌, List, [], ◌∷◌, ◌++◌, refl, ap, ◌∙◌, sym, Result, Ok, Err, Bor, length, drop, map, get_or, add-one, drop-cons, append_assoc}
use Rattle.cq_grammar.specs.Words.{◌>>=◌, map_ok, each}

drop-next : {X : Type 0} (xs : List X) (i : ℕ) (d : X) → i < length xs → drop i xs ≡ get_or xs i d ∷ drop (i + 1) xs
drop-next xs i d h = rw (add-one, drop-cons xs i d) refl

-- what is left of words at a place
pub words-next : (ws : List (Bor (List ℕ))) (i : ℕ) (d : Bor (List ℕ)) → i < length ws → map (λ w. w.now) (drop i ws) ≡ (get_or ws i d).now ∷ map (λ w. w.now) (drop (i + 1) ws)
words-next ws i d h = ap (map (λ w. w.now)) (drop-next ws i d h)

-- what was read before, and what a reading gives of the rest
abbrev pub after : {B E : Type 0} → List B → Result (List B) E → Result (List B) E
after before read = map_ok (λ more. before ++ more) read

pub after-none : {B E : Type 0} (read : Result (List B) E) → after [] read ≡ read
after-none (Ok x) = refl
after-none (Err e) = refl

joined : {B E : Type 0} (before : List B) (y : B) (read : Result (List B) E) → after before (read >>= λ ys. Ok (y ∷ ys)) ≡ after (before ++ y ∷ []) read
joined before y (Ok ys) = ap Ok (sym (append_assoc before (y ∷ []) ys))
joined before y (Err e) = refl

pub each-more : {A B E : Type 0} (f : A → Result B E) (before : List B) (x : A) (xs : List A) (y : B) → f x ≡ Ok y → after before (each f (x ∷ xs)) ≡ after (before ++ y ∷ []) (each f xs)
each-more f before x xs y h = ap (λ r. after before (r >>= λ y. (each f xs >>= λ ys. Ok (y ∷ ys)))) h ∙ joined before y (each f xs)

pub each-stops : {A B E : Type 0} (f : A → Result B E) (before : List B) (x : A) (xs : List A) (e : E) → f x ≡ Err e → after before (each f (x ∷ xs)) ≡ Err e
each-stops f before x xs e h = ap (λ r. after before (r >>= λ y. (each f xs >>= λ ys. Ok (y ∷ ys)))) h
