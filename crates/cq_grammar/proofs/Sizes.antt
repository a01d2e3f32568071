-- The requests of all clients, and the size of their bodies.
use Rattle.std.proofs.Common.{◌≡◌, ℕ, ◌+◌, ◌*◌, ◌<◌, ◌≤◌, Bool, true, false, eqb, cond, List, [], ◌∷◌, ◌++◌, refl, ap, ◌∙◌, sym, subst, length, get_or, set, map, arith, Ok, Err}
use Rattle.std.specs.Global.{Vec}
use Rattle.std.specs.Prelude.{◌||◌, ◌==◌, nat_le, nat_lt}
use Rattle.std.specs.List.{AllByRecursion, IsDistinct, list_any}
use Rattle.std.proofs.lemmas.Bool.{eqb-true, eqb-false, ne_eqb}
use Rattle.std.proofs.lemmas.Bool.Decides.{nat_tests}
use Rattle.std.proofs.lemmas.List.{map-set, get_or-map, length-map}
use Rattle.std.proofs.lemmas.List.Sums.{sum_by-set, sum_by-append}
use Rattle.std.proofs.lemmas.Map.Steps.{length-le_from_distinct_below}
use Rattle.std.proofs.Math.Nat.{mul-le-mul_left, mul-le-mul_right}
use Rattle.cq_bytes.specs.Numbers.{contains, AreQueues}
use Rattle.cq_inbox.specs.declared.request.Request.{Request}
use Rattle.cq_grammar.specs.declared.script.Why.TheVariants as why
use Rattle.cq_grammar.specs.Requests.{size_of, stream_size, whole_size, requests_of, with_request, IsSized}

-- ---- queues are at most 256

neither : (a b : Bool) → (a || b) ≡ false → (a ≡ false) × (b ≡ false)
neither false false h = (refl, refl)
neither false true h = cc
neither true b h = cc

apart : (x : ℕ) (xs : List ℕ) → contains xs x ≡ false → AllByRecursion (λ y. eqb x y ≡ false) xs
apart x [] h = tt
apart x (y ∷ ys) h = let p = neither (y == x) (contains ys x) h in (ne_eqb x y (λ e. eqb-false y x p.0 (sym e)), apart x ys p.1)

distinct : (qs : List ℕ) → AreQueues qs → IsDistinct eqb qs
unfolding IsDistinct
distinct [] a = tt
distinct (q ∷ qs) a = (apart q qs a.1, distinct qs a.2)

one-below : (q x : ℕ) (b rest : Bool) → eqb q x ≡ b → x < 256 → (rest ≡ true → q < 256) → (b || rest) ≡ true → q < 256
one-below q x true rest e small later h = subst (λ k. k < 256) (sym (eqb-true q x e)) small
one-below q x false rest e small later h = later h

below : (qs : List ℕ) → AreQueues qs → (q : ℕ) → list_any (eqb q) qs ≡ true → q < 256
below [] a q h = cc
below (x ∷ xs) a q h = one-below q x (eqb q x) (list_any (eqb q) xs) refl a.0 (below xs a.2 q) h

pub few-queues : (qs : List ℕ) → AreQueues qs → length qs ≤ 256
few-queues qs a = length-le_from_distinct_below qs 256 (distinct qs a) (below qs a)

-- the bodies of one request are small
pub product-small : (qs body : List ℕ) → AreQueues qs → length body ≤ 1048576 → length qs * length body ≤ 268435456
product-small qs body a short =
    let wide = mul-le-mul_right (length body) (few-queues qs a) in
    let long = mul-le-mul_left 256 short in
    omega (arith, wide, long)

-- ---- one more request of a client

abbrev all : List (Vec Request) → List (List Request)
all vs = map (λ v. v.items) vs

stream-at : (vs : List (Vec Request)) (k : ℕ) (old : Vec Request) → k < length vs → old ≡ get_or vs k old → requests_of (all vs) k ≡ old.items
stream-at vs k old near at = get_or-map (λ v. v.items) vs k old [] near ∙ ap (λ v. v.items) (sym at)

pub sized-same : (vs : List (Vec Request)) (k size : ℕ) (old new : Vec Request) → k < length vs → old ≡ get_or vs k old → new.items ≡ old.items → IsSized (all vs) size → IsSized (all (set vs k new)) size
sized-same vs k size old new near at same i =
    let was = stream-at vs k old near at in
    let put : all (set vs k new) ≡ set (all vs) k new.items = map-set (λ v. v.items) vs k new in
    let inside : k < length (all vs) = omega (arith, length-map vs (λ (v : Vec Request). v.items), near) in
    let sums = sum_by-set stream_size (all vs) k new.items [] inside in
    let equal : stream_size new.items ≡ stream_size (requests_of (all vs) k) = ap stream_size (same ∙ sym was) in
    record { size_is = omega (arith, ap whole_size put, sums, equal, i.size_is); small = i.small }

pub sized-more : (vs : List (Vec Request)) (k size more : ℕ) (old new : Vec Request) (request : Request) → k < length vs → old ≡ get_or vs k old → new.items ≡ old.items ++ request ∷ []
    → more ≡ size_of request → size + more ≤ 268435456 → IsSized (all vs) size → IsSized (all (set vs k new)) (size + more)
sized-more vs k size more old new request near at grown is few i =
    let was = stream-at vs k old near at in
    let put : all (set vs k new) ≡ set (all vs) k new.items = map-set (λ v. v.items) vs k new in
    let inside : k < length (all vs) = omega (arith, length-map vs (λ (v : Vec Request). v.items), near) in
    let sums = sum_by-set stream_size (all vs) k new.items [] inside in
    let longer : stream_size new.items ≡ stream_size (requests_of (all vs) k) + stream_size (request ∷ []) = ap stream_size grown ∙ sum_by-append size_of old.items (request ∷ []) ∙ ap (λ n. n + stream_size (request ∷ [])) (ap stream_size (sym was)) in
    let one : stream_size (request ∷ []) ≡ size_of request = omega arith in
    record { size_is = omega (arith, ap whole_size put, sums, longer, one, i.size_is, is); small = few }

le-false : (a b : ℕ) → b < a → nat_le a b ≡ false
le-false a b h = grind (arith, nat_tests)

lt-false : (a b : ℕ) → b ≤ a → nat_lt a b ≡ false
lt-false a b h = grind (arith, nat_tests)

with-one : (streams : List (List Request)) (k : ℕ) (request : Request) → length (requests_of streams k) < 100000 → whole_size streams + size_of request ≤ 268435456
    → with_request streams k request ≡ Ok (set streams k (requests_of streams k ++ request ∷ []))
with-one streams k request few small =
    ap (λ b. cond b (Err why.Many) (cond (nat_lt 268435456 (whole_size streams + size_of request)) (Err why.Large) (Ok (set streams k (requests_of streams k ++ request ∷ []))))) (le-false 100000 (length (requests_of streams k)) few)
    ∙ ap (λ b. cond b (Err why.Large) (Ok (set streams k (requests_of streams k ++ request ∷ [])))) (lt-false 268435456 (whole_size streams + size_of request) small)

pub request-added : (vs : List (Vec Request)) (k : ℕ) (old new : Vec Request) (request : Request) → k < length vs → old ≡ get_or vs k old → new.items ≡ old.items ++ request ∷ []
    → length (requests_of (all vs) k) < 100000 → whole_size (all vs) + size_of request ≤ 268435456 → with_request (all vs) k request ≡ Ok (all (set vs k new))
request-added vs k old new request near at grown few small =
    with-one (all vs) k request few small
    ∙ ap (λ (xs : List Request). Ok (set (all vs) k (xs ++ request ∷ []))) (stream-at vs k old near at)
    ∙ ap (λ (xs : List Request). Ok (set (all vs) k xs)) (sym grown)
    ∙ ap Ok (sym (map-set (λ v. v.items) vs k new))
