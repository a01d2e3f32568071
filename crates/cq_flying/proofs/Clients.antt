-- The ends of all clients.
use Rattle.std.proofs.Common.{◌≡◌, ◌<◌, ◌∙◌, ℕ, zero, suc, List, [], length, map, set, get_or, replicate, subst, ap, refl}
use Rattle.std.proofs.Math.Seq.{map-set_same}
use lib.ListN.{length-map}
use Rattle.cq_flying.specs.Ends.{look_end_id, opened}
use Rattle.cq_flying.specs.Words.{OneEnd}

-- the client has an end
pub has_end : (ends : List OneEnd) (client : ℕ) → client < length (map look_end_id ends) → client < length ends
has_end ends client h = subst (λ (n : ℕ). client < n) (length-map ends look_end_id) h

-- what the new element shows as the old one did
pub stays : {X Y : Type 0} (f : X → Y) (xs : List X) (i k : ℕ) (old new : X) (d : Y) → old ≡ get_or xs i old → f new ≡ f old → get_or (map f (set xs i new)) k d ≡ get_or (map f xs) k d
stays {X} {Y} f xs i k old new d read same = ap (λ (l : List Y). get_or l k d) (map-set_same f xs i new old (same ∙ ap f read))

-- where nothing is written, nothing is open
nothing_open : (n : ℕ) → opened (replicate n 0) ≡ []
unfolding opened
nothing_open zero = refl
nothing_open (suc n) = nothing_open n

pub none_open : (n c : ℕ) → opened (get_or (replicate n (replicate 64 0)) c []) ≡ []
unfolding opened
none_open zero c = refl
none_open (suc n) zero = nothing_open 64
none_open (suc n) (suc c) = none_open n c
