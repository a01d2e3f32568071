-- Entries in any order, seen as a finite map.
use Rattle.std.proofs.Common.{◌≡◌, ℕ, cond, List, [], ◌∷◌, None, Some, refl, sym, ap, ◌∙◌, nat_eq, arith}
use Rattle.std.specs.Ordering.{nat_cmp, eq_by_cmp}
use Rattle.std.specs.Cmp.{nat_cmp_total, unsigned_tied}
use Rattle.std.specs.FinMap.{nat_cmp-IsAntisymmetric, same_map, from_entries, insert, remove, get, find, get-from_entries, get-insert, get-remove}
use Rattle.std.specs.Map.{lookup}
use Rattle.std.proofs.lemmas.Bool.Decides.{nat_tests}

pub turned : (a b : ℕ) → nat_eq a b ≡ nat_eq b a
turned a b = grind (arith, nat_tests)

module _ {V : Type 0} where
  find_lookup : (q : ℕ) (es : List (ℕ × V)) → find nat_cmp q es ≡ lookup (nat_eq q) es
  find_lookup q [] = refl
  find_lookup q (e ∷ es) = ap (λ b. cond b (Some e.1) (find nat_cmp q es)) (unsigned_tied q e.0) ∙ ap (cond (nat_eq q e.0) (Some e.1)) (find_lookup q es)

  -- a scan of the entries answers as the map does
  pub seen : (es : List (ℕ × V)) (q : ℕ) → get (from_entries {R = nat_cmp} es) q ≡ lookup (nat_eq q) es
  seen es q = get-from_entries nat_cmp_total es q ∙ find_lookup q es

  -- entries that answer as others do, but at one key, are the others with that key
  pub inserted : (es fs : List (ℕ × V)) (k : ℕ) (v : V) → ((q : ℕ) → lookup (nat_eq q) fs ≡ cond (nat_eq k q) (Some v) (lookup (nat_eq q) es))
      → from_entries {R = nat_cmp} fs ≡ insert (from_entries es) k v
  inserted es fs k v is = same_map nat_cmp_total nat_cmp-IsAntisymmetric _ _
      (λ q. seen fs q ∙ is q ∙ ap (λ b. cond b (Some v) (lookup (nat_eq q) es)) (turned k q ∙ sym (unsigned_tied q k))
      ∙ ap (cond (eq_by_cmp nat_cmp q k) (Some v)) (sym (seen es q)) ∙ sym (get-insert nat_cmp_total (from_entries es) k v q))

  -- entries that answer as others do, but not at one key, are the others without that key
  pub removed : (es fs : List (ℕ × V)) (k : ℕ) → ((q : ℕ) → lookup (nat_eq q) fs ≡ cond (nat_eq k q) None (lookup (nat_eq q) es))
      → from_entries {R = nat_cmp} fs ≡ remove (from_entries es) k
  removed es fs k is = same_map nat_cmp_total nat_cmp-IsAntisymmetric _ _
      (λ q. seen fs q ∙ is q ∙ ap (λ b. cond b None (lookup (nat_eq q) es)) (turned k q ∙ sym (unsigned_tied q k))
      ∙ ap (cond (eq_by_cmp nat_cmp q k) None) (sym (seen es q)) ∙ sym (get-remove nat_cmp_total (from_entries es) k q))
