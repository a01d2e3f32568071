-- How a client's words start, and how their two roles are parted and joined.
use Rattle.std.proofs.Common.{◌≡◌, ℕ, zero, suc, ◌*◌, ◌<◌, ◌≢◌, inl, true, false, true≢false, List, [], ◌∷◌, length, get_or, slice_index, Contains, replicate, set, sym, refl, ap, ◌∙◌, subst, ⊎_elim, arith}
use mathlib.Core.Option.{some, some-injective, some-ne-none}
use lib.ListN.{get_elem?, length-replicate}
use Rattle.atomic_table.specs.Table.{Splits, Joins, opening}
use Rattle.atomic_table.proofs.Lists.{at_set}
use Rattle.cq_flying.specs.declared.view.View.{View}
use Rattle.cq_flying.specs.Rule.{Flight, Fits, IsOnce, newcomer, nobody, owner_of, looker_of, both_of}
use Rattle.cq_flying.proofs.Steps.{fits_set}
use Rattle.cq_inbox.proofs.Places.{snoc_cases}

abbrev V : Type 0
V = View

off : false ≡ true → ⊥
off e = true≢false (sym e)

none_in : (d : ℕ) → Contains [] d → ⊥
none_in d h = let near : h.0 < 0 = h.1 in absurd (omega arith)

zeros : (n i : ℕ) → ◌≡◌ {A = ℕ} (get_or (replicate n 0) i 0) 0
zeros zero i = refl
zeros (suc n) zero = refl
zeros (suc n) (suc i) = zeros n i

-- nothing is written twice
pub zeros_once : IsOnce (replicate 64 0)
zeros_once i j pos e = let z : ◌≡◌ {A = ℕ} (slice_index (replicate 64 0) i) 0 = zeros 64 i in absurd (omega arith)

zero_twice : (n : ℕ) → n ≡ 0 → n ≡ 2 * n
zero_twice n z = omega arith

only : (F : ℕ → V → Type 0) (v : V) → F 0 v → (j : ℕ) (u : V) → get_elem? (v ∷ []) j ≡ some u → F j u
only F v f zero u e = subst (F 0) (some-injective v u e) f
only F v f (suc j) u e = absurd (some-ne-none u (sym e))

pub starts : (ws : List ℕ) → ws ≡ replicate 64 0 → Flight (opening ws [] newcomer)
starts ws is = record {
  owner = 0;
  looker = 0;
  names = replicate 64 0;
  dropped = [];
  seen = [];
  wide = ap (λ (l : List ℕ). length l) is ∙ length-replicate {A = ℕ} 64 0;
  long = length-replicate {A = ℕ} 64 0;
  each = (λ i lt. inl (ap (λ (l : List ℕ). get_or l i 0) is ∙ (zero_twice (get_or (replicate 64 0) i 0) (zeros 64 i))));
  once = zeros_once;
  within = (λ d h. absurd (none_in d h));
  views = only (Fits 0 0 (replicate 64 0) [] []) newcomer record { owns = (λ _. (refl, refl)); looks = (λ _. (refl, refl, refl)) };
}

pub parts : (id : ℕ) (v : V) → v.owns ≡ true → v.looks ≡ true → Splits Flight id v (owner_of v) (looker_of v)
parts id v a b s r at =
    let mine = r.views id v at in
    let vs : List V = set s.views id (owner_of v) in
    let new : ℕ = length vs in
    let Old : ℕ → V → Type 0 = λ j u. (u.owns ≡ true → (j ≡ r.owner) × (u.dropped ≡ r.dropped)) × (u.looks ≢ true) in
    let old : (j : ℕ) (u : V) → get_elem? vs j ≡ some u → Old j u = fits_set Old s.views id (owner_of v) (mine.owns, off) (λ j u other e. ((r.views j u e).owns, λ p. other (((r.views j u e).looks p).0 ∙ sym (mine.looks b).0))) in
    record {
      owner = r.owner;
      looker = new;
      names = r.names;
      dropped = r.dropped;
      seen = r.seen;
      wide = r.wide;
      long = r.long;
      each = r.each;
      once = r.once;
      within = r.within;
      views = λ j u e. ⊎_elim
          (λ was. record { owns = (old j u was).0; looks = (λ p. absurd ((old j u was).1 p)) })
          (λ (is : (j ≡ new) × (looker_of v ≡ u)). record {
            owns = (λ p. absurd (off (ap (λ (y : V). y.owns) is.1 ∙ p)));
            looks = (λ p. (is.0, ap (λ (y : V). y.names) (sym is.1) ∙ (mine.looks b).1, ap (λ (y : V). y.seen) (sym is.1) ∙ (mine.looks b).2));
          })
          (snoc_cases vs (looker_of v) u j e);
    }

pub joins : (id : ℕ) (v : V) (other : ℕ) (w : V) → v.owns ≡ true → w.looks ≡ true → Joins Flight id v other w (both_of v w) nobody
joins id v other w a b s r at two there =
    let mine = r.views id v at in
    let both : V = both_of v w in
    let was : get_elem? s.views other ≡ some w = ⊎_elim (λ x. absurd (two x.0)) (λ x. x.1) (at_set s.views id other both w there) in
    let theirs = (r.views other w was).looks b in
    let F : ℕ → V → Type 0 = Fits r.owner id r.names r.dropped r.seen in
    let Now : ℕ → V → Type 0 = λ j u. j ≢ other → F j u in
    let now : (j : ℕ) (u : V) → get_elem? (set s.views id both) j ≡ some u → Now j u = fits_set Now s.views id both
    (λ _. record { owns = (λ _. mine.owns a); looks = (λ _. (refl, theirs.1, theirs.2)) })
    (λ j u _ e far. record { owns = (r.views j u e).owns; looks = (λ p. absurd (far (((r.views j u e).looks p).0 ∙ sym theirs.0))) }) in
    record {
      owner = r.owner;
      looker = id;
      names = r.names;
      dropped = r.dropped;
      seen = r.seen;
      wide = r.wide;
      long = r.long;
      each = r.each;
      once = r.once;
      within = r.within;
      views = fits_set F (set s.views id both) other nobody record { owns = (λ p. absurd (off p)); looks = (λ p. absurd (off p)) } (λ j u far e. now j u e far);
    }
