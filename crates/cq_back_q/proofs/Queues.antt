-- The queues of a folder are opened one by one.
use Rattle.std.proofs.Common.{◌≡◌, ◌⊎◌, inl, inr, ⊎_elim, ℕ, zero, suc, ◌+◌, ◌^◌, ◌<◌, ◌≤◌, Bool, true, false, List, [], ◌∷◌, ◌++◌, Option, Some, None, map, length, get_or, refl, sym, ◌∙◌, ap, subst, arith}
use Rattle.std.specs.Prelude.{Contains, cond, filter, ◌==◌, ◌&&◌, ◌||◌}
use Rattle.std.specs.List.{AllByRecursion}
use Rattle.std.proofs.lemmas.Bool.{and_from, and_parts, cases_lt, eq-eqb, eqb-true, false≢true, or_left, or_parts}
use Rattle.std.proofs.lemmas.List.{map-append}
use Rattle.std.proofs.lemmas.List.Kept.{IsStrictlySortedBy-filter}
use Rattle.std.proofs.lemmas.List.Folds.{list_any-append}
use Rattle.cq_bytes.specs.Numbers.{contains}
use Rattle.cq_disk.specs.declared.name.Name.{Name}
use Rattle.cq_disk.specs.declared.name.Kind.{Kind}
use Rattle.cq_disk.specs.declared.name.Kind.TheVariants.{Index, Small, Shared}
use Rattle.cq_disk.specs.Call.{Image}
use Rattle.cq_disk.specs.File.{File}
use Rattle.cq_disk.specs.Files.{HasFile, NamesAre}
use Rattle.cq_disk.specs.Names.{name_cmp, IsInRange}
use Rattle.cq_index.specs.Places.{index_name}
use Rattle.cq_small.specs.Store.{small_name}
use Rattle.cq_folder.proofs.Below.{all_append}
use Rattle.cq_folder.specs.Held.{IsSettled}
use Rattle.cq_back_q.specs.declared.error.BackError.{BackError}
use Rattle.cq_back_q.specs.declared.found.FoundQueue.{FoundQueue}
use Rattle.cq_back_q.specs.declared.found.ListedQueue.{ListedQueue}
use Rattle.cq_back_q.specs.Damage.{IfDamaged, IsDamaged}
use Rattle.cq_back_q.specs.Folder.{HasNoFile, is_of, is_own}
use Rattle.cq_back_q.specs.Found.{IsFoundOf}
use Rattle.cq_back_q.specs.Listed.{AreListed, AreReadQueues, IsReadQueue, queues_of}
use Rattle.cq_back_q.specs.Names.{AreNamesOf}
use Rattle.cq_back_q.specs.Numbers.{AreBelow, Rise}
use Rattle.cq_back_q.proofs.Rising.{all_wider, rise_more}
use Rattle.cq_back_q.proofs.Removing.{has_none}
use Rattle.cq_back_q.proofs.Same.{damaged_to}

-- ---- the names of one queue

module _ (p : Name → Bool) where
  kept_has : (names : List Name) (n : Name) → p n ≡ true → Contains names n → Contains (filter p names) n
  kept_has [] n is has = absurd (omega (arith, has.1))
  kept_has (m ∷ names) n is (zero, lt, same) = subst (λ (b : Bool). Contains (cond b (m ∷ filter p names) (filter p names)) n) (sym (ap p same ∙ is)) (0, omega arith, same)
  kept_has (m ∷ names) n is (suc i, lt, same) =
      let rest = kept_has names n is (i, omega (arith, lt), same) in
      elim (p m) as (λ (b : Bool). Contains (cond b (m ∷ filter p names) (filter p names)) n) [
        | true ↦ (suc rest.0, omega (arith, rest.1), rest.2)
        | false ↦ rest
      ]

  kept_from : (names : List Name) (n : Name) → Contains (filter p names) n → Contains names n × (p n ≡ true)
  kept_from [] n has = absurd (omega (arith, has.1))
  kept_from (m ∷ names) n has = elim (p m) as (λ (b : Bool). p m ≡ b → Contains (cond b (m ∷ filter p names) (filter p names)) n → Contains (m ∷ names) n × (p n ≡ true)) [
    | true ↦ λ is own. at_front (kept_from names n) is own
    | false ↦ λ is own. later (kept_from names n own)
  ] refl has
    where
      later : Contains names n × (p n ≡ true) → Contains (m ∷ names) n × (p n ≡ true)
      later rest = ((suc rest.0.0, omega (arith, rest.0.1), rest.0.2), rest.1)

      at_front : (Contains (filter p names) n → Contains names n × (p n ≡ true)) → p m ≡ true → Contains (m ∷ filter p names) n → Contains (m ∷ names) n × (p n ≡ true)
      at_front rest is (zero, lt, same) = ((0, omega arith, same), ap p (sym same) ∙ is)
      at_front rest is (suc i, lt, same) = later (rest (i, omega (arith, lt), same))

module _ (queue : ℕ) (files : Name → Option File) (names : List Name) (are : NamesAre files names) where
  own_kind : (kind : Kind) → is_own kind ≡ true → (kind ≡ Index) ⊎ (kind ≡ Small)
  own_kind Index is = inl refl
  own_kind Small is = inr refl
  own_kind Shared is = absurd (false≢true is)

  of_queue : (n : Name) → is_of queue n ≡ true → (n.queue ≡ queue) × ((n.kind ≡ Index) ⊎ (n.kind ≡ Small))
  of_queue n is = let both = and_parts (n.queue == queue) (is_own n.kind) is in (eqb-true n.queue queue both.0, own_kind n.kind both.1)

  is_queue : (n : Name) → n.queue ≡ queue → ((n.kind ≡ Index) ⊎ (n.kind ≡ Small)) → is_of queue n ≡ true
  is_queue n same which = and_from (n.queue == queue) (is_own n.kind) (eq-eqb n.queue queue same) (⊎_elim (λ k. ap is_own k) (λ k. ap is_own k) which)

  pub names_are : ((n : Name) → IsSettled (files n)) → AreNamesOf queue files (filter (is_of queue) names)
  names_are all = record {
    order = IsStrictlySortedBy-filter name_cmp (is_of queue) names are.order;
    each = λ n. (
      λ has. let kept = kept_from (is_of queue) names n has in let own = of_queue n kept.1 in ((are.each n).0 kept.0, own.0, own.1),
      λ is. kept_has (is_of queue) names n (is_queue n is.1 is.2) ((are.each n).1 is.0),
    );
    settled = λ n same. all n;
  }

  pub none_of : length (filter (is_of queue) names) ≡ 0 → HasNoFile queue files
  none_of none = record { index = λ n. absent (index_name queue n) refl (inl refl); small = λ n. absent (small_name queue n) refl (inr refl) }
    where
      absent : (n : Name) → n.queue ≡ queue → ((n.kind ≡ Index) ⊎ (n.kind ≡ Small)) → files n ≡ None
      absent n same which = has_none (files n) (λ has. let c = kept_has (is_of queue) names n (is_queue n same which) ((are.each n).1 has) in let lt = c.1 in omega (arith, lt, none))

-- ---- queues below a number

pub record ListedBelow (bound : ℕ) (queues : List ListedQueue) : Type 0 where
  pub rise : Rise (queues_of queues)
  pub below : AllByRecursion (λ (l : ListedQueue). l.queue < bound) queues
  pub each : AllByRecursion (λ (l : ListedQueue). IsFoundOf l.queue l.found) queues

pub listed_none : ListedBelow 0 []
listed_none = record { rise = tt; below = tt; each = tt }

numbers_below : (bound : ℕ) (queues : List ListedQueue) → AllByRecursion (λ (l : ListedQueue). l.queue < bound) queues → AreBelow bound (queues_of queues)
numbers_below bound [] all = tt
numbers_below bound (l ∷ queues) all = (all.0, numbers_below bound queues all.1)

module _ (bound : ℕ) (queues : List ListedQueue) (listed : ListedBelow bound queues) where
  pub listed_skip : ListedBelow (bound + 1) queues
  listed_skip = record { rise = listed.rise; below = all_wider (λ (l : ListedQueue). l.queue < bound) (λ l. l.queue < bound + 1) queues (λ l lt. omega (arith, lt)) listed.below; each = listed.each }

  pub listed_more : (found : FoundQueue) → IsFoundOf bound found → ListedBelow (bound + 1) (queues ++ record { queue = bound; found = found } ∷ [])
  listed_more found is = record {
    rise = subst Rise (sym (map-append (λ (l : ListedQueue). l.queue) queues (record { queue = bound; found = found } ∷ []))) (rise_more (queues_of queues) bound listed.rise (numbers_below bound queues listed.below));
    below = all_append (λ l. l.queue < bound + 1) queues (record { queue = bound; found = found } ∷ []) listed_skip.below (omega arith, tt);
    each = all_append (λ l. IsFoundOf l.queue l.found) queues (record { queue = bound; found = found } ∷ []) listed.each (is, tt);
  }

pub all_listed : (queues : List ListedQueue) → ListedBelow 256 queues → AreListed queues
all_listed queues listed = record { rise = listed.rise; below = listed.below; each = listed.each }

-- the same where the disk tells its files
pub record ReadBelow (bound : ℕ) (files : Name → Option File) (queues : List ListedQueue) : Type 0 where
  pub each : AllByRecursion (λ (l : ListedQueue). IsReadQueue l.queue files l.found) queues
  pub none : (q : ℕ) → q < bound → contains (queues_of queues) q ≡ false → HasNoFile q files

pub read_none : (files : Name → Option File) → ReadBelow 0 files []
read_none files = record { each = tt; none = λ q lt. absurd (omega (arith, lt)) }

module _ (bound : ℕ) (files : Name → Option File) (queues : List ListedQueue) (read : ReadBelow bound files queues) where
  pub read_skip : HasNoFile bound files → ReadBelow (bound + 1) files queues
  read_skip no_file = record {
    each = read.each;
    none = λ q lt out. ⊎_elim
        (λ below. read.none q below out)
        (λ ge. let same : q ≡ bound = omega (arith, ge, lt) in subst (λ (r : ℕ). HasNoFile r files) (sym same) no_file)
        (cases_lt q bound);
  }

  pub read_more : (found : FoundQueue) → IsReadQueue bound files found → ReadBelow (bound + 1) files (queues ++ record { queue = bound; found = found } ∷ [])
  read_more found is = record {
    each = all_append (λ l. IsReadQueue l.queue files l.found) queues (record { queue = bound; found = found } ∷ []) read.each (is, tt);
    none = λ q lt out.
        let parts = or_parts (contains (queues_of queues) q) ((bound == q) || false) (sym (list_any-append (λ y. y == q) (queues_of queues) (bound ∷ [])) ∙ ap (λ (ns : List ℕ). contains ns q) (sym (map-append (λ (l : ListedQueue). l.queue) queues (record { queue = bound; found = found } ∷ []))) ∙ out) in
        ⊎_elim
        (λ below. read.none q below parts.0)
        (λ ge. let same : bound ≡ q = omega (arith, ge, lt) in absurd (false≢true (sym parts.1 ∙ or_left (bound == q) false (eq-eqb bound q same))))
        (cases_lt q bound);
  }

-- no queue has a number of 256 or above
pub all_read : (files : Name → Option File) → ((n : Name) (f : File) → files n ≡ Some f → IsInRange n) → (queues : List ListedQueue) → ReadBelow 256 files queues → AreReadQueues queues files
all_read files named queues read = record {
  each = read.each;
  none = λ q out. ⊎_elim (λ below. read.none q below out) (λ ge. record { index = λ n. absent (index_name q n) q refl ge; small = λ n. absent (small_name q n) q refl ge }) (cases_lt q 256);
}
  where
    absent : (n : Name) (q : ℕ) → n.queue ≡ q → 256 ≤ q → files n ≡ None
    absent n q same ge = of_slot (files n) refl
      where
        of_slot : (slot : Option File) → files n ≡ slot → slot ≡ None
        of_slot None is = refl
        of_slot (Some f) is = let low = (named n f is).queue_is in absurd (omega (arith, low, same, ge))

-- damage of one queue is that of the queue of the file that is told
pub of_any : (Told : Type 0) (queue : ℕ) (image : Image) (error : BackError) → IfDamaged error (IsDamaged Told queue image) → IfDamaged error (λ name. IsDamaged Told name.queue image name)
of_any Told queue image error = damaged_to error (IsDamaged Told queue image) (λ name. IsDamaged Told name.queue image name) (λ name place found d. subst (λ (q : ℕ). IsDamaged Told q image name place found) (sym d.own) d)
