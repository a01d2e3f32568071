-- The files of a queue that were opened by the numbers of its names.
use Rattle.std.proofs.Common.{◌≡◌, ◌⊎◌, inl, inr, ℕ, true, false, List, Option, Some, None, Result, Ok, Err, IfOk, IsSome, map, refl, sym, ◌∙◌, ap, subst}
use Rattle.std.specs.Prelude.{Contains, filter}
use Rattle.std.specs.List.{AllByRecursion}
use Rattle.std.proofs.lemmas.Bool.{false≢true}
use Rattle.cq_disk.specs.declared.name.Name.{Name}
use Rattle.cq_disk.specs.declared.name.Kind.{Kind}
use Rattle.cq_disk.specs.declared.name.Kind.TheVariants.{Index, Small}
use Rattle.cq_disk.specs.File.{File}
use Rattle.cq_disk.specs.Files.{HasFile, IsThere}
use Rattle.cq_small.specs.declared.store.SmallStore.{SmallStore}
use Rattle.cq_small.specs.Store as small
use Rattle.cq_index.specs.declared.segment.Segment.{Segment}
use Rattle.cq_index.specs.Places.{index_name}
use Rattle.cq_index.specs.Segments as index
use Rattle.cq_folder.specs.Held.{IsFormedAs, as_read, bytes_in}
use Rattle.cq_folder.specs.Queue.{AreIndexes, AreStores, IsIndexAt, RiseAs, has_number, indexes_of, stores_of}
use Rattle.cq_back_q.specs.Names.{AreNamesOf}
use Rattle.cq_back_q.specs.Numbers.{AreNumbersOf, name_with}
use Rattle.cq_back_q.specs.Numbered.{AreThere, HaveRead, IsReadIndex}
use Rattle.cq_back_q.specs.Read.{AreReadIndexes, AreReadStores}
use Rattle.cq_back_q.proofs.Rising.{all_wider, all_has}
use Rattle.cq_back_q.proofs.Naming.{all_kept, has_kept, has_listed, rise_as, rise_kept}

pub ok_of : {T E : Type 0} (r : Result T E) (P Q R : T → Type 0) → ((x : T) → P x → Q x → R x) → IfOk r P → IfOk r Q → IfOk r R
ok_of (Ok x) P Q R step p q = step x p q
ok_of (Err e) P Q R step p q = tt

has_some : (slot : Option File) → HasFile slot → IsSome slot
has_some None none = absurd none
has_some (Some f) has = refl

module _ (kind : Kind) (queue : ℕ) (files : Name → Option File) (names : List Name) (numbers : List ℕ) (which : (kind ≡ Index) ⊎ (kind ≡ Small)) (are : AreNamesOf queue files names) (is : AreNumbersOf kind queue names numbers) where
  -- the files of these numbers are there
  pub numbers_there : AreThere (name_with kind queue) files numbers
  numbers_there = all_wider (λ n. Contains names (name_with kind queue n)) _ numbers
      (λ n has. record {
        some = has_some (files (name_with kind queue n)) ((are.each (name_with kind queue n)).0 has).0;
        all = are.settled (name_with kind queue n) refl;
      }) is.named

  listed : (n : ℕ) → HasFile (files (name_with kind queue n)) → Contains numbers n
  listed n has = is.all are.order n ((are.each (name_with kind queue n)).1 (has, refl, which))

  -- and no other
  absent : (n : ℕ) → (Contains numbers n → ⊥) → files (name_with kind queue n) ≡ None
  absent n other = at (files (name_with kind queue n)) (λ has. other (listed n has))
    where
      at : (slot : Option File) → (HasFile slot → ⊥) → slot ≡ None
      at None other = refl
      at (Some f) other = absurd (other tt)

-- ---- indexes

pub are_indexes : (queue : ℕ) (names : List Name) (numbers : List ℕ) (segments : List Segment) → AreNumbersOf Index queue names numbers → indexes_of segments ≡ map (index_name queue) numbers → AllByRecursion index.IsOpen segments → AreIndexes queue segments
are_indexes queue names numbers segments is named opened = record {
  rise = subst (RiseAs (index_name queue)) (sym named) (rise_as Index queue numbers is.rise);
  are_open = opened;
}

pub read_indexes : (queue : ℕ) (files : Name → Option File) (names : List Name) (numbers : List ℕ) (segments : List Segment) → AreNamesOf queue files names → AreNumbersOf Index queue names numbers
    → indexes_of segments ≡ map (index_name queue) numbers → AllByRecursion (IsReadIndex files) segments → AreReadIndexes queue segments files
read_indexes queue files names numbers segments are is named read = record {
  at = record {
    each = all_wider (IsReadIndex files) (λ s. IsIndexAt s (files (index.name_of s))) segments (λ s r. r.at) read;
    none = λ n without. absent Index queue files names numbers (inl refl) are is n
        (λ has. false≢true (sym without ∙ ap (λ (l : List Name). has_number l n) named ∙ has_listed Index queue numbers n has));
  };
  known = all_wider (IsReadIndex files) (λ s. IsThere (files (index.name_of s)) (index.Knows s)) segments (λ s r. r.known) read;
}

-- ---- small stores

module _ (queue : ℕ) (names : List Name) (numbers : List ℕ) (segments : List Segment) (stores : List SmallStore) (is : AreNumbersOf Small queue names numbers)
    (named : stores_of stores ≡ map (small.small_name queue) (filter (has_number (indexes_of segments)) numbers)) where
  pub are_stores : AllByRecursion small.IsOpen stores → AreStores queue segments stores
  are_stores opened = record {
    rise = subst (RiseAs (small.small_name queue)) (sym named) (rise_as Small queue (filter (has_number (indexes_of segments)) numbers) (rise_kept (has_number (indexes_of segments)) numbers is.rise));
    are_open = opened;
    matched = subst (AllByRecursion (λ n. has_number (indexes_of segments) n.number ≡ true)) (sym named) (all_kept Small queue (has_number (indexes_of segments)) numbers);
  }

  module _ (files : Name → Option File) (are : AreNamesOf queue files names) (read : HaveRead queue files numbers stores) where
    formed : (n : ℕ) (slot : Option File) → files (small.small_name queue n) ≡ slot → IsFormedAs (small.small_name queue n) (bytes_in slot)
    formed n None none = tt
    formed n (Some f) there = subst (λ (o : Option File). IsFormedAs (small.small_name queue n) (bytes_in o)) there
        (all_has (λ m. IsFormedAs (small.small_name queue m) (as_read files (small.small_name queue m))) numbers n read.formed
        (listed Small queue files names numbers (inr refl) are is n (subst HasFile (sym there) tt)))

    pub read_stores : AreReadStores queue segments stores files
    read_stores = record {
      at = record {
        each = read.kept;
        none = λ n own without. absent Small queue files names numbers (inr refl) are is n
            (λ has. false≢true (sym without ∙ ap (λ (l : List Name). has_number l n) named
            ∙ has_listed Small queue (filter (has_number (indexes_of segments)) numbers) n (has_kept (has_number (indexes_of segments)) numbers n own has)));
      };
      formed = λ n. formed n (files (small.small_name queue n)) refl;
    }
