-- A commit that keeps nothing, or that had no memory: the queue's segments are the same.
use Rattle.std.proofs.Common.{◌≡◌, ℕ, ◌+◌, ◌-◌, ◌^◌, Bool, List, [], ◌∷◌, ◌++◌, length, Option, Some, refl, sym, ap, ◌∙◌, subst, arith}
use Rattle.std.specs.Prelude.{◌==◌, ◌||◌}
use Rattle.std.specs.List.{AllByRecursion}
use Rattle.cq_disk.specs.declared.name.Name.{Name}
use Rattle.cq_disk.specs.File.{File}
use Rattle.cq_items.specs.Item.{Item}
use Rattle.cq_items.specs.declared.item.Stand.{Stand}
use Rattle.cq_items.specs.Items.{undecided_items}
use Rattle.cq_queue.specs.declared.segment.QueueSegment.{QueueSegment}
use Rattle.cq_queue.specs.Lists.{AreAt, AreBelow, AreSame, has_number}
use Rattle.cq_queue.specs.Passing.{IsReady, commit_items, kept_items}
use Rattle.cq_queue.specs.QueueSegment.{IsOpen, KnowsFiles}
use Rattle.cq_folder.specs.Queue.{listed_in}
use Rattle.cq_queue.specs.Tied.{AreInPlace, IsInPlace, IsTied, IsWithin, standing_at}
use Rattle.cq_queue.proofs.Changes.{knows_same}
use Rattle.cq_queue.proofs.Committed.{Comes, commit_all, commit_lists, commit_split, commit_undecided}
use Rattle.cq_queue.proofs.Grown.{IsLong, all_same, long_same, open_same}
use Rattle.cq_queue.proofs.Picked.{listed_same, right_nil, upto}

-- ---- nothing is kept

module _ (skip : List ℕ) (room segment at place : ℕ) (items : List Item) (none : kept_items skip room (undecided_items items) ≡ []) where
  come_none : (Q : Item → Type 0) → Comes Q segment at place (kept_items skip room (undecided_items items))
  come_none Q = subst (Comes Q segment at place) (sym none) tt

  pub tied_none : (list : List QueueSegment) → IsTied items list → IsTied (commit_items skip room segment at place items) list
  tied_none list tied = record {
    listing =
        commit_lists skip segment room at place items tied.split
        ∙ ap (λ (ks : List Item). standing_at items ++ listed_in segment (upto at (length ks))) none
        ∙ right_nil (standing_at items)
        ∙ tied.listing;
    made = tied.made;
    within = commit_all skip segment (IsWithin list) room at place items tied.within (come_none (IsWithin list));
    split = commit_split skip segment room at place items tied.split;
    ready = commit_undecided skip segment IsReady room at place items tied.ready;
  }

  pub places_none : (queue : ℕ) (files : Name → Option File) → AreInPlace queue files items → AreInPlace queue files (commit_items skip room segment at place items)
  places_none queue files stood = commit_all skip segment (λ i. (s : Stand) → i.stand ≡ Some s → IsInPlace queue files i s) room at place items stood (come_none (λ i. (s : Stand) → i.stand ≡ Some s → IsInPlace queue files i s))

-- ---- the same segments

within_same : (old new : List QueueSegment) → AreSame old new → (i : Item) → IsWithin old i → IsWithin new i
within_same old new same i within s at small = all_same (IsLong s.segment (s.place + i.len + 5)) (long_same s.segment (s.place + i.len + 5)) old new same (within s at small)

all_within_same : (old new : List QueueSegment) → AreSame old new → (items : List Item) → AllByRecursion (IsWithin old) items → AllByRecursion (IsWithin new) items
all_within_same old new same [] within = tt
all_within_same old new same (i ∷ is) within = (within_same old new same i within.0, all_within_same old new same is within.1)

pub tied_same : (items : List Item) (old new : List QueueSegment) → AreSame old new → IsTied items old → IsTied items new
tied_same items old new same tied = record {
  listing = tied.listing ∙ sym (listed_same old new same);
  made = all_same IsOpen open_same old new same tied.made;
  within = all_within_same old new same items tied.within;
  split = tied.split;
  ready = tied.ready;
}

number_same : (old new : List QueueSegment) (n : ℕ) → AreSame old new → has_number new n ≡ has_number old n
number_same [] [] n same = refl
number_same [] (r ∷ new) n same = absurd same
number_same (s ∷ old) [] n same = absurd same
number_same (s ∷ old) (r ∷ new) n same = ap (λ (m : ℕ). (m == n) || has_number new n) same.0.number.number ∙ ap (λ (b : Bool). (s.number == n) || b) (number_same old new n same.1)

pub at_all_same : (queue : ℕ) (old new : List QueueSegment) (files : Name → Option File) → AreSame old new → AreAt queue old files → AreAt queue new files
at_all_same queue old new files same at = record {
  each = all_same (λ s. KnowsFiles s files) (knows_same files) old new same at.each;
  none = λ n not_there. at.none n (sym (number_same old new n same) ∙ not_there);
}

pub below_more : (list : List QueueSegment) → AreBelow (2 ^ 63 - 1) list → AreBelow (2 ^ 63) list
below_more [] below = tt
below_more (s ∷ list) below = ((let l = below.0 in omega (arith, l)), below_more list below.1)
