-- A queue's call leaves what ties another queue to its files.
use Rattle.std.proofs.Common.{◌≡◌, ◌≢◌, ℕ, List, [], ◌∷◌, Option, None, Some, refl, sym, ap, ◌∙◌, subst}
use Rattle.std.specs.List.{AllByRecursion}
use Rattle.cq_disk.specs.declared.name.Name.{Name}
use Rattle.cq_disk.specs.File.{File}
use Rattle.cq_small.specs.Store.{small_name}
use Rattle.cq_index.specs.Places.{index_name}
use Rattle.cq_folder.specs.Queue.{content_in, IsSmallAt, IsIndexAt}
use Rattle.cq_folder.specs.Holding.{IsAt}
use Rattle.cq_items.specs.Item.{Item}
use Rattle.cq_items.specs.declared.item.Stand.{Stand}
use Rattle.cq_queue.specs.declared.queue.QueueCore.{QueueCore}
use Rattle.cq_queue.specs.declared.segment.QueueSegment.{QueueSegment}
use Rattle.cq_queue.specs.QueueSegment.{KnowsFiles}
use Rattle.cq_queue.specs.Lists.{AreOf}
use Rattle.cq_queue.specs.Tied.{entry_at, IsWholeRecord, IsInPlace, AreInPlace, OtherFilesStay}
use Rattle.cq_queue.specs.Values.{QueueValue, IsOnDisk}
use Rattle.cq_queues.specs.Values.{value_at}

-- each segment is of the queue's number
abbrev pub SegmentsAre : QueueValue → Type 0
SegmentsAre v = AreOf v.queue v.segments

pub own_at : (core : Option QueueCore) → SegmentsAre (value_at core)
own_at None = tt
own_at (Some core) = core.segments.are.0

module _ (queue other : ℕ) (old new : Name → Option File) (apart : other ≢ queue) (stays : OtherFilesStay queue old new) where
  same_at : (name : Name) → name.queue ≡ other → new name ≡ old name
  same_at name own = stays name (λ k. (
    λ same. apart (sym own ∙ ap (λ (n : Name). n.queue) same),
    λ same. apart (sym own ∙ ap (λ (n : Name). n.queue) same),
  ))

  knows : (s : QueueSegment) → s.queue ≡ other → KnowsFiles s old → KnowsFiles s new
  knows s own k = record {
    small = subst (IsSmallAt s.small) (sym (same_at (small_name s.queue s.number) own)) k.small;
    index = subst (IsIndexAt s.index) (sym (same_at (index_name s.queue s.number) own)) k.index;
  }

  all_know : (list : List QueueSegment) → AreOf other list → AllByRecursion (λ s. KnowsFiles s old) list → AllByRecursion (λ s. KnowsFiles s new) list
  all_know [] own each = tt
  all_know (s ∷ list) own each = (knows s own.0 each.0, all_know list own.1 each.1)

  in_place : (i : Item) (s : Stand) → IsInPlace other old i s → IsInPlace other new i s
  in_place i s is = record {
    entry = subst (λ (o : Option File). IsAt (content_in o) s.at (entry_at i s)) (sym (same_at (index_name other s.segment) refl)) is.entry;
    record_is = λ small. subst (λ (o : Option File). IsWholeRecord (content_in o) s.place i.len) (sym (same_at (small_name other s.segment) refl)) (is.record_is small);
  }

  all_in_place : (items : List Item) → AreInPlace other old items → AreInPlace other new items
  all_in_place [] all = tt
  all_in_place (i ∷ is) all = (λ s at. in_place i s (all.0 s at), all_in_place is all.1)

pub stays_elsewhere : (queue : ℕ) (v : QueueValue) (old new : Name → Option File) → v.queue ≢ queue → SegmentsAre v → OtherFilesStay queue old new → IsOnDisk v old → IsOnDisk v new
stays_elsewhere queue v old new apart own stays at = record {
  segments = record {
    each = all_know queue v.queue old new apart stays v.segments own at.segments.each;
    none = λ n lacks. (
      same_at queue v.queue old new apart stays (index_name v.queue n) refl ∙ (at.segments.none n lacks).0,
      same_at queue v.queue old new apart stays (small_name v.queue n) refl ∙ (at.segments.none n lacks).1,
    );
  };
  stands = all_in_place queue v.queue old new apart stays v.items at.stands;
}
