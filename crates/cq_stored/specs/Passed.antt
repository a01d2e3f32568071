-- What is true of the entries that a commit passes.
use Rattle.std.specs.Prelude.{◌≡◌, ℕ, true, false, List, length, drop}
use Rattle.cq_bytes.specs.Numbers.{contains}
use Rattle.cq_journal.specs.declared.event.Entry.{Entry}
use Rattle.cq_journal.specs.Lists.{IsIn}
use Rattle.cq_journal.specs.History.{acked}
use Rattle.cq_items.specs.Item.{Item}
use Rattle.cq_items.specs.declared.item.Passed.{Passed}
use Rattle.cq_items.specs.Items.{has_item, undecided_items}
use Rattle.cq_queue_laws.specs.Follows.{Follows}
use Rattle.cq_queue_laws.specs.Laws.{AreOnce}
use Rattle.cq_queue.specs.Passing.{commit_items, passed_of}
use Rattle.cq_stored.specs.Stored.{is_stored}

-- this is told of one of those that a commit passes
abbrev pub IsPassedOf : List ℕ → ℕ → List Item → Passed → Type 0
IsPassedOf skip room items p = IsIn (passed_of skip room (undecided_items items)) p

pub record PassedLaws : Type 0 where
  -- those that aren't passed are undecided, and none that is passed
  pub rest : (items : List Item) (skip : List ℕ) (room segment at place : ℕ)
      → undecided_items (commit_items skip room segment at place items)
      ≡ drop (length (passed_of skip room (undecided_items items))) (undecided_items items)
  pub decided : (items : List Item) (skip : List ℕ) (room segment at place : ℕ) (p : Passed) → AreOnce items
      → IsPassedOf skip room items p
      → has_item (undecided_items (commit_items skip room segment at place items)) p.id ≡ false
  -- what is kept is committed; what is skipped, and wasn't to be, was removed
  pub kept : (items : List Item) (skip : List ℕ) (room segment at place : ℕ) (p : Passed)
      → IsPassedOf skip room items p → p.kept ≡ true
      → is_stored (commit_items skip room segment at place items) p.id ≡ true
  pub gone : (items : List Item) (past : List Entry) (q : ℕ) (skip : List ℕ) (room : ℕ) (p : Passed)
      → Follows items past q → IsPassedOf skip room items p → p.kept ≡ false → contains skip p.id ≡ false
      → contains (acked past q) p.id ≡ true
