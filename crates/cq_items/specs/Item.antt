-- A message of a queue, as all definitions speak of it.
use Rattle.std.specs.Prelude.{ℕ, Bool, List, Option}
use Rattle.cq_entry.specs.declared.entry.EntryKind.{EntryKind}
use Rattle.cq_items.specs.declared.item.Stand.{Stand}
use Rattle.cq_items.specs.declared.item.Holder.{Holder}

-- its id, how it is stored, its length, its body while that is in memory, where its entry stands once it is committed, who has it, and whether it was never handed out
pub record Item : Type 0 where
  pub id : ℕ
  pub kind : EntryKind
  pub len : ℕ
  pub body : Option (List ℕ)
  pub stand : Option Stand
  pub holder : Holder
  pub fresh : Bool
