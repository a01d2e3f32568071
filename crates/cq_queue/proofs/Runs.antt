-- Calls on the files of a segment, and what is held meanwhile and afterwards.
use Rattle.std.proofs.Common.{◌≡◌, ◌≢◌, inl, ℕ, ◌≤◌, List, ◌++◌, Option, Some, None, refl, sym, ap, ◌∙◌, subst}
use Rattle.cq_disk.specs.declared.name.Name.{Name}
use Rattle.cq_disk.specs.declared.name.Kind.TheVariants.{Shared}
use Rattle.cq_disk.specs.declared.disk.Disk.{Ghosts}
use Rattle.cq_disk.specs.Call.{Image}
use Rattle.cq_disk.specs.File.{File, IsFileImage, fresh, settled}
use Rattle.cq_disk.specs.Files.{IsImageOf, IsImage, Becomes}
use Rattle.cq_disk.specs.Moments as moments
use Rattle.cq_gate.specs.Calls.{Makes, Touches}
use Rattle.cq_gate.specs.Format.{content}
use Rattle.cq_gate.specs.Gated.{Step, KeepsOrAdds}
use Rattle.cq_entry.specs.declared.entry.Entry.{Entry as IndexEntry}
use Rattle.cq_small.specs.Store.{small_name}
use Rattle.cq_index.specs.Places.{index_name, entries_bytes}
use Rattle.cq_journal.specs.declared.event.Message.{Message}
use Rattle.cq_folder.specs.Folder.{Folder, Sharing, folder_of}
use Rattle.cq_folder.specs.Held.{Still}
use Rattle.cq_folder.specs.Holding.{HoldsSome, IsEither}
use Rattle.cq_folder.specs.Laws.{KeepsSteady}
use Rattle.cq_folder.specs.HeldLaws.{KeepsHeldOn}
use Rattle.cq_folder.proofs.Images.{at_name, still_reads}
use Rattle.cq_folder.proofs.Kept.{keeps_steady}
use Rattle.cq_folder.proofs.KeptHeld.{keeps_held, keeps_held_on, held_wider}
use Rattle.cq_folder.specs.Queue.{content_in}
use Rattle.cq_queue.specs.Files.{StaysHeld, StaysHeldOn, WillCome, ComesHeld, ComesHeldOn}
use Rattle.cq_queue.specs.QueueSegment.{TouchesOnly, SameContent}

-- what holds of a disk that tells its files
pub record Tells {D : Type 0} (g : Ghosts D) : Type 0 where
  pub only : (disk : D) (image : Image) → g.left disk (g.moment disk) (g.moment disk) image → IsImage (g.files disk) image
  pub each : (disk : D) (t : ℕ) (image : Image) → t ≤ g.moment disk → IsImage (g.files disk) image → g.left disk t (g.moment disk) image
  pub readable : (disk : D) (n : Name) (f : File) → g.files disk n ≡ Some f → IsFileImage f f.reads

-- a file that was made
pub made_held : (old new : Name → Option File) (name : Name) → old name ≡ None → Becomes name (Some fresh) old new → StaysHeld old new
made_held old new name absent made sharing lines h = keeps_held.made old new sharing lines name absent (record { this = inl made.this; others = made.others }) h

-- messages will come, too, where each content is as it was
pub come_same : (old new : Name → Option File) (queue number : ℕ) (sharing : Sharing) (entries : List IndexEntry) (ms : List Message) → ((n : Name) → content_in (new n) ≡ content_in (old n)) → WillCome old queue number sharing entries ms → WillCome new queue number sharing entries ms
come_same old new queue number sharing entries ms same will contents reads = will contents (λ n own. reads n own ∙ same n)

-- every content is as it was, where that of one file is and no other file has changed
pub contents_same : (old new : Name → Option File) (name : Name) → content_in (new name) ≡ content_in (old name) → ((n : Name) → n ≢ name → new n ≡ old n) → (n : Name) → content_in (new n) ≡ content_in (old n)
contents_same old new name this others = at_name (λ n. content_in (new n) ≡ content_in (old n)) name this (λ n other. ap content_in (others n other))

module _ {D : Type 0} (g : Ghosts D) (t : Tells g) where
  pub laws : KeepsSteady g.moment g.left g.files
  laws = keeps_steady g.moment g.left g.files t.only t.each t.readable

  pub held_laws : KeepsHeldOn g.moment g.left g.files
  held_laws = keeps_held_on g.moment g.left g.files t.only

  -- what is left now is what the files read
  pub contents_read : (disk : D) (folder : Folder) → Still (g.files disk) folder → (n : Name) → n.kind ≢ Shared → folder.contents n ≡ content_in (g.files disk n)
  contents_read disk folder still n own = of_slot (g.files disk n) refl
    where
      of_slot : (slot : Option File) → g.files disk n ≡ slot → folder.contents n ≡ content_in slot
      of_slot None is = sym ((still.each n None (subst (λ (o : Option File). IsImageOf o None) (sym is) tt)).content own)
      of_slot (Some f) is = sym ((still_reads (g.files disk) folder n f still is (t.readable disk n f is)).content own)

  -- a file was made, or its making failed
  pub made_touches : (old new : D) (name : Name) → g.files old name ≡ None → Makes g name old new → TouchesOnly g name old new
  made_touches old new name absent makes = record { others = makes.others; any_moment = λ sharing lines h. held_laws.made old new sharing lines name absent h makes.any_moment }

  pub made_same : (old new : D) (name : Name) → g.files old name ≡ None → Becomes name (Some fresh) (g.files old) (g.files new) → SameContent g name old new
  made_same old new name absent made = record { same = ap content_in made.this ∙ sym (ap content_in absent); held = made_held (g.files old) (g.files new) name absent made }

  module _ (old new : D) (queue number : ℕ) (bytes : List ℕ) (touches : Touches g (small_name queue number) old new (KeepsOrAdds 2 bytes)) where
    pub small_touches : TouchesOnly g (small_name queue number) old new
    small_touches = record { others = touches.others; any_moment = λ sharing lines h. held_laws.records old new sharing lines queue number bytes h touches.any_moment }

    pub small_held : Step (g.files old (small_name queue number)) (g.files new (small_name queue number)) (λ f k. content k.reads ≡ content f.reads ++ bytes) → Step (g.files old (small_name queue number)) (g.files new (small_name queue number)) (λ f k. k ≡ settled k.reads)
        → StaysHeld (g.files old) (g.files new)
    small_held more all sharing lines h = keeps_held.records (g.files old) (g.files new) sharing lines queue number bytes (t.readable old) (laws.added old new (small_name queue number) bytes touches.any_moment more all touches.others) h

  module _ (old new : D) (queue number : ℕ) (entries : List IndexEntry) (touches : Touches g (index_name queue number) old new (KeepsOrAdds 1 (entries_bytes entries))) (sharing : Sharing) (ms : List Message) (will : WillCome (g.files old) queue number sharing entries ms) where
    pub index_on : ComesHeldOn g old new queue sharing ms
    index_on lines h = held_laws.entries old new sharing lines queue number entries ms h (will h.contents (contents_read old (folder_of sharing h.contents) h.still)) touches.any_moment

    pub index_held : Step (g.files old (index_name queue number)) (g.files new (index_name queue number)) (λ f k. content k.reads ≡ content f.reads ++ entries_bytes entries) → Step (g.files old (index_name queue number)) (g.files new (index_name queue number)) (λ f k. k ≡ settled k.reads)
        → ComesHeld (g.files old) (g.files new) queue sharing ms
    index_held more all lines h =
        keeps_held.entries (g.files old) (g.files new) sharing lines queue number entries ms (t.readable old) (laws.added old new (index_name queue number) (entries_bytes entries) touches.any_moment more all touches.others) h (will h.contents (contents_read old (folder_of sharing h.contents) h.still))

  -- no call
  pub nothing_on : (disk : D) → StaysHeldOn g disk disk
  nothing_on disk sharing lines h = held_laws.quiet disk disk sharing lines h (moments.started g.moment g.left g.files t.only disk (IsImage (g.files disk)) (λ image is. is))

  pub nothing_touches : (disk : D) (name : Name) → TouchesOnly g name disk disk
  nothing_touches disk name = record { others = λ n other. refl; any_moment = nothing_on disk }

  -- a run that leaves what was held, and one after it
  pub stays_then : (old mid new : D) → StaysHeldOn g old mid → StaysHeld (g.files old) (g.files mid) → StaysHeldOn g mid new → StaysHeldOn g old new
  stays_then old mid new first rest second sharing lines h = moments.then g.moment g.left g.files t.only old mid new (HoldsSome (λ l. l ≡ lines)) (first sharing lines h) (second sharing lines (rest sharing lines h))

  pub touches_then : (old mid new : D) (name : Name) → TouchesOnly g name old mid → StaysHeld (g.files old) (g.files mid) → TouchesOnly g name mid new → TouchesOnly g name old new
  touches_then old mid new name first rest second = record {
    others = λ n other. second.others n other ∙ first.others n other;
    any_moment = stays_then old mid new first.any_moment rest second.any_moment;
  }

  pub stays_come : (old mid new : D) (queue : ℕ) (sharing : Sharing) (ms : List Message) → StaysHeldOn g old mid → StaysHeld (g.files old) (g.files mid) → ComesHeldOn g mid new queue sharing ms → ComesHeldOn g old new queue sharing ms
  stays_come old mid new queue sharing ms first rest second lines h = moments.then g.moment g.left g.files t.only old mid new (HoldsSome (IsEither lines queue ms))
      (held_wider g.moment g.left g.files t.only old mid (λ l. l ≡ lines) (IsEither lines queue ms) (λ l same. inl same) (first sharing lines h)) (second lines (rest sharing lines h))

  pub only_stays : (old new : D) (queue : ℕ) (sharing : Sharing) (ms : List Message) → StaysHeldOn g old new → ComesHeldOn g old new queue sharing ms
  only_stays old new queue sharing ms run lines h = held_wider g.moment g.left g.files t.only old new (λ l. l ≡ lines) (IsEither lines queue ms) (λ l same. inl same) (run sharing lines h)
