-- A queue that tests call on, and what their calls in memory keep of it.
use Rattle.std.specs.Prelude.{◌≡◌, ℕ, Option}
use Rattle.cq_disk.specs.declared.name.Name.{Name}
use Rattle.cq_disk.specs.File.{File}
use Rattle.cq_queue.specs.Lists.{AreBelow}
use Rattle.cq_queue.specs.Values.{IsOnDisk, IsRunning, QueueValue, StaysOnDisk}

-- It is running, the numbers of its segments are below this one, and its files are as its own calls left them.
pub record IsFit (n : ℕ) (v : QueueValue) (Told : Type 0) (files : Name → Option File) : Type 0 where
  pub running : IsRunning v
  pub numbers : AreBelow n v.segments
  pub at : Told → IsOnDisk v files

-- it runs on with the same segments, and where its files were as its own calls left them, they still are
pub record GoesOn (old new : QueueValue) : Type 0 where
  pub halted : new.halted ≡ old.halted
  pub segments : new.segments ≡ old.segments
  pub at : StaysOnDisk old new
