-- What segments know of their files is a proposition, so that a struct can keep it.
use Rattle.std.proofs.Common.{List, [], ◌∷◌, ℕ, Option}
use Rattle.std.proofs.Props.{props}
use Rattle.std.specs.List.{AllByRecursion}
use Rattle.cq_disk.specs.declared.name.Name.{Name}
use Rattle.cq_disk.specs.File.{File}
use Rattle.cq_queue.specs.declared.segment.QueueSegment.{QueueSegment}
use Rattle.cq_queue.specs.QueueSegment.{KnowsFiles}
use Rattle.cq_queue.specs.Lists.{AreAt}

pub KnowsFiles-prop : (s : QueueSegment) (files : Name → Option File) → IsProp (KnowsFiles s files)
KnowsFiles-prop s files = hlevel props

each_prop : (list : List QueueSegment) (files : Name → Option File) → IsProp (AllByRecursion (λ s. KnowsFiles s files) list)
each_prop [] files = hlevel
each_prop (s ∷ list) files = hlevel (KnowsFiles-prop s files, each_prop list files)

pub AreAt-prop : (queue : ℕ) (list : List QueueSegment) (files : Name → Option File) → IsProp (AreAt queue list files)
AreAt-prop queue list files = hlevel (each_prop list files, props)
