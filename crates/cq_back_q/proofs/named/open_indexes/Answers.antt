use Rattle.std.proofs.Common.{rules, ◌≡◌, inl, ℕ, List, map, refl, sym, subst}
use Rattle.std.specs.List.{AllByRecursion}
use Rattle.cq_disk.specs.declared.name.Kind.TheVariants.{Index}
use Rattle.cq_index.specs.Places.{index_name}
use Rattle.cq_index.specs.Segments.{IsOpen}
use Rattle.cq_folder.specs.Queue.{AreIndexes, indexes_of}
use Rattle.cq_back_q.specs.Numbered.{AreThere, IsReadIndex}
use Rattle.cq_back_q.specs.Read.{AreReadIndexes}
use Rattle.cq_back_q.proofs.OfNames.{are_indexes, numbers_there, ok_of, read_indexes}
use Rattle.cq_back_q.proofs.named.open_indexes.Goals as goal

pub indexes_at-requires : goal.indexes_at-requires
indexes_at-requires g c =
    let files = g.D.Disk.files c.args.disk.now in
    let ns = c.in_ok-numbers.numbers.items in
    let same : c.deref.result.now ≡ ns = search rules in
    record {
      there = λ told. subst (AreThere (index_name c.args.queue) files) (sym same)
          (numbers_there Index c.args.queue files c.args.names.now ns (inl refl) (c.requires.names told) c.in_ok-numbers.ensures);
    }

pub returns-clause-indexes : goal.returns-clause-indexes
returns-clause-indexes g c =
    let ns = c.in_ok-numbers.numbers.items in
    let same : c.deref.result.now ≡ ns = search rules in
    ok_of c.indexes_at.result (λ s. indexes_of s.items ≡ map (index_name c.args.queue) c.deref.result.now) (λ s. AllByRecursion IsOpen s.items) (λ s. AreIndexes c.args.queue s.items)
    (λ s named opened. are_indexes c.args.queue c.args.names.now ns s.items c.in_ok-numbers.ensures (subst (λ (l : List ℕ). indexes_of s.items ≡ map (index_name c.args.queue) l) same named) opened)
    c.indexes_at.ensures.named c.indexes_at.ensures.are_open

pub returns-clause-read : goal.returns-clause-read
returns-clause-read g c = let d = g.D.Disk in
    let files = d.files c.args.disk.now in
    let ns = c.in_ok-numbers.numbers.items in
    let same : c.deref.result.now ≡ ns = search rules in
    ok_of c.indexes_at.result (λ s. indexes_of s.items ≡ map (index_name c.args.queue) c.deref.result.now) (λ s. d.tells → AllByRecursion (IsReadIndex files) s.items) (λ s. d.tells → AreReadIndexes c.args.queue s.items files)
    (λ s named read told. read_indexes c.args.queue files c.args.names.now ns s.items (c.requires.names told) c.in_ok-numbers.ensures (subst (λ (l : List ℕ). indexes_of s.items ≡ map (index_name c.args.queue) l) same named) (read told))
    c.indexes_at.ensures.named c.indexes_at.ensures.read
