use Rattle.std.proofs.Common.{rules, ◌≡◌, inr, ℕ, List, map, refl, sym, subst}
use Rattle.std.specs.Prelude.{filter}
use Rattle.std.specs.List.{AllByRecursion}
use Rattle.cq_disk.specs.declared.name.Kind.TheVariants.{Small}
use Rattle.cq_small.specs.Store.{small_name, IsOpen}
use Rattle.cq_index.specs.Places.{index_name}
use Rattle.cq_folder.specs.Queue.{AreStores, has_number, indexes_of, stores_of}
use Rattle.cq_back_q.specs.Numbered.{AreThere, HaveRead}
use Rattle.cq_back_q.specs.Read.{AreReadStores}
use Rattle.cq_back_q.proofs.OfNames.{are_stores, numbers_there, ok_of, read_stores}
use Rattle.cq_back_q.proofs.Naming.{rise_in}
use Rattle.cq_back_q.proofs.named.open_stores.Goals as goal

pub stores_at-requires-clause-there : goal.stores_at-requires-clause-there
stores_at-requires-clause-there g c = λ told.
    let files = g.D.Disk.files c.args.disk.now in
    let ns = c.in_ok-numbers.numbers.items in
    let same : c.deref.result.now ≡ ns = search rules in
    subst (AreThere (small_name c.args.queue) files) (sym same)
    (numbers_there Small c.args.queue files c.args.names.now ns (inr refl) (c.requires.names told) c.in_ok-numbers.ensures)

pub stores_at-requires-clause-rise : goal.stores_at-requires-clause-rise
stores_at-requires-clause-rise g c = rise_in (index_name c.args.queue) (indexes_of c.args.segments.now) c.requires.indexes.rise

pub returns-clause-stores : goal.returns-clause-stores
returns-clause-stores g c =
    let ns = c.in_ok-numbers.numbers.items in
    let same : c.deref.result.now ≡ ns = search rules in
    let p = has_number (indexes_of c.args.segments.now) in
    ok_of c.stores_at.result (λ s. stores_of s.items ≡ map (small_name c.args.queue) (filter p c.deref.result.now)) (λ s. AllByRecursion IsOpen s.items) (λ s. AreStores c.args.queue c.args.segments.now s.items)
    (λ s named opened. are_stores c.args.queue c.args.names.now ns c.args.segments.now s.items c.in_ok-numbers.ensures (subst (λ (l : List ℕ). stores_of s.items ≡ map (small_name c.args.queue) (filter p l)) same named) opened)
    c.stores_at.ensures.named c.stores_at.ensures.are_open

pub returns-clause-read : goal.returns-clause-read
returns-clause-read g c = let d = g.D.Disk in
    let files = d.files c.args.disk.now in
    let ns = c.in_ok-numbers.numbers.items in
    let same : c.deref.result.now ≡ ns = search rules in
    let p = has_number (indexes_of c.args.segments.now) in
    ok_of c.stores_at.result (λ s. stores_of s.items ≡ map (small_name c.args.queue) (filter p c.deref.result.now)) (λ s. d.tells → HaveRead c.args.queue files c.deref.result.now s.items) (λ s. d.tells → AreReadStores c.args.queue c.args.segments.now s.items files)
    (λ s named read told. read_stores c.args.queue c.args.names.now ns c.args.segments.now s.items c.in_ok-numbers.ensures (subst (λ (l : List ℕ). stores_of s.items ≡ map (small_name c.args.queue) (filter p l)) same named)
    files (c.requires.names told) (subst (λ (l : List ℕ). HaveRead c.args.queue files l s.items) same (read told)))
    c.stores_at.ensures.named c.stores_at.ensures.read
