use Rattle.std.proofs.Common.{◌≡◌, ◌∙◌, Some, length, refl, ap}
use Rattle.std.specs.Prelude.{slice_get}
use Rattle.std.proofs.lemmas.Option.{slice_get_read}
use Rattle.cq_small.specs.Store as small
use Rattle.cq_back_q.proofs.Numbered.{all_at, store_named, stores_rise}
use Rattle.cq_back_q.proofs.segment.read_segment.Goals as goal

pub store_of-requires : goal.store_of-requires
store_of-requires g c = stores_rise c.args.queue c.args.stores.now c.requires.stores

pub read_beside-requires-clause-pair : goal.read_beside-requires-clause-pair
read_beside-requires-clause-pair g c =
    let stores = c.args.stores.now in
    let t = c.index-stores-place.result in
    let is : slice_get stores c.in-Some.place ≡ Some t = slice_get_read stores (length stores) c.in-Some.place t refl c.in-Some.ensures.inside c.index-stores-place.is in
    record {
      index_is = c.requires.index;
      small_is = store_named c.args.queue stores c.number-number.result c.in-Some.place t c.requires.stores is c.in-Some.ensures ∙ ap (small.small_name c.args.queue) c.number-number.ensures;
    }

pub read_beside-requires-clause-told : goal.read_beside-requires-clause-told
read_beside-requires-clause-told g c = λ told.
    let files = g.D.Disk.files c.args.disk.now in
    let stores = c.args.stores.now in
    let t = c.index-stores-place.result in
    let is : slice_get stores c.in-Some.place ≡ Some t = slice_get_read stores (length stores) c.in-Some.place t refl c.in-Some.ensures.inside c.index-stores-place.is in
    record {
      index_knows = (c.requires.told told).index_knows;
      small_knows = all_at (λ u. small.IsSmallStore u (files (small.name_of u))) stores c.in-Some.place t is (c.requires.told told).small_know;
    }
