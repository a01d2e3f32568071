use Rattle.std.proofs.Common.{ap, ◌∙◌, []}
use Rattle.std.proofs.Math.Seq.{map-set_same}
use Rattle.cq_inbox.specs.Flags.{Joins}
use Rattle.cq_flying.specs.Ends.{words_id, look_end_id, names, seen_at, opened, OpensLowest}
use Rattle.cq_inbox.proofs.Shown.{same_at, set_shows, set_keeps}
use Rattle.cq_flying.proofs.Clients.{has_end, stays}
use Rattle.cq_flying.proofs.words.WordSeats.open.Goals as goal

pub open-requires-clause-words : goal.open-requires-clause-words
open-requires-clause-words c =
    let ends = c.args.self.now.ends.items in
    same_at look_end_id words_id ends c.args.words.now.clients.items c.args.client c.index_mut.result.now c.index-one.result.now c.requires.seats (has_end ends c.args.client c.requires.client) c.index_mut.ensures.value c.index-one.ensures

pub returns-clause-seats : goal.returns-clause-seats
returns-clause-seats c = map-set_same look_end_id c.args.self.now.ends.items c.args.client c.open.new.self c.index_mut.result.now (c.open.ensures.same.0 ∙ ap look_end_id c.index_mut.ensures.value)

pub returns-clause-opened : goal.returns-clause-opened
returns-clause-opened c =
    let ends = c.args.self.now.ends.items in
    set_shows names (λ a b. Joins c.args.delivery (opened a) (opened b)) ends c.args.client c.index_mut.result.now c.open.new.self [] (has_end ends c.args.client c.requires.client) c.index_mut.ensures.value c.open.ensures.opened

pub returns-clause-lowest : goal.returns-clause-lowest
returns-clause-lowest c =
    let ends = c.args.self.now.ends.items in
    set_shows names (OpensLowest c.args.delivery) ends c.args.client c.index_mut.result.now c.open.new.self [] (has_end ends c.args.client c.requires.client) c.index_mut.ensures.value c.open.ensures.lowest

pub returns-clause-seen : goal.returns-clause-seen
returns-clause-seen c k = stays seen_at c.args.self.now.ends.items c.args.client k c.index_mut.result.now c.open.new.self [] c.index_mut.ensures.value c.open.ensures.same.1

pub returns-clause-others : goal.returns-clause-others
returns-clause-others c k ne = set_keeps names c.args.self.now.ends.items c.args.client k c.open.new.self [] ne
