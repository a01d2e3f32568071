use Rattle.std.proofs.Common.{ap, ◌∙◌, ◌≡◌, [], ◌∷◌, ◌++◌, ℕ, map, set, get_or, MatchBool}
use Rattle.std.proofs.Math.Seq.{map-set_same}
use Rattle.cq_flying.specs.Ends.{words_id, look_end_id, names, seen_at, end_looks, IsLook}
use Rattle.cq_inbox.proofs.Shown.{same_at, set_shows, set_keeps}
use Rattle.cq_flying.proofs.Clients.{has_end, stays}
use Rattle.cq_flying.proofs.words.WordSeats.dropped.Goals as goal

pub dropped-requires-clause-words : goal.dropped-requires-clause-words
dropped-requires-clause-words c =
    let ends = c.args.self.now.ends.items in
    same_at look_end_id words_id ends c.args.words.now.clients.items c.args.client c.index_mut.result.now c.index-one.result.now c.requires.seats (has_end ends c.args.client c.requires.client) c.index_mut.ensures.value c.index-one.ensures

pub returns-clause-seats : goal.returns-clause-seats
returns-clause-seats c = map-set_same look_end_id c.args.self.now.ends.items c.args.client c.dropped.new.self c.index_mut.result.now (c.dropped.ensures.same.0 ∙ ap look_end_id c.index_mut.ensures.value)

pub returns-clause-names : goal.returns-clause-names
returns-clause-names c k = stays names c.args.self.now.ends.items c.args.client k c.index_mut.result.now c.dropped.new.self [] c.index_mut.ensures.value c.dropped.ensures.same.1

pub returns-clause-seen : goal.returns-clause-seen
returns-clause-seen c =
    let ends = c.args.self.now.ends.items in
    set_shows seen_at (λ a b. MatchBool c.dropped.result (b ≡ a ++ c.args.delivery ∷ []) (b ≡ a)) ends c.args.client c.index_mut.result.now c.dropped.new.self [] (has_end ends c.args.client c.requires.client) c.index_mut.ensures.value c.dropped.ensures.seen

pub returns-clause-looks : goal.returns-clause-looks
returns-clause-looks c =
    let ends = c.args.self.now.ends.items in
    let i : ℕ = c.args.client in
    let near = has_end ends i c.requires.client in
    let looks = set_shows end_looks (IsLook c.dropped.result c.args.delivery (names c.index_mut.result.now)) ends i c.index_mut.result.now c.dropped.new.self [] near c.index_mut.ensures.value c.dropped.ensures.look in
    let look = set_shows names (λ a _. IsLook c.dropped.result c.args.delivery a (get_or (map end_looks ends) i []) (get_or (map end_looks (set ends i c.dropped.new.self)) i [])) ends i c.index_mut.result.now c.dropped.new.self [] near c.index_mut.ensures.value looks in
    record { look = look; others = λ k ne. set_keeps end_looks ends i k c.dropped.new.self [] ne }

pub returns-clause-others : goal.returns-clause-others
returns-clause-others c k ne = set_keeps seen_at c.args.self.now.ends.items c.args.client k c.dropped.new.self [] ne
