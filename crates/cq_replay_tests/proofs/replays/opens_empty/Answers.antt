use Rattle.std.proofs.Common.{◌≡◌, true, rules, sym, ◌∙◌, subst}
use Rattle.cq_disk.specs.Files.{NamesAre}
use Rattle.cq_replay_tests.proofs.replays.opens_empty.Goals as goal

pub open-requires-clause-one_queue : goal.open-requires-clause-one_queue
open-requires-clause-one_queue c = λ told n small index.
    let both : c.are_both.result ≡ true = search rules in
    c.list.ensures.files n ∙ c.are_both.ensures _ both (subst (NamesAre _) (sym c.deref.ensures.value) c.in-Ok.ensures.names) n small index
