use Rattle.std.proofs.Common.{◌≡◌, ℕ, List, [], ◌∷◌, refl, ap, subst}
use Rattle.cq_inbox.specs.Flags.{Joins, opened_of}
use Rattle.cq_inbox.specs.declared.plain_flags.PlainFlags.{PlainFlags}
use Rattle.cq_desk.proofs.Words.{words-join}
use Rattle.cq_desk.proofs.tests.words_are_closed.Goals as goal

pub close_all-requires-clause-words : goal.close_all-requires-clause-words
close_all-requires-clause-words g c =
    let none : opened_of c.in_ok-flags.flags 0 ≡ [] = ap (λ f. opened_of f 0) c.in_ok-flags.ensures in
    let more : List ℕ = opened_of c.open_word.new.self 0 in
    words-join [] more [] (record { delivery = 4; queue = 0 }) (record { count = refl; each = λ d. refl })
    (subst (λ (w : List ℕ). Joins 4 w more) none c.open_word.ensures.opened)
