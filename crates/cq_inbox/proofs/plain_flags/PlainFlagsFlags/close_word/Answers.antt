use Rattle.std.proofs.Common.{◌≡◌, ◌≢◌, ◌↔◌, ℕ, List, set, sym, subst, length, ◌<◌}
use Rattle.cq_inbox.specs.declared.words.Word.{Word}
use Rattle.cq_inbox.specs.Flags.{IsDropped, IsDroppedOf}
use Rattle.cq_inbox.proofs.OpenWords.{of_client, of_other}
use Rattle.cq_inbox.proofs.plain_flags.PlainFlagsFlags.close_word.Goals as goal

pub returns-clause-dropped : goal.returns-clause-dropped
returns-clause-dropped c _ d =
    let all : List (List Word) = c.self.inside.clients.items in
    let client : ℕ = c.args.client in
    let was : all ≡ c.args.self.now = c.self.view_is in
    let near : client < length all = subst (λ (l : List (List Word)). client < length l) (sym was) c.requires.client in
    let new : List Word = c.close.new.self in
    subst (λ (l : List (List Word)). IsDroppedOf (set all client new) client d ↔ (IsDroppedOf l client d × (d ≢ c.args.delivery))) was
    (of_client (λ ws new'. IsDropped new' d ↔ (IsDropped ws d × (d ≢ c.args.delivery))) all client c.index_mut.result.now new near c.index_mut.ensures.value (c.close.ensures.dropped d))

pub returns-clause-other_dropped : goal.returns-clause-other_dropped
returns-clause-other_dropped c _ other d ne =
    let all : List (List Word) = c.self.inside.clients.items in
    let was : all ≡ c.args.self.now = c.self.view_is in
    subst (λ (l : List (List Word)). IsDroppedOf (set all c.args.client c.close.new.self) other d ↔ IsDroppedOf l other d) was (of_other all c.args.client other c.close.new.self d ne)
