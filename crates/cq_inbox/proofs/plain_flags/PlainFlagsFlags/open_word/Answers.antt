use Rattle.std.proofs.Common.{◌≡◌, ◌↔◌, ℕ, List, set, sym, subst, ⊎_elim, length, ◌<◌}
use Rattle.std.proofs.lemmas.Bool.{cases_eq}
use Rattle.cq_inbox.specs.declared.words.Word.{Word}
use Rattle.cq_inbox.specs.Flags.{IsDropped, IsDroppedOf}
use Rattle.cq_inbox.proofs.OpenWords.{of_client, of_other}
use Rattle.cq_inbox.proofs.plain_flags.PlainFlagsFlags.open_word.Goals as goal

pub returns-clause-dropped : goal.returns-clause-dropped
returns-clause-dropped c _ other d =
    let all : List (List Word) = c.self.inside.clients.items in
    let client : ℕ = c.args.client in
    let was : all ≡ c.args.self.now = c.self.view_is in
    let near : client < length all = subst (λ (l : List (List Word)). client < length l) (sym was) c.requires.client in
    let new : List Word = c.open.new.self in
    let both : IsDroppedOf (set all client new) other d ↔ IsDroppedOf all other d = ⊎_elim
    (λ (e : other ≡ client). subst (λ (k : ℕ). IsDroppedOf (set all client new) k d ↔ IsDroppedOf all k d) (sym e)
    (of_client (λ ws new'. IsDropped new' d ↔ IsDropped ws d) all client c.index_mut.result.now new near c.index_mut.ensures.value (c.open.ensures.dropped d)))
    (λ ne. of_other all client other new d ne)
    (cases_eq other client) in
    subst (λ (l : List (List Word)). IsDroppedOf (set all client new) other d ↔ IsDroppedOf l other d) was both
