use Rattle.std.proofs.Common.{◌≡◌, ◌⊎◌, ◌↔◌, ℕ, List, [], set, sym, subst, length, ◌<◌, get_or, MatchBool, Contains}
use Rattle.std.specs.Bool.{OnTrue}
use Rattle.cq_inbox.specs.declared.words.Word.{Word}
use Rattle.cq_inbox.specs.Flags.{IsDropped, IsDroppedOf, deliveries}
use Rattle.cq_inbox.proofs.OpenWords.{of_client}
use Rattle.cq_inbox.proofs.plain_flags.PlainFlags.drop_delivery.Goals as goal

pub returns-clause-cause : goal.returns-clause-cause
returns-clause-cause c =
    let all : List (List Word) = c.self.inside.clients.items in
    let client : ℕ = c.args.client in
    let was : all ≡ c.args.self.now = c.self.view_is in
    let near : client < length all = subst (λ (l : List (List Word)). client < length l) (sym was) c.requires in
    let d : ℕ = c.args.delivery in
    let Cause : List Word → Type 0 = λ ws. MatchBool c.drop_delivery.result (Contains (deliveries ws) d × ¬ IsDropped ws d) ((¬ Contains (deliveries ws) d) ⊎ IsDropped ws d) in
    subst (λ (l : List (List Word)). Cause (get_or l client [])) was (of_client (λ ws _. Cause ws) all client c.index_mut.result.now c.drop_delivery.new.self near c.index_mut.ensures.value c.drop_delivery.ensures.cause)

pub returns-clause-dropped : goal.returns-clause-dropped
returns-clause-dropped c =
    let all : List (List Word) = c.self.inside.clients.items in
    let client : ℕ = c.args.client in
    let was : all ≡ c.args.self.now = c.self.view_is in
    let near : client < length all = subst (λ (l : List (List Word)). client < length l) (sym was) c.requires in
    let d : ℕ = c.args.delivery in
    let new : List Word = c.drop_delivery.new.self in
    subst (λ (l : List (List Word)). OnTrue c.drop_delivery.result ((x : ℕ) → IsDroppedOf (set all client new) client x ↔ (IsDroppedOf l client x ⊎ (x ≡ d)))) was
    (of_client (λ ws new'. OnTrue c.drop_delivery.result ((x : ℕ) → IsDropped new' x ↔ (IsDropped ws x ⊎ (x ≡ d)))) all client c.index_mut.result.now new near c.index_mut.ensures.value c.drop_delivery.ensures.dropped)
