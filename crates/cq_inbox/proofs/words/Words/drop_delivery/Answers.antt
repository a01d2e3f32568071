use Rattle.std.proofs.Common.{sym, ap, inl, ◌∙◌, ◌≡◌, true, subst, length, List, set, get_or, ℕ, ◌<◌, ◌≤◌, ◌≢◌, AllPairs, length-set}
use Rattle.std.proofs.lemmas.Bool.{both_ways}
use Rattle.std.proofs.lemmas.List.{get_or_default}
use Rattle.cq_inbox.specs.declared.words.Word.{Word}
use Rattle.cq_inbox.specs.Flags.{deliveries, IsDropped}
use Rattle.cq_inbox.proofs.OpenWords.{Distinct, Stands, down, not_opened, opened_here, here_dropped, drop_deliveries, drop_dropped}
use Rattle.cq_inbox.proofs.words.Words.drop_delivery.Goals as goal

pub invariant_of-self : goal.invariant_of-self
invariant_of-self c =
    let d : ℕ = c.args.delivery in
    let i : ℕ = c.in-Some.place in
    let old : List Word = c.self.inside.words.items in
    let was : old ≡ c.args.self.now = c.self.view_is in
    let w : Word = record { delivery = c.index_mut.result.now.delivery; dropped = true } in
    let here : Stands old i d = subst (λ (l : List Word). Stands l i d) (sym was) c.in-Some.ensures.1 in
    let is : c.index_mut.result.now.delivery ≡ d = ap (λ (x : Word). x.delivery) c.index_mut.ensures.value ∙ here c.index_mut.result.now in
    record {
      few = subst (λ (n : ℕ). n ≤ 64) (sym (length-set old i w)) c.self.invariant.few;
      room = c.self.invariant.room;
      distinct = subst (λ (l : List ℕ). AllPairs (λ x y. x ≢ y) l) (sym (drop_deliveries old i d w here is)) c.self.invariant.distinct;
    }

pub returns-clause-cause : goal.returns-clause-cause
returns-clause-cause c =
    let d : ℕ = c.args.delivery in
    let i : ℕ = c.in-Some.place in
    let now : List Word = c.args.self.now in
    let was : c.self.inside.words.items ≡ c.args.self.now = c.self.view_is in
    let near : i < length now = c.in-Some.ensures.0 in
    let here : Stands now i d = c.in-Some.ensures.1 in
    let distinct : Distinct now = subst (λ (l : List Word). Distinct l) was c.self.invariant.distinct in
    let read : c.index.result.now ≡ get_or now i (down d) = c.index.ensures ∙ (ap (λ (l : List Word). get_or l i c.index.result.now) was ∙ get_or_default now i c.index.result.now (down d) near) in
    (opened_here now i d near here, λ h. both_ways _ c.if-index.false (ap (λ (w : Word). w.dropped) read ∙ here_dropped now i d distinct near here h))

pub returns-clause-opened : goal.returns-clause-opened
returns-clause-opened c =
    let d : ℕ = c.args.delivery in
    let i : ℕ = c.in-Some.place in
    let old : List Word = c.self.inside.words.items in
    let was : old ≡ c.args.self.now = c.self.view_is in
    let here : Stands old i d = subst (λ (l : List Word). Stands l i d) (sym was) c.in-Some.ensures.1 in
    drop_deliveries old i d _ here (ap (λ (x : Word). x.delivery) c.index_mut.ensures.value ∙ here c.index_mut.result.now) ∙ ap deliveries was

pub returns-clause-dropped : goal.returns-clause-dropped
returns-clause-dropped c x =
    let d : ℕ = c.args.delivery in
    let i : ℕ = c.in-Some.place in
    let old : List Word = c.self.inside.words.items in
    let now : List Word = c.args.self.now in
    let was : old ≡ c.args.self.now = c.self.view_is in
    let here : Stands old i d = subst (λ (l : List Word). Stands l i d) (sym was) c.in-Some.ensures.1 in
    let is : c.index_mut.result.now.delivery ≡ d = ap (λ (w : Word). w.delivery) c.index_mut.ensures.value ∙ here c.index_mut.result.now in
    let new : set old i record { delivery = c.index_mut.result.now.delivery; dropped = true } ≡ set now i (down d) = λ k. set (was k) i (down (is k)) in
    let both = drop_dropped now i d c.in-Some.ensures.0 c.in-Some.ensures.1 x in (
      (λ h. both.0 (subst (λ (l : List Word). IsDropped l x) new h)),
      (λ h. subst (λ (l : List Word). IsDropped l x) (sym new) (both.1 h)),
    )

pub returns-in_default-clause-cause : goal.returns-in_default-clause-cause
returns-in_default-clause-cause c = inl (λ h. not_opened c.args.self.now c.args.delivery c.in_default.ensures h)
