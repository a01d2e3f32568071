use Rattle.std.proofs.Common.{sym, ap, ◌∙◌, ◌≡◌, subst, length, List, get_or, ℕ, ◌<◌}
use Rattle.std.proofs.lemmas.List.{get_or_default}
use Rattle.cq_inbox.specs.declared.words.Word.{Word}
use Rattle.cq_inbox.proofs.OpenWords.{Distinct, Stands, here_dropped, dropped_here, down}
use Rattle.cq_inbox.proofs.words.Words.is_dropped.Goals as goal

pub returns-in-Some : goal.returns-in-Some
returns-in-Some c =
    let d : ℕ = c.args.delivery in
    let i : ℕ = c.in-Some.place in
    let now : List Word = c.args.self.now in
    let was : c.self.inside.words.items ≡ c.args.self.now = c.self.view_is in
    let near : i < length now = c.in-Some.ensures.0 in
    let here : Stands now i d = c.in-Some.ensures.1 in
    let distinct : Distinct now = subst (λ (l : List Word). Distinct l) was c.self.invariant.distinct in
    let read : c.index.result.now ≡ get_or now i (down d) = c.index.ensures ∙ (ap (λ (l : List Word). get_or l i c.index.result.now) was ∙ get_or_default now i c.index.result.now (down d) near) in
    let off : c.index.result.now.dropped ≡ (get_or now i (down d)).dropped = ap (λ (w : Word). w.dropped) read in (
      (λ h. dropped_here now i d near here (sym off ∙ h)),
      (λ h. off ∙ here_dropped now i d distinct near here h),
    )
