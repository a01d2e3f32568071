use Rattle.std.proofs.Common.{◌≡◌, refl, sym, ap, subst, ◌∙◌, List, ℕ, Option, None, Some, slice_get, length, IfSome, slice_index_or, Bor}
use Rattle.std.specs.Option.{option_copied}
use Rattle.std.specs.Slice.{IsItemAt}
use Rattle.std.proofs.lemmas.Option.{slice_get_past, slice_get_read}
use Rattle.cq_pending.specs.Messages.{ids_of, AreDifferent}
use Rattle.cq_pending.proofs.Held.{ids_of-messages, different}
use Rattle.cq_pending.proofs.Pending.at.Goals as goal

copied_item : (xs : List ℕ) (i : ℕ) (o : Option (Bor ℕ)) → IsItemAt xs i o → IfSome o (λ x. x.now ≡ slice_index_or xs i x.now) → option_copied o ≡ slice_get xs i
copied_item xs i None item is = sym (slice_get_past xs i item.3)
copied_item xs i (Some x) item is = sym (slice_get_read xs (length xs) i x.now refl item.3.0 is)

pub returns-clause-id : goal.returns-clause-id
returns-clause-id c =
    c.copied.ensures
    ∙ copied_item c.self.inside.ids.items c.args.index c.get.result c.get.ensures.item c.get.ensures.lookup
    ∙ ap (λ xs. slice_get xs c.args.index) (sym (ids_of-messages c.self.inside.ids.items c.self.inside.bodies) ∙ ap ids_of c.self.view_is)

pub returns-clause-once : goal.returns-clause-once
returns-clause-once c = subst (λ (ms : List (ℕ × List ℕ)). AreDifferent (ids_of ms)) c.self.view_is (different _ _ c.self.invariant)
