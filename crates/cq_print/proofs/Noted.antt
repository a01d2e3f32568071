-- One more of the opened lines.
use Rattle.std.proofs.Common.{◌≡◌, ℕ, ◌+◌, cond, List, [], ◌∷◌, ◌++◌, take, refl, sym, ap, ◌∙◌, add-one}
use Rattle.std.specs.Prelude.{◌==◌, Option, None, Some, slice_get}
use Rattle.std.proofs.Math.Seq.{take-suc}
use Rattle.std.proofs.lemmas.Option.{get_or_from_slice_get, slice_get_within}
use Rattle.cq_journal.specs.declared.lines.Line.{Line}
use Rattle.cq_print.specs.Bodies.{or_else, line_body}

or_else-None : {A : Type 0} (o : Option A) → or_else o None ≡ o
or_else-None (Some x) = refl
or_else-None None = refl

or_else-assoc : {A : Type 0} (a b c : Option A) → or_else a (or_else b c) ≡ or_else (or_else a b) c
or_else-assoc (Some x) b c = refl
or_else-assoc None b c = refl

line_body-push : (x : ℕ) (ls : List Line) (l : Line) → line_body x (ls ++ l ∷ []) ≡ or_else (cond (l.id == x) (Some l.body) None) (line_body x ls)
line_body-push x [] l = sym (or_else-None (cond (l.id == x) (Some l.body) None))
line_body-push x (k ∷ ks) l =
    ap (λ o. or_else o (cond (k.id == x) (Some k.body) None)) (line_body-push x ks l)
    ∙ sym (or_else-assoc (cond (l.id == x) (Some l.body) None) (line_body x ks) (cond (k.id == x) (Some k.body) None))

pub taken-next : (lines : List Line) (at : ℕ) (l : Line) → slice_get lines at ≡ Some l → take (at + 1) lines ≡ take at lines ++ l ∷ []
taken-next lines at l h =
    rw (add-one, take-suc lines at l (slice_get_within lines at l h)) (ap (λ k. take at lines ++ k ∷ []) (get_or_from_slice_get lines at l l h))

pub noted-next : (x at next : ℕ) (lines : List Line) (l : Line) (old : Option (List ℕ)) → slice_get lines at ≡ Some l → next ≡ at + 1
    → or_else (cond (l.id == x) (Some l.body) None) (or_else (line_body x (take at lines)) old) ≡ or_else (line_body x (take next lines)) old
noted-next x at next lines l old h n =
    or_else-assoc (cond (l.id == x) (Some l.body) None) (line_body x (take at lines)) old
    ∙ ap (λ o. or_else o old) (sym (line_body-push x (take at lines) l))
    ∙ ap (λ ls. or_else (line_body x ls) old) (sym (taken-next lines at l h))
    ∙ ap (λ i. or_else (line_body x (take i lines)) old) (sym n)
