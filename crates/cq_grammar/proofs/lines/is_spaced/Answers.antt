use Rattle.std.proofs.Common.{rules, sym, ◌∙◌, ℕ, List, Bor, length, not}
use Rattle.std.specs.Prelude.{◌==◌}
use Rattle.std.proofs.lemmas.Iterator.{YieldsList-from_slice}
use Rattle.std.proofs.lemmas.Iterator.Search.{all_from_yields_List}
use Rattle.std.proofs.lemmas.List.Folds.{list_all-map}
use Rattle.cq_grammar.proofs.lines.is_spaced.Goals as goal

pub returns : goal.returns
returns c =
    all_from_yields_List (λ (w : Bor (List ℕ)). not (length w.now == 0)) _ _ _ c.all.ensures.ran (YieldsList-from_slice c.args.words.now cc) (λ x b q k. search rules)
    ∙ sym (list_all-map (λ (w : List ℕ). not (length w == 0)) (λ (w : Bor (List ℕ)). w.now) c.args.words.now)
