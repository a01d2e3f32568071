use Rattle.std.proofs.Common.{◌≡◌, ℕ, List, true, sym, subst, ◌∙◌}
use Rattle.std.specs.Str.Parse.{ParsesUnsigned}
use Rattle.cq_grammar.specs.Words.{is_decimal}
use Rattle.cq_grammar.proofs.Decimals.{decimal-utf8, refused}
use Rattle.cq_grammar.proofs.numbers.number_of.Goals as goal

pub returns-in_default : goal.returns-in_default
returns-in_default c =
    let decimal : is_decimal c.args.word.now ≡ true = sym c.is_decimal.ensures ∙ c.if-not-is_decimal.false in
    absurd (c.in_default.ensures.cases.0 (decimal-utf8 c.args.word.now decimal))

pub returns-in-Err : goal.returns-in-Err
returns-in-Err c =
    let decimal : is_decimal c.args.word.now ≡ true = sym c.is_decimal.ensures ∙ c.if-not-is_decimal.false in
    let parsed = subst (λ (text : List ℕ). ParsesUnsigned 64 10 text c.parse.result) c.in-Ok.ensures.cases.0 c.parse.ensures.value.0 in
    sym (refused c.args.word.now c.parse.result c.in-Err.field-0 parsed decimal c.in-Err.is)
