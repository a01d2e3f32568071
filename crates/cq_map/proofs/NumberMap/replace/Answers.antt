use Rattle.std.proofs.Common.{◌≡◌, sym, ap, subst, ◌∙◌, Option, None, IsSome}
use Rattle.std.specs.FinMap as map
use Rattle.cq_map.proofs.Seen.{seen, inserted}
use Rattle.cq_map.proofs.NumberMap.replace.Goals as goal

absent : {A : Type 0} (o : Option A) → o ≡ None → IsSome o → ⊥
absent o none some = let both = subst IsSome none some in cc

pub unreachable-requires : goal.unreachable-requires
unreachable-requires g c =
    let none = ap (λ m. map.get m c.args.key) (sym c.self.view_is) ∙ seen c.self.inside.entries.entries c.args.key ∙ sym c.in-Ok-None.ensures.old ∙ c.in-Ok-None.field-0-is in
    absent _ none c.requires

pub unreachable-requires-in-Err : goal.unreachable-requires-in-Err
unreachable-requires-in-Err g c =
    let none = ap (λ m. map.get m c.args.key) (sym c.self.view_is) ∙ seen c.self.inside.entries.entries c.args.key ∙ c.in-Err.ensures.absent in
    absent _ none c.requires

pub returns-clause-value : goal.returns-clause-value
returns-clause-value g c =
    ap (λ m. map.get m c.args.key) (sym c.self.view_is) ∙ seen c.self.inside.entries.entries c.args.key ∙ sym c.in-Ok-Some.ensures.old ∙ c.in-Ok-Some.field-0-is

pub returns-clause-rest : goal.returns-clause-rest
returns-clause-rest g c =
    inserted c.self.inside.entries.entries c.insert.new.self.entries c.args.key c.args.value c.in-Ok-Some.ensures.updates.0
    ∙ ap (λ m. map.insert m c.args.key c.args.value) c.self.view_is
