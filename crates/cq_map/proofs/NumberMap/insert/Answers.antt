use Rattle.std.proofs.Common.{sym, ap, ◌∙◌, Result, Ok, Err, OnErr}
use Rattle.std.specs.FinMap as map
use Rattle.cq_map.proofs.Seen.{seen, inserted}
use Rattle.cq_map.proofs.NumberMap.insert.Goals as goal

on_err : {A E : Type 0} (r : Result A E) (P : Type 0) → P → OnErr r P
on_err (Ok _) P p = tt
on_err (Err _) P p = p

pub returns-in_err-insert-clause-absent : goal.returns-in_err-insert-clause-absent
returns-in_err-insert-clause-absent g c =
    on_err _ _ (ap (λ m. map.get m c.args.key) (sym c.self.view_is)
    ∙ seen c.self.inside.entries.entries c.args.key
    ∙ c.in_err-insert.ensures.absent)

pub returns-clause-ok : goal.returns-clause-ok
returns-clause-ok g c =
    inserted c.self.inside.entries.entries c.insert.new.self.entries c.args.key c.args.value c.in_ok-insert.ensures.updates.0
    ∙ ap (λ m. map.insert m c.args.key c.args.value) c.self.view_is
