use Rattle.std.proofs.Common.{◌≡◌, Bool, false, Option, None, Some, IsSome, is_some, Result, Ok, Err, OnOk, OnErr, Bor, sym, ap, subst, ◌∙◌}
use Rattle.std.specs.Ordering.{nat_cmp}
use Rattle.std.specs.FinMap as map
use Rattle.std.specs.Option.{option_copied}
use Rattle.cq_table.specs.Records.{Places, records_at}
use Rattle.cq_table.proofs.ByFile.{no_records, opened, got_inserted}
use Rattle.cq_table.proofs.files.open.Goals as goal

on_ok : {A E : Type 0} (r : Result A E) (P Q : Type 0) → (P → Q) → OnOk r P → OnOk r Q
on_ok (Ok x) P Q f p = f p
on_ok (Err e) P Q f p = tt

on_err : {A E : Type 0} (r : Result A E) (Q : Type 0) → Q → OnErr r Q
on_err (Ok x) Q q = tt
on_err (Err e) Q q = q

either : {A E : Type 0} (r : Result A E) (P Q C : Type 0) → OnOk r P → OnErr r Q → (P → C) → (Q → C) → C
either (Ok x) P Q C p q f g = f p
either (Err e) P Q C p q f g = g q

absent : {X : Type 0} (o : Option (Bor X)) (m : Option X) (b : Bool) → b ≡ is_some o → b ≡ false → option_copied o ≡ m → m ≡ None
absent None m b is never at = sym at
absent (Some x) m b is never at = let both = sym is ∙ never in cc

pub returns-clause-there : goal.returns-clause-there
returns-clause-there c = on_ok c.insert.result _ _ (λ (e : c.insert.new.self ≡ map.insert c.args.files.now c.args.file c.new.result). subst (λ (m : map.FinMap nat_cmp Places). IsSome (map.get m c.args.file)) (sym e) (got_inserted c.args.files.now c.args.file c.new.result)) c.insert.ensures.ok

pub returns-clause-same : goal.returns-clause-same
returns-clause-same c = λ f.
    let none = absent c.get.result (map.get c.args.files.now c.args.file) c.is_some.result c.is_some.ensures c.if-is_some.false c.get.ensures in
    either c.insert.result _ _ _ c.insert.ensures.ok c.insert.ensures.err
    (λ (e : c.insert.new.self ≡ map.insert c.args.files.now c.args.file c.new.result). ap (λ (m : map.FinMap nat_cmp Places). records_at m f) (e ∙ ap (map.insert c.args.files.now c.args.file) c.new.ensures) ∙ opened c.args.files.now c.args.file none f)
    (λ (e : c.insert.new.self ≡ c.args.files.now). ap (λ (m : map.FinMap nat_cmp Places). records_at m f) e)

pub returns-clause-absent : goal.returns-clause-absent
returns-clause-absent c = on_err c.insert.result _ (no_records c.args.files.now c.args.file (absent c.get.result (map.get c.args.files.now c.args.file) c.is_some.result c.is_some.ensures c.if-is_some.false c.get.ensures))
