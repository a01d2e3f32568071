use Rattle.std.proofs.Common.{◌≡◌, ℕ, true, false, None, Some, Result, Ok, Err, OnErr, nat_eq, sym, ap, subst, ◌∙◌, arith}
use Rattle.std.proofs.lemmas.Bool.Decides.{nat_tests}
use Rattle.std.specs.FinMap.{get, insert}
use Rattle.cq_table.specs.declared.Place.{Place}
use Rattle.cq_table.specs.Records.{Places, live_bytes}
use Rattle.cq_table.specs.Located.{Located, IsByFile}
use Rattle.cq_table.proofs.ByFile.{put_here, put_moved, put_back, live_put, found_in}
use Rattle.cq_table.proofs.located.Table.set.Goals as goal

on_err : {A E : Type 0} (r : Result A E) (Q : Type 0) → Q → OnErr r Q
on_err (Ok x) Q q = tt
on_err (Err e) Q q = q

pub put_in-requires : goal.put_in-requires
put_in-requires c =
    let small = c.requires.small in
    let same : live_bytes (insert c.self.inside.by_id c.args.id c.args.place) c.args.place.file ≡ live_bytes (insert c.args.self.now.places c.args.id c.args.place) c.args.place.file = ap (λ (l : Located). live_bytes (insert l.places c.args.id c.args.place) c.args.place.file) c.self.view_is in
    omega (arith, small, same, live_put c.self.inside.by_id c.self.inside.by_file c.args.id c.args.place c.self.invariant)

apart : (a b : ℕ) → (a ≡ b → ⊥) → nat_eq a b ≡ false
apart a b h = grind (arith, nat_tests)

not_both : (a b : ℕ) → nat_eq a b ≡ false → a ≡ b → ⊥
not_both a b h e = grind (arith, nat_tests)

itself : (a b : ℕ) → a ≡ b → nat_eq a b ≡ true
itself a b e = grind (arith, nat_tests)

some_one : (x y : Place) → Some x ≡ Some y → x ≡ y
some_one x y e = cc

never : {P : Type 0} (x : Place) → Some x ≡ None → P
never x e = cc

pub returns-in_err-put_in-clause-elsewhere : goal.returns-in_err-put_in-clause-elsewhere
returns-in_err-put_in-clause-elsewhere c =
    on_err c.from_residual.result _ (λ p at same. not_both p.file c.args.place.file (found_in c.self.inside.by_id c.self.inside.by_file c.args.id p c.args.place.file c.self.invariant c.in_err-put_in.ensures.absent (ap (λ (l : Located). get l.places c.args.id) c.self.view_is ∙ at)) same)

pub invariant_of-self-in-Err : goal.invariant_of-self-in-Err
invariant_of-self-in-Err c =
    subst (λ (m : Places). IsByFile m c.take_from.new.files) (sym c.in-Err.ensures.err)
    (put_back c.self.inside.by_id c.self.inside.by_file c.put_in.new.files c.take_from.new.files c.args.id c.args.place c.self.invariant c.in_ok-put_in.ensures.ok c.take_from.ensures c.in-Err.ensures.absent)

pub invariant_of-self-then-old-place : goal.invariant_of-self-then-old-place
invariant_of-self-then-old-place c =
    subst (λ (m : Places). IsByFile m c.take_from-then-old-place.new.files) (sym c.in_default.ensures.ok)
    (put_moved c.self.inside.by_id c.self.inside.by_file c.put_in.new.files c.take_from-then-old-place.new.files c.args.id c.args.place c.in-Some.old c.self.invariant c.in_ok-put_in.ensures.ok c.take_from-then-old-place.ensures
    (ap (λ (l : Located). get l.places c.args.id) c.self.view_is ∙ sym c.in-Some.ensures)
    (apart c.in-Some.old.file c.args.place.file c.if-old-place.true))

pub invariant_of-self-else-old-place : goal.invariant_of-self-else-old-place
invariant_of-self-else-old-place c =
    subst (λ (m : Places). IsByFile m c.put_in.new.files) (sym c.in_default.ensures.ok)
    (put_here c.self.inside.by_id c.self.inside.by_file c.put_in.new.files c.args.id c.args.place c.self.invariant c.in_ok-put_in.ensures.ok
    (λ q found.
    let one : q ≡ c.in-Some.old = some_one q c.in-Some.old (sym found ∙ ap (λ (l : Located). get l.places c.args.id) c.self.view_is ∙ sym c.in-Some.ensures) in
    itself q.file c.args.place.file (ap (λ (x : Place). x.file) one ∙ c.if-old-place.false)))

pub invariant_of-self-in_default-old : goal.invariant_of-self-in_default-old
invariant_of-self-in_default-old c =
    subst (λ (m : Places). IsByFile m c.put_in.new.files) (sym c.in_default.ensures.ok)
    (put_here c.self.inside.by_id c.self.inside.by_file c.put_in.new.files c.args.id c.args.place c.self.invariant c.in_ok-put_in.ensures.ok
    (λ q found. never q (sym found ∙ ap (λ (l : Located). get l.places c.args.id) c.self.view_is ∙ sym c.get-old.ensures ∙ c.in_default-old.is)))
