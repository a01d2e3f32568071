use Rattle.std.proofs.Common.{◌≡◌, ℕ, Bool, true, Option, None, Some, IsSome, is_some, not, unwrap_or, Bor, refl, sym, ap, subst, ◌∙◌}
use Rattle.std.specs.Ordering.{nat_cmp}
use Rattle.std.specs.FinMap as map
use Rattle.std.specs.Option.{option_copied}
use Rattle.cq_table.specs.Records.{Places, records_at, ChangesFile}
use Rattle.cq_table.proofs.ByFile.{replaced, nothing_taken, got_inserted}
use Rattle.cq_table.proofs.files.take_from.Goals as goal

none_of : {X : Type 0} (o : Option (Bor X)) (m : Option X) (b : Bool) → is_some o ≡ not b → b ≡ true → option_copied o ≡ m → m ≡ None
none_of None m b is empty at = sym at
none_of (Some x) m b is empty at = let both = is ∙ ap not empty in cc

pub returns-then-is_none : goal.returns-then-is_none
returns-then-is_none c =
    nothing_taken c.args.files.now c.args.file c.args.id
    (ap (map.get c.args.files.now) (sym c.from-file.ensures) ∙ none_of c.get.result (map.get c.args.files.now c.from-file.result) c.is_none.result c.is_none.ensures c.if-is_none.true c.get.ensures)

pub replace-requires : goal.replace-requires
replace-requires c = subst (λ (m : map.FinMap nat_cmp Places). IsSome (map.get m c.from-file.result)) (sym c.replace-records.ensures.rest) (got_inserted c.args.files.now c.from-file.result c.new.result)

pub returns : goal.returns
returns c =
    let old = c.args.files.now in
    let was : c.replace-records.result ≡ records_at old c.args.file = sym (ap (λ o. unwrap_or o map.empty) c.replace-records.ensures.value) ∙ ap (records_at old) c.from-file.ensures in
    let now : c.take.new.self ≡ map.remove (records_at old c.args.file) c.args.id = c.take.ensures ∙ ap (λ (m : Places). map.remove m c.args.id) was in
    let new : c.replace.new.self ≡ map.insert (map.insert old c.from-file.result c.new.result) c.from-file.result c.take.new.self = c.replace.ensures.rest ∙ ap (λ (m : map.FinMap nat_cmp Places). map.insert m c.from-file.result c.take.new.self) c.replace-records.ensures.rest in
    subst (ChangesFile old c.replace.new.self c.args.file) now
    (subst (λ (n : ℕ). ChangesFile old c.replace.new.self n c.take.new.self) c.from-file.ensures
    (subst (λ (m : map.FinMap nat_cmp Places). ChangesFile old m c.from-file.result c.take.new.self) (sym new) (replaced old old c.from-file.result c.new.result c.take.new.self (λ f. refl))))
