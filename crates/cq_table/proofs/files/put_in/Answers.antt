use Rattle.std.proofs.Common.{◌≡◌, ℕ, Some, IsSome, unwrap_or, Result, Ok, Err, OnOk, OnErr, sym, ap, subst, ◌∙◌}
use Rattle.std.specs.Ordering.{nat_cmp}
use Rattle.std.specs.FinMap as map
use Rattle.cq_table.specs.Records.{Places, records_at, ChangesFile}
use Rattle.cq_table.proofs.ByFile.{replaced, kept, got_inserted}
use Rattle.cq_table.proofs.files.put_in.Goals as goal

on_ok : {A E : Type 0} (r : Result A E) (P Q : Type 0) → (P → Q) → OnOk r P → OnOk r Q
on_ok (Ok x) P Q f p = f p
on_ok (Err e) P Q f p = tt

to_err : {A E : Type 0} (r : Result A E) (P Q : Type 0) → (P → Q) → OnErr r P → OnErr r Q
to_err (Ok x) P Q f p = tt
to_err (Err e) P Q f p = f p

on_err : {A E : Type 0} (r : Result A E) (Q : Type 0) → Q → OnErr r Q
on_err (Ok x) Q q = tt
on_err (Err e) Q q = q

pub returns-in_err-open-clause-absent : goal.returns-in_err-open-clause-absent
returns-in_err-open-clause-absent c =
    on_err c.from_residual.result _ (ap (λ (n : ℕ). map.get (records_at c.args.files.now n) c.args.id) (sym c.from-file.ensures) ∙ ap (λ (m : Places). map.get m c.args.id) c.in_err-open.ensures.absent ∙ map.get-empty nat_cmp c.args.id)

pub replace-requires : goal.replace-requires
replace-requires c = subst (λ (m : map.FinMap nat_cmp Places). IsSome (map.get m c.from-file.result)) (sym c.replace-records.ensures.rest) (got_inserted c.open.new.files c.from-file.result c.new.result)

-- the file's records once they are put back changed
changed : (old made taken new : map.FinMap nat_cmp Places) (file number : ℕ) (had empty records : Places) → ((f : ℕ) → records_at made f ≡ records_at old f) → map.get made number ≡ Some had
    → taken ≡ map.insert made number empty → new ≡ map.insert taken number records → number ≡ file → ChangesFile old new file records
changed old made taken new file number had empty records same at took put is =
    subst (λ (n : ℕ). ChangesFile old new n records) is
    (subst (λ (m : map.FinMap nat_cmp Places). ChangesFile old m number records) (sym (put ∙ ap (λ (m : map.FinMap nat_cmp Places). map.insert m number records) took)) (replaced old made number empty records same))

had : (old made : map.FinMap nat_cmp Places) (file number : ℕ) (records : Places) → ((f : ℕ) → records_at made f ≡ records_at old f) → map.get made number ≡ Some records → number ≡ file → records ≡ records_at old file
had old made file number records same at is = sym (ap (λ o. unwrap_or o map.empty) at) ∙ same number ∙ ap (records_at old) is

pub returns-clause-ok : goal.returns-clause-ok
returns-clause-ok c =
    on_ok c.put-put.result _ _ (λ (e : c.put-put.new.self ≡ map.insert c.replace-records.result c.args.id c.args.place).
    let was = had c.args.files.now c.open.new.files c.args.place.file c.from-file.result c.replace-records.result c.open.ensures.same c.replace-records.ensures.value c.from-file.ensures in
    let now : c.put-put.new.self ≡ map.insert (records_at c.args.files.now c.args.place.file) c.args.id c.args.place = e ∙ ap (λ (m : Places). map.insert m c.args.id c.args.place) was in
    subst (ChangesFile c.args.files.now c.replace.new.self c.args.place.file) now
    (changed c.args.files.now c.open.new.files c.replace-records.new.self c.replace.new.self c.args.place.file c.from-file.result c.replace-records.result c.new.result c.put-put.new.self c.open.ensures.same c.replace-records.ensures.value c.replace-records.ensures.rest c.replace.ensures.rest c.from-file.ensures))
    c.put-put.ensures.ok

pub returns-clause-err : goal.returns-clause-err
returns-clause-err c =
    to_err c.put-put.result _ _ (λ (e : c.put-put.new.self ≡ c.replace-records.result).
    let was = had c.args.files.now c.open.new.files c.args.place.file c.from-file.result c.replace-records.result c.open.ensures.same c.replace-records.ensures.value c.from-file.ensures in
    kept c.args.files.now c.replace.new.self c.args.place.file
    (subst (ChangesFile c.args.files.now c.replace.new.self c.args.place.file) (e ∙ was)
    (changed c.args.files.now c.open.new.files c.replace-records.new.self c.replace.new.self c.args.place.file c.from-file.result c.replace-records.result c.new.result c.put-put.new.self c.open.ensures.same c.replace-records.ensures.value c.replace-records.ensures.rest c.replace.ensures.rest c.from-file.ensures)))
    c.put-put.ensures.err
