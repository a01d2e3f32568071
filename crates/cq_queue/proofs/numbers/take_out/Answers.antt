use Rattle.std.proofs.Common.{◌≡◌, ◌∙◌, ℕ, List, Result, Option, Err, OnSome, subst, arith}
use Rattle.std.specs.Ordering.{nat_cmp}
use Rattle.std.specs.List.{remove}
use Rattle.std.specs.List.Sorted.{IsBinarySearchResult}
use Rattle.cq_queue.proofs.Placing.{removed_found, removed_missed, within_found}
use Rattle.cq_queue.proofs.numbers.take_out.Goals as goal

pub returns-in-Ok-clause-items : goal.returns-in-Ok-clause-items
returns-in-Ok-clause-items c =
    let xs = c.args.numbers.now.items in
    let n = c.args.number in
    let i = c.in-Ok.place in
    let is = c.in-Ok.ensures.position in
    let long = c.args.numbers.now.ok.0 in
    let within = within_found n xs i c.requires is in
    let gone : c.remove.new.self.items ≡ remove xs i = subst (λ (o : Option ℕ). OnSome o (c.remove.new.self.items ≡ remove xs i)) (c.remove.ensures.succeeds 0 (omega (arith, long, within))) c.remove.ensures.items in
    gone ∙ removed_found n xs i c.requires is

pub returns-in_default-clause-items : goal.returns-in_default-clause-items
returns-in_default-clause-items c =
    let xs = c.args.numbers.now.items in
    let n = c.args.number in
    removed_missed n xs c.in_default.field-0 c.requires (subst (λ (r : Result ℕ ℕ). IsBinarySearchResult (λ y. nat_cmp y n) xs r) c.in_default.is c.binary_search.ensures.position)
