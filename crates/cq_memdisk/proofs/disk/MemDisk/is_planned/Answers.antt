use Rattle.std.proofs.Common.{eqb, ◌≡◌}
use Rattle.std.proofs.lemmas.Bool.Decides.{Decides-eqb}
use Rattle.std.proofs.lemmas.List.Elements.{contains_decides, Decides-contains}
use Rattle.std.specs.List.{IsAnyAnswer}
use Rattle.cq_memdisk.proofs.disk.MemDisk.is_planned.Goals as goal

pub returns : goal.returns
returns c =
    let xs = c.args.self.now.fails.items in
    let same : c.deref.result.now ≡ xs = c.deref.ensures.value in
    let cases : IsAnyAnswer (λ y t. eqb y c.args.now ≡ t) c.deref.result.now c.contains.result = c.contains.ensures.cases in
    let found = rw same at cases in
    Decides-contains xs c.args.now c.contains.result (contains_decides eqb Decides-eqb xs c.args.now c.contains.result found)
