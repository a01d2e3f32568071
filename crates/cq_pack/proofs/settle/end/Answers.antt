use Rattle.std.proofs.Common.{◌<◌, length, sym, arith}
use Rattle.std.proofs.lemmas.Bool.Decides.{nat_tests}
use Rattle.cq_pack.proofs.Found.{end_of-last}
use Rattle.cq_pack.proofs.settle.end.Goals as goal

pub overflow_add-result : goal.overflow_add-result
overflow_add-result c =
    let some : 0 < length c.args.records.now = grind (arith, nat_tests, c.is_empty.ensures, c.if-is_empty.false) in
    omega (arith, end_of-last c.args.records.now (record { id = 0; from = 0; to = 0; len = 0 }) some, c.requires)

pub returns : goal.returns
returns c =
    let some : 0 < length c.args.records.now = grind (arith, nat_tests, c.is_empty.ensures, c.if-is_empty.false) in
    sym (end_of-last c.args.records.now (record { id = 0; from = 0; to = 0; len = 0 }) some)
