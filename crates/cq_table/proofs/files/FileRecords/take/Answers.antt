use Rattle.std.proofs.Common.{◌≡◌, ap, ◌∙◌, arith}
use Rattle.std.specs.FinMap as map
use Rattle.cq_map.specs.Totals.{total}
use Rattle.cq_table.specs.Records.{Places, whole_len}
use Rattle.cq_table.proofs.ByFile.{total_take}
use Rattle.cq_table.proofs.files.FileRecords.take.Goals as goal

pub overflow_sub-self : goal.overflow_sub-self
overflow_sub-self c =
    let live : c.self.inside.live ≡ total whole_len c.args.self.now = c.self.invariant ∙ ap (total whole_len) c.self.view_is in
    omega (arith, live, c.len_of-freed.ensures, total_take c.args.self.now c.args.id)

pub invariant_of-self : goal.invariant_of-self
invariant_of-self c =
    let live : c.self.inside.live ≡ total whole_len c.args.self.now = c.self.invariant ∙ ap (total whole_len) c.self.view_is in
    let new : total whole_len c.remove.new.self ≡ total whole_len (map.remove c.args.self.now c.args.id) = ap (total whole_len) (c.remove.ensures.rest ∙ ap (λ (m : Places). map.remove m c.args.id) c.self.view_is) in
    omega (arith, live, new, c.len_of-freed.ensures, total_take c.args.self.now c.args.id)
