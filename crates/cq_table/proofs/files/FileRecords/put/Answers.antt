use Rattle.std.proofs.Common.{◌≡◌, ap, ◌∙◌, arith}
use Rattle.std.specs.FinMap as map
use Rattle.cq_map.specs.Totals.{total}
use Rattle.cq_table.specs.Records.{Places, whole_len}
use Rattle.cq_table.proofs.ByFile.{total_put, total_take}
use Rattle.cq_table.proofs.files.FileRecords.put.Goals as goal

pub overflow_sub-self : goal.overflow_sub-self
overflow_sub-self c =
    let live : c.self.inside.live ≡ total whole_len c.args.self.now = c.self.invariant ∙ ap (total whole_len) c.self.view_is in
    omega (arith, live, c.len_of-freed.ensures, total_take c.args.self.now c.args.id)

pub overflow_add-self : goal.overflow_add-self
overflow_add-self c =
    let live : c.self.inside.live ≡ total whole_len c.args.self.now = c.self.invariant ∙ ap (total whole_len) c.self.view_is in
    omega (arith, live, c.len_of-freed.ensures, c.whole_len.ensures, total_put c.args.self.now c.args.id c.args.place, total_take c.args.self.now c.args.id, c.requires)

pub invariant_of-self-2 : goal.invariant_of-self-2
invariant_of-self-2 c =
    let live : c.self.inside.live ≡ total whole_len c.args.self.now = c.self.invariant ∙ ap (total whole_len) c.self.view_is in
    let new : total whole_len c.insert.new.self ≡ total whole_len (map.insert c.args.self.now c.args.id c.args.place) = ap (total whole_len) (c.in_ok-insert.ensures.ok ∙ ap (λ (m : Places). map.insert m c.args.id c.args.place) c.self.view_is) in
    omega (arith, live, new, c.len_of-freed.ensures, c.whole_len.ensures, total_put c.args.self.now c.args.id c.args.place, total_take c.args.self.now c.args.id)
