use Rattle.std.proofs.Common.{◌≡◌, true, sym, subst, rules}
use Rattle.cq_disk.specs.declared.name.Name.{Name}
use Rattle.cq_disk.specs.declared.name.Kind.TheVariants.{Small}
use Rattle.cq_bulk.specs.Bodies.{IsWindow, lies_in}
use Rattle.cq_bulk.proofs.Windows.{found_in}
use Rattle.cq_bulk.proofs.bodies.Bodies.body.Goals as goal

pub returns-clause-body : goal.returns-clause-body
returns-clause-body g c =
    let files = g.D.Disk.files c.args.disk.now in
    let s = c.args.store.now in
    let name : s.name ≡ record { kind = Small; queue = c.args.queue; number = c.number.result } = λ i. record { kind = s.small i; queue = c.requires.given.1 i; number = sym c.number.ensures i } in
    let lies : lies_in s c.args.place c.args.len ≡ true = search rules in
    let window : g.D.Disk.tells → IsWindow c.slide.new.self (files (record { kind = Small; queue = c.args.queue; number = c.number.result })) = c.in_ok-slide.ensures.window in
    found_in g.D.Disk s c.args.disk.now c.slide.new.self c.args.place c.args.len c.range.result.now c.body_in.result lies c.in_ok-slide.ensures.has c.range.ensures (λ told. (c.requires.store told).is) (λ told. subst (λ (n : Name). IsWindow c.slide.new.self (files n)) (sym name) (window told)) c.body_in.ensures
