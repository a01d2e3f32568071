use Rattle.std.proofs.Common.{◌≡◌, ◌+◌, ◌*◌, ap, arith}
use Rattle.cq_bench.proofs.Fits.{made_next, made_all}
use Rattle.cq_bench.proofs.file.file.Goals as goal

pub loop-k-preserved : goal.loop-k-preserved
loop-k-preserved c =
    made_next c.args.count c.loop-k.k c.loop-k.at c.dead-hole.result c.live-len.result (2 * c.from.result + 1) c.loop-k.blocks.items c.push.new.self.items c.push-in-loop-k.new.self.items c.loop-k.ids.items c.push-in-loop-k-2.new.self.items
    c.loop-k.invariant c.loop-k-test.true c.dead-hole.ensures c.live-len.ensures (ap (λ n. 2 * n + 1) c.from.ensures) c.in_ok-push.ensures.items c.in_ok-push-2.ensures.items c.in_ok-push-3.ensures.items

pub returns : goal.returns
returns c =
    let end : c.loop-k.k ≡ c.args.count = omega (arith, c.loop-k-test.false, c.loop-k.auto.k-end) in
    made_all c.args.count c.loop-k.k c.loop-k.at c.loop-k.blocks.items c.loop-k.ids.items c.loop-k.invariant end c.requires.some c.requires.fits
