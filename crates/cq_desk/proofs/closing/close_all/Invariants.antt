use Rattle.std.proofs.Common.{◌≡◌, ◌≢◌, ℕ, drop}
use Rattle.cq_desk.specs.Desk.{HasWords}
use Rattle.cq_desk.proofs.closing.close_all.Given as goal

abbrev pub invariant-loop-open : goal.invariant-loop-open
invariant-loop-open g l = HasWords (g.F.Flags.opened l.flags l.client) (drop l.open-index l.opens) × ((c : ℕ) → c ≢ l.client → g.F.Flags.opened l.flags c ≡ g.F.Flags.opened l.fn.flags c) × (g.F.Flags.clients l.flags ≡ g.F.Flags.clients l.fn.flags)
