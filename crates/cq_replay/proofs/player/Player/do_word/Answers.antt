use Rattle.std.proofs.Common.{◌≡◌, ◌<◌, ℕ, List, length, Ok, ap, refl, sym, subst}
use Rattle.cq_node.specs.declared.outcome.NodeError.{NodeError}
use Rattle.cq_node.specs.declared.outcome.Step.{Step}
use Rattle.std.proofs.Common.{Result}
use Rattle.cq_node.specs.declared.outcome.Turn.{Turn}
use Rattle.cq_node.specs.Turned.{Turned, Wrote, IsIdle, HasDone}
use Rattle.cq_journal.specs.declared.event.Entry.{Entry}
use Rattle.cq_journal.specs.Confirms.{AreConfirmed}
use Rattle.cq_script.specs.declared.script.StepWord.{StepWord}
use Rattle.cq_script.specs.declared.script.StepWord.TheVariants.{Client}
use Rattle.cq_replay.specs.Running.{WordDid, demand}
use Rattle.cq_replay.proofs.Moves.{turned}
use Rattle.cq_replay.proofs.WordLaws.{client_did, turn_did, write_did}
use Rattle.cq_replay.proofs.player.Player.do_word.Goals as goal

pub returns-in_ok-turn-in-Turn-clause-moves : goal.returns-in_ok-turn-in-Turn-clause-moves
returns-in_ok-turn-in-Turn-clause-moves g c =
    let old = c.args.self.now in
    let new = c.turn.new.self in
    turned c.turn.result (g.D.Disk.moment old.node.store.disk) old.node.core.entries new.node.core.entries old.node.waiting new.node.waiting old.rest.items new.rest.items c.turn.ensures.turned (ap (λ q. q.items) c.turn.ensures.rest)

pub returns-in_ok-write-in-Write-clause-did : goal.returns-in_ok-write-in-Write-clause-did
returns-in_ok-write-in-Write-clause-did g c =
    let old = c.args.self.now in
    let new = c.write.new.self in
    let total : ℕ = length (demand old.node.core.entries old.node.waiting old.rest.items) in
    let before : ℕ = g.D.Disk.moment old.node.store.disk in
    let now : ℕ = g.D.Disk.moment new.node.store.disk in
    let ok : c.write.result ≡ Ok c.in_ok-write-in-Write.field-0 = c.in_ok-write-in-Write.was in
    subst (λ (w : StepWord). WordDid total w old.node.core.entries new.node.core.entries old.node.waiting new.node.waiting before now) (sym c.in-Write.is)
    (write_did total c.in_ok-write-in-Write.field-0 old.node.core.entries new.node.core.entries old.node.waiting new.node.waiting before now
    (subst (λ (r : Result Step NodeError). Wrote r before old.node.core.entries new.node.core.entries) ok c.write.ensures.wrote)
    c.write.ensures.same.0 c.write.ensures.goes.ran.later new.node.stamped
    (subst (λ (r : Result Step NodeError). IsIdle r → AreConfirmed new.node.core.entries) ok (λ idle. (c.write.ensures.idle idle).confirmed))
    (subst (λ (r : Result Step NodeError). HasDone r → before < now) ok c.write.ensures.calls))

pub returns-in_ok-turn-in-Turn-clause-did : goal.returns-in_ok-turn-in-Turn-clause-did
returns-in_ok-turn-in-Turn-clause-did g c =
    let old = c.args.self.now in
    let new = c.turn.new.self in
    let total : ℕ = length (demand old.node.core.entries old.node.waiting old.rest.items) in
    let before : ℕ = g.D.Disk.moment old.node.store.disk in
    let now : ℕ = g.D.Disk.moment new.node.store.disk in
    let ok : c.turn.result ≡ Ok c.in_ok-turn-in-Turn.field-0 = c.in_ok-turn-in-Turn.was in
    subst (λ (w : StepWord). WordDid total w old.node.core.entries new.node.core.entries old.node.waiting new.node.waiting before now) (sym c.in-Turn.is)
    (turn_did total c.in-Turn.field-0 c.in_ok-turn-in-Turn.field-0 old.node.core.entries new.node.core.entries old.node.waiting new.node.waiting before now
    (subst (λ (r : Result Turn NodeError). Turned r before old.node.core.entries new.node.core.entries old.node.waiting.requests new.node.waiting.requests) ok c.turn.ensures.turned)
    c.turn.ensures.goes.ran.later new.node.stamped)

pub returns-in-Client-clause-did : goal.returns-in-Client-clause-did
returns-in-Client-clause-did g c =
    let old = c.args.self.now in
    let new = c.hand_in.new.self in
    let total : ℕ = length (demand old.node.core.entries old.node.waiting old.rest.items) in
    let before : ℕ = g.D.Disk.moment old.node.store.disk in
    let client : ℕ = c.in-Client.field-0 in
    let same : new.node.core.entries ≡ old.node.core.entries = ap (λ k. k.entries) c.hand_in.ensures.core in
    let still : g.D.Disk.moment new.node.store.disk ≡ before = ap (λ store. g.D.Disk.moment store.disk) c.hand_in.ensures.store in
    subst (λ (w : StepWord). WordDid total w old.node.core.entries new.node.core.entries old.node.waiting new.node.waiting before (g.D.Disk.moment new.node.store.disk)) (sym c.in-Client.is)
    (subst (λ (es : List Entry). WordDid total (Client client) old.node.core.entries es old.node.waiting new.node.waiting before (g.D.Disk.moment new.node.store.disk)) (sym same)
    (subst (λ (m : ℕ). WordDid total (Client client) old.node.core.entries old.node.core.entries old.node.waiting new.node.waiting before m) (sym still)
    (client_did total client old.node.core.entries old.node.waiting new.node.waiting old.rest.items before old.node.stamped refl c.hand_in.ensures.one)))
