use Rattle.std.proofs.Common.{◌≡◌, List, Bor, ℕ, map, ap, sym, subst, ◌∙◌, Result, Ok}
use Rattle.cq_grammar.specs.declared.script.Why.{Why}
use Rattle.cq_grammar.specs.declared.steps.Run.{Run}
use Rattle.cq_grammar.specs.Words.{each, ◌>>=◌}
use Rattle.cq_grammar.specs.Calls.{Gives}
use Rattle.cq_grammar.specs.Steps.{run_of}
use Rattle.cq_grammar.specs.Grammar.{clients_in, with_schedule}
use Rattle.cq_grammar.proofs.reading.Reading.schedule.Goals as goal

pub returns : goal.returns
returns c =
    let ws : List (List ℕ) = map (λ (w : Bor (List ℕ)). w.now) c.args.words.now in
    let read : each (run_of (clients_in c.args.self.now.settings)) ws ≡ Ok c.deref.result.now = ap (λ k. each (run_of k) ws) (sym c.clients.ensures) ∙ c.in_ok-runs.ensures ∙ ap Ok (sym c.deref.ensures.value) in
    subst (λ (r : Result (List Run) Why). Gives c.add_steps.result c.add_steps.new.self (r >>= with_schedule c.args.number c.args.self.now)) (sym read) c.add_steps.ensures
