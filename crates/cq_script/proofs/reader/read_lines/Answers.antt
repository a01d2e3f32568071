use Rattle.std.proofs.Common.{[], map, ℕ, ◌+◌, ◌<◌, List, drop, length, sym, ◌∙◌, Ok, Err, Bor, arith, Result, subst}
use Rattle.cq_script.specs.declared.script.ScriptError.{ScriptError}
use Rattle.cq_script.specs.Grammar.{Reads}
use Rattle.cq_script.proofs.Sticky.{take_lines-more, Reads-lines}
use Rattle.cq_script.proofs.reader.read_lines.Goals as goal

pub returns-in-Err : goal.returns-in-Err
returns-in-Err c =
    let lines : List (Bor (List ℕ)) = c.args.lines.now in
    let i = c.loop-i.i in
    let within : i < length lines = omega arith in
    subst (λ (r : Result _ ScriptError). Reads (Err c.in-Err.error) r)
    (sym (take_lines-more (i + 1) (Ok c.loop-i.reading) lines i (record { ref_ptr = (0, 0); now = [] }) within) ∙ c.loop-i.invariant)
    (Reads-lines c.in-Err.error c.read_line.new.reading (i + 1 + 1) _ (map (λ w. w.now) (drop (i + 1) lines)) c.in-Err.ensures)
