-- The first error stays.
use Rattle.std.proofs.Common.{◌≡◌, ℕ, ◌+◌, ◌<◌, List, [], ◌∷◌, refl, ap, ◌∙◌, Result, Err, Bor, length, drop, map, get_or, add-one, drop-cons}
use Rattle.cq_script.specs.declared.script.StepWord.{StepWord}
use Rattle.cq_script.specs.declared.script.ScriptError.{ScriptError}
use Rattle.cq_script.specs.declared.script.ScriptError.TheVariants as script_error
use Rattle.cq_script.specs.declared.script.Why.{Why}
use Rattle.cq_script.specs.declared.reading.LineError.{LineError}
use Rattle.cq_script.specs.declared.reading.LineError.TheVariants as line_error
use Rattle.cq_script.specs.declared.reading.Reading.{Reading}
use Rattle.cq_script.specs.Grammar.{GivesSteps, AtLine, Reads, take_step, take_steps, take_line, take_lines}

pub take_steps-Err : (e : Why) (ws : List (List ℕ)) → take_steps (Err e) ws ≡ Err e
take_steps-Err e [] = refl
take_steps-Err e (w ∷ ws) = take_steps-Err e ws

pub take_lines-Err : (n : ℕ) (b : ScriptError) (ls : List (List ℕ)) → take_lines n (Err b) ls ≡ Err b
take_lines-Err n b [] = refl
take_lines-Err n b (l ∷ ls) = take_lines-Err (n + 1) b ls

drop-next : (ls : List (Bor (List ℕ))) (i : ℕ) (d : Bor (List ℕ)) → i < length ls → drop i ls ≡ get_or ls i d ∷ drop (i + 1) ls
drop-next ls i d h = rw (add-one, drop-cons ls i d) refl

-- the next word, and then what is left
pub take_steps-more : (read : Result (List StepWord) Why) (ws : List (Bor (List ℕ))) (i : ℕ) (d : Bor (List ℕ)) → i < length ws
    → take_steps read (map (λ w. w.now) (drop i ws)) ≡ take_steps (take_step (get_or ws i d).now read) (map (λ w. w.now) (drop (i + 1) ws))
take_steps-more read ws i d h = ap (λ xs. take_steps read (map (λ w. w.now) xs)) (drop-next ws i d h)

-- an error that a step gives is that of all the steps
pub GivesSteps-steps : (e : LineError) (new : List StepWord) (read : Result (List StepWord) Why) (ws : List (List ℕ)) → GivesSteps (Err e) new read → GivesSteps (Err e) new (take_steps read ws)
GivesSteps-steps line_error.Memory new read ws h = tt
GivesSteps-steps (line_error.Bad w) new read ws h = ap (λ r. take_steps r ws) h ∙ take_steps-Err w ws

-- the next line, and then what is left
pub take_lines-more : (n : ℕ) (read : Result Reading ScriptError) (ls : List (Bor (List ℕ))) (i : ℕ) (d : Bor (List ℕ)) → i < length ls
    → take_lines n read (map (λ w. w.now) (drop i ls)) ≡ take_lines (n + 1) (take_line n (get_or ls i d).now read) (map (λ w. w.now) (drop (i + 1) ls))
take_lines-more n read ls i d h = ap (λ xs. take_lines n read (map (λ w. w.now) xs)) (drop-next ls i d h)

-- an error that a line gives is that of all the lines
pub Reads-lines : (e : ScriptError) (new : Reading) (n : ℕ) (read : Result Reading ScriptError) (ls : List (List ℕ)) → AtLine (Err e) new read → Reads (Err e) (take_lines n read ls)
Reads-lines script_error.Memory new n read ls h = tt
Reads-lines (script_error.Bad m w) new n read ls h = ap (λ r. take_lines n r ls) h ∙ take_lines-Err n (script_error.Bad m w) ls
