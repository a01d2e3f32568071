use Rattle.cq_flying.specs.Words.{word_ids}
use Rattle.cq_flying.proofs.tests.each_drop_is_seen.Given as goal

abbrev pub ghosts-scenario : goal.ghosts-scenario
ghosts-scenario g a = record { tables = word_ids a.words }
