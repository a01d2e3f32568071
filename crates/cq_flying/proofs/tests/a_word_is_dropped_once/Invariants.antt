use Rattle.cq_flying.specs.Words.{word_ids}
use Rattle.cq_flying.proofs.tests.a_word_is_dropped_once.Given as goal

abbrev pub ghosts-one_word : goal.ghosts-one_word
ghosts-one_word g a = record { tables = word_ids a.words.now }
