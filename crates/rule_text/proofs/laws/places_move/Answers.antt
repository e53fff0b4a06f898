use Rattle.rule_text.proofs.MovedPlaces.{lines_moved, words_moved}
use Rattle.rule_text.proofs.laws.places_move.Goals as goal

pub returns-clause-lines : goal.returns-clause-lines
returns-clause-lines c = lines_moved

pub returns-clause-words : goal.returns-clause-words
returns-clause-words c = words_moved
