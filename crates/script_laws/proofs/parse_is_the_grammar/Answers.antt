use Rattle.script_laws.proofs.Grammar.{complete}
use Rattle.script_laws.proofs.parse_is_the_grammar.Goals as goal

pub returns-clause-complete : goal.returns-clause-complete
returns-clause-complete c = complete
