use Rattle.script_text.proofs.WordLists.{line_is}
use Rattle.script_text.proofs.spelled.Spelled.line.Goals as goal

pub returns : goal.returns
returns c = line_is c.args.self.now c.word.result c.word-2.result c.word-3.result c.word-4.result c.word.ensures c.word-2.ensures c.word-3.ensures c.word-4.ensures c.requires.some c.requires.few
