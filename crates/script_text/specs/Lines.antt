use Rattle.std.specs.Prelude.{◌∷◌, map, take}
use Rattle.rule_text.specs.Parts.{placed}
use Rattle.script_spec.specs.Lines.{ScriptLine}
use Rattle.script_text.specs.declared.line.Line.{Line}

-- a call, its words and its text as runs of bytes at their places
abbrev pub call_seen : Line → ScriptLine
call_seen l = record {
  task = l.task;
  seq = l.seq;
  line = l.line;
  words = placed l.verb ∷ map placed (take l.count l.words);
  text = placed l.text;
}
