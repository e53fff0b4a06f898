use Rattle.std.specs.Prelude.{◌≡◌, ◌≤◌, ◌+◌, ℕ, Bool, true, List, Some, None, length, map}
use Rattle.std.specs.List.{list_all}
use Rattle.smack_base.specs.Labels.{is_label}
use Rattle.text_spec.specs.Texts.{Placed}
use Rattle.rule_text.specs.Parts.{placed}
use Rattle.verb_spec.specs.declared.Verb.{Verb}
use Rattle.verb_spec.specs.Verbs.{verb_of}
use Rattle.verb_spec.specs.Words.{word_at}
use Rattle.verb_spec.specs.Kinds.{label_words}
use Rattle.script_spec.specs.Lines.{ScriptLine, verb_in, kinds_in, words_behind}
use Rattle.script_spec.specs.Tasks.{Tasks}
use Rattle.script_spec.specs.Causes.{line_cause}
use Rattle.script_text.specs.declared.spelled.Spelled.{Spelled}

-- all of these names are labels
abbrev pub AreLabels : List (List ℕ) → Type 0
AreLabels names = list_all is_label names ≡ true

-- a call whose words are still a list
abbrev pub spelled_seen : Spelled → ScriptLine
spelled_seen c = record {
  task = c.task;
  seq = c.seq;
  line = c.line;
  words = map placed c.words.now;
  text = placed c.text;
}

-- the words of a call are as many as its verb takes; those that stand for labels are labels
pub record IsSpelledCall (c : Spelled) : Type 0 where
  pub verb : verb_in (spelled_seen c) ≡ Some c.verb
  pub many : length c.words.now ≡ length (kinds_in (spelled_seen c)) + 1
  pub few : length c.words.now ≤ 4
  pub labels : AreLabels (label_words (kinds_in (spelled_seen c)) (words_behind (spelled_seen c)))

-- nothing is wrong with a line of these words, and this is its verb
pub record HasVerb (tasks : Tasks) (words : List Placed) (text : Bool) (verb : Verb) : Type 0 where
  pub good : line_cause tasks words text ≡ None
  pub is : verb_of (word_at 1 words).bytes ≡ Some verb
  pub few : length words ≤ 5
