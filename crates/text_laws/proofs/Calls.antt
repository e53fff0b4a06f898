use Rattle.std.proofs.Common.{◌≡◌, ℕ, true, if◌then◌else◌, length, map, drop, codes, List, [], ◌∷◌, Option, Some, refl, ap, ◌∙◌}
use Rattle.std.specs.List.{AllByRecursion, flat_map}
use Rattle.std.specs.Option.{option_or}
use Rattle.smack_base.specs.Modes.{modes_of}
use Rattle.smack_base.specs.declared.ids.LabelId.{LabelId}
use Rattle.smack_base.specs.declared.rule_op.Pair.{Pair}
use Rattle.text_spec.specs.Names.{IsLabelTable}
use Rattle.log_spec.specs.Shown.{spelled}
use Rattle.log_spec.specs.Audits.{is_word}
use Rattle.world_spec.specs.declared.tasks.TaskCall.TheVariants as TaskCall
use Rattle.world_spec.specs.declared.Call.{Call}
use Rattle.verb_spec.specs.declared.Value.{Value}
use Rattle.verb_spec.specs.Words.{absent}
use Rattle.verb_spec.specs.Values.{value_shown}
use Rattle.verb_spec.specs.TaskVerbs.{rule_values}
use Rattle.verb_spec.specs.Verbs.{spoken, call_verb, call_words}
use Rattle.verb_spec.proofs.Verbs.{made_again}
use Rattle.script_spec.specs.Lines.{ScriptLine}
use Rattle.record_spec.specs.Entries.{verb_words}
use Rattle.replay_spec.specs.declared.Act.TheVariants as Act
use Rattle.replay_spec.specs.Calls.{of_one}
use Rattle.replay_spec.specs.Acts.{act_by, call_by, call_of_line}
use Rattle.replay_spec.specs.Plain.{IsNameTable, HasId, IsPlainCall}
use Rattle.replay_spec.proofs.KnownLabels.{IsKnownPair}
use Rattle.replay_spec.proofs.ReadValues.{IsReadValue}
use Rattle.replay_spec.proofs.ReadCalls.{IsMadeCall, IsReadCall, plain_is_read}
use Rattle.text_laws.proofs.Clean.{AreClean, name_bytes_clean, word_bytes}
use Rattle.text_laws.proofs.Numbers.{numeral_clean}
use Rattle.text_laws.proofs.Letters.{modes_read, modes_clean}
use Rattle.text_laws.proofs.Told.{told_where_read, begins_with, label_in, label_read, task_again, name_clean, named_clean}
use Rattle.text_laws.proofs.Values.{value_again, value_clean}

-- a line of a script with these words behind its task
abbrev line_of : List (List ℕ) → ScriptLine
line_of ws = record { task = 0; seq = 0; line = 0; words = map (λ w. record { at = 0; bytes = w }) ws; text = absent }

-- the self rules that words are, three words each
abbrev rules_in : List (List ℕ) → List (List ℕ) → List Pair
rules_in labels (s ∷ o ∷ m ∷ ws) = (record { s = label_in labels s; o = label_in labels o; m = modes_of m }) ∷ rules_in labels ws
rules_in labels (s ∷ o ∷ []) = []
rules_in labels (s ∷ []) = []
rules_in labels [] = []

-- self rules or a list of labels, as words tell them
abbrev own_call : List (List ℕ) → List (List ℕ) → Call
own_call labels ws =
    if begins_with (codes "self") ws then Call.Task (TaskCall.SelfRules (rules_in labels (drop 2 ws)))
    else Call.Task (TaskCall.Relabels (map (label_in labels) (drop 2 ws)))

-- The call that some words are: that of a line with these words, but for the calls that are texts of files.
abbrev call_in : List (List ℕ) → List (List ℕ) → List (List ℕ) → Option Call
call_in labels names ws = option_or (call_of_line labels names (line_of ws)) (Some (own_call labels ws))

-- a call is read back from its words: the verb is a word, and the others have no space and no line feed
pub record IsToldCall (labels names : List (List ℕ)) (call : Call) : Type 0 where
  pub again : call_in labels names (spelled labels names (verb_words call)) ≡ Some call
  pub verb : is_word (call_verb call) ≡ true
  pub words : AreClean (spelled labels names (call_words call))

module _ (labels names : List (List ℕ)) (table : IsLabelTable labels) (tasks : IsNameTable names) where
  rules_read : (rules : List Pair) → AllByRecursion (IsKnownPair labels) rules
      → rules_in labels (spelled labels names (map value_shown (flat_map rule_values rules))) ≡ rules
  rules_read [] known = refl
  rules_read (p ∷ ps) known =
      λ i. (record { s = label_read labels table p.s known.0.0 i; o = label_read labels table p.o known.0.1 i; m = modes_read p.m i })
      ∷ rules_read ps known.1 i

  rules_clean : (rules : List Pair) → AllByRecursion (IsKnownPair labels) rules
      → AreClean (spelled labels names (map value_shown (flat_map rule_values rules)))
  rules_clean [] known = tt
  rules_clean (p ∷ ps) known =
      (name_clean labels table p.s known.0.0, (name_clean labels table p.o known.0.1, (modes_clean p.m, rules_clean ps known.1)))

  labels_read : (list : List LabelId) → AllByRecursion (HasId labels) list → map (label_in labels) (spelled labels names (map value_shown (map (λ l. Value.Label l) list))) ≡ list
  labels_read [] known = refl
  labels_read (l ∷ ls) known = λ i. label_read labels table l known.0 i ∷ labels_read ls known.1 i

  labels_clean : (list : List LabelId) → AllByRecursion (HasId labels) list → AreClean (spelled labels names (map value_shown (map (λ l. Value.Label l) list)))
  labels_clean [] known = tt
  labels_clean (l ∷ ls) known = (name_clean labels table l known.0, labels_clean ls known.1)

  values_clean : (values : List Value) → AllByRecursion (IsReadValue labels names) values → AreClean (spelled labels names (map value_shown values))
  values_clean [] read = tt
  values_clean (v ∷ vs) read = (value_clean labels names table tasks v read.0, values_clean vs read.1)

  -- a call that words behind a verb make is that of the line that tells it
  made_told : (call : Call) → IsMadeCall labels names call → call_of_line labels names (line_of (spelled labels names (verb_words call))) ≡ Some call
  made_told call made =
      let l = line_of (spelled labels names (verb_words call)) in
      ap (λ v. call_by labels l (act_by labels names l v)) made.named
      ∙ ap (λ (c : Option Call). call_by labels l (of_one c (λ x. Act.Make x)))
      (made_again labels names (value_again labels names table tasks) made.verb made.ws call made.makes)

  -- a row for each call that no words behind a verb make, and one for all that they make
  read_is_told : (call : Call) → IsReadCall labels names call → IsToldCall labels names call
  read_is_told (Call.Task (TaskCall.Fork pid)) read = record {
    again =
        let ws = spelled labels names (verb_words (Call.Task (TaskCall.Fork pid))) in
        ap (λ o. option_or (call_by labels (line_of ws) (of_one o (λ p. Act.Fork p))) (Some (own_call labels ws))) (task_again names tasks pid read);
    verb = refl;
    words = (named_clean names tasks pid read, tt);
  }
  read_is_told (Call.Task TaskCall.Exit) read = record { again = refl; verb = refl; words = tt }
  read_is_told (Call.Task (TaskCall.SelfRules rules)) read = record {
    again = λ i. Some (Call.Task (TaskCall.SelfRules (rules_read rules read i)));
    verb = refl;
    words = (numeral_clean (length rules), rules_clean rules read);
  }
  read_is_told (Call.Task (TaskCall.Relabels list)) read = record {
    again = λ i. Some (Call.Task (TaskCall.Relabels (labels_read list read i)));
    verb = refl;
    words = (numeral_clean (length list), labels_clean list read);
  }
  read_is_told call read = record {
    again = ap (λ c. option_or c (Some (own_call labels (spelled labels names (verb_words call))))) (made_told call read);
    verb = read.word;
    words = values_clean (spoken call).values read.values;
  }

  pub plain_is_told : (call : Call) → IsPlainCall labels names call → IsToldCall labels names call
  plain_is_told call plain = read_is_told call (plain_is_read labels names call plain)

  pub call_clean : (call : Call) → IsPlainCall labels names call → AreClean (spelled labels names (verb_words call))
  call_clean call plain =
      let told = plain_is_told call plain in
      (name_bytes_clean (call_verb call) (word_bytes (call_verb call) told.verb), told.words)

  -- the words of a call tell it
  pub call_told : (x y : Call) → IsPlainCall labels names x → IsPlainCall labels names y → spelled labels names (verb_words x) ≡ spelled labels names (verb_words y)
      → x ≡ y
  call_told x y plain plain' same =
      told_where_read (call_in labels names) (λ call. spelled labels names (verb_words call)) x y (plain_is_told x plain).again (plain_is_told y plain').again same
