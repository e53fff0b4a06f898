use Rattle.std.proofs.Common.{◌≡◌, ℕ, List, codes, if◌then◌else◌, refl}
use Rattle.smack_base.specs.Modes.{modes_of}
use Rattle.smack_base.specs.declared.rule_op.RuleOp.{RuleOp}
use Rattle.log_spec.specs.Shown.{spelled, spell_line}
use Rattle.record_spec.specs.Show.{op_words, op_line}
use Rattle.text_spec.specs.Names.{IsLabelTable}
use Rattle.replay_spec.specs.Plain.{IsPlainOp}
use Rattle.text_laws.proofs.Clean.{AreClean}
use Rattle.text_laws.proofs.Cut.{cut_line}
use Rattle.text_laws.proofs.Turns.{Tells}
use Rattle.text_laws.proofs.Numbers.{number_in, number_read, numeral_clean}
use Rattle.text_laws.proofs.Letters.{modes_read, modes_clean}
use Rattle.text_laws.proofs.Told.{told, word_at, begins_with, label_in, label_read, name_clean}

-- the rule write that some words are
abbrev op_in : List (List ℕ) → List (List ℕ) → RuleOp
op_in labels ws =
    if begins_with (codes "set") ws then RuleOp.Set (label_in labels (word_at 1 ws)) (label_in labels (word_at 2 ws)) (modes_of (word_at 3 ws))
    else (if begins_with (codes "change") ws then RuleOp.Change (label_in labels (word_at 1 ws)) (label_in labels (word_at 2 ws)) (modes_of (word_at 3 ws)) (modes_of (word_at 4 ws))
    else (if begins_with (codes "revoke") ws then RuleOp.Revoke (label_in labels (word_at 1 ws))
    else (if begins_with (codes "only-add") ws then RuleOp.OnlyAdd (label_in labels (word_at 1 ws))
    else (if begins_with (codes "ambient") ws then RuleOp.Ambient (label_in labels (word_at 1 ws))
    else (if begins_with (codes "ptrace") ws then RuleOp.Ptrace (number_in (word_at 1 ws))
    else (if begins_with (codes "logging") ws then RuleOp.Logging (number_in (word_at 1 ws))
    else RuleOp.OnlyClear))))))

module _ (labels names : List (List ℕ)) (table : IsLabelTable labels) where
  abbrev words_of_op : RuleOp → List (List ℕ)
  words_of_op op = spelled labels names (op_words op)

  -- a rule write is read back from its words, which have no space and no line feed
  op_read : (op : RuleOp) → IsPlainOp labels op → op_in labels (words_of_op op) ≡ op
  op_read (RuleOp.Set s o m) plain = λ i. RuleOp.Set (label_read labels table s plain.0 i) (label_read labels table o plain.1 i) (modes_read m i)
  op_read (RuleOp.Change s o allow deny) plain = λ i. RuleOp.Change (label_read labels table s plain.0 i) (label_read labels table o plain.1 i) (modes_read allow i) (modes_read deny i)
  op_read (RuleOp.Revoke s) plain = λ i. RuleOp.Revoke (label_read labels table s plain i)
  op_read RuleOp.OnlyClear plain = refl
  op_read (RuleOp.OnlyAdd l) plain = λ i. RuleOp.OnlyAdd (label_read labels table l plain i)
  op_read (RuleOp.Ambient l) plain = λ i. RuleOp.Ambient (label_read labels table l plain i)
  op_read (RuleOp.Ptrace n) plain = λ i. RuleOp.Ptrace (number_read n i)
  op_read (RuleOp.Logging n) plain = λ i. RuleOp.Logging (number_read n i)

  op_clean : (op : RuleOp) → IsPlainOp labels op → AreClean (words_of_op op)
  op_clean (RuleOp.Set s o m) plain = (refl, (name_clean labels table s plain.0, (name_clean labels table o plain.1, (modes_clean m, tt))))
  op_clean (RuleOp.Change s o allow deny) plain =
      (refl, (name_clean labels table s plain.0, (name_clean labels table o plain.1, (modes_clean allow, (modes_clean deny, tt)))))
  op_clean (RuleOp.Revoke s) plain = (refl, (name_clean labels table s plain, tt))
  op_clean RuleOp.OnlyClear plain = (refl, tt)
  op_clean (RuleOp.OnlyAdd l) plain = (refl, (name_clean labels table l plain, tt))
  op_clean (RuleOp.Ambient l) plain = (refl, (name_clean labels table l plain, tt))
  op_clean (RuleOp.Ptrace n) plain = (refl, (numeral_clean n, tt))
  op_clean (RuleOp.Logging n) plain = (refl, (numeral_clean n, tt))

  -- a printed rule write tells it
  pub op_told : Tells (IsPlainOp labels) (λ r. Unit {0}) (λ op. spell_line labels names (op_line op))
  op_told x y r s plain plain' ends ends' same =
      let cut = cut_line (codes "o") (words_of_op x) (words_of_op y) r s refl (op_clean x plain) (op_clean y plain') same in
      (told (op_in labels) words_of_op x y (op_read x plain) (op_read y plain') cut.0, cut.1)
