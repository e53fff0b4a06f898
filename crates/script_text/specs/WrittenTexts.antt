use Rattle.std.specs.Prelude.{◌≡◌, ◌+◌, ℕ, Bool, true, false, if◌then◌else◌, List, Option, length, map, All}
use Rattle.std.specs.List.{flat_map}
use Rattle.file_spec.specs.declared.SmackFile.{SmackFile}
use Rattle.file_spec.specs.Writes.{labels_named, names_of_text, rows_of_text}
use Rattle.smackfs.specs.declared.named_op.NamedOp.{NamedOp}
use Rattle.smackfs.specs.Named.{named_write, HasGoodNames}
use Rattle.script_spec.specs.Lines.{ScriptLine, file_in}
use Rattle.script_text.specs.declared.texts.WrittenText.{WrittenText}

-- the text of a file of rules becomes a batch
abbrev pub is_batch_file : SmackFile → Bool
is_batch_file (SmackFile.Rule file) = true
is_batch_file (SmackFile.Own file) = false

-- the rows of a journal that a text takes
abbrev pub text_rows : WrittenText → ℕ
text_rows t = if t.is_batch then length t.ops + 1 else 0

-- the labels that writes name
abbrev pub names_of_ops : List NamedOp → List (List ℕ)
names_of_ops ops = flat_map labels_named (map named_write ops)

abbrev pub AreGoodOps : List NamedOp → Type 0
AreGoodOps ops = All (λ op. HasGoodNames (named_write op)) ops

-- what a text spells for a file
pub record IsText (file : Option SmackFile) (text : List ℕ) (t : WrittenText) : Type 0 where
  pub rows : text_rows t ≡ rows_of_text file text
  pub names : names_of_ops t.ops ≡ names_of_text file text
  pub good : AreGoodOps t.ops

-- what the text of a call spells
abbrev pub IsTextOfCall : ScriptLine → WrittenText → Type 0
IsTextOfCall l t = IsText (file_in l) l.text.bytes t
