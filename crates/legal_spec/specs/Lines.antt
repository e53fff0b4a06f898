use Rattle.std.specs.Prelude.{◌≡◌, ◌+◌, ◌<◌, ℕ, List, Some, Ok, Err, length}
use Rattle.smack_base.specs.declared.rule_op.RuleOp.{RuleOp}
use Rattle.rules_spec.specs.declared.Verdict.{Verdict}
use Rattle.file_spec.specs.declared.Refusal.{Refusal}
use Rattle.file_spec.specs.declared.Refusal.TheVariants as Refusal
use Rattle.file_spec.specs.declared.Compiled.TheVariants as Compiled
use Rattle.file_spec.specs.Files.{compiled}
use Rattle.verb_spec.specs.declared.Verb.TheVariants as Verb
use Rattle.script_spec.specs.Lines.{ScriptLine, word_in, verb_in}
use Rattle.script_spec.specs.Grammar.{most_rows}
use Rattle.world_spec.specs.declared.Call.{Call}
use Rattle.record_spec.specs.declared.AskedWhat.{AskedWhat}
use Rattle.record_spec.specs.declared.AskedWhat.TheVariants as AskedWhat
use Rattle.replay_spec.specs.declared.Act.TheVariants as Act
use Rattle.replay_spec.specs.Acts.{act_of_line, call_of_line}

-- the line writes a text to a file of rules or settings, and the text spells these writes
abbrev pub IsBatchOfLine : List (List ℕ) → ScriptLine → List RuleOp → Type 0
IsBatchOfLine labels l ops = (verb_in l ≡ Some Verb.Write) × (compiled labels (word_in 1 l) l.text.bytes ≡ Ok (Compiled.Rules ops))

-- the line makes this object call
abbrev pub IsCallOfLine : List (List ℕ) → List (List ℕ) → ScriptLine → Call → Type 0
IsCallOfLine labels names l call = call_of_line labels names l ≡ Some call

-- the line asks for the modes of the verdict on its subject and its object
abbrev pub IsAskOfLine : List (List ℕ) → List (List ℕ) → ScriptLine → Verdict → Type 0
IsAskOfLine labels names l v = act_of_line labels names l ≡ Some (Act.Ask v.subject v.object v.modes)

-- The text of the line is refused so. A text refusal is the one that the text has. A batch is refused for want of
-- privilege, and for want of room where the rows of the journal, the writes and one are more than a journal has.
abbrev pub IsRefusalOfLine : List (List ℕ) → ScriptLine → Refusal → Type 0
IsRefusalOfLine labels l Refusal.NoSuchFile = compiled labels (word_in 1 l) l.text.bytes ≡ Err Refusal.NoSuchFile
IsRefusalOfLine labels l Refusal.TooLong = compiled labels (word_in 1 l) l.text.bytes ≡ Err Refusal.TooLong
IsRefusalOfLine labels l (Refusal.BadLine bad) = compiled labels (word_in 1 l) l.text.bytes ≡ Err (Refusal.BadLine bad)
IsRefusalOfLine labels l (Refusal.UnknownLabel line) = compiled labels (word_in 1 l) l.text.bytes ≡ Err (Refusal.UnknownLabel line)
IsRefusalOfLine labels l Refusal.NotPrivileged = (ops : List RuleOp) × (compiled labels (word_in 1 l) l.text.bytes ≡ Ok (Compiled.Rules ops))
IsRefusalOfLine labels l (Refusal.JournalFull rows) =
    (ops : List RuleOp) × (compiled labels (word_in 1 l) l.text.bytes ≡ Ok (Compiled.Rules ops)) × (most_rows < rows + length ops + 1)

-- the line is what this asked, refused or waited line says
abbrev pub IsAskedOfLine : List (List ℕ) → List (List ℕ) → ScriptLine → AskedWhat → Type 0
IsAskedOfLine labels names l (AskedWhat.Ask v) = IsAskOfLine labels names l v
IsAskedOfLine labels names l (AskedWhat.Refused file fault) = (verb_in l ≡ Some Verb.Write) × (file ≡ word_in 1 l) × IsRefusalOfLine labels l fault
IsAskedOfLine labels names l (AskedWhat.Wait pid) = act_of_line labels names l ≡ Some (Act.Wait pid)
