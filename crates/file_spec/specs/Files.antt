use Rattle.std.specs.Prelude.{ℕ, if◌then◌else◌, List, [], ◌∷◌, Option, Some, None, Result, Ok, Err, length, nat_lt}
use Rattle.std.specs.List.{flat_map}
use Rattle.smack_base.specs.declared.ids.LabelId.{LabelId}
use Rattle.smack_base.specs.declared.rule_op.Pair.{Pair}
use Rattle.smack_base.specs.declared.rule_op.RuleOp.{RuleOp}
use Rattle.smack_base.specs.declared.rule_op.RuleOp.TheVariants as RuleOp
use Rattle.text_spec.specs.Texts.{Placed}
use Rattle.text_spec.specs.declared.BadLine.{BadLine as BadLineOf}
use Rattle.text_spec.specs.Names.{id_of}
use Rattle.file_spec.specs.declared.SelfFile.TheVariants as SelfFile
use Rattle.file_spec.specs.declared.SmackFile.{SmackFile}
use Rattle.file_spec.specs.declared.SmackFile.TheVariants as SmackFile
use Rattle.file_spec.specs.declared.Refusal.{Refusal}
use Rattle.file_spec.specs.declared.Refusal.TheVariants as Refusal
use Rattle.file_spec.specs.declared.Compiled.{Compiled}
use Rattle.file_spec.specs.declared.Compiled.TheVariants as Compiled
use Rattle.file_spec.specs.Writes.{NamedWrite, NamedSet, NamedChange, NamedRevoke, NamedClear, NamedAdd, NamedAmbient, NamedPtrace, NamedLogging, file_of, read_as, line_of, writes_of_text}

-- a write by the ids of its labels, where the table has them
abbrev pub by_id : ℕ → Option LabelId → (LabelId → RuleOp) → Result RuleOp Refusal
by_id line None make = Err (Refusal.UnknownLabel line)
by_id line (Some l) make = Ok (make l)

abbrev pub by_ids : ℕ → Option LabelId → Option LabelId → (LabelId → LabelId → RuleOp) → Result RuleOp Refusal
by_ids line None o make = Err (Refusal.UnknownLabel line)
by_ids line (Some s) None make = Err (Refusal.UnknownLabel line)
by_ids line (Some s) (Some o) make = Ok (make s o)

abbrev pub of_label : List (List ℕ) → List ℕ → Placed → (LabelId → RuleOp) → Result RuleOp Refusal
of_label table text l make = by_id (line_of text l.at) (id_of table l.bytes) make

abbrev pub of_pair : List (List ℕ) → List ℕ → Placed → Placed → (LabelId → LabelId → RuleOp) → Result RuleOp Refusal
of_pair table text s o make = by_ids (line_of text s.at) (id_of table s.bytes) (id_of table o.bytes) make

abbrev pub op_of : List (List ℕ) → List ℕ → NamedWrite → Result RuleOp Refusal
op_of table text (NamedSet s o m) = of_pair table text s o (λ a b. RuleOp.Set a b m)
op_of table text (NamedChange s o allow deny) = of_pair table text s o (λ a b. RuleOp.Change a b allow deny)
op_of table text (NamedRevoke s) = of_label table text s (λ l. RuleOp.Revoke l)
op_of table text NamedClear = Ok RuleOp.OnlyClear
op_of table text (NamedAdd p) = of_label table text p (λ l. RuleOp.OnlyAdd l)
op_of table text (NamedAmbient p) = of_label table text p (λ l. RuleOp.Ambient l)
op_of table text (NamedPtrace n) = Ok (RuleOp.Ptrace n)
op_of table text (NamedLogging n) = Ok (RuleOp.Logging n)

-- all the writes, or the first refusal
abbrev pub with_first_op : Result RuleOp Refusal → Result (List RuleOp) Refusal → Result (List RuleOp) Refusal
with_first_op (Err e) more = Err e
with_first_op (Ok op) (Err e) = Err e
with_first_op (Ok op) (Ok ops) = Ok (op ∷ ops)

abbrev pub ops_of : List (List ℕ) → List ℕ → List NamedWrite → Result (List RuleOp) Refusal
ops_of table text [] = Ok []
ops_of table text (w ∷ ws) = with_first_op (op_of table text w) (ops_of table text ws)

-- a bad line is refused before an unknown label is
abbrev pub ops_of_writes : List (List ℕ) → List ℕ → Result (List NamedWrite) BadLineOf → Result (List RuleOp) Refusal
ops_of_writes table text (Err bad) = Err (Refusal.BadLine bad)
ops_of_writes table text (Ok writes) = ops_of table text writes

-- the pair and the modes of a write that sets a rule
abbrev pub pair_set : RuleOp → List Pair
pair_set (RuleOp.Set s o m) = (record { s = s; o = o; m = m }) ∷ []
pair_set (RuleOp.Change s o allow deny) = []
pair_set (RuleOp.Revoke s) = []
pair_set RuleOp.OnlyClear = []
pair_set (RuleOp.OnlyAdd l) = []
pair_set (RuleOp.Ambient l) = []
pair_set (RuleOp.Ptrace n) = []
pair_set (RuleOp.Logging n) = []

-- the label of a write that adds one to a list
abbrev pub label_added : RuleOp → List LabelId
label_added (RuleOp.Set s o m) = []
label_added (RuleOp.Change s o allow deny) = []
label_added (RuleOp.Revoke s) = []
label_added RuleOp.OnlyClear = []
label_added (RuleOp.OnlyAdd l) = l ∷ []
label_added (RuleOp.Ambient l) = []
label_added (RuleOp.Ptrace n) = []
label_added (RuleOp.Logging n) = []

-- what the writes of a text become: a file of the task takes the pairs that load2 or load would set, or the labels
-- that onlycap would list
abbrev pub becomes : SmackFile → List RuleOp → Compiled
becomes (SmackFile.Rule file) ops = Compiled.Rules ops
becomes (SmackFile.Own SelfFile.LoadSelf2) ops = Compiled.SelfRules (flat_map pair_set ops)
becomes (SmackFile.Own SelfFile.LoadSelf) ops = Compiled.SelfRules (flat_map pair_set ops)
becomes (SmackFile.Own SelfFile.RelabelSelf) ops = Compiled.Relabels (flat_map label_added ops)

abbrev pub if_accepted : SmackFile → Result (List RuleOp) Refusal → Result Compiled Refusal
if_accepted file (Ok ops) = Ok (becomes file ops)
if_accepted file (Err e) = Err e

-- what a text of at most 65,536 bytes becomes in a file
abbrev pub compiled_text : List (List ℕ) → SmackFile → List ℕ → Result Compiled Refusal
compiled_text table file text = if_accepted file (ops_of_writes table text (writes_of_text (read_as file) text))

abbrev pub compiled_in : List (List ℕ) → Option SmackFile → List ℕ → Result Compiled Refusal
compiled_in table None text = Err Refusal.NoSuchFile
compiled_in table (Some file) text = if nat_lt 65536 (length text) then Err Refusal.TooLong else compiled_text table file text

-- what a text becomes that is written to a file, or why it is refused
abbrev pub compiled : List (List ℕ) → List ℕ → List ℕ → Result Compiled Refusal
compiled table name text = compiled_in table (file_of name) text
