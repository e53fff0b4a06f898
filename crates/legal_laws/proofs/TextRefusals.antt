use Rattle.std.proofs.Common.{◌≡◌, ℕ, Bool, true, false, List, [], ◌∷◌, if◌then◌else◌, Option, Some, None, Result, Ok, Err, refl, subst}
use Rattle.std.specs.Prelude.{is_some, nat_lt, length}
use Rattle.std.specs.Option.{option_map, option_or}
use Rattle.smack_base.specs.declared.ids.LabelId.{LabelId}
use Rattle.smack_base.specs.declared.rule_op.RuleOp.{RuleOp}
use Rattle.text_spec.specs.declared.BadLine.{BadLine as BadLineOf}
use Rattle.text_spec.specs.Names.{id_of}
use Rattle.file_spec.specs.declared.RuleFile.{RuleFile}
use Rattle.file_spec.specs.declared.SelfFile.{SelfFile}
use Rattle.file_spec.specs.declared.SelfFile.TheVariants as SelfFile
use Rattle.file_spec.specs.declared.SmackFile.{SmackFile}
use Rattle.file_spec.specs.declared.SmackFile.TheVariants as SmackFile
use Rattle.file_spec.specs.declared.Refusal.{Refusal}
use Rattle.file_spec.specs.declared.Refusal.TheVariants as Refusal
use Rattle.file_spec.specs.declared.Compiled.{Compiled}
use Rattle.file_spec.specs.declared.Compiled.TheVariants as Compiled
use Rattle.file_spec.specs.Writes.{NamedWrite, NamedSet, NamedChange, NamedRevoke, NamedClear, NamedAdd, NamedAmbient, NamedPtrace, NamedLogging, rule_file, self_file, file_of, read_as, line_of, writes_of_text}
use Rattle.file_spec.specs.Files.{by_id, by_ids, op_of, with_first_op, ops_of, ops_of_writes, becomes, if_accepted, compiled_text, compiled_in, compiled}

-- a refusal that a text alone may have
abbrev pub IsTextRefusal : Refusal → Type 0
IsTextRefusal Refusal.NoSuchFile = Unit {0}
IsTextRefusal Refusal.TooLong = Unit {0}
IsTextRefusal (Refusal.BadLine bad) = Unit {0}
IsTextRefusal (Refusal.UnknownLabel line) = Unit {0}
IsTextRefusal Refusal.NotPrivileged = ⊥
IsTextRefusal (Refusal.JournalFull rows) = ⊥

abbrev IsOfText : {A : Type 0} → Result A Refusal → Type 0
IsOfText (Ok a) = Unit {0}
IsOfText (Err fault) = IsTextRefusal fault

id_of_text : (line : ℕ) (l : Option LabelId) (make : LabelId → RuleOp) → IsOfText (by_id line l make)
id_of_text line None make = tt
id_of_text line (Some l) make = tt

ids_of_text : (line : ℕ) (s o : Option LabelId) (make : LabelId → LabelId → RuleOp) → IsOfText (by_ids line s o make)
ids_of_text line None o make = tt
ids_of_text line (Some s) None make = tt
ids_of_text line (Some s) (Some o) make = tt

op_of_text : (table : List (List ℕ)) (text : List ℕ) (w : NamedWrite) → IsOfText (op_of table text w)
op_of_text table text (NamedSet s o m) = ids_of_text (line_of text s.at) (id_of table s.bytes) (id_of table o.bytes) _
op_of_text table text (NamedChange s o allow deny) = ids_of_text (line_of text s.at) (id_of table s.bytes) (id_of table o.bytes) _
op_of_text table text (NamedRevoke s) = id_of_text (line_of text s.at) (id_of table s.bytes) _
op_of_text table text NamedClear = tt
op_of_text table text (NamedAdd p) = id_of_text (line_of text p.at) (id_of table p.bytes) _
op_of_text table text (NamedAmbient p) = id_of_text (line_of text p.at) (id_of table p.bytes) _
op_of_text table text (NamedPtrace n) = tt
op_of_text table text (NamedLogging n) = tt

first_of_text : (op : Result RuleOp Refusal) (more : Result (List RuleOp) Refusal) → IsOfText op → IsOfText more → IsOfText (with_first_op op more)
first_of_text (Err e) more is rest = is
first_of_text (Ok op) (Err e) is rest = rest
first_of_text (Ok op) (Ok ops) is rest = tt

ops_of_text : (table : List (List ℕ)) (text : List ℕ) (writes : List NamedWrite) → IsOfText (ops_of table text writes)
ops_of_text table text [] = tt
ops_of_text table text (w ∷ ws) = first_of_text (op_of table text w) (ops_of table text ws) (op_of_text table text w) (ops_of_text table text ws)

writes_of_text_is : (table : List (List ℕ)) (text : List ℕ) (writes : Result (List NamedWrite) BadLineOf) → IsOfText (ops_of_writes table text writes)
writes_of_text_is table text (Err bad) = tt
writes_of_text_is table text (Ok writes) = ops_of_text table text writes

accepted_of_text : (file : SmackFile) (ops : Result (List RuleOp) Refusal) → IsOfText ops → IsOfText (if_accepted file ops)
accepted_of_text file (Ok ops) is = tt
accepted_of_text file (Err e) is = is

in_of_text : (table : List (List ℕ)) (file : Option SmackFile) (text : List ℕ) → IsOfText (compiled_in table file text)
in_of_text table None text = tt
in_of_text table (Some file) text = by (nat_lt 65536 (length text))
  where
    by : (long : Bool) → IsOfText (if long then Err Refusal.TooLong else compiled_text table file text)
    by true = tt
    by false =
        accepted_of_text file (ops_of_writes table text (writes_of_text (read_as file) text))
        (writes_of_text_is table text (writes_of_text (read_as file) text))

by_text : (made : Result Compiled Refusal) (fault : Refusal) → made ≡ Err fault → IsOfText made → IsTextRefusal fault
by_text made fault is of_text = subst (λ m. IsOfText m) is of_text

-- a text is refused neither for want of privilege nor for want of room
pub text_refusal : (table : List (List ℕ)) (name text : List ℕ) (fault : Refusal) → compiled table name text ≡ Err fault → IsTextRefusal fault
text_refusal table name text fault is = by_text (compiled table name text) fault is (in_of_text table (file_of name) text)

-- what becomes a batch of rule writes was written to a file of rules or settings
abbrev IsRulesOnly : Option RuleFile → Result Compiled Refusal → Type 0
IsRulesOnly file (Ok (Compiled.Rules ops)) = is_some file ≡ true
IsRulesOnly file (Ok (Compiled.SelfRules rules)) = Unit {0}
IsRulesOnly file (Ok (Compiled.Relabels list)) = Unit {0}
IsRulesOnly file (Err fault) = Unit {0}

own_becomes : (rule : Option RuleFile) (file : SelfFile) (ops : List RuleOp) → IsRulesOnly rule (Ok (becomes (SmackFile.Own file) ops))
own_becomes rule SelfFile.LoadSelf2 ops = tt
own_becomes rule SelfFile.LoadSelf ops = tt
own_becomes rule SelfFile.RelabelSelf ops = tt

own_accepted : (rule : Option RuleFile) (file : SelfFile) (ops : Result (List RuleOp) Refusal) → IsRulesOnly rule (if_accepted (SmackFile.Own file) ops)
own_accepted rule file (Ok ops) = own_becomes rule file ops
own_accepted rule file (Err e) = tt

own_compiled : (rule : Option RuleFile) (table : List (List ℕ)) (file : Option SelfFile) (text : List ℕ)
    → IsRulesOnly rule (compiled_in table (option_map (λ f. SmackFile.Own f) file) text)
own_compiled rule table None text = tt
own_compiled rule table (Some file) text = by (nat_lt 65536 (length text))
  where
    by : (long : Bool) → IsRulesOnly rule (if long then Err Refusal.TooLong else compiled_text table (SmackFile.Own file) text)
    by true = tt
    by false = own_accepted rule file (ops_of_writes table text (writes_of_text (read_as (SmackFile.Own file)) text))

rules_only : (file : Option RuleFile) (made : Result Compiled Refusal) → is_some file ≡ true → IsRulesOnly file made
rules_only file (Ok (Compiled.Rules ops)) is = is
rules_only file (Ok (Compiled.SelfRules rules)) is = tt
rules_only file (Ok (Compiled.Relabels list)) is = tt
rules_only file (Err fault) is = tt

by_file : (table : List (List ℕ)) (rule : Option RuleFile) (own : Option SelfFile) (text : List ℕ)
    → IsRulesOnly rule (compiled_in table (option_or (option_map (λ file. SmackFile.Rule file) rule) (option_map (λ file. SmackFile.Own file) own)) text)
by_file table None own text = own_compiled None table own text
by_file table (Some file) own text = rules_only (Some file) (compiled_in table (Some (SmackFile.Rule file)) text) refl

by_rules : (file : Option RuleFile) (made : Result Compiled Refusal) (ops : List RuleOp) → made ≡ Ok (Compiled.Rules ops) → IsRulesOnly file made → is_some file ≡ true
by_rules file made ops is only = subst (λ m. IsRulesOnly file m) is only

pub rules_of_file : (table : List (List ℕ)) (name text : List ℕ) (ops : List RuleOp) → compiled table name text ≡ Ok (Compiled.Rules ops)
    → is_some (rule_file name) ≡ true
rules_of_file table name text ops is =
    by_rules (rule_file name) (compiled table name text) ops is (by_file table (rule_file name) (self_file name) text)
