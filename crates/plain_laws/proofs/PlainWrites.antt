use Rattle.std.proofs.Common.{◌≡◌, ◌≤◌, ℕ, List, [], ◌∷◌, length, refl, subst, Option, Some, None, Result, Ok, Err}
use Rattle.std.specs.Prelude.{nat_lt}
use Rattle.std.specs.List.{AllByRecursion}
use Rattle.smack_base.specs.declared.rule_op.RuleOp.{RuleOp}
use Rattle.smack_base.specs.declared.rule_op.RuleOp.TheVariants as RuleOp
use Rattle.smack_base.specs.declared.ids.LabelId.{LabelId}
use Rattle.text_spec.specs.declared.BadLine.{BadLine}
use Rattle.text_spec.specs.Names.{id_of}
use Rattle.file_spec.specs.declared.SelfFile.TheVariants as SelfFile
use Rattle.file_spec.specs.declared.SmackFile.{SmackFile}
use Rattle.file_spec.specs.declared.SmackFile.TheVariants as SmackFile
use Rattle.file_spec.specs.declared.Refusal.{Refusal}
use Rattle.file_spec.specs.declared.Refusal.TheVariants as Refusal
use Rattle.file_spec.specs.declared.Compiled.TheVariants as Compiled
use Rattle.file_spec.specs.Writes.{NamedWrite, NamedSet, NamedChange, NamedRevoke, NamedClear, NamedAdd, NamedAmbient, NamedPtrace, NamedLogging, file_of, read_as, line_of, writes_of_text}
use Rattle.file_spec.specs.Files.{by_id, by_ids, op_of, ops_of, ops_of_writes, if_accepted, compiled_text, compiled_in, compiled}
use Rattle.replay_spec.specs.Plain.{IsPlainOp}
use Rattle.replay_spec.proofs.KnownLabels.{HasIds, first_op, not_refused, compiled_known}
use Rattle.plain_laws.proofs.GoodWrites.{IsGoodWrite, good_writes}

-- the number of a write is one that its file takes
abbrev IsNumbered : RuleOp → Type 0
IsNumbered (RuleOp.Set s o m) = Unit {0}
IsNumbered (RuleOp.Change s o allow deny) = Unit {0}
IsNumbered (RuleOp.Revoke s) = Unit {0}
IsNumbered RuleOp.OnlyClear = Unit {0}
IsNumbered (RuleOp.OnlyAdd l) = Unit {0}
IsNumbered (RuleOp.Ambient l) = Unit {0}
IsNumbered (RuleOp.Ptrace n) = n ≤ 2
IsNumbered (RuleOp.Logging n) = n ≤ 3

by_id_numbered : (line : ℕ) (id : Option LabelId) (make : LabelId → RuleOp) (op : RuleOp) → ((a : LabelId) → IsNumbered (make a))
    → by_id line id make ≡ Ok op → IsNumbered op
by_id_numbered line None make op each is = cc
by_id_numbered line (Some a) make op each is = let same : make a ≡ op = cc in subst IsNumbered same (each a)

by_ids_numbered : (line : ℕ) (s o : Option LabelId) (make : LabelId → LabelId → RuleOp) (op : RuleOp) → ((a b : LabelId) → IsNumbered (make a b))
    → by_ids line s o make ≡ Ok op → IsNumbered op
by_ids_numbered line None o make op each is = cc
by_ids_numbered line (Some a) None make op each is = cc
by_ids_numbered line (Some a) (Some b) make op each is = let same : make a b ≡ op = cc in subst IsNumbered same (each a b)

same_numbered : (op op' : RuleOp) → IsNumbered op → ◌≡◌ {A = Result RuleOp Refusal} (Ok op) (Ok op') → IsNumbered op'
same_numbered op op' numbered is = let same : op ≡ op' = cc in subst IsNumbered same numbered

op_numbered : (table : List (List ℕ)) (text : List ℕ) (w : NamedWrite) (op : RuleOp) → IsGoodWrite w → op_of table text w ≡ Ok op → IsNumbered op
op_numbered table text (NamedSet s o m) op good is = by_ids_numbered (line_of text s.at) (id_of table s.bytes) (id_of table o.bytes) (λ a b. RuleOp.Set a b m) op (λ a b. tt) is
op_numbered table text (NamedChange s o allow deny) op good is =
    by_ids_numbered (line_of text s.at) (id_of table s.bytes) (id_of table o.bytes) (λ a b. RuleOp.Change a b allow deny) op (λ a b. tt) is
op_numbered table text (NamedRevoke s) op good is = by_id_numbered (line_of text s.at) (id_of table s.bytes) (λ l. RuleOp.Revoke l) op (λ a. tt) is
op_numbered table text NamedClear op good is = same_numbered RuleOp.OnlyClear op tt is
op_numbered table text (NamedAdd l) op good is = by_id_numbered (line_of text l.at) (id_of table l.bytes) (λ a. RuleOp.OnlyAdd a) op (λ a. tt) is
op_numbered table text (NamedAmbient l) op good is = by_id_numbered (line_of text l.at) (id_of table l.bytes) (λ a. RuleOp.Ambient a) op (λ a. tt) is
op_numbered table text (NamedPtrace n) op good is = same_numbered (RuleOp.Ptrace n) op good is
op_numbered table text (NamedLogging n) op good is = same_numbered (RuleOp.Logging n) op good is

ops_numbered : (table : List (List ℕ)) (text : List ℕ) (ws : List NamedWrite) (ops : List RuleOp) → AllByRecursion IsGoodWrite ws
    → ops_of table text ws ≡ Ok ops → AllByRecursion IsNumbered ops
ops_numbered table text [] ops good is = let none : [] ≡ ops = cc in subst (AllByRecursion IsNumbered) none tt
ops_numbered table text (w ∷ ws) ops good is =
    let first = first_op (op_of table text w) (ops_of table text ws) ops is in
    subst (AllByRecursion IsNumbered) first.4
    (op_numbered table text w first.0 good.0 first.2, ops_numbered table text ws first.1 good.1 first.3)

writes_numbered : (table : List (List ℕ)) (text : List ℕ) (writes : Result (List NamedWrite) BadLine) (ops : List RuleOp)
    → ((ws : List NamedWrite) → writes ≡ Ok ws → AllByRecursion IsGoodWrite ws) → ops_of_writes table text writes ≡ Ok ops
    → AllByRecursion IsNumbered ops
writes_numbered table text (Ok ws) ops good is = ops_numbered table text ws ops (good ws refl) is
writes_numbered table text (Err b) ops good is = cc

-- rules are what a text becomes for a file of rules
rules_of : (file : SmackFile) (made : Result (List RuleOp) Refusal) (ops : List RuleOp) → if_accepted file made ≡ Ok (Compiled.Rules ops) → made ≡ Ok ops
rules_of (SmackFile.Rule file) (Ok ops') ops is = cc
rules_of (SmackFile.Own SelfFile.LoadSelf2) (Ok ops') ops is = cc
rules_of (SmackFile.Own SelfFile.LoadSelf) (Ok ops') ops is = cc
rules_of (SmackFile.Own SelfFile.RelabelSelf) (Ok ops') ops is = cc
rules_of file (Err e) ops is = cc

in_file_numbered : (table : List (List ℕ)) (file : Option SmackFile) (text : List ℕ) (ops : List RuleOp) → compiled_in table file text ≡ Ok (Compiled.Rules ops)
    → AllByRecursion IsNumbered ops
in_file_numbered table None text ops is = cc
in_file_numbered table (Some file) text ops is =
    let made = rules_of file (ops_of_writes table text (writes_of_text (read_as file) text)) ops
    (not_refused (nat_lt 65536 (length text)) Refusal.TooLong (compiled_text table file text) (Compiled.Rules ops) is) in
    writes_numbered table text (writes_of_text (read_as file) text) ops (good_writes (read_as file) text) made

op_is_plain : (table : List (List ℕ)) (op : RuleOp) → HasIds table op → IsNumbered op → IsPlainOp table op
op_is_plain table (RuleOp.Set s o m) known numbered = known
op_is_plain table (RuleOp.Change s o allow deny) known numbered = known
op_is_plain table (RuleOp.Revoke s) known numbered = known
op_is_plain table RuleOp.OnlyClear known numbered = tt
op_is_plain table (RuleOp.OnlyAdd l) known numbered = known
op_is_plain table (RuleOp.Ambient l) known numbered = known
op_is_plain table (RuleOp.Ptrace n) known numbered = numbered
op_is_plain table (RuleOp.Logging n) known numbered = numbered

ops_are_plain : (table : List (List ℕ)) (ops : List RuleOp) → AllByRecursion (HasIds table) ops → AllByRecursion IsNumbered ops
    → AllByRecursion (IsPlainOp table) ops
ops_are_plain table [] known numbered = tt
ops_are_plain table (op ∷ ops) known numbered = (op_is_plain table op known.0 numbered.0, ops_are_plain table ops known.1 numbered.1)

-- rules that a text becomes are plain by the table that they were made by
pub compiled_is_plain : (table : List (List ℕ)) (file text : List ℕ) (ops : List RuleOp) → compiled table file text ≡ Ok (Compiled.Rules ops)
    → AllByRecursion (IsPlainOp table) ops
compiled_is_plain table file text ops is =
    ops_are_plain table ops (compiled_known table file text (Compiled.Rules ops) is) (in_file_numbered table (file_of file) text ops is)
