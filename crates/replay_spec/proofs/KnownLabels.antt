use Rattle.std.proofs.Common.{◌≡◌, ℕ, Bool, true, false, List, [], ◌∷◌, ◌++◌, if◌then◌else◌, Option, Some, None, Result, Ok, Err, refl, sym, subst}
use Rattle.std.specs.Prelude.{nat_lt, length}
use Rattle.std.specs.List.{AllByRecursion, flat_map}
use Rattle.smack_base.specs.declared.ids.LabelId.{LabelId}
use Rattle.smack_base.specs.declared.rule_op.Pair.{Pair}
use Rattle.smack_base.specs.declared.rule_op.RuleOp.{RuleOp}
use Rattle.text_spec.specs.Texts.{Placed}
use Rattle.text_spec.specs.declared.BadLine.{BadLine}
use Rattle.text_spec.specs.Names.{id_of}
use Rattle.label_table.proofs.Places.{id_is_named}
use Rattle.file_spec.specs.declared.SelfFile.TheVariants as SelfFile
use Rattle.file_spec.specs.declared.SmackFile.{SmackFile}
use Rattle.file_spec.specs.declared.Refusal.{Refusal}
use Rattle.file_spec.specs.declared.Compiled.{Compiled}
use Rattle.file_spec.specs.Writes.{NamedWrite, NamedSet, NamedChange, NamedRevoke, NamedClear, NamedAdd, NamedAmbient, NamedPtrace, NamedLogging, file_of, read_as, line_of, writes_of_text}
use Rattle.file_spec.specs.Files.{by_id, by_ids, of_label, of_pair, op_of, with_first_op, ops_of, ops_of_writes, pair_set, label_added, becomes, if_accepted, compiled_text, compiled_in, compiled}
use Rattle.replay_spec.specs.Plain.{HasId}

-- the labels of a write are known
abbrev pub HasIds : List (List ℕ) → RuleOp → Type 0
HasIds labels (RuleOp.Set s o m) = HasId labels s × HasId labels o
HasIds labels (RuleOp.Change s o allow deny) = HasId labels s × HasId labels o
HasIds labels (RuleOp.Revoke s) = HasId labels s
HasIds labels RuleOp.OnlyClear = Unit {0}
HasIds labels (RuleOp.OnlyAdd l) = HasId labels l
HasIds labels (RuleOp.Ambient l) = HasId labels l
HasIds labels (RuleOp.Ptrace n) = Unit {0}
HasIds labels (RuleOp.Logging n) = Unit {0}

abbrev pub IsKnownPair : List (List ℕ) → Pair → Type 0
IsKnownPair labels p = HasId labels p.s × HasId labels p.o

-- the labels of what a text becomes are known
abbrev pub IsKnownCompiled : List (List ℕ) → Compiled → Type 0
IsKnownCompiled labels (Compiled.Rules ops) = AllByRecursion (HasIds labels) ops
IsKnownCompiled labels (Compiled.SelfRules rules) = AllByRecursion (IsKnownPair labels) rules
IsKnownCompiled labels (Compiled.Relabels list) = AllByRecursion (HasId labels) list

-- an id that a table gives, it has
pub known_id : (labels : List (List ℕ)) (name : List ℕ) (l : LabelId) → id_of labels name ≡ Some l → HasId labels l
known_id labels name l is = (id_is_named labels name l.0 (sym is)).0

-- a write to one label is by an id that the table has
one_known : (labels : List (List ℕ)) (name : List ℕ) (line : ℕ) (id : Option LabelId) (make : LabelId → RuleOp) (op : RuleOp) → id_of labels name ≡ id
    → by_id line id make ≡ Ok op → (l : LabelId) × HasId labels l × (make l ≡ op)
one_known labels name line None make op known is = cc
one_known labels name line (Some l) make op known is = (l, known_id labels name l known, cc)

-- and one to two labels by ids that it has
both_known : (labels : List (List ℕ)) (subject object : List ℕ) (line : ℕ) (s o : Option LabelId) (make : LabelId → LabelId → RuleOp) (op : RuleOp)
    → id_of labels subject ≡ s → id_of labels object ≡ o → by_ids line s o make ≡ Ok op
    → (a : LabelId) × (b : LabelId) × HasId labels a × HasId labels b × (make a b ≡ op)
both_known labels subject object line None o make op first second is = cc
both_known labels subject object line (Some a) None make op first second is = cc
both_known labels subject object line (Some a) (Some b) make op first second is = (a, b, known_id labels subject a first, known_id labels object b second, cc)

pair_known : (labels : List (List ℕ)) (text : List ℕ) (s o : Placed) (make : LabelId → LabelId → RuleOp) (op : RuleOp)
    → ((a b : LabelId) → HasId labels a → HasId labels b → HasIds labels (make a b)) → of_pair labels text s o make ≡ Ok op → HasIds labels op
pair_known labels text s o make op has is =
    let known = both_known labels s.bytes o.bytes (line_of text s.at) (id_of labels s.bytes) (id_of labels o.bytes) make op refl refl is in
    subst (HasIds labels) known.4 (has known.0 known.1 known.2 known.3)

label_known : (labels : List (List ℕ)) (text : List ℕ) (l : Placed) (make : LabelId → RuleOp) (op : RuleOp)
    → ((a : LabelId) → HasId labels a → HasIds labels (make a)) → of_label labels text l make ≡ Ok op → HasIds labels op
label_known labels text l make op has is =
    let known = one_known labels l.bytes (line_of text l.at) (id_of labels l.bytes) make op refl is in
    subst (HasIds labels) known.2 (has known.0 known.1)

same_known : (labels : List (List ℕ)) (op op' : RuleOp) → HasIds labels op → ◌≡◌ {A = Result RuleOp Refusal} (Ok op) (Ok op') → HasIds labels op'
same_known labels op op' has is = let same : op ≡ op' = cc in subst (HasIds labels) same has

-- the labels of a write by ids are known
op_known : (labels : List (List ℕ)) (text : List ℕ) (w : NamedWrite) (op : RuleOp) → op_of labels text w ≡ Ok op → HasIds labels op
op_known labels text (NamedSet s o m) op is = pair_known labels text s o (λ a b. RuleOp.Set a b m) op (λ a b x y. (x, y)) is
op_known labels text (NamedChange s o allow deny) op is = pair_known labels text s o (λ a b. RuleOp.Change a b allow deny) op (λ a b x y. (x, y)) is
op_known labels text (NamedRevoke s) op is = label_known labels text s (λ l. RuleOp.Revoke l) op (λ l x. x) is
op_known labels text NamedClear op is = same_known labels RuleOp.OnlyClear op tt is
op_known labels text (NamedAdd l) op is = label_known labels text l (λ a. RuleOp.OnlyAdd a) op (λ a x. x) is
op_known labels text (NamedAmbient l) op is = label_known labels text l (λ a. RuleOp.Ambient a) op (λ a x. x) is
op_known labels text (NamedPtrace n) op is = same_known labels (RuleOp.Ptrace n) op tt is
op_known labels text (NamedLogging n) op is = same_known labels (RuleOp.Logging n) op tt is

-- what is made of a first write and of others
pub first_op : (r : Result RuleOp Refusal) (more : Result (List RuleOp) Refusal) (ops : List RuleOp) → with_first_op r more ≡ Ok ops
    → (op : RuleOp) × (rest : List RuleOp) × (r ≡ Ok op) × (more ≡ Ok rest) × (op ∷ rest ≡ ops)
first_op (Err e) more ops is = cc
first_op (Ok op) (Err e) ops is = cc
first_op (Ok op) (Ok rest) ops is = (op, rest, refl, refl, cc)

ops_known : (labels : List (List ℕ)) (text : List ℕ) (ws : List NamedWrite) (ops : List RuleOp) → ops_of labels text ws ≡ Ok ops
    → AllByRecursion (HasIds labels) ops
ops_known labels text [] ops is = let none : [] ≡ ops = cc in subst (AllByRecursion (HasIds labels)) none tt
ops_known labels text (w ∷ ws) ops is =
    let first = first_op (op_of labels text w) (ops_of labels text ws) ops is in
    subst (AllByRecursion (HasIds labels)) first.4 (op_known labels text w first.0 first.2, ops_known labels text ws first.1 first.3)

writes_known : (labels : List (List ℕ)) (text : List ℕ) (writes : Result (List NamedWrite) BadLine) (ops : List RuleOp)
    → ops_of_writes labels text writes ≡ Ok ops → AllByRecursion (HasIds labels) ops
writes_known labels text (Ok ws) ops is = ops_known labels text ws ops is
writes_known labels text (Err bad) ops is = cc

all_append : {X : Type 0} (P : X → Type 0) (xs ys : List X) → AllByRecursion P xs → AllByRecursion P ys → AllByRecursion P (xs ++ ys)
all_append P [] ys front behind = behind
all_append P (x ∷ xs) ys front behind = (front.0, all_append P xs ys front.1 behind)

-- what is picked of writes with known labels
picked : {X : Type 0} (labels : List (List ℕ)) (P : X → Type 0) (pick : RuleOp → List X)
    → ((op : RuleOp) → HasIds labels op → AllByRecursion P (pick op)) → (ops : List RuleOp) → AllByRecursion (HasIds labels) ops
    → AllByRecursion P (flat_map pick ops)
picked labels P pick each [] all = tt
picked labels P pick each (op ∷ ops) all = all_append P (pick op) (flat_map pick ops) (each op all.0) (picked labels P pick each ops all.1)

pair_set_known : (labels : List (List ℕ)) (op : RuleOp) → HasIds labels op → AllByRecursion (IsKnownPair labels) (pair_set op)
pair_set_known labels (RuleOp.Set s o m) has = (has, tt)
pair_set_known labels (RuleOp.Change s o allow deny) has = tt
pair_set_known labels (RuleOp.Revoke s) has = tt
pair_set_known labels RuleOp.OnlyClear has = tt
pair_set_known labels (RuleOp.OnlyAdd l) has = tt
pair_set_known labels (RuleOp.Ambient l) has = tt
pair_set_known labels (RuleOp.Ptrace n) has = tt
pair_set_known labels (RuleOp.Logging n) has = tt

label_added_known : (labels : List (List ℕ)) (op : RuleOp) → HasIds labels op → AllByRecursion (HasId labels) (label_added op)
label_added_known labels (RuleOp.Set s o m) has = tt
label_added_known labels (RuleOp.Change s o allow deny) has = tt
label_added_known labels (RuleOp.Revoke s) has = tt
label_added_known labels RuleOp.OnlyClear has = tt
label_added_known labels (RuleOp.OnlyAdd l) has = (has, tt)
label_added_known labels (RuleOp.Ambient l) has = tt
label_added_known labels (RuleOp.Ptrace n) has = tt
label_added_known labels (RuleOp.Logging n) has = tt

becomes_known : (labels : List (List ℕ)) (file : SmackFile) (ops : List RuleOp) → AllByRecursion (HasIds labels) ops
    → IsKnownCompiled labels (becomes file ops)
becomes_known labels (SmackFile.Rule file) ops all = all
becomes_known labels (SmackFile.Own SelfFile.LoadSelf2) ops all = picked labels (IsKnownPair labels) pair_set (pair_set_known labels) ops all
becomes_known labels (SmackFile.Own SelfFile.LoadSelf) ops all = picked labels (IsKnownPair labels) pair_set (pair_set_known labels) ops all
becomes_known labels (SmackFile.Own SelfFile.RelabelSelf) ops all = picked labels (HasId labels) label_added (label_added_known labels) ops all

accepted_known : (labels : List (List ℕ)) (file : SmackFile) (made : Result (List RuleOp) Refusal) (c : Compiled)
    → ((ops : List RuleOp) → made ≡ Ok ops → AllByRecursion (HasIds labels) ops) → if_accepted file made ≡ Ok c → IsKnownCompiled labels c
accepted_known labels file (Ok ops) c known is =
    let same : becomes file ops ≡ c = cc in subst (IsKnownCompiled labels) same (becomes_known labels file ops (known ops refl))
accepted_known labels file (Err e) c known is = cc

-- what is made, where a test that would refuse it first does not
pub not_refused : {A E : Type 0} (refused : Bool) (e : E) (made : Result A E) (x : A) → (if refused then Err e else made) ≡ Ok x → made ≡ Ok x
not_refused true e made x is = cc
not_refused false e made x is = is

in_file_known : (labels : List (List ℕ)) (file : Option SmackFile) (text : List ℕ) (c : Compiled) → compiled_in labels file text ≡ Ok c
    → IsKnownCompiled labels c
in_file_known labels None text c is = cc
in_file_known labels (Some file) text c is =
    accepted_known labels file (ops_of_writes labels text (writes_of_text (read_as file) text)) c
    (λ ops made. writes_known labels text (writes_of_text (read_as file) text) ops made)
    (not_refused (nat_lt 65536 (length text)) Refusal.TooLong (compiled_text labels file text) c is)

-- the labels of what a text becomes are known by the table that it was made by
pub compiled_known : (labels : List (List ℕ)) (name text : List ℕ) (c : Compiled) → compiled labels name text ≡ Ok c → IsKnownCompiled labels c
compiled_known labels name text c is = in_file_known labels (file_of name) text c is
