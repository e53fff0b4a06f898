use Rattle.std.proofs.Common.{◌≡◌, ℕ, ◌+◌, ◌-◌, ◌<◌, ◌≤◌, true, false, List, [], ◌∷◌, length, refl, subst, arith, Option, Some, None, if◌then◌else◌}
use Rattle.std.specs.Prelude.{Result, Ok, Err, IfOk, map, nat_lt, nat_le, ◌&&◌}
use Rattle.std.proofs.lemmas.List.{length-map}
use Rattle.std.proofs.lemmas.Bool.{and_parts}
use Rattle.std.proofs.lemmas.Bool.Decides.{nat_tests}
use Rattle.smack_base.specs.declared.ids.LabelId.{LabelId}
use Rattle.smack_base.specs.declared.rule_op.RuleOp.{RuleOp}
use Rattle.smack_base.specs.declared.rule_op.RuleOp.TheVariants as RuleOp
use Rattle.text_spec.specs.declared.BadLine.{BadLine}
use Rattle.text_spec.specs.declared.RuleForm.TheVariants as RuleForm
use Rattle.text_spec.specs.Texts.{Placed}
use Rattle.text_spec.specs.Names.{place_of, has_name, id_of}
use Rattle.text_spec.specs.RuleTexts.{rule_answers, subject_answers, all_words, label_answers, only_word, all_good, with_first}
use Rattle.file_spec.specs.declared.RuleFile.{RuleFile}
use Rattle.file_spec.specs.declared.SelfFile.TheVariants as SelfFile
use Rattle.file_spec.specs.declared.SmackFile.{SmackFile}
use Rattle.file_spec.specs.declared.SmackFile.TheVariants as SmackFile
use Rattle.file_spec.specs.declared.RuleFile.TheVariants as RuleFile
use Rattle.file_spec.specs.declared.Refusal.{Refusal}
use Rattle.file_spec.specs.declared.Refusal.TheVariants as Refusal
use Rattle.file_spec.specs.declared.Compiled.{Compiled}
use Rattle.file_spec.specs.declared.Compiled.TheVariants as Compiled
use Rattle.file_spec.specs.Writes.{NamedWrite, NamedSet, NamedChange, NamedRevoke, NamedClear, NamedAdd, NamedAmbient, NamedPtrace, NamedLogging, file_of, read_as, line_of, set_write, change_write, digit_in, digit_or_fault, with_word, number_in, on_good, label_in, write_answers, writes_of_text}
use Rattle.file_spec.specs.Files.{becomes, by_id, by_ids, op_of, with_first_op, ops_of, ops_of_writes, if_accepted, compiled_text, compiled_in, compiled}
use Rattle.world_spec.specs.declared.Call.{Call}
use Rattle.rule_word.specs.Layout.{IsId, IsPackable}
use Rattle.live_table.specs.Lists.{Has, here, there}
use Rattle.smack_kernel.specs.Tasks.{TaskValue}
use Rattle.smack_kernel.specs.Answers.{ArePackedOps, IsWriteRefused, IsTextRefused, written_call, IsOwnWritten, IsWritten, TakesPen}
use Rattle.smack_kernel.specs.declared.kernel.Written.{Written}
use Rattle.smack_kernel.specs.declared.kernel.Written.TheVariants as Written
use Rattle.smack_kernel.proofs.Counts.{rules_few, subjects_few, labels_few}

-- a refusal of a text, and not of its writer or its journal
abbrev pub IsTextual : Refusal → Type 0
IsTextual Refusal.NoSuchFile = Unit {0}
IsTextual Refusal.TooLong = Unit {0}
IsTextual (Refusal.BadLine bad) = Unit {0}
IsTextual (Refusal.UnknownLabel line) = Unit {0}
IsTextual Refusal.NotPrivileged = ⊥
IsTextual (Refusal.JournalFull rows) = ⊥

-- ids of a table of at most 65,535 labels
abbrev SmallId : Option LabelId → Type 0
SmallId None = Unit {0}
SmallId (Some l) = IsId l

id_small : (table : List (List ℕ)) (name : List ℕ) → length table ≤ 65535 → SmallId (id_of table name)
id_small table name few = (elim (has_name table name) as
    (λ t. has_name table name ≡ t → SmallId (if t then Some (record { 0 = place_of table name }) else None)) [
      | true ↦ λ e. let l : place_of table name < length table = grind (arith, nat_tests) in omega arith
      | false ↦ λ e. tt
    ]) refl

-- the numbers of a write are those that its file takes
abbrev IsSmall : NamedWrite → Type 0
IsSmall (NamedPtrace n) = n ≤ 2
IsSmall (NamedLogging n) = n ≤ 3
IsSmall _ = Unit {0}

abbrev GoodOp : Result RuleOp Refusal → Type 0
GoodOp (Ok op) = IsPackable op
GoodOp (Err f) = IsTextual f

by_id_good : (line : ℕ) (o : Option LabelId) (make : LabelId → RuleOp) → SmallId o
    → ((l : LabelId) → IsId l → IsPackable (make l)) → GoodOp (by_id line o make)
by_id_good line None make small packs = tt
by_id_good line (Some l) make small packs = packs l small

by_ids_good : (line : ℕ) (a b : Option LabelId) (make : LabelId → LabelId → RuleOp) → SmallId a → SmallId b
    → ((s o : LabelId) → IsId s → IsId o → IsPackable (make s o)) → GoodOp (by_ids line a b make)
by_ids_good line None b make p q packs = tt
by_ids_good line (Some s) None make p q packs = tt
by_ids_good line (Some s) (Some o) make p q packs = packs s o p q

module _ (table : List (List ℕ)) (few : length table ≤ 65535) (text : List ℕ) where
  op_good : (w : NamedWrite) → IsSmall w → GoodOp (op_of table text w)
  op_good (NamedSet s o m) p = by_ids_good (line_of text s.at) (id_of table s.bytes) (id_of table o.bytes)
      (λ a b. RuleOp.Set a b m) (id_small table s.bytes few) (id_small table o.bytes few) (λ a b x y. (x, y))
  op_good (NamedChange s o allow deny) p = by_ids_good (line_of text s.at) (id_of table s.bytes) (id_of table o.bytes)
      (λ a b. RuleOp.Change a b allow deny) (id_small table s.bytes few) (id_small table o.bytes few) (λ a b x y. (x, y))
  op_good (NamedRevoke s) p = by_id_good (line_of text s.at) (id_of table s.bytes) (λ l. RuleOp.Revoke l)
      (id_small table s.bytes few) (λ l x. x)
  op_good NamedClear p = tt
  op_good (NamedAdd l) p = by_id_good (line_of text l.at) (id_of table l.bytes) (λ l. RuleOp.OnlyAdd l)
      (id_small table l.bytes few) (λ l x. x)
  op_good (NamedAmbient l) p = by_id_good (line_of text l.at) (id_of table l.bytes) (λ l. RuleOp.Ambient l)
      (id_small table l.bytes few) (λ l x. x)
  op_good (NamedPtrace n) p = p
  op_good (NamedLogging n) p = p

-- so many writes, each with a word
record AreGood (n : ℕ) (ops : List RuleOp) : Type 0 where
  count : length ops ≡ n
  packed : (op : RuleOp) → Has op ops → IsPackable op

abbrev GoodOps : ℕ → Result (List RuleOp) Refusal → Type 0
GoodOps n (Ok ops) = AreGood n ops
GoodOps n (Err f) = IsTextual f

first_good : (n : ℕ) (r : Result RuleOp Refusal) (rs : Result (List RuleOp) Refusal) → GoodOp r → GoodOps n rs
    → GoodOps (n + 1) (with_first_op r rs)
first_good n (Err e) rs p q = p
first_good n (Ok op) (Err e) p q = q
first_good n (Ok op) (Ok ops) p q = record { count = let c = q.count in omega arith; packed = each }
  where
    each : (x : RuleOp) → Has x (op ∷ ops) → IsPackable x
    each x here = p
    each x (there h) = q.packed x h

abbrev AreSmall : List NamedWrite → Type 0
AreSmall [] = Unit {0}
AreSmall (w ∷ ws) = IsSmall w × AreSmall ws

ops_good : (table : List (List ℕ)) → length table ≤ 65535 → (text : List ℕ) (ws : List NamedWrite) → AreSmall ws
    → GoodOps (length ws) (ops_of table text ws)
ops_good table few text [] p = record { count = refl; packed = λ op h. elim h [ ] }
ops_good table few text (w ∷ ws) p =
    subst (λ n. GoodOps n (ops_of table text (w ∷ ws))) (let e : length ws + 1 ≡ length (w ∷ ws) = omega arith in e)
    (first_good (length ws) (op_of table text w) (ops_of table text ws) (op_good table few text w p.0)
    (ops_good table few text ws p.1))

abbrev SmallAnswers : List (Result NamedWrite BadLine) → Type 0
SmallAnswers [] = Unit {0}
SmallAnswers (Ok w ∷ rs) = IsSmall w × SmallAnswers rs
SmallAnswers (Err b ∷ rs) = SmallAnswers rs

record SmallWrites (n : ℕ) (ws : List NamedWrite) : Type 0 where
  count : length ws ≡ n
  small : AreSmall ws

abbrev GoodWrites : ℕ → Result (List NamedWrite) BadLine → Type 0
GoodWrites n (Ok ws) = SmallWrites n ws
GoodWrites n (Err b) = Unit {0}

with_first_small : (n : ℕ) (w : NamedWrite) (rs : Result (List NamedWrite) BadLine) → IsSmall w → GoodWrites n rs
    → GoodWrites (n + 1) (with_first (Ok w) rs)
with_first_small n w (Err b) p q = tt
with_first_small n w (Ok ws) p q = record { count = let c = q.count in omega arith; small = (p, q.small) }

all_small : (rs : List (Result NamedWrite BadLine)) → SmallAnswers rs → GoodWrites (length rs) (all_good rs)
all_small [] p = record { count = refl; small = tt }
all_small (Ok w ∷ rs) p =
    subst (λ n. GoodWrites n (all_good (Ok w ∷ rs))) (let e : length rs + 1 ≡ length (Ok w ∷ rs) = omega arith in e)
    (with_first_small (length rs) w (all_good rs) p.0 (all_small rs p.1))
all_small (Err b ∷ rs) p = tt

module _ {A : Type 0} (f : A → NamedWrite) (small : (x : A) → IsSmall (f x)) where
  map_small : (rs : List (Result A BadLine)) → SmallAnswers (map (on_good f) rs)
  map_small [] = tt
  map_small (Ok x ∷ rs) = (small x, map_small rs)
  map_small (Err b ∷ rs) = map_small rs

abbrev UpTo : ℕ → Result ℕ BadLine → Type 0
UpTo last (Ok n) = n ≤ last
UpTo last (Err b) = Unit {0}

digit_small : (last : ℕ) (text : List ℕ) (p : Placed) (bytes : List ℕ)
    → UpTo last (digit_or_fault text (digit_in last bytes) p)
digit_small last text p [] = tt
digit_small last text p
    (b ∷ []) = (elim (nat_le 48 b && nat_le b (48 + last)) as
    (λ t. (nat_le 48 b && nat_le b (48 + last)) ≡ t
    → UpTo last (digit_or_fault text (if t then Some (b - 48) else None) p)) [
      | true ↦ λ e. let h = and_parts (nat_le 48 b) (nat_le b (48 + last)) e in
          let l : b ≤ 48 + last = grind (arith, nat_tests) in omega arith
      | false ↦ λ e. tt
    ]) refl
digit_small last text p (b ∷ c ∷ bytes) = tt

number_small : (last : ℕ) (text : List ℕ) → UpTo last (number_in last text)
number_small last text = by (only_word (all_words text))
  where
    by : (r : Result Placed BadLine) → UpTo last (with_word (λ p. digit_or_fault text (digit_in last p.bytes) p) r)
    by (Err b) = tt
    by (Ok p) = digit_small last text p p.bytes

one_small : (last : ℕ) (make : ℕ → NamedWrite) → ((n : ℕ) → n ≤ last → IsSmall (make n)) → (r : Result ℕ BadLine)
    → UpTo last r → SmallAnswers (on_good make r ∷ [])
one_small last make small (Ok n) p = (small n p, tt)
one_small last make small (Err b) p = tt

-- what a text spells is small, and not much
answers_small : (f : RuleFile) (text : List ℕ) → SmallAnswers (write_answers f text)
answers_small RuleFile.Load2 text = map_small set_write (λ x. tt) (rule_answers RuleForm.Long text)
answers_small RuleFile.Load text = map_small set_write (λ x. tt) (rule_answers RuleForm.Short text)
answers_small RuleFile.ChangeRule text = map_small change_write (λ x. tt) (rule_answers RuleForm.Change text)
answers_small RuleFile.RevokeSubject text = map_small NamedRevoke (λ x. tt) (subject_answers text)
answers_small RuleFile.Onlycap text = (tt, map_small NamedAdd (λ x. tt) (label_answers (all_words text)))
answers_small RuleFile.Ambient text = map_small NamedAmbient (λ x. tt) (label_in text ∷ [])
answers_small RuleFile.Ptrace text = one_small 2 NamedPtrace (λ n p. p) (number_in 2 text) (number_small 2 text)
answers_small RuleFile.Logging text = one_small 3 NamedLogging (λ n p. p) (number_in 3 text) (number_small 3 text)

answers_few : (f : RuleFile) (text : List ℕ) → length text ≤ 65536 → length (write_answers f text) < 65536
answers_few RuleFile.Load2 text l =
    let a = rules_few RuleForm.Long text in
    let b = length-map (rule_answers RuleForm.Long text) (on_good set_write) in omega arith
answers_few RuleFile.Load text l =
    let a = rules_few RuleForm.Short text in
    let b = length-map (rule_answers RuleForm.Short text) (on_good set_write) in omega arith
answers_few RuleFile.ChangeRule text l =
    let a = rules_few RuleForm.Change text in
    let b = length-map (rule_answers RuleForm.Change text) (on_good change_write) in omega arith
answers_few RuleFile.RevokeSubject text l =
    let a = subjects_few text in let b = length-map (subject_answers text) (on_good NamedRevoke) in omega arith
answers_few RuleFile.Onlycap text l =
    let a = labels_few text in let b = length-map (label_answers (all_words text)) (on_good NamedAdd) in omega arith
answers_few RuleFile.Ambient text l = omega arith
answers_few RuleFile.Ptrace text l = omega arith
answers_few RuleFile.Logging text l = omega arith

-- what a text becomes can be held by a batch, where it is one, and it is refused for itself alone
abbrev pub GoodCompiled : Result Compiled Refusal → Type 0
GoodCompiled (Ok (Compiled.Rules ops)) = ArePackedOps ops
GoodCompiled (Ok (Compiled.SelfRules pairs)) = Unit {0}
GoodCompiled (Ok (Compiled.Relabels ids)) = Unit {0}
GoodCompiled (Err f) = IsTextual f

good_becomes : (file : SmackFile) (ops : List RuleOp) → ArePackedOps ops → GoodCompiled (Ok (becomes file ops))
good_becomes (SmackFile.Rule file) ops p = p
good_becomes (SmackFile.Own SelfFile.LoadSelf2) ops p = tt
good_becomes (SmackFile.Own SelfFile.LoadSelf) ops p = tt
good_becomes (SmackFile.Own SelfFile.RelabelSelf) ops p = tt

module _ (table : List (List ℕ)) (few : length table ≤ 65535) where
  writes_good : (file : SmackFile) (text : List ℕ) (n : ℕ) → n < 65536 → (r : Result (List NamedWrite) BadLine)
      → GoodWrites n r → GoodCompiled (if_accepted file (ops_of_writes table text r))
  writes_good file text n short (Err b) p = tt
  writes_good file text n short (Ok ws) p = by (ops_of table text ws) (ops_good table few text ws p.small)
    where
      by : (r : Result (List RuleOp) Refusal) → GoodOps (length ws) r → GoodCompiled (if_accepted file r)
      by (Err e) q = q
      by (Ok ops) q = good_becomes file ops (let c = q.count in let d = p.count in omega arith, q.packed)

  in_good : (file : Option SmackFile) (text : List ℕ) → GoodCompiled (compiled_in table file text)
  in_good None text = tt
  in_good (Some file) text = (elim (nat_lt 65536 (length text)) as (λ t. nat_lt 65536 (length text) ≡ t
      → GoodCompiled (if t then Err Refusal.TooLong else compiled_text table file text)) [
        | true ↦ λ e. tt
        | false ↦ λ e. let short : length text ≤ 65536 = grind (arith, nat_tests) in
            writes_good file text (length (write_answers (read_as file) text)) (answers_few (read_as file) text short)
            (writes_of_text (read_as file) text)
            (all_small (write_answers (read_as file) text) (answers_small (read_as file) text))
      ]) refl

  pub compiled_good : (name text : List ℕ) → GoodCompiled (compiled table name text)
  compiled_good name text = in_good (file_of name) text

-- a refusal of a text is a refused call
pub text_refused : (labels : List (List ℕ)) (v w : TaskValue) (name text : List ℕ) (version : ℕ) (fault : Refusal)
    → IsTextual fault
    → compiled labels name text ≡ Err fault → IsTextRefused v w version → IsWriteRefused labels v w name text version fault
text_refused labels v w name text version Refusal.NoSuchFile t e r = (e, r)
text_refused labels v w name text version Refusal.TooLong t e r = (e, r)
text_refused labels v w name text version (Refusal.BadLine bad) t e r = (e, r)
text_refused labels v w name text version (Refusal.UnknownLabel line) t e r = (e, r)
text_refused labels v w name text version Refusal.NotPrivileged t e r = absurd t
text_refused labels v w name text version (Refusal.JournalFull rows) t e r = absurd t

-- it takes no pen
pub text_penless : (v w : TaskValue) (version : ℕ) (fault : Refusal) → IsTextual fault → w.pens ≡ v.pens
    → TakesPen v w (Written.Refused version fault)
text_penless v w version Refusal.NoSuchFile t same = same
text_penless v w version Refusal.TooLong t same = same
text_penless v w version (Refusal.BadLine bad) t same = same
text_penless v w version (Refusal.UnknownLabel line) t same = same
text_penless v w version Refusal.NotPrivileged t same = absurd t
text_penless v w version (Refusal.JournalFull rows) t same = absurd t

-- a text that is an object call is written by it
pub own_written : {E : Type 0} (labels : List (List ℕ)) (v w : TaskValue) (name text : List ℕ) (call : Call)
    → written_call (compiled labels name text) ≡ Some call → (r : Result Written E) → IfOk r (IsOwnWritten v w call)
    → IfOk r (IsWritten labels v w name text)
own_written labels v w name text call is (Ok (Written.Batch version)) p = absurd p
own_written labels v w name text call is (Ok (Written.Entry e)) p = (p.0, (call, is, p.1))
own_written labels v w name text call is (Ok (Written.Refused version fault)) p = absurd p
own_written labels v w name text call is (Ok Written.TrailFull) p = (p, (call, is))
own_written labels v w name text call is (Ok Written.SeqFull) p = p
own_written labels v w name text call is (Err e) p = tt
