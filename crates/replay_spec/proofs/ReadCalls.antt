use Rattle.std.proofs.Common.{◌≡◌, ◌⊎◌, ⊎_elim, inl, inr, ℕ, List, true, Option, Some, None, Result, Ok, Err, refl, sym, subst}
use Rattle.std.specs.List.{AllByRecursion}
use Rattle.text_spec.specs.Texts.{Placed}
use Rattle.text_spec.specs.Names.{id_of}
use Rattle.file_spec.specs.declared.Refusal.{Refusal}
use Rattle.file_spec.specs.declared.Compiled.{Compiled}
use Rattle.file_spec.specs.Files.{compiled}
use Rattle.world_spec.specs.declared.tasks.TaskCall.{TaskCall}
use Rattle.world_spec.specs.declared.Call.{Call}
use Rattle.log_spec.specs.Audits.{is_word}
use Rattle.verb_spec.specs.declared.CallVerb.{CallVerb}
use Rattle.verb_spec.specs.declared.Verb.{Verb}
use Rattle.verb_spec.specs.Values.{pid_in, modes_in, values_behind}
use Rattle.verb_spec.specs.Verbs.{verb_of, call_kinds, call_from, made_call, spoken, call_verb}
use Rattle.verb_spec.proofs.Fitting.{values_fit}
use Rattle.verb_spec.proofs.Verbs.{call_made, values_of_made}
use Rattle.script_spec.specs.Lines.{ScriptLine, word_in, verb_in, words_behind}
use Rattle.replay_spec.specs.Calls.{of_one, of_three, file_call}
use Rattle.replay_spec.specs.declared.Act.{Act}
use Rattle.replay_spec.specs.Acts.{act_by, act_of_line, call_by}
use Rattle.replay_spec.specs.Plain.{HasId, HasPid, IsPlainCall}
use Rattle.replay_spec.proofs.KnownLabels.{IsKnownPair, IsKnownCompiled, compiled_known}
use Rattle.replay_spec.proofs.ReadValues.{known_pid, IsReadValue, values_are_read}

-- A call that words behind a verb make: the name that tells it is a word, and that of the verb, and its values are known.
pub record IsMadeCall (labels names : List (List ℕ)) (call : Call) : Type 0 where
  pub verb : CallVerb
  pub ws : List Placed
  pub makes : made_call labels names verb ws ≡ Some call
  pub named : verb_of (call_verb call) ≡ Some (Verb.Call verb)
  pub word : is_word (call_verb call) ≡ true
  pub values : AllByRecursion (IsReadValue labels names) (spoken call).values

-- What an object call of a line is made of: a task that has a name where it forks, labels that are known where it is self
-- rules or a list of labels, and words behind a verb where it is any other than the exit.
abbrev pub IsReadCall : List (List ℕ) → List (List ℕ) → Call → Type 0
IsReadCall labels names (Call.Task (TaskCall.Fork pid)) = HasPid names pid
IsReadCall labels names (Call.Task TaskCall.Exit) = Unit {0}
IsReadCall labels names (Call.Task (TaskCall.SelfRules rules)) = AllByRecursion (IsKnownPair labels) rules
IsReadCall labels names (Call.Task (TaskCall.Relabels list)) = AllByRecursion (HasId labels) list
IsReadCall labels names call = IsMadeCall labels names call

-- what holds of all that no word, one word or three words make, holds of what is made of them
pub of_none_holds : {C : Type 0} (P : C → Type 0) (made c : C) → P made → ◌≡◌ {A = Option C} (Some made) (Some c) → P c
of_none_holds P made c holds is = let same : made ≡ c = cc in subst P same holds

pub of_one_holds : {A C : Type 0} (P : C → Type 0) (a : Option A) (make : A → C) (c : C) → ((x : A) → a ≡ Some x → P (make x)) → of_one a make ≡ Some c → P c
of_one_holds P None make c each is = absurd cc
of_one_holds P (Some x) make c each is = let same : make x ≡ c = cc in subst P same (each x refl)

pub of_three_holds : {A B C D : Type 0} (P : D → Type 0) (a : Option A) (b : Option B) (c : Option C) (make : A → B → C → D) (d : D)
    → ((x : A) (y : B) (z : C) → a ≡ Some x → b ≡ Some y → c ≡ Some z → P (make x y z)) → of_three a b c make ≡ Some d → P d
of_three_holds P None b c make d each is = absurd cc
of_three_holds P (Some x) None c make d each is = absurd cc
of_three_holds P (Some x) (Some y) c make d each is = of_one_holds P c (make x y) d (λ z third. each x y z refl refl third) is

made_by : (labels names : List (List ℕ)) (verb : CallVerb) (ws : List Placed) (call : Call) → made_call labels names verb ws ≡ Some call
    → IsMadeCall labels names call
made_by labels names verb ws call is =
    let parts = values_of_made (call_from verb) (values_behind labels names (call_kinds verb ws) ws) call is in
    let made = call_made verb ws parts.0 call (values_fit labels names (call_kinds verb ws) ws parts.0 parts.1) parts.2 in
    record {
      verb = verb;
      ws = ws;
      makes = is;
      named = made.named;
      word = made.word;
      values = subst (AllByRecursion (IsReadValue labels names)) (sym made.says) (values_are_read labels names (call_kinds verb ws) ws parts.0 parts.1);
    }

-- it is none of the calls that have another name
made_is_read : (labels names : List (List ℕ)) (call : Call) → IsMadeCall labels names call → IsReadCall labels names call
made_is_read labels names (Call.Task (TaskCall.Fork pid)) made = let other = made.named in absurd cc
made_is_read labels names (Call.Task TaskCall.Exit) made = tt
made_is_read labels names (Call.Task (TaskCall.SelfRules rules)) made = let other = made.named in absurd cc
made_is_read labels names (Call.Task (TaskCall.Relabels list)) made = let other = made.named in absurd cc
made_is_read labels names call made = made

file_is_read : (labels names : List (List ℕ)) (made : Result Compiled Refusal) (call : TaskCall)
    → ((c : Compiled) → made ≡ Ok c → IsKnownCompiled labels c) → file_call made ≡ Some call → IsReadCall labels names (Call.Task call)
file_is_read labels names (Ok (Compiled.Rules ops)) call known is = cc
file_is_read labels names (Ok (Compiled.SelfRules rules)) call known is =
    of_none_holds (λ c. IsReadCall labels names (Call.Task c)) (TaskCall.SelfRules rules) call (known (Compiled.SelfRules rules) refl) is
file_is_read labels names (Ok (Compiled.Relabels list)) call known is =
    of_none_holds (λ c. IsReadCall labels names (Call.Task c)) (TaskCall.Relabels list) call (known (Compiled.Relabels list) refl) is
file_is_read labels names (Err fault) call known is = cc

-- The verb of a line that does this, and its words.
module _ (labels names : List (List ℕ)) (l : ScriptLine) where
  abbrev pub AreWordsOf : Option Verb → Act → Type 0
  AreWordsOf verb Act.Write = verb ≡ Some Verb.Write
  AreWordsOf verb (Act.Ask s o m) =
      (verb ≡ Some Verb.Ask) × (id_of labels (word_in 1 l) ≡ Some s) × (id_of labels (word_in 2 l) ≡ Some o) × (modes_in (word_in 3 l) ≡ Some m)
  AreWordsOf verb (Act.Wait pid) = (verb ≡ Some Verb.Wait) × (pid_in names (word_in 1 l) ≡ Some pid)
  AreWordsOf verb (Act.Fork pid) = (verb ≡ Some Verb.Fork) × (pid_in names (word_in 1 l) ≡ Some pid)
  AreWordsOf verb (Act.Make call) =
      ((verb ≡ Some Verb.Exit) × (call ≡ Call.Task TaskCall.Exit))
      ⊎ ((v : CallVerb) × (verb ≡ Some (Verb.Call v)) × (made_call labels names v (words_behind l) ≡ Some call))

  words_by : (verb : Option Verb) (act : Act) → act_by labels names l verb ≡ Some act → AreWordsOf verb act
  words_by None act is = absurd cc
  words_by (Some Verb.Write) act is = of_none_holds (AreWordsOf (Some Verb.Write)) Act.Write act refl is
  words_by (Some Verb.Ask) act is =
      of_three_holds (AreWordsOf (Some Verb.Ask)) (id_of labels (word_in 1 l)) (id_of labels (word_in 2 l)) (modes_in (word_in 3 l))
      (λ s o m. Act.Ask s o m) act (λ s o m subject object modes. (refl, subject, object, modes)) is
  words_by (Some Verb.Wait) act is =
      of_one_holds (AreWordsOf (Some Verb.Wait)) (pid_in names (word_in 1 l)) (λ pid. Act.Wait pid) act (λ pid found. (refl, found)) is
  words_by (Some Verb.Fork) act is =
      of_one_holds (AreWordsOf (Some Verb.Fork)) (pid_in names (word_in 1 l)) (λ pid. Act.Fork pid) act (λ pid found. (refl, found)) is
  words_by (Some Verb.Exit) act is = of_none_holds (AreWordsOf (Some Verb.Exit)) (Act.Make (Call.Task TaskCall.Exit)) act (inl (refl, refl)) is
  words_by (Some (Verb.Call verb)) act is =
      of_one_holds (AreWordsOf (Some (Verb.Call verb))) (made_call labels names verb (words_behind l)) (λ c. Act.Make c) act (λ c makes. inr (verb, refl, makes)) is

  pub act_words : (act : Act) → act_of_line labels names l ≡ Some act → AreWordsOf (verb_in l) act
  act_words act is = words_by (verb_in l) act is

  act_is_read : (act : Option Act) (call : Call) → act_of_line labels names l ≡ act → call_by labels l act ≡ Some call → IsReadCall labels names call
  act_is_read None call does is = absurd cc
  act_is_read (Some Act.Write) call does is =
      of_one_holds (IsReadCall labels names) (file_call (compiled labels (word_in 1 l) l.text.bytes)) (λ c. Call.Task c) call
      (λ c told. file_is_read labels names (compiled labels (word_in 1 l) l.text.bytes) c (compiled_known labels (word_in 1 l) l.text.bytes) told) is
  act_is_read (Some (Act.Ask s o m)) call does is = absurd cc
  act_is_read (Some (Act.Wait pid)) call does is = absurd cc
  act_is_read (Some (Act.Fork pid)) call does is =
      of_none_holds (IsReadCall labels names) (Call.Task (TaskCall.Fork pid)) call
      (known_pid names (word_in 1 l) pid (act_words (Act.Fork pid) does).1) is
  act_is_read (Some (Act.Make made)) call does is =
      of_none_holds (IsReadCall labels names) made call
      (⊎_elim (λ e. subst (IsReadCall labels names) (sym e.1) tt) (λ m. made_is_read labels names made (made_by labels names m.0 (words_behind l) made m.2)) (act_words (Act.Make made) does)) is

pub plain_is_read : (labels names : List (List ℕ)) (call : Call) → IsPlainCall labels names call → IsReadCall labels names call
plain_is_read labels names call plain = act_is_read labels names plain.line (act_of_line labels names plain.line) call refl plain.gives
