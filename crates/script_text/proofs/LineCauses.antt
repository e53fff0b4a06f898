use Rattle.std.proofs.Common.{◌≡◌, ◌≤◌, ℕ, Bool, true, false, not, nat_eq, if◌then◌else◌, List, [], ◌∷◌, length, drop, refl, arith, Option, Some, None}
use Rattle.std.specs.Option.{option_map}
use Rattle.std.proofs.lemmas.Bool.{eqb-true, not-false}
use Rattle.text_spec.specs.Texts.{Placed}
use Rattle.script_spec.specs.declared.Cause.{Cause}
use Rattle.verb_spec.specs.declared.Verb.{Verb}
use Rattle.verb_spec.specs.declared.WordKind.{WordKind}
use Rattle.verb_spec.specs.Verbs.{verb_of, kinds_of}
use Rattle.verb_spec.specs.Kinds.{bad_word, has_word}
use Rattle.verb_spec.specs.Words.{is_task_name, word_at}
use Rattle.script_spec.specs.Tasks.{Tasks, is_live_name, pid_of}
use Rattle.script_spec.specs.Causes.{cause_if, first_cause, is_file_unbuilt, is_path_unbuilt, is_name_bad, is_wait_bad, words_cause, behind_task}
use Rattle.script_text.specs.Spelled.{HasVerb}

some_none : (c : Cause) → Some c ≡ None → ⊥
some_none c e = cc

-- the causes of the words behind a verb, over plain answers
abbrev causes_of : Bool → Bool → Option ℕ → Bool → Bool → Bool → Bool → Bool → Option Cause
causes_of file count word deep text live name wait =
    first_cause
    (cause_if file Cause.NotBuilt ∷ cause_if count Cause.Words ∷ option_map (λ k. Cause.Word k) word ∷ cause_if deep Cause.NotBuilt ∷ cause_if text Cause.Text
    ∷ cause_if live Cause.Task ∷ cause_if name Cause.Name ∷ cause_if wait Cause.Wait ∷ [])

-- no cause applies
record NoCause (count : Bool) (word : Option ℕ) (text live wait : Bool) : Type 0 where
  pub is_count : count ≡ false
  pub is_word : word ≡ None
  pub is_text : text ≡ false
  pub is_live : live ≡ false
  pub is_wait : wait ≡ false

no_cause : (file count : Bool) (word : Option ℕ) (deep text live name wait : Bool) → causes_of file count word deep text live name wait ≡ None
    → NoCause count word text live wait
no_cause true count word deep text live name wait e = absurd (some_none Cause.NotBuilt e)
no_cause false true word deep text live name wait e = absurd (some_none Cause.Words e)
no_cause false false (Some k) deep text live name wait e = absurd (some_none (Cause.Word k) e)
no_cause false false None true text live name wait e = absurd (some_none Cause.NotBuilt e)
no_cause false false None false true live name wait e = absurd (some_none Cause.Text e)
no_cause false false None false false true name wait e = absurd (some_none Cause.Task e)
no_cause false false None false false false true wait e = absurd (some_none Cause.Name e)
no_cause false false None false false false false true e = absurd (some_none Cause.Wait e)
no_cause false false None false false false false false e = record { is_count = refl; is_word = refl; is_text = refl; is_live = refl; is_wait = refl }

-- nothing is wrong with words that should be of these kinds
pub record GoodWords (tasks : Tasks) (task : List ℕ) (kinds : List WordKind) (ws : List Placed) (text : Bool) : Type 0 where
  pub many : length ws ≡ length kinds
  pub are : bad_word 3 kinds ws ≡ None
  pub there : text ≡ true
  pub live : is_live_name tasks task ≡ true
  pub wait : has_word (is_wait_bad tasks (pid_of tasks task)) kinds ws ≡ false

words_good : (tasks : Tasks) (task : List ℕ) (kinds : List WordKind) (ws : List Placed) (text : Bool)
    → words_cause tasks task kinds ws text ≡ None → GoodWords tasks task kinds ws text
words_good tasks task kinds ws text e =
    let none = no_cause (has_word is_file_unbuilt kinds ws) (not (nat_eq (length ws) (length kinds))) (bad_word 3 kinds ws)
    (has_word is_path_unbuilt kinds ws) (not text) (not (is_live_name tasks task)) (has_word (is_name_bad tasks) kinds ws)
    (has_word (is_wait_bad tasks (pid_of tasks task)) kinds ws) e in
    record {
      many = eqb-true (length ws) (length kinds) (not-false _ none.is_count);
      are = none.is_word;
      there = not-false _ none.is_text;
      live = not-false _ none.is_live;
      wait = none.is_wait;
    }

-- where nothing is wrong with a line, the words behind its verb are good
pub line_good : (tasks : Tasks) (W : List Placed) (text : Bool) (verb : Verb) → HasVerb tasks W text verb
    → (2 ≤ length W) × GoodWords tasks (word_at 0 W).bytes (kinds_of verb (drop 2 W)) (drop 2 W) text
line_good tasks [] text verb has = absurd (some_none (Cause.Word 1) has.good)
line_good tasks (t ∷ ws) text verb has = by (is_task_name t.bytes) ws refl has.good has.is
  where
    by : (b : Bool) (ws : List Placed) → is_task_name t.bytes ≡ b → (if b then behind_task tasks t.bytes ws text else Some (Cause.Word 1)) ≡ None
        → verb_of (word_at 1 (t ∷ ws)).bytes ≡ Some verb
        → (2 ≤ length (t ∷ ws)) × GoodWords tasks t.bytes (kinds_of verb (drop 2 (t ∷ ws))) (drop 2 (t ∷ ws)) text
    by false ws named good is = absurd (some_none (Cause.Word 1) good)
    by true [] named good is = absurd (some_none Cause.Verb good)
    by true (v ∷ vs) named good is = (omega arith, words_good tasks t.bytes (kinds_of verb vs) vs text (rw is at good))
