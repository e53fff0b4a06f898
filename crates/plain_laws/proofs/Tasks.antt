use Rattle.std.proofs.Common.{◌≡◌, ◌<◌, ℕ, zero, suc, true, false, List, [], ◌∷◌, ◌++◌, length-append, Some, refl, sym, ap, subst, ◌∙◌, arith, append-nil, Ok}
use Rattle.std.specs.Prelude.{slice_index_or, codes}
use Rattle.std.specs.List.{flat_map}
use Rattle.std.proofs.lemmas.Bool.{or_parts}
use Rattle.std.proofs.lemmas.Grind.{flat_map-append}
use Rattle.text_spec.specs.Texts.{Placed}
use Rattle.text_spec.specs.Names.{place_of, has_name}
use Rattle.label_table.proofs.LabelTables.{once_with_new}
use Rattle.verb_spec.specs.declared.Verb.{Verb}
use Rattle.verb_spec.specs.Words.{is_task_name}
use Rattle.verb_spec.specs.Kinds.{has_word}
use Rattle.verb_spec.specs.Verbs.{kinds_of}
use Rattle.script_spec.specs.Lines.{ScriptLine}
use Rattle.script_spec.specs.Tasks.{change_by, change_of, forked_name, task_names, tasks_of}
use Rattle.script_spec.specs.Causes.{is_name_bad}
use Rattle.script_spec.specs.Grammar.{parse}
use Rattle.replay_spec.specs.Plain.{IsNameTable}
use Rattle.plain_laws.proofs.Lists.{all_append}
use Rattle.plain_laws.proofs.GoodLines.{AreOfKinds, IsGoodLine, good_verb, script_holds}

abbrev init_name : List ℕ
init_name = codes "init"

-- the names of tasks with those of one more call
pub names_more : (above : List ScriptLine) (l : ScriptLine) → task_names (above ++ l ∷ []) ≡ task_names above ++ forked_name (change_of l)
names_more above l =
    ap (λ t. init_name ∷ t) (flat_map-append (λ l. forked_name (change_of l)) above (l ∷ []))
    ∙ ap (λ t. task_names above ++ t) (append-nil (forked_name (change_of l)))

pub names_behind : (above more : List ScriptLine) → (rest : List (List ℕ)) × (task_names (above ++ more) ≡ task_names above ++ rest)
names_behind above more =
    (flat_map (λ l. forked_name (change_of l)) more, ap (λ t. init_name ∷ t) (flat_map-append (λ l. forked_name (change_of l)) above more))

-- a table of names with a new one
with_task : (names : List (List ℕ)) (name : List ℕ) → IsNameTable names → has_name names name ≡ false → is_task_name name ≡ true
    → IsNameTable (names ++ name ∷ [])
with_task names name table new is = record {
  are = all_append (λ n. is_task_name n ≡ true) names (name ∷ []) table.are (is, tt);
  once = once_with_new names name new table.once;
  some = omega (arith, table.some, length-append names (name ∷ []));
}

-- a call that forks nothing leaves the names as they are
none_forked : (names : List (List ℕ)) → IsNameTable names → IsNameTable (names ++ [])
none_forked names table = subst IsNameTable (sym (append-nil names)) table

-- the names that a good call forks are new
forked_are_new : (above : List ScriptLine) (l : ScriptLine) (first : Placed) (behind : List Placed) (verb : Verb) → l.words ≡ first ∷ behind
    → AreOfKinds (kinds_of verb behind) behind → has_word (is_name_bad (tasks_of above)) (kinds_of verb behind) behind ≡ false
    → IsNameTable (task_names above) → IsNameTable (task_names above ++ forked_name (change_by (Some verb) l))
forked_are_new above l first [] Verb.Fork words kinds name table = absurd kinds
forked_are_new above l first (w ∷ ws) Verb.Fork words kinds name table =
    rw words (with_task (task_names above) w.bytes table (or_parts (has_name (task_names above) w.bytes) _ name).0 kinds.0)
forked_are_new above l first behind verb words kinds name table = none_forked (task_names above) table

names_grow : (above : List ScriptLine) (l : ScriptLine) → IsGoodLine above l → IsNameTable (task_names above) → IsNameTable (task_names (above ++ l ∷ []))
names_grow above l good table =
    subst IsNameTable (sym (names_more above l))
    (subst (λ verb. IsNameTable (task_names above ++ forked_name (change_by verb l))) (sym (good_verb above l good))
    (forked_are_new above l good.first good.behind good.verb good.words good.kinds good.name table))

place_of_init : (pid : ℕ) → pid < 1 → place_of (init_name ∷ []) (slice_index_or (init_name ∷ []) pid []) ≡ pid
place_of_init zero within = refl
place_of_init (suc n) within = absurd (omega (arith, within))

-- the names of the tasks of a script are a table of names
pub names_are_a_table : (bytes : List ℕ) (lines : List ScriptLine) → parse bytes ≡ Ok lines → IsNameTable (task_names lines)
names_are_a_table bytes lines is =
    script_holds (λ lines. IsNameTable (task_names lines)) names_grow
    (record { are = (refl, tt); once = place_of_init; some = omega arith }) bytes lines is
