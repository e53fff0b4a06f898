-- The words behind the verb of an object call are read as values of what is there already: none of them is a file, a
-- count of lines, or the name of a new task. The tables of verbs say so, whatever verbs they have.
use Rattle.std.proofs.Common.{◌≡◌, ℕ, Bool, true, false, List, Option, Some, None, refl}
use Rattle.std.specs.List.{list_all}
use Rattle.std.specs.Map.{lookup}
use Rattle.std.specs.Option.{IfSome, option_map, option_or}
use Rattle.std.specs.Str.{bytes_eq}
use Rattle.std.proofs.lemmas.List.Elements.{All-from_recursion}
use Rattle.std.proofs.lemmas.Map.Entries.{All-lookup}
use Rattle.text_spec.specs.Texts.{Placed}
use Rattle.verb_spec.specs.declared.CallVerb.{CallVerb}
use Rattle.verb_spec.specs.declared.Verb.{Verb}
use Rattle.verb_spec.specs.declared.WordKind.{WordKind}
use Rattle.verb_spec.specs.TaskVerbs.{task_verbs, task_verb_of, task_kinds}
use Rattle.verb_spec.specs.TreeVerbs.{tree_verbs, tree_verb_of, tree_kinds}
use Rattle.verb_spec.specs.Verbs.{plain_verbs, plain_verb_of, call_verb_of, verb_of, call_kinds}
use Rattle.plain_laws.proofs.Lists.{all_pass}

-- whether a word of a kind is read as a value of what is there already
abbrev pub is_found_kind : WordKind → Bool
is_found_kind WordKind.File = false
is_found_kind WordKind.Lines = false
is_found_kind WordKind.NewTask = false
is_found_kind kind = true

-- a test that all verbs of a table pass, a verb that a name has there passes
named_pass : {V : Type 0} (test : V → Bool) (verbs : List (List ℕ × V)) (name : List ℕ) → list_all (λ row. test row.1) verbs ≡ true
    → IfSome (lookup (bytes_eq name) verbs) (λ verb. test verb ≡ true)
named_pass test verbs name all =
    All-lookup (λ verb. test verb ≡ true) (bytes_eq name) verbs
    (All-from_recursion (λ row. test row.1 ≡ true) verbs (all_pass (λ row. test row.1) verbs all))

mapped_holds : {A B : Type 0} (P : B → Type 0) (make : A → B) (a : Option A) → IfSome a (λ x. P (make x)) → IfSome (option_map make a) P
mapped_holds P make None holds = tt
mapped_holds P make (Some x) holds = holds

either_holds : {A : Type 0} (P : A → Type 0) (a b : Option A) → IfSome a P → IfSome b P → IfSome (option_or a b) P
either_holds P None b holds holds' = holds'
either_holds P (Some x) b holds holds' = holds

-- whether the words behind a verb are, where it is the verb of an object call
abbrev pub has_found_kinds : List Placed → Verb → Bool
has_found_kinds ws (Verb.Call verb) = list_all is_found_kind (call_kinds verb ws)
has_found_kinds ws verb = true

abbrev HasFoundKinds : List Placed → Verb → Type 0
HasFoundKinds ws verb = has_found_kinds ws verb ≡ true

call_verb_found : (ws : List Placed) (name : List ℕ) → IfSome (call_verb_of name) (λ verb. HasFoundKinds ws (Verb.Call verb))
call_verb_found ws name =
    let P : CallVerb → Type 0 = λ verb. HasFoundKinds ws (Verb.Call verb) in
    either_holds P (option_map (λ verb. CallVerb.Task verb) (task_verb_of name)) (option_map (λ verb. CallVerb.Tree verb) (tree_verb_of name))
    (mapped_holds P (λ verb. CallVerb.Task verb) (task_verb_of name)
    (named_pass (λ verb. list_all is_found_kind (task_kinds verb ws)) task_verbs name refl))
    (mapped_holds P (λ verb. CallVerb.Tree verb) (tree_verb_of name)
    (named_pass (λ verb. list_all is_found_kind (tree_kinds verb ws)) tree_verbs name refl))

-- so it is for the verb of a name
pub verb_found : (ws : List Placed) (name : List ℕ) → IfSome (verb_of name) (HasFoundKinds ws)
verb_found ws name =
    either_holds (HasFoundKinds ws) (plain_verb_of name) (option_map (λ verb. Verb.Call verb) (call_verb_of name))
    (named_pass (has_found_kinds ws) plain_verbs name refl)
    (mapped_holds (HasFoundKinds ws) (λ verb. Verb.Call verb) (call_verb_of name) (call_verb_found ws name))
