use Rattle.std.specs.Prelude.{◌≡◌, ◌⊎◌, ◌≤◌, ◌<◌, ◌+◌, ℕ, Bool, if◌then◌else◌, List, [], ◌∷◌, Some, codes}
use Rattle.std.specs.List.{AllByRecursion}
use Rattle.std.specs.Str.{bytes_eq}
use Rattle.verb_spec.specs.declared.Verb.TheVariants as Verb
use Rattle.script_spec.specs.Lines.{ScriptLine, word_in, verb_in}
use Rattle.legal_spec.specs.Calls.{Stands}

-- the verb of a line is that of waiting for a task
abbrev pub is_wait : ScriptLine → Bool
is_wait l = bytes_eq (word_in 0 l) (codes "wait")

-- the places of the lines that wait for a task, where the first of these lines stands at a place
abbrev pub waits_from : ℕ → List ScriptLine → List ℕ
waits_from at [] = []
waits_from at (l ∷ ls) = if is_wait l then at ∷ waits_from (at + 1) ls else waits_from (at + 1) ls

-- none of these places is between two of them
abbrev pub AreOutside : ℕ → ℕ → List ℕ → Type 0
AreOutside from to places = AllByRecursion (λ p. (p < from) ⊎ (to ≤ p)) places

-- none of these lines waits for a task
abbrev pub AreNoWaits : List ScriptLine → Type 0
AreNoWaits lines = AllByRecursion (λ l. verb_in l ≡ Some Verb.Wait → ⊥) lines

-- a line that waits for a task stands at a place
abbrev pub WaitStands : List ScriptLine → ℕ → Type 0
WaitStands lines at = (l : ScriptLine) × Stands lines at l × (verb_in l ≡ Some Verb.Wait)
