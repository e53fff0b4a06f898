use Rattle.std.proofs.Common.{◌≡◌, true, List, Option, Some, subst}
use Rattle.text_spec.specs.Texts.{Placed}
use Rattle.log_spec.specs.Audits.{is_word}
use Rattle.verb_spec.specs.declared.CallVerb.{CallVerb}
use Rattle.verb_spec.specs.declared.Verb.TheVariants as Verb
use Rattle.verb_spec.specs.declared.Value.{Value}
use Rattle.verb_spec.specs.Values.{Spoken}
use Rattle.verb_spec.specs.Verbs.{verb_of, call_kinds}

-- A call that a verb makes from values is told by them: its verb is found by the name that tells it, which is a word, its
-- values are these, and the kinds of the words behind the verb are the same behind any words.
pub record IsMade (verb : CallVerb) (values : List Value) (told : Spoken) : Type 0 where
  pub named : verb_of told.name ≡ Some (Verb.Call verb)
  pub word : is_word told.name ≡ true
  pub says : told.values ≡ values
  pub alike : (ws ws' : List Placed) → call_kinds verb ws ≡ call_kinds verb ws'

-- what holds of what is made holds of the call that it is
pub holds_of_made : {C : Type 0} (P : C → Type 0) (made call : C) → P made → ◌≡◌ {A = Option C} (Some made) (Some call) → P call
holds_of_made P made call holds is = let same : made ≡ call = cc in subst P same holds
