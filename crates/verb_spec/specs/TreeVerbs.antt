use Rattle.std.specs.Prelude.{ℕ, List, [], ◌∷◌, Option, Some, None, codes}
use Rattle.std.specs.Map.{lookup}
use Rattle.std.specs.Str.{bytes_eq}
use Rattle.text_spec.specs.Texts.{Placed}
use Rattle.world_spec.specs.declared.trees.TreeVerb.{TreeVerb}
use Rattle.world_spec.specs.declared.trees.TreeCall.{TreeCall}
use Rattle.verb_spec.specs.declared.WordKind.{WordKind}
use Rattle.verb_spec.specs.declared.Value.{Value}
use Rattle.verb_spec.specs.Values.{Spoken, says}

-- the verbs of calls on the file tree by name
abbrev pub tree_verbs : List (List ℕ × TreeVerb)
tree_verbs = (codes "create", TreeVerb.Create) ∷ (codes "unlink", TreeVerb.Unlink) ∷ (codes "list", TreeVerb.List) ∷ []

abbrev pub tree_verb_of : List ℕ → Option TreeVerb
tree_verb_of name = lookup (bytes_eq name) tree_verbs

-- the verbs of calls on the file tree that scripts will have and do not have yet
abbrev pub unbuilt_tree_verbs : List (List ℕ)
unbuilt_tree_verbs = codes "mkdir" ∷ codes "rmdir" ∷ codes "rename" ∷ codes "setattr" ∷ codes "delattr" ∷ codes "getattr" ∷ []

-- the kinds of the words behind a verb; a kind may be by the words themselves
abbrev pub tree_kinds : TreeVerb → List Placed → List WordKind
tree_kinds TreeVerb.Create ws = WordKind.Path ∷ []
tree_kinds TreeVerb.Unlink ws = WordKind.Path ∷ []
tree_kinds TreeVerb.List ws = WordKind.Path ∷ WordKind.Number ∷ []

-- the call that a verb with these values makes
abbrev pub tree_call_from : TreeVerb → List Value → Option TreeCall
tree_call_from TreeVerb.Create (Value.Path path ∷ []) = Some (TreeCall.Create path)
tree_call_from TreeVerb.Unlink (Value.Path path ∷ []) = Some (TreeCall.Unlink path)
tree_call_from TreeVerb.List (Value.Path path ∷ Value.Number at ∷ []) = Some (TreeCall.ListDir path at)
tree_call_from verb values = None

-- how a call on the tree is told
abbrev pub tree_spoken : TreeCall → Spoken
tree_spoken (TreeCall.Create path) = says (codes "create") (Value.Path path ∷ [])
tree_spoken (TreeCall.Unlink path) = says (codes "unlink") (Value.Path path ∷ [])
tree_spoken (TreeCall.ListDir path at) = says (codes "list") (Value.Path path ∷ Value.Number at ∷ [])
