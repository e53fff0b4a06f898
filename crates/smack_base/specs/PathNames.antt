use Rattle.std.specs.Prelude.{ℕ, ◌+◌, Bool, false, if◌then◌else◌, List, [], ◌∷◌, Option, Some, None, length, map, nat_lt}
use Rattle.smack_base.specs.declared.path.PathFault.{PathFault}
use Rattle.smack_base.specs.declared.path.PathFault.TheVariants as PathFault
use Rattle.smack_base.specs.Paths.{PathName, names_from, is_slash, name_fault, first_path_fault}

-- the name with these bytes that begins at this place
abbrev pub path_name : ℕ → List ℕ → PathName
path_name at bytes = record { at = at; bytes = bytes }

-- the names of what is left of a path, which begins with a slash at this place unless it is empty
abbrev pub names_left : ℕ → List ℕ → List PathName
names_left at [] = []
names_left at (b ∷ bs) = names_from (at + 1) bs

-- the names of a path with their places; the path / has none
abbrev pub path_names : List ℕ → List PathName
path_names [] = []
path_names (b ∷ []) = []
path_names (b ∷ c ∷ bs) = names_from 1 (c ∷ bs)

-- whether the first byte of a text is a slash
abbrev pub begins_with_slash : List ℕ → Bool
begins_with_slash [] = false
begins_with_slash (b ∷ bs) = is_slash b

-- the fault that one of some names has, or that they are too many
abbrev pub or_too_deep : Option PathFault → List PathName → Option PathFault
or_too_deep (Some f) names = Some f
or_too_deep None names = if nat_lt 32 (length names) then Some PathFault.TooDeep else None

-- the fault of some names in their order
abbrev pub names_fault : List PathName → Option PathFault
names_fault names = or_too_deep (first_path_fault (map name_fault names)) names
