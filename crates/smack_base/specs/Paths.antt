use Rattle.std.specs.Prelude.{ℕ, ◌+◌, Bool, false, ◌&&◌, not, ◌==◌, if◌then◌else◌, List, [], ◌∷◌, Option, Some, None, Result, Ok, Err, length, map, position, nat_lt}
use Rattle.std.specs.Char.{is_ascii_graphic}
use Rattle.std.specs.Option.{option_map}
use Rattle.smack_base.specs.declared.path.PathFault.{PathFault}
use Rattle.smack_base.specs.declared.path.PathFault.TheVariants as PathFault

-- a name of a path, and the place of its first byte
pub record PathName : Type 0 where
  pub at : ℕ
  pub bytes : List ℕ

abbrev pub is_slash : ℕ → Bool
is_slash b = b == 47

-- the byte at this place goes in front of the first name
abbrev pub in_first_name : ℕ → ℕ → List PathName → List PathName
in_first_name at b [] = (record { at = at; bytes = b ∷ [] }) ∷ []
in_first_name at b (n ∷ ns) = (record { at = at; bytes = b ∷ n.bytes }) ∷ ns

-- the names of a text that begins at this place, behind a slash: what stands between slashes
abbrev pub names_from : ℕ → List ℕ → List PathName
names_from at [] = (record { at = at; bytes = [] }) ∷ []
names_from at (b ∷ bs) =
    if is_slash b then (record { at = at; bytes = [] }) ∷ names_from (at + 1) bs else in_first_name at b (names_from (at + 1) bs)

-- one dot, or two
abbrev pub is_dots : List ℕ → Bool
is_dots (b ∷ []) = b == 46
is_dots (b ∷ c ∷ []) = (b == 46) && (c == 46)
is_dots bytes = false

-- a byte from ! to ~
abbrev pub is_name_byte : ℕ → Bool
is_name_byte b = is_ascii_graphic b

-- the first fault of a name, if it has one
abbrev pub name_fault : PathName → Option PathFault
name_fault n =
    if length n.bytes == 0 then Some (PathFault.EmptyName n.at)
    else (if nat_lt 64 (length n.bytes) then Some (PathFault.NameTooLong n.at)
    else (if is_dots n.bytes then Some (PathFault.DotName n.at)
    else option_map (λ i. PathFault.BadByte (n.at + i)) (position (λ b. not (is_name_byte b)) n.bytes)))

-- the first fault of some, in their order
abbrev pub first_path_fault : List (Option PathFault) → Option PathFault
first_path_fault [] = None
first_path_fault (None ∷ more) = first_path_fault more
first_path_fault (Some f ∷ more) = Some f

abbrev pub unless_bad_name : Option PathFault → List PathName → Result (List (List ℕ)) PathFault
unless_bad_name (Some f) names = Err f
unless_bad_name None names = if nat_lt 32 (length names) then Err PathFault.TooDeep else Ok (map (λ n. n.bytes) names)

abbrev pub named : List PathName → Result (List (List ℕ)) PathFault
named names = unless_bad_name (first_path_fault (map name_fault names)) names

-- the names behind the first slash of a path; the path / has none
abbrev pub names_of : List ℕ → Result (List (List ℕ)) PathFault
names_of [] = Ok []
names_of (b ∷ bs) = named (names_from 1 (b ∷ bs))

-- the names of a path, or its first fault
abbrev pub path_of : List ℕ → Result (List (List ℕ)) PathFault
path_of [] = Err PathFault.NotAbsolute
path_of (b ∷ bs) = if is_slash b then names_of bs else Err PathFault.NotAbsolute
