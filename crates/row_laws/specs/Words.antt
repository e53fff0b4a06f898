use Rattle.std.specs.Prelude.{◌≡◌, ℕ, List, [], ◌∷◌, ◌++◌, Option, Some, None, Result, Ok, Err, map, replicate, codes}
use Rattle.smack_base.specs.Labels.{label_fault}
use Rattle.smack_base.specs.Modes.{bad_letter, modes_of, letters_of}
use Rattle.smack_base.specs.Paths.{path_of}
use Rattle.smack_base.specs.declared.ids.LabelId.{LabelId}
use Rattle.smack_base.specs.declared.path.PathFault.{PathFault}
use Rattle.smack_base.specs.declared.path.PathFault.TheVariants as PathFault
use Rattle.smack_base.specs.declared.label.LabelFault.{LabelFault}
use Rattle.smack_base.specs.declared.label.LabelFault.TheVariants as LabelFault
use Rattle.text_spec.specs.Names.{predefined, with_names, id_of}

abbrev pub each_fault : List (List ℕ) → List (Option LabelFault)
each_fault texts = map label_fault texts

-- the bytes / \ ' " and space, and those that are no printed ASCII, each behind `ab`
abbrev pub no_label_bytes : List (List ℕ)
no_label_bytes =
    (codes "ab" ++ 47 ∷ []) ∷ (codes "ab" ++ 92 ∷ []) ∷ (codes "ab" ++ 39 ∷ []) ∷ (codes "ab" ++ 34 ∷ [])
    ∷ (codes "ab" ++ 32 ∷ []) ∷ (codes "ab" ++ 127 ∷ []) ∷ (codes "ab" ++ 255 ∷ []) ∷ (codes "ab" ++ 0 ∷ []) ∷ []

-- Labels at their edges, and access modes as they are read and printed.
pub record WorkedWords : Type 0 where
  pub labels : each_fault (codes "_" ∷ codes "^" ∷ codes "*" ∷ codes "?" ∷ codes "@" ∷ codes "!~" ∷ codes "a-" ∷ []) ≡ None ∷ None ∷ None ∷ None ∷ None ∷ None ∷ None ∷ []
  pub longest : label_fault (replicate 255 65) ≡ None
  pub too_long : label_fault (replicate 256 65) ≡ Some LabelFault.TooLong
  pub empty : label_fault [] ≡ Some LabelFault.Empty
  pub dash : label_fault (codes "-a/") ≡ Some LabelFault.LeadingDash
  pub other_bytes : each_fault no_label_bytes ≡ map (λ text. Some (LabelFault.BadByte 2)) no_label_bytes
  pub bad_letters : map bad_letter (codes "z" ∷ codes "rwl" ∷ codes "r w" ∷ []) ≡ Some 0 ∷ Some 2 ∷ Some 1 ∷ []
  pub letters : map bad_letter (codes "rRrRr" ∷ codes "btaxwr" ∷ codes "-" ∷ [] ∷ codes "X-a" ∷ []) ≡ None ∷ None ∷ None ∷ None ∷ None ∷ []
  pub printed : map (λ text. letters_of (modes_of text)) (codes "rRrRr" ∷ codes "btaxwr" ∷ codes "-" ∷ [] ∷ codes "X-a" ∷ []) ≡ codes "r" ∷ codes "rwxatb" ∷ codes "-" ∷ codes "-" ∷ codes "xa" ∷ []

-- a text, and the path that it is, or its fault
pub record PathRow : Type 0 where
  pub text : List ℕ
  pub path : Result (List (List ℕ)) PathFault

abbrev pub path : List ℕ → List (List ℕ) → PathRow
path text names = record { text = text; path = Ok names }

abbrev pub no_path : List ℕ → PathFault → PathRow
no_path text fault = record { text = text; path = Err fault }

abbrev pub path_rows : List PathRow
path_rows =
    path (codes "/") []
    ∷ path (codes "/a") (codes "a" ∷ [])
    ∷ path (codes "/...") (codes "..." ∷ [])
    ∷ path (codes "/usr/!~") (codes "usr" ∷ codes "!~" ∷ [])
    ∷ path (codes "/" ++ replicate 64 97) (replicate 64 97 ∷ [])
    ∷ path (codes "/a/a/a/a/a/a/a/a/a/a/a/a/a/a/a/a/a/a/a/a/a/a/a/a/a/a/a/a/a/a/a/a") (replicate 32 (codes "a"))
    ∷ no_path [] PathFault.NotAbsolute
    ∷ no_path (codes "a") PathFault.NotAbsolute
    ∷ no_path (codes "a//") PathFault.NotAbsolute
    ∷ no_path (codes "//") (PathFault.EmptyName 1)
    ∷ no_path (codes "/a/") (PathFault.EmptyName 3)
    ∷ no_path (codes "/.") (PathFault.DotName 1)
    ∷ no_path (codes "/b/..") (PathFault.DotName 3)
    ∷ no_path (codes "/a ") (PathFault.BadByte 2)
    ∷ no_path (codes "/ab/" ++ 127 ∷ []) (PathFault.BadByte 4)
    ∷ no_path (codes "/" ++ 255 ∷ []) (PathFault.BadByte 1)
    ∷ no_path (codes "/a" ++ 0 ∷ codes "b") (PathFault.BadByte 2)
    ∷ no_path (codes "/a b/../") (PathFault.BadByte 2)
    ∷ no_path (codes "/../a b") (PathFault.DotName 1)
    ∷ no_path (codes "/" ++ replicate 65 97) (PathFault.NameTooLong 1)
    ∷ no_path (codes "/a/a " ++ replicate 63 97) (PathFault.NameTooLong 3)
    ∷ no_path (codes "/a/a/a/a/a/a/a/a/a/a/a/a/a/a/a/a/a/a/a/a/a/a/a/a/a/a/a/a/a/a/a/a/a") PathFault.TooDeep
    ∷ no_path (codes "/a/a/a/a/a/a/a/a/a/a/a/a/a/a/a/a/a/a/a/a/a/a/a/a/a/a/a/a/a/a/a/a/a/") (PathFault.EmptyName 67)
    ∷ []

-- Paths at their edges.
abbrev pub WorkedPaths : Type 0
WorkedPaths = map (λ row. path_of row.text) path_rows ≡ map (λ row. row.path) path_rows

-- the predefined labels, and three more, of which the last stands already
abbrev pub table_of_users : List (List ℕ)
table_of_users = with_names predefined (codes "User" ∷ codes "user" ∷ codes "User" ∷ [])

abbrev pub id : ℕ → Option LabelId
id n = Some (record { 0 = n })

-- A label table grows at its end, by each label once.
pub record WorkedTables : Type 0 where
  pub grown : table_of_users ≡ predefined ++ codes "User" ∷ codes "user" ∷ []
  pub ids : map (id_of table_of_users) (codes "_" ∷ codes "^" ∷ codes "*" ∷ codes "?" ∷ codes "@" ∷ codes "User" ∷ codes "user" ∷ codes "Use" ∷ []) ≡ id 0 ∷ id 1 ∷ id 2 ∷ id 3 ∷ id 4 ∷ id 5 ∷ id 6 ∷ None ∷ []
