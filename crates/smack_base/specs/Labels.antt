use Rattle.std.specs.Prelude.{ℕ, Bool, false, ◌&&◌, not, ◌==◌, if◌then◌else◌, List, [], ◌∷◌, Option, Some, position, is_none, nat_lt, length}
use Rattle.std.specs.Char.{is_ascii_graphic}
use Rattle.std.specs.Option.{option_map}
use Rattle.smack_base.specs.declared.label.LabelFault.{LabelFault}
use Rattle.smack_base.specs.declared.label.LabelFault.TheVariants as LabelFault

-- a byte from ! to ~ that is none of / \ ' "
abbrev pub is_label_byte : ℕ → Bool
is_label_byte b = is_ascii_graphic b && not (b == 47) && not (b == 92) && not (b == 39) && not (b == 34)

-- whether the first byte of a text is a dash
abbrev pub begins_with_dash : List ℕ → Bool
begins_with_dash [] = false
begins_with_dash (b ∷ bs) = b == 45

-- the first fault of a text as a label, if it has one
abbrev pub label_fault : List ℕ → Option LabelFault
label_fault text =
    if length text == 0 then Some LabelFault.Empty
    else (if nat_lt 255 (length text) then Some LabelFault.TooLong
    else (if begins_with_dash text then Some LabelFault.LeadingDash
    else option_map (λ at. LabelFault.BadByte at) (position (λ b. not (is_label_byte b)) text)))

-- whether a text is a label
abbrev pub is_label : List ℕ → Bool
is_label text = is_none (label_fault text)
