use Rattle.std.specs.Prelude.{ℕ, ◌+◌, ◌/◌, ◌%◌, ◌==◌, if◌then◌else◌, List, [], ◌∷◌, ◌++◌, length, take, drop, replicate, zero, suc}
use Rattle.std.specs.List.{flat_map}

-- A listing is one block of bytes. In front of each name stand bytes that tell how long it is: 255 as often as it
-- goes into the length, and then what is left.
abbrev pub length_bytes : ℕ → List ℕ
length_bytes n = replicate (n / 255) 255 ++ (n % 255) ∷ []

-- a name behind its length
abbrev pub name_bytes : List ℕ → List ℕ
name_bytes name = length_bytes (length name) ++ name

-- the block of some names
abbrev pub listing_bytes : List (List ℕ) → List ℕ
listing_bytes names = flat_map name_bytes names

-- the length that a block tells first
abbrev pub told_length : List ℕ → ℕ
told_length [] = 0
told_length (b ∷ bs) = if b == 255 then 255 + told_length bs else b

-- what comes behind that length
abbrev pub behind_length : List ℕ → List ℕ
behind_length [] = []
behind_length (b ∷ bs) = if b == 255 then behind_length bs else bs

-- the first name of a block
abbrev pub first_listed : List ℕ → List ℕ
first_listed bytes = take (told_length bytes) (behind_length bytes)

-- what comes behind that name
abbrev pub behind_first : List ℕ → List ℕ
behind_first bytes = drop (told_length bytes) (behind_length bytes)

-- the names of a block, up to so many
abbrev pub names_within : ℕ → List ℕ → List (List ℕ)
names_within zero bytes = []
names_within (suc n) bytes = if length bytes == 0 then [] else first_listed bytes ∷ names_within n (behind_first bytes)

-- The names of a block. It has no more names than bytes.
abbrev pub names_in : List ℕ → List (List ℕ)
names_in bytes = names_within (length bytes) bytes
