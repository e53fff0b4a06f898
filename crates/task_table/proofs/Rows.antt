use Rattle.std.proofs.Common.{◌≡◌, ◌<◌, ℕ, suc, zero, List, [], ◌∷◌, length, get_or, Some, refl, ap, ◌∙◌, arith}
use Rattle.std.proofs.Math.ListN.{set}
use Rattle.std.specs.List.{slice_get}
use Rattle.std.specs.Option.{option_map}
use Rattle.std.proofs.lemmas.Option.{slice_get_read}
use Rattle.world_spec.specs.Worlds.{TaskRow, changed_at, with_creds, creds_in, creds_or_first}

-- writing what a change makes of a row is that change
set_there : (rows : List TaskRow) (n : ℕ) (change : TaskRow → TaskRow) (d : TaskRow) → n < length rows
    → set rows n (change (get_or rows n d)) ≡ changed_at rows n change
set_there [] n change d within = absurd (omega arith)
set_there (r ∷ rs) zero change d within = refl
set_there (r ∷ rs) (suc n) change d within = ap (λ t. r ∷ t) (set_there rs n change d (omega arith))

-- the same for a row that was read at the place
pub set_changed : (rows : List TaskRow) (n : ℕ) (change : TaskRow → TaskRow) (r : TaskRow) → n < length rows → r ≡ get_or rows n r
    → set rows n (change r) ≡ changed_at rows n change
set_changed rows n change r within is = ap (λ x. set rows n (change x)) is ∙ set_there rows n change r within

-- what stands in a row that was read at the place
pub read_there : {X : Type 0} (part : TaskRow → X) (rows : List TaskRow) (n : ℕ) (r : TaskRow) → n < length rows → r ≡ get_or rows n r
    → option_map part (slice_get rows n) ≡ Some (part r)
read_there part rows n r within is = ap (option_map part) (slice_get_read rows (length rows) n r refl within is)

-- credentials that are written back as they were change nothing
pub same_creds : (rows : List TaskRow) (n : ℕ) → with_creds rows n (creds_or_first (creds_in rows n)) ≡ rows
same_creds [] n = refl
same_creds (r ∷ rs) zero = refl
same_creds (r ∷ rs) (suc n) = ap (λ t. r ∷ t) (same_creds rs n)
