use Rattle.std.proofs.Common.{◌≡◌, ◌≤◌, ◌<◌, ◌+◌, ◌-◌, ℕ, Bool, true, false, cond, not, ◌&&◌, ◌||◌, if◌then◌else◌, nat_eq, List, [], ◌∷◌, length, take, get_or, refl, sym, ap, ◌∙◌, arith, Option, Some, None}
use Rattle.std.specs.Prelude.{map, reverse, ◌==◌}
use Rattle.std.specs.List.{position, position_or_len, list_any}
use Rattle.std.specs.Str.{bytes_eq}
use Rattle.std.proofs.lemmas.List.{take_more, reverse-append, length-reverse, length-take-le}
use Rattle.std.proofs.lemmas.List.Sums.{prefix_len-le-length}
use Rattle.std.proofs.lemmas.Bool.{eq-eqb}
use Rattle.rule_text.specs.declared.part.Part.{Part}
use Rattle.script_spec.specs.Tasks.{lineage, latest_child}
use Rattle.script_text.specs.TaskTables.{part_names}

-- the first place in a list that is mapped
place_in_map : {X Y : Type 0} (f : X → Y) (p : Y → Bool) (xs : List X) → position_or_len p (map f xs) ≡ position_or_len (λ x. p (f x)) xs
place_in_map f p [] = refl
place_in_map f p (x ∷ xs) = ap (λ (n : ℕ). cond (not (p (f x))) (1 + n) 0) (place_in_map f p xs)

where_some : (b : Bool) (q at : ℕ) → Some at ≡ cond b (Some q) None → at ≡ q
where_some true q at is = cc
where_some false q at is = cc

where_none : (b : Bool) (q : ℕ) → None ≡ cond b (Some q) None → b ≡ false
where_none true q is = cc
where_none false q is = refl

-- where a name is found
pub place_found : (names : List Part) (name : List ℕ) (at : ℕ) → Some at ≡ position (λ p. bytes_eq p.bytes.now name) names
    → at ≡ position_or_len (λ t. bytes_eq t name) (part_names names)
place_found names name at is =
    where_some _ _ at is ∙ sym (place_in_map (λ (p : Part). p.bytes.now) (λ (t : List ℕ). bytes_eq t name) names)

-- where no name is found
pub place_past : (names : List Part) (name : List ℕ) → None ≡ position (λ p. bytes_eq p.bytes.now name) names
    → length names ≡ position_or_len (λ t. bytes_eq t name) (part_names names)
place_past names name is =
    let past = where_none _ _ is in
    let within = prefix_len-le-length (λ (p : Part). not (bytes_eq p.bytes.now name)) names in
    let here : length names ≡ position_or_len (λ (p : Part). bytes_eq p.bytes.now name) names = grind (arith, past, within) in
    here ∙ sym (place_in_map (λ (p : Part). p.bytes.now) (λ (t : List ℕ). bytes_eq t name) names)

-- the parents of the tasks up to one, that of the youngest first
older_step : (ps : List ℕ) (k d : ℕ) → k < length ps → reverse (take (k + 1) ps) ≡ get_or ps k d ∷ reverse (take k ps)
older_step ps k d within = ap reverse (take_more ps k d within) ∙ reverse-append (take k ps) (get_or ps k d ∷ [])

length_older : (ps : List ℕ) (k : ℕ) → k ≤ length ps → length (reverse (take k ps)) ≡ k
length_older ps k within = length-reverse (take k ps) ∙ length-take-le k ps within

-- the lineage of a task, one task older
lineage_step : (ps : List ℕ) (k d task : ℕ) → k < length ps
    → lineage (reverse (take (k + 1) ps)) task
    ≡ (if task == k + 1 then task ∷ lineage (reverse (take k ps)) (get_or ps k d) else lineage (reverse (take k ps)) task)
lineage_step ps k d task within =
    let long : length (get_or ps k d ∷ reverse (take k ps)) ≡ k + 1 = omega (arith, length_older ps k (omega (arith, within))) in
    ap (λ (os : List ℕ). lineage os task) (older_step ps k d within)
    ∙ ap
    (λ (n : ℕ). if task == n then task ∷ lineage (reverse (take k ps)) (get_or ps k d) else lineage (reverse (take k ps)) task)
    long

-- whether a lineage has a flag, by the parents of the tasks up to K
abbrev pub Flags : (ℕ → Bool) → List ℕ → ℕ → ℕ → Bool → Type 0
Flags flag ps K task is = list_any flag (lineage (reverse (take K ps)) task) ≡ is

-- the youngest task is that of the lineage
pub flags_here : (flag : ℕ → Bool) (ps : List ℕ) (K d task : ℕ) (is : Bool) → 0 < K → K ≤ length ps → Flags flag ps K task is → task ≡ K
    → (flag task || list_any flag (lineage (reverse (take (K - 1) ps)) (get_or ps (K - 1) d))) ≡ is
flags_here flag ps K d task is some within flags here =
    let back : K - 1 + 1 ≡ K = omega (arith, some) in
    let step = lineage_step ps (K - 1) d task (omega (arith, some, within)) in
    let same : nat_eq task (K - 1 + 1) ≡ true = eq-eqb task (K - 1 + 1) (here ∙ sym back) in
    let cut : lineage (reverse (take (K - 1 + 1) ps)) task ≡ task ∷ lineage (reverse (take (K - 1) ps)) (get_or ps (K - 1) d) =
    step ∙ rw same refl in
    sym (ap (λ (l : List ℕ). list_any flag l) cut) ∙ ap (λ (k : ℕ). list_any flag (lineage (reverse (take k ps)) task)) back ∙ flags

-- it has the flag
pub flags_flagged : (flag : ℕ → Bool) (ps : List ℕ) (K task : ℕ) (is : Bool) → 0 < K → K ≤ length ps → Flags flag ps K task is → task ≡ K
    → flag task ≡ true → true ≡ is
flags_flagged flag ps K task is some within flags here flagged =
    rw flagged at (flags_here flag ps K 0 task is some within flags here)

-- it is not that of the lineage
pub flags_past : (flag : ℕ → Bool) (ps : List ℕ) (K task : ℕ) (is : Bool) → 0 < K → K ≤ length ps → Flags flag ps K task is
    → nat_eq task K ≡ false → Flags flag ps (K - 1) task is
flags_past flag ps K task is some within flags other =
    let back : K - 1 + 1 ≡ K = omega (arith, some) in
    let step = lineage_step ps (K - 1) 0 task (omega (arith, some, within)) in
    let same : nat_eq task (K - 1 + 1) ≡ false = ap (nat_eq task) back ∙ other in
    let cut : lineage (reverse (take (K - 1 + 1) ps)) task ≡ lineage (reverse (take (K - 1) ps)) task = step ∙ rw same refl in
    sym (ap (λ (l : List ℕ). list_any flag l) cut) ∙ ap (λ (k : ℕ). list_any flag (lineage (reverse (take k ps)) task)) back ∙ flags

-- the latest child, one task older
latest_step : (flag : ℕ → Bool) (ps : List ℕ) (k d task : ℕ) → k < length ps
    → latest_child flag (reverse (take (k + 1) ps)) task
    ≡ (if (get_or ps k d == task) && not (flag (k + 1)) then Some (k + 1) else latest_child flag (reverse (take k ps)) task)
latest_step flag ps k d task within =
    let long : length (get_or ps k d ∷ reverse (take k ps)) ≡ k + 1 = omega (arith, length_older ps k (omega (arith, within))) in
    ap (λ (os : List ℕ). latest_child flag os task) (older_step ps k d within)
    ∙ ap
    (λ (n : ℕ). if (get_or ps k d == task) && not (flag n) then Some n else latest_child flag (reverse (take k ps)) task) long

abbrev pub Latest : (ℕ → Bool) → List ℕ → ℕ → ℕ → Option ℕ → Type 0
Latest flag ps K task is = latest_child flag (reverse (take K ps)) task ≡ is

pub latest_here : (flag : ℕ → Bool) (ps : List ℕ) (K d task : ℕ) (is : Option ℕ) → 0 < K → K ≤ length ps → Latest flag ps K task is
    → (if (get_or ps (K - 1) d == task) && not (flag K) then Some K else latest_child flag (reverse (take (K - 1) ps)) task) ≡ is
latest_here flag ps K d task is some within latest =
    let back : K - 1 + 1 ≡ K = omega (arith, some) in
    let step = latest_step flag ps (K - 1) d task (omega (arith, some, within)) in
    ap
    (λ (k : ℕ). if (get_or ps (K - 1) d == task) && not (flag k) then Some k else latest_child flag (reverse (take (K - 1) ps)) task)
    (sym back)
    ∙ sym step ∙ ap (λ (k : ℕ). latest_child flag (reverse (take k ps)) task) back ∙ latest
