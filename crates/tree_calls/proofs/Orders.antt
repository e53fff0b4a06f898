use Rattle.std.proofs.Common.{◌≡◌, ◌∙◌, ◌<◌, ◌+◌, ℕ, suc, zero, List, [], ◌∷◌, length, take, drop, fold, get_or, Bor, Ordering, Less, Equal, Greater, refl, sym, ap, arith}
use Rattle.std.specs.Ordering.{match_ordering, nat_cmp}
use Rattle.std.specs.Cmp.Lexicographic.{slice_cmp}
use Rattle.std.specs.BTreeSet.{insert_key}
use Rattle.std.proofs.lemmas.List.{take-map, drop-map}
use Rattle.world_spec.specs.declared.FileRow.{FileRow}
use Rattle.world_spec.specs.Worlds.{file_names, in_byte_order}
use Rattle.world_spec.specs.TreeCalls.{most_names}
use Rattle.tree_calls.specs.Shown.{lists_of}

-- some of the names shown are those of some of the names
pub shown_on : (names : List (Bor (List ℕ))) (at : ℕ) → lists_of (take most_names (drop at names)) ≡ take most_names (drop at (lists_of names))
shown_on names at =
    sym (ap (λ ns. take most_names ns) (drop-map (λ n. n.now) at names) ∙ take-map (λ n. n.now) most_names (drop at names))

shown_by : (o : Ordering) (a b c : List (Bor (List ℕ))) → lists_of (match_ordering o a b c) ≡ match_ordering o (lists_of a) (lists_of b) (lists_of c)
shown_by Less a b c = refl
shown_by Equal a b c = refl
shown_by Greater a b c = refl

-- a name that comes to its place, shown
pub shown_in_order : (names : List (Bor (List ℕ))) (n : Bor (List ℕ))
    → lists_of (insert_key (λ x y. slice_cmp nat_cmp x.now y.now) names n) ≡ insert_key (slice_cmp nat_cmp) (lists_of names) n.now
shown_in_order [] n = refl
shown_in_order (x ∷ xs) n =
    shown_by (slice_cmp nat_cmp n.now x.now) _ _ _
    ∙ ap (λ more. match_ordering (slice_cmp nat_cmp n.now x.now) (n.now ∷ x.now ∷ lists_of xs) (x.now ∷ lists_of xs) (x.now ∷ more)) (shown_in_order xs n)

more_from : (before : List (List ℕ)) (files : List FileRow) (i : ℕ) (d : FileRow) → i < length files
    → fold (insert_key (slice_cmp nat_cmp)) before (file_names (take (suc i) files))
    ≡ insert_key (slice_cmp nat_cmp) (fold (insert_key (slice_cmp nat_cmp)) before (file_names (take i files))) (get_or files i d).name
more_from before [] i d within = absurd (omega arith)
more_from before (f ∷ fs) zero d within = refl
more_from before (f ∷ fs) (suc i) d within = more_from (insert_key (slice_cmp nat_cmp) before f.name) fs i d (omega arith)

-- the names of one file more
pub one_more_name : (files : List FileRow) (i : ℕ) (d : FileRow) → i < length files
    → insert_key (slice_cmp nat_cmp) (in_byte_order (file_names (take i files))) (get_or files i d).name ≡ in_byte_order (file_names (take (i + 1) files))
one_more_name files i d within =
    let next : suc i ≡ i + 1 = omega arith in
    sym (more_from [] files i d within) ∙ ap (λ n. in_byte_order (file_names (take n files))) next
