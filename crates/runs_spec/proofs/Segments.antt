-- Lines of one script task, between places.
use Rattle.std.proofs.Common.{◌≡◌, ℕ, suc, ◌+◌, ◌<◌, ◌≤◌, List, [], ◌∷◌, ◌++◌, length, take, drop, get_or, sym, refl, ap, ◌∙◌, arith, length-append, eq-eqb, take-append-drop, take_all, drop-cons, le_refl}
use Rattle.std.proofs.lemmas.List.{take-take, drop-append-le, length-take-le, get_or-take}
use Rattle.std.proofs.lemmas.Option.{slice_get-get_or}
use Rattle.script_spec.specs.Lines.{ScriptLine}
use Rattle.legal_spec.specs.Calls.{Stands}
use Rattle.live_table.proofs.Lists.{those-append}
use Rattle.runs_spec.specs.Scripts.{lines_by, segment}

pub stands_here : {A : Type 0} (xs : List A) (n : ℕ) (d : A) → n < length xs → Stands xs n (get_or xs n d)
stands_here {A} xs n d l = slice_get-get_or xs n d l

own-append : (p : ℕ) (xs ys : List ScriptLine) → lines_by p (xs ++ ys) ≡ lines_by p xs ++ lines_by p ys
own-append p xs ys = those-append (λ (l : ScriptLine). l.task) p xs ys

pub cut : (p from m to : ℕ) (xs : List ScriptLine) → from ≤ m → m ≤ to → to ≤ length xs
    → segment p from to xs ≡ segment p from m xs ++ segment p m to xs
cut p from m to xs a b c =
    ap (λ (y : List ScriptLine). lines_by p (drop from y)) (sym (take-append-drop m (take to xs))
    ∙ ap (λ (y : List ScriptLine). y ++ drop m (take to xs)) (take-take m to xs b))
    ∙ (ap (lines_by p) (drop-append-le from (take m xs) (drop m (take to xs)) (let l = length-take-le m xs (omega arith) in omega arith))
    ∙ own-append p (drop from (take m xs)) (drop m (take to xs)))

pub one : (p n to : ℕ) (xs : List ScriptLine) (d : ScriptLine) → n < to → to ≤ length xs → (get_or xs n d).task ≡ p
    → segment p n to xs ≡ get_or xs n d ∷ segment p (n + 1) to xs
one p n to xs d l top e = ap (lines_by p) (drop-cons (take to xs) n d (let q = length-take-le to xs top in omega arith)
    ∙ (λ i. get_or-take to xs n d l i ∷ drop ((let z : suc n ≡ n + 1 = omega arith in z) i) (take to xs)))
    ∙ rw (eq-eqb (get_or xs n d).task p e) refl

-- the lines of a task of which none stands before a place
pub from_here : (p at : ℕ) (xs : List ScriptLine) → at ≤ length xs → lines_by p (take at xs) ≡ [] → segment p at (length xs) xs ≡ lines_by p xs
from_here p at xs l e = ap (λ (y : List ScriptLine). lines_by p (drop at y)) (take_all (length xs) xs (le_refl (length xs)))
    ∙ (ap (λ (y : List ScriptLine). y ++ lines_by p (drop at xs)) (sym e)
    ∙ (sym (own-append p (take at xs) (drop at xs)) ∙ ap (lines_by p) (take-append-drop at xs)))

pub empty : (p to : ℕ) (xs : List ScriptLine) → to ≤ length xs → segment p to to xs ≡ []
empty p to xs l = ap (lines_by p) (none to (take to xs) (length-take-le to xs l)) where
  none : (n : ℕ) (ys : List ScriptLine) → length ys ≡ n → drop n ys ≡ []
  none n ys e = nothing (drop n ys)
      (let a = length-append (take n ys) (drop n ys) in let b = ap length (take-append-drop n ys) in
      let d = length-take-le n ys (omega arith) in omega arith) where
        nothing : (l : List ScriptLine) → length l ≡ 0 → l ≡ []
        nothing [] z = refl
        nothing (x ∷ l) z = absurd (omega arith)
