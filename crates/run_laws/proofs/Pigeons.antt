-- A list of distinct numbers below n has no more than n.
use Rattle.std.proofs.Common.{◌≡◌, ◌≢◌, ℕ, zero, suc, ◌+◌, ◌<◌, ◌≤◌, List, [], ◌∷◌, length, sym, refl, subst, arith}
use mathlib.Core.Logic.{dite}
use native.Mathlib.Decide.{ℕ_discrete}
use Rattle.live_table.specs.Lists.{Has, here, there}
use Rattle.runs_spec.specs.Runs.{Distinct}

-- the list without n
record Without (n : ℕ) (l : List ℕ) : Type 0 where
  list : List ℕ
  distinct : Distinct list
  from : (x : ℕ) → Has x list → Has x l × (x ≢ n)
  long : length l ≤ length list + 1
  all : (Has n l → ⊥) → length l ≡ length list

from_cons : (n y : ℕ) (l list : List ℕ) → (y ≢ n) → ((x : ℕ) → Has x list → Has x l × (x ≢ n)) → (x : ℕ) → Has x (y ∷ list)
    → Has x (y ∷ l) × (x ≢ n)
from_cons n y l list ne f x here = (here, ne)
from_cons n y l list ne f x (there h) = let g = f x h in (there g.0, g.1)

without : (n : ℕ) (l : List ℕ) → Distinct l → Without n l
without n [] d = record { list = []; distinct = tt; from = λ x h. elim h [ ]; long = omega arith; all = λ _. refl }
without n (y ∷ l) d = let w = without n l d.1 in dite (ℕ_discrete y n)
    (λ e. record {
      list = w.list;
      distinct = w.distinct;
      from = λ x h. let f = w.from x h in (there f.0, f.1);
      long = let a = w.all (λ h. d.0 (subst (λ z. Has z l) (sym e) h)) in omega arith;
      all = λ none. absurd (none (subst (λ z. Has n (z ∷ l)) (sym e) here));
    })
    (λ ne. record {
      list = y ∷ w.list;
      distinct = ((λ h. d.0 (w.from y h).0), w.distinct);
      from = from_cons n y l w.list ne w.from;
      long = let a = w.long in omega arith;
      all = λ none. let a = w.all (λ h. none (there h)) in omega arith;
    })

pub pigeons : (n : ℕ) (l : List ℕ) → Distinct l → ((x : ℕ) → Has x l → x < n) → length l ≤ n
pigeons zero [] d f = omega arith
pigeons zero (x ∷ l) d f = absurd (let a = f x here in omega arith)
pigeons (suc n) l d f =
    let w = without n l d in
    let a = pigeons n w.list w.distinct (λ x h. let g = w.from x h in let b = f x g.0 in let ne = g.1 in omega arith) in
    let b = w.long in omega arith
