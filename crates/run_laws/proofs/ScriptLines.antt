-- The lines of a script: the numbers of a task's lines, and the line that forks a task.
use Rattle.std.proofs.Common.{◌≡◌, ℕ, ◌+◌, ◌<◌, ◌≤◌, ◌⊎◌, ◌==◌, nat_le, if◌then◌else◌, List, [], ◌∷◌, ◌++◌, length, Bool, true, false, sym, refl, ap, ◌∙◌, subst, arith, append_assoc, append-nil, length-append, ⊎_elim, inl, inr, Some}
use Rattle.std.specs.Prelude.{cond}
use Rattle.std.proofs.lemmas.Bool.{cases_Bool, leb-true, leb-false, eqb-true}
use Rattle.std.proofs.lemmas.List.Sums.{sum_by-append}
use Rattle.verb_spec.specs.declared.Verb.TheVariants as Verb
use Rattle.script_spec.specs.Lines.{ScriptLine, verb_in}
use Rattle.script_spec.specs.Tasks.{TaskChange, Forks, change_of, forked_name, is_fork, calls_by, task_names}
use Rattle.live_table.specs.Lists.{Has, here, there}
use Rattle.plain_laws.proofs.GoodLines.{IsGoodLine, AreGoodLines}
use Rattle.plain_laws.proofs.Tasks.{names_more}
use Rattle.legal_laws.proofs.Forks.{forks_by}
use Rattle.runs_spec.specs.Scripts.{Scripted, lines_by}
use Rattle.runs_spec.specs.Deeds.{Deed, FitsLine, FitsTo}
use Rattle.run_laws.proofs.Counts.{count-cons}

-- lines with the numbers q, q + 1, ..
abbrev pub AreNumbered : ℕ → List ScriptLine → Type 0
AreNumbered q [] = Unit {0}
AreNumbered q (l ∷ ls) = (l.seq ≡ q) × AreNumbered (q + 1) ls

calls_more : (p : ℕ) (above : List ScriptLine) (l : ScriptLine) → calls_by (above ++ l ∷ []) p ≡ calls_by above p + cond (l.task == p) 1 0
calls_more p above l =
    let a = sum_by-append (λ (x : ScriptLine). cond (x.task == p) 1 0) above (l ∷ []) in
    let b = count-cons (λ (x : ScriptLine). x.task == p) l [] in omega (arith, a, b)

numbered_behind : (p : ℕ) (above ls : List ScriptLine) → AreGoodLines above ls → AreNumbered (calls_by above p + 1) (lines_by p ls)
numbered_behind p above [] good = tt
numbered_behind p above (l ∷ ls) good =
    by (l.task == p) refl (calls_more p above l) (numbered_behind p (above ++ l ∷ []) ls good.1)
  where
    by : (own : Bool) → (l.task == p) ≡ own → calls_by (above ++ l ∷ []) p ≡ calls_by above p + cond own 1 0
        → AreNumbered (calls_by (above ++ l ∷ []) p + 1) (lines_by p ls)
        → AreNumbered (calls_by above p + 1) (if own then l ∷ lines_by p ls else lines_by p ls)
    by true is more rest =
        let same = ap (calls_by above) (eqb-true l.task p is) in
        let seq = good.0.seq in
        (omega arith, subst (λ (n : ℕ). AreNumbered (n + 1) (lines_by p ls)) more rest)
    by false is more rest =
        subst (λ (n : ℕ). AreNumbered (n + 1) (lines_by p ls)) (let e : calls_by (above ++ l ∷ []) p ≡ calls_by above p = omega (arith, more) in e) rest

-- the lines of a task are numbered from 1
pub lines_numbered : (p : ℕ) (lines : List ScriptLine) → AreGoodLines [] lines → AreNumbered 1 (lines_by p lines)
lines_numbered p lines good = numbered_behind p [] lines good

pub record DeedOfLine (s : Scripted) (t : ℕ) (ds : List Deed) (l : ScriptLine) : Type 0 where
  pub deed : Deed
  pub there_ : Has deed ds
  pub fits : FitsLine s t l.seq deed l

-- each of numbered lines is a call
pub deed_of_line : (s : Scripted) (t q : ℕ) (ds : List Deed) (ls : List ScriptLine) (l : ScriptLine) → FitsTo s t q ds ls []
    → AreNumbered q ls → Has l ls → DeedOfLine s t ds l
deed_of_line s t q [] ls l f n h = absurd (nothing ls h f)
  where
    nothing : (xs : List ScriptLine) → Has l xs → xs ≡ [] → ⊥
    nothing xs h e = none (subst (Has l) e h)
      where
        none : Has l [] → ⊥
        none g = elim g [ ]
deed_of_line s t q (d ∷ ds) [] l f n h = absurd f
deed_of_line s t q (d ∷ ds) (x ∷ ls) l f n here =
    record { deed = d; there_ = here; fits = subst (λ (i : ℕ). FitsLine s t i d x) (sym n.0) f.0 }
deed_of_line s t q (d ∷ ds) (x ∷ ls) l f n (there h) =
    let i = deed_of_line s t (q + 1) ds ls l f.1 n.1 h in record { deed = i.deed; there_ = there i.there_; fits = i.fits }

-- as many calls as lines
pub calls_and_lines : (s : Scripted) (t q : ℕ) (ds : List Deed) (ls : List ScriptLine) → FitsTo s t q ds ls [] → length ds ≡ length ls
calls_and_lines s t q [] ls f = sym (ap length f)
calls_and_lines s t q (d ∷ ds) [] f = absurd f
calls_and_lines s t q (d ∷ ds) (l ∷ ls) f = let i = calls_and_lines s t (q + 1) ds ls f.1 in omega (arith, i)

-- a change forks one task or none
one_or_none : (c : TaskChange) → ((is_fork c ≡ true) × (length (forked_name c) ≡ 1)) ⊎ (length (forked_name c) ≡ 0)
one_or_none (Forks name) = inl (refl, refl)
one_or_none change = inr refl

-- the line that forks the task of a pid
pub record ForkLine (lines : List ScriptLine) (pid : ℕ) : Type 0 where
  pub front : List ScriptLine
  pub line : ScriptLine
  pub behind : List ScriptLine
  pub is : lines ≡ (front ++ line ∷ []) ++ behind
  pub good : IsGoodLine front line
  pub many : length (task_names front) ≡ pid
  pub verb : verb_in line ≡ Some Verb.Fork

pub fork_line_of : (pid : ℕ) (above ls : List ScriptLine) → AreGoodLines above ls → length (task_names above) ≤ pid
    → pid < length (task_names (above ++ ls)) → ForkLine (above ++ ls) pid
fork_line_of pid above [] good low high = absurd (let e = ap (λ (x : List ScriptLine). length (task_names x)) (append-nil above) in omega (arith, e, low, high))
fork_line_of pid above (l ∷ ls) good low high =
    let same = append_assoc above (l ∷ []) ls in
    let count = ap (λ (x : List (List ℕ)). length x) (names_more above l) in
    let long = length-append (task_names above) (forked_name (change_of l)) in
    ⊎_elim
    (λ e.
    let far = leb-true (length (task_names (above ++ l ∷ []))) pid e in
    let i = fork_line_of pid (above ++ l ∷ []) ls good.1 far (subst (λ (x : List ScriptLine). pid < length (task_names x)) (sym same) high) in
    record { front = i.front; line = i.line; behind = i.behind; is = sym same ∙ i.is; good = i.good; many = i.many; verb = i.verb })
    (λ e.
    let near = leb-false (length (task_names (above ++ l ∷ []))) pid e in
    ⊎_elim (λ o. record {
      front = above;
      line = l;
      behind = ls;
      is = sym same;
      good = good.0;
      many = let x = o.1 in omega (arith, count, long, near, low, x);
      verb = forks_by l (verb_in l) refl o.0;
    }) (λ z. absurd (omega (arith, count, long, near, low, z))) (one_or_none (change_of l)))
    (cases_Bool (nat_le (length (task_names (above ++ l ∷ []))) pid))
