-- Where the line of a call stands in its script, and what stands before it.
use Rattle.std.proofs.Common.{◌≡◌, ◌≢◌, ℕ, ◌+◌, ◌≤◌, ◌⊎◌, ◌==◌, ◌&&◌, ◌||◌, Bool, true, false, List, [], ◌∷◌, ◌++◌, length, sym, refl, ap, ◌∙◌, subst, arith, append_assoc, append-nil, length-append, ⊎_elim, inl, inr, eq-eqb, ne_eqb, Option, Some, None, Result, Ok, Err}
use mathlib.Core.Logic.{dite}
use native.Mathlib.Decide.{ℕ_discrete}
use Rattle.std.specs.Prelude.{codes}
use Rattle.std.specs.List.{flat_map, list_any}
use Rattle.std.proofs.lemmas.Grind.{flat_map-append}
use Rattle.smack_base.specs.declared.ids.Pid.{Pid}
use Rattle.file_spec.specs.declared.Refusal.{Refusal}
use Rattle.file_spec.specs.declared.Compiled.{Compiled}
use Rattle.file_spec.specs.Files.{compiled}
use Rattle.world_spec.specs.declared.tasks.TaskCall.TheVariants as TaskCall
use Rattle.world_spec.specs.declared.Call.TheVariants as Call
use Rattle.script_spec.specs.Lines.{ScriptLine, word_in, words_behind}
use Rattle.script_spec.specs.Tasks.{change_by, change_of, forked_name, is_exit, has_exit, task_names}
use Rattle.replay_spec.specs.declared.Act.{Act}
use Rattle.replay_spec.specs.Calls.{of_one, file_call}
use Rattle.replay_spec.specs.Acts.{act_of_line, call_by, call_of_line}
use Rattle.replay_spec.proofs.ReadCalls.{act_words}
use Rattle.replay_spec.specs.Plain.{IsNameTable}
use Rattle.replay_laws.proofs.InStep.{made_quiet, next_pid}
use Rattle.plain_laws.proofs.GoodLines.{IsGoodLine, AreGoodLines}
use Rattle.plain_laws.proofs.Tasks.{names_behind}
use Rattle.legal_laws.proofs.ForkLines.{fork_line}
use Rattle.live_table.specs.Lists.{Has, here, there}
use Rattle.runs_spec.specs.Scripts.{Scripted, lines_by}
use Rattle.runs_spec.specs.Deeds.{Deed, FitsLine, FitsTo}

-- the line of a call, and the lines of its task before it
pub record CallLine (s : Scripted) (t q : ℕ) (ls : List ScriptLine) (d : Deed) : Type 0 where
  pub front : List ScriptLine
  pub line : ScriptLine
  pub behind : List ScriptLine
  pub is : ls ≡ front ++ line ∷ behind
  pub fits : FitsLine s t (q + length front) d line

pub call_line : (s : Scripted) (t q : ℕ) (ds : List Deed) (ls rest : List ScriptLine) (d : Deed) → FitsTo s t q ds ls rest → Has d ds
    → CallLine s t q ls d
call_line s t q [] ls rest d f h = elim h [ ]
call_line s t q (x ∷ ds) [] rest d f h = absurd f
call_line s t q (x ∷ ds) (l ∷ ls) rest d f here = record {
  front = [];
  line = l;
  behind = ls;
  is = refl;
  fits = subst (λ (n : ℕ). FitsLine s t n x l) (let z : q ≡ q + 0 = omega arith in z) f.0;
}
call_line s t q (x ∷ ds) (l ∷ ls) rest d f (there h) = let i = call_line s t (q + 1) ds ls rest d f.1 h in record {
  front = l ∷ i.front;
  line = i.line;
  behind = i.behind;
  is = ap (λ (xs : List ScriptLine). l ∷ xs) i.is;
  fits = subst (λ (n : ℕ). FitsLine s t n d i.line) (let z : (q + 1) + length i.front ≡ q + length (l ∷ i.front) = omega arith in z) i.fits;
}

-- a line of a task in the script
pub record Place (p : ℕ) (xs front' : List ScriptLine) (l : ScriptLine) : Type 0 where
  pub front : List ScriptLine
  pub behind : List ScriptLine
  pub is : xs ≡ front ++ l ∷ behind
  pub own : lines_by p front ≡ front'
  pub task : l.task ≡ p

by_own : (p : ℕ) (l : ScriptLine) (ls : List ScriptLine) → l.task ≡ p → lines_by p (l ∷ ls) ≡ l ∷ lines_by p ls
by_own p l ls e = rw (eq-eqb l.task p e) refl

by_other : (p : ℕ) (l : ScriptLine) (ls : List ScriptLine) → l.task ≢ p → lines_by p (l ∷ ls) ≡ lines_by p ls
by_other p l ls ne = rw (ne_eqb l.task p ne) refl

pub place_of : (p : ℕ) (xs front' : List ScriptLine) (l : ScriptLine) (behind' : List ScriptLine) → lines_by p xs ≡ front' ++ l ∷ behind'
    → Place p xs front' l
place_of p [] [] l behind' is = cc
place_of p [] (y ∷ front') l behind' is = cc
place_of p (x ∷ xs) front' l behind' is = dite (ℕ_discrete x.task p)
    (λ e. mine front' e (λ f i. place_of p xs f l behind' i) (sym (by_own p x xs e) ∙ is))
    (λ ne. let q = place_of p xs front' l behind' (sym (by_other p x xs ne) ∙ is) in record {
      front = x ∷ q.front;
      behind = q.behind;
      is = ap (λ (ls : List ScriptLine). x ∷ ls) q.is;
      own = by_other p x q.front ne ∙ q.own;
      task = q.task;
    })
  where
    mine : (f : List ScriptLine) → x.task ≡ p
        → ((f' : List ScriptLine) → lines_by p xs ≡ f' ++ l ∷ behind' → Place p xs f' l)
        → x ∷ lines_by p xs ≡ f ++ l ∷ behind' → Place p (x ∷ xs) f l
    mine [] e rec is =
        let same : x ≡ l = cc in
        record { front = []; behind = xs; is = ap (λ (y : ScriptLine). y ∷ xs) same; own = refl; task = ap (λ (y : ScriptLine). y.task) (sym same) ∙ e }
    mine (y ∷ f) e rec is =
        let same : x ≡ y = cc in
        let rest : lines_by p xs ≡ f ++ l ∷ behind' = cc in
        let q = rec f rest in record {
          front = x ∷ q.front;
          behind = q.behind;
          is = ap (λ (ls : List ScriptLine). x ∷ ls) q.is;
          own = by_own p x q.front e ∙ (λ i. same i ∷ q.own i);
          task = q.task;
        }

-- two places in one list: the same, or one before the other
abbrev pub Compared : {A : Type 0} → List A → A → List A → A → Type 0
Compared {A} a x b y =
    ((a ≡ b) × (x ≡ y)) ⊎ (((more : List A) × (b ≡ a ++ x ∷ more)) ⊎ ((more : List A) × (a ≡ b ++ y ∷ more)))

pub compared : {A : Type 0} (a : List A) (x : A) (after b : List A) (y : A) (behind : List A) → a ++ x ∷ after ≡ b ++ y ∷ behind → Compared a x b y
compared [] x after [] y behind is = inl (refl, (let z : x ≡ y = cc in z))
compared {A} [] x after (z ∷ b) y behind is =
    let same : z ≡ x = cc in inr (inl (b, ap (λ (u : A). u ∷ b) same))
compared {A} (z ∷ a) x after [] y behind is =
    let same : z ≡ y = cc in inr (inr (a, ap (λ (u : A). u ∷ a) same))
compared {A} (z ∷ a) x after (v ∷ b) y behind is =
    let same : z ≡ v = cc in
    let rest : a ++ x ∷ after ≡ b ++ y ∷ behind = cc in
    ⊎_elim (λ e. inl ((λ i. same i ∷ e.0 i), e.1))
    (λ o. ⊎_elim (λ m. inr (inl (m.0, (λ i. sym same i ∷ m.1 i)))) (λ m. inr (inr (m.0, (λ i. same i ∷ m.1 i)))) o)
    (compared a x after b y behind rest)

-- each line of good lines is good behind those before it
pub good_at : (above front : List ScriptLine) (l : ScriptLine) (behind : List ScriptLine) → AreGoodLines above (front ++ l ∷ behind)
    → IsGoodLine (above ++ front) l
good_at above [] l behind good = subst (λ (ls : List ScriptLine). IsGoodLine ls l) (sym (append-nil above)) good.0
good_at above (x ∷ front) l behind good =
    subst (λ (ls : List ScriptLine). IsGoodLine ls l) (append_assoc above (x ∷ []) front) (good_at (above ++ x ∷ []) front l behind good.1)

-- Forks

same_pid : (x y : Pid) → ◌≡◌ {A = Option Pid} (Some x) (Some y) → x.0 ≡ y.0
same_pid x y is = let e : x ≡ y = cc in ap (λ (p : Pid). p.0) e

-- The pid of a task that a line forks is the number of the tasks above, and there is one task more behind the line.
pub new_pid : (labels names : List (List ℕ)) (front behind : List ScriptLine) (l : ScriptLine) (pid : Pid) → IsNameTable names
    → names ≡ task_names (front ++ l ∷ behind) → call_of_line labels names l ≡ Some (Call.Task (TaskCall.Fork pid))
    → (pid.0 ≡ length (task_names front)) × (length (task_names (front ++ l ∷ [])) ≡ pid.0 + 1)
new_pid labels names front behind l pid table whole forks =
    let f : ScriptLine → List (List ℕ) = λ x. forked_name (change_of x) in
    let line = fork_line labels names l pid forks in
    let one : forked_name (change_of l) ≡ word_in 1 l ∷ [] = ap (λ v. forked_name (change_by v l)) line.0 in
    let cut : flat_map f (front ++ l ∷ behind) ≡ flat_map f front ++ (word_in 1 l ∷ flat_map f behind) =
    flat_map-append f front (l ∷ behind) ∙ ap (λ ns. flat_map f front ++ (ns ++ flat_map f behind)) one in
    let split : names ≡ task_names front ++ (word_in 1 l ∷ flat_map f behind) = whole ∙ ap (λ ns. codes "init" ∷ ns) cut in
    let is = same_pid pid (record { 0 = length (task_names front) })
    (sym line.1 ∙ next_pid names (task_names front) (word_in 1 l) (flat_map f behind) split table) in
    let last : flat_map f (front ++ l ∷ []) ≡ flat_map f front ++ (word_in 1 l ∷ []) =
    flat_map-append f front (l ∷ []) ∙ ap (λ ns. flat_map f front ++ (ns ++ [])) one in
    (is, omega (arith, is, ap (λ (ns : List (List ℕ)). length ns) last, length-append (flat_map f front) (word_in 1 l ∷ [])))

names_before : (a : List ScriptLine) (x : ScriptLine) (more : List ScriptLine)
    → length (task_names (a ++ x ∷ [])) ≤ length (task_names (a ++ x ∷ more))
names_before a x more =
    let rest = names_behind (a ++ x ∷ []) more in
    omega (
      arith,
      ap (λ (ls : List ScriptLine). length (task_names ls)) (sym (append_assoc a (x ∷ []) more)),
      ap (λ (ns : List (List ℕ)). length ns) rest.1,
      length-append (task_names (a ++ x ∷ [])) rest.0,
    )

-- two lines that fork one pid are one
pub one_fork_line : (labels names : List (List ℕ)) (lines : List ScriptLine) (pid : Pid) → IsNameTable names → names ≡ task_names lines
    → (a : List ScriptLine) (x : ScriptLine) (after b : List ScriptLine) (y : ScriptLine) (behind : List ScriptLine)
    → lines ≡ a ++ x ∷ after → lines ≡ b ++ y ∷ behind
    → call_of_line labels names x ≡ Some (Call.Task (TaskCall.Fork pid)) → call_of_line labels names y ≡ Some (Call.Task (TaskCall.Fork pid)) → (a ≡ b) × (x ≡ y)
one_fork_line labels names lines pid table whole a x after b y behind is it fx fy =
    let p = new_pid labels names a after x pid table (whole ∙ ap task_names is) fx in
    let q = new_pid labels names b behind y pid table (whole ∙ ap task_names it) fy in
    ⊎_elim (λ same. same)
    (λ o. ⊎_elim
    (λ m. absurd (let e = ap (λ (ls : List ScriptLine). length (task_names ls)) m.1 in
    let g = names_before a x m.0 in let p0 = p.0 in let p1 = p.1 in let q0 = q.0 in omega arith))
    (λ m. absurd (let e = ap (λ (ls : List ScriptLine). length (task_names ls)) m.1 in
    let g = names_before b y m.0 in let p0 = p.0 in let q1 = q.1 in let q0 = q.0 in omega arith)) o)
    (compared a x after b y behind (sym is ∙ it))

-- Exits

file_other : (made : Result Compiled Refusal) → of_one (file_call made) (λ c. Call.Task c) ≡ Some (Call.Task TaskCall.Exit) → ⊥
file_other (Ok (Compiled.Rules ops)) is = cc
file_other (Ok (Compiled.SelfRules rules)) is = cc
file_other (Ok (Compiled.Relabels list)) is = cc
file_other (Err fault) is = cc

module _ (labels names : List (List ℕ)) (l : ScriptLine) where
  exit_act : (act : Option Act) → act_of_line labels names l ≡ act → call_by labels l act ≡ Some (Call.Task TaskCall.Exit)
      → is_exit (change_of l) ≡ true
  exit_act None does is = cc
  exit_act (Some Act.Write) does is = absurd (file_other (compiled labels (word_in 1 l) l.text.bytes) is)
  exit_act (Some (Act.Ask s o m)) does is = cc
  exit_act (Some (Act.Wait pid)) does is = cc
  exit_act (Some (Act.Fork pid)) does is = cc
  exit_act (Some (Act.Make call)) does is =
      ⊎_elim (λ e. ap (λ v. is_exit (change_by v l)) e.0)
      (λ m. absurd (made_quiet labels names m.0 (words_behind l) (Call.Task TaskCall.Exit) (m.2 ∙ is))) (act_words labels names l (Act.Make call) does)

  -- a line that ends its task has the verb for it
  pub exit_line : call_of_line labels names l ≡ Some (Call.Task TaskCall.Exit) → is_exit (change_of l) ≡ true
  exit_line is = exit_act (act_of_line labels names l) refl is

any_has : {A : Type 0} (test : A → Bool) (xs : List A) (x : A) → test x ≡ true → Has x xs → list_any test xs ≡ true
any_has test [] x is h = elim h [ ]
any_has test (x ∷ xs) y is here = ap (λ b. b || list_any test xs) is
any_has test (x ∷ xs) y is (there h) = ap (λ b. test x || b) (any_has test xs y is h) ∙ or_true (test x)
  where
    or_true : (b : Bool) → (b || true) ≡ true
    or_true true = refl
    or_true false = refl

-- a task with an exit among these lines has exited
pub exit_before : (ls : List ScriptLine) (l : ScriptLine) (task : ℕ) → Has l ls → is_exit (change_of l) ≡ true → l.task ≡ task
    → has_exit ls task ≡ true
exit_before ls l task h is own =
    any_has (λ (x : ScriptLine). is_exit (change_of x) && (x.task == task)) ls l
    (ap (λ b. b && (l.task == task)) is ∙ eq-eqb l.task task own) h
