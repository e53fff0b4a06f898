-- The list of forks has the forks of the history, and the list of numbers those of its tasks.
use Rattle.std.proofs.Common.{◌≡◌, ◌⊎◌, inl, inr, ℕ, zero, suc, ◌==◌, List, [], ◌∷◌, Option, Some, None, refl, sym, ap, ◌∙◌, subst}
use Rattle.std.specs.Bool.{Decides}
use Rattle.std.proofs.lemmas.Bool.Decides.{Decides-like, Decides-eqb}
use Rattle.smack_base.specs.declared.ids.Pid.{Pid}
use Rattle.world_spec.specs.declared.tasks.TaskCall.{TaskCall}
use Rattle.world_spec.specs.declared.Call.{Call}
use Rattle.world_spec.specs.declared.Reply.{Reply}
use Rattle.world_spec.specs.declared.Entry.{Entry}
use Rattle.record_spec.specs.declared.NumberedTask.{NumberedTask}
use Rattle.world_spec.specs.Replies.{child_of}
use Rattle.record_spec.specs.Tasks.{forked, child_by, numbered_child}
use Rattle.legal_spec.specs.Calls.{Stands, IsForkOf, IsTask}
use Rattle.legal_forms.specs.MadeCalls.{MadeFork, fork_by, forks_of, has_task, task_numbers}
use Rattle.legal_forms_laws.proofs.Members.{same_some, Has, has_there, place_of_one, has_left, has_right, has_either, has_image, has_source}
use Rattle.legal_forms_laws.proofs.Quantified.{list_any_decides}

is_fork : (call : Call) (pid : Pid) → forked call ≡ Some pid → call ≡ Call.Task (TaskCall.Fork pid)
is_fork (Call.Task (TaskCall.Fork p)) pid is = ap (λ x. Call.Task (TaskCall.Fork x)) (same_some p pid is)
is_fork (Call.Task call) pid is = absurd cc
is_fork (Call.Tree call) pid is = absurd cc

is_child : (reply : Reply) (k : ℕ) → child_of reply ≡ Some k → reply ≡ Reply.Child k
is_child (Reply.Child n) k is = ap (λ x. Reply.Child x) (same_some n k is)
is_child reply k is = absurd cc

fork_made : (e : Entry) (t : NumberedTask) → numbered_child e ≡ Some t → IsForkOf e t.number t.pid
fork_made e t = by (forked e.call) (child_of e.reply) refl refl
  where
    by : (pid : Option Pid) (k : Option ℕ) → forked e.call ≡ pid → child_of e.reply ≡ k → child_by pid k ≡ Some t → IsForkOf e t.number t.pid
    by None k call reply is = absurd cc
    by (Some pid) None call reply is = absurd cc
    by (Some pid) (Some k) call reply is =
        let same = same_some (record { number = k; pid = pid }) t is in (
          is_fork e.call t.pid (call ∙ ap (λ (x : NumberedTask). Some x.pid) same),
          is_child e.reply t.number (reply ∙ ap (λ (x : NumberedTask). Some x.number) same),
        )

pub made_fork : (e : Entry) (k : ℕ) (pid : Pid) → IsForkOf e k pid → numbered_child e ≡ Some (record { number = k; pid = pid })
made_fork e k pid is i = child_by (forked (is.0 i)) (child_of (is.1 i))

-- a fork of an entry
abbrev pub fork_of_entry : Entry → ℕ → Pid → MadeFork
fork_of_entry e k pid = record { parent = e.task; seq = e.seq; version = e.version; number = k; pid = pid }

pub has_fork : (history : List Entry) (i : ℕ) (e : Entry) (k : ℕ) (pid : Pid) → Stands history i e → IsForkOf e k pid
    → Has (forks_of history) (fork_of_entry e k pid)
has_fork [] i e k pid at is = absurd (none at)
  where
    none : Stands [] i e → ⊥
    none at = cc
has_fork (x ∷ xs) zero e k pid at is =
    has_left (fork_by x (numbered_child x)) (forks_of xs) (fork_of_entry e k pid)
    (subst (λ (y : Entry). Has (fork_by y (numbered_child y)) (fork_of_entry e k pid)) (sym (same_some x e at))
    (subst (λ o. Has (fork_by e o) (fork_of_entry e k pid)) (sym (made_fork e k pid is)) (inl refl)))
has_fork (x ∷ xs) (suc i) e k pid at is =
    has_right (fork_by x (numbered_child x)) (forks_of xs) (fork_of_entry e k pid) (has_fork xs i e k pid at is)

-- the entry of a fork in the list
pub record IsForkIn (history : List Entry) (f : MadeFork) : Type 0 where
  pub place : ℕ
  pub fork : Entry
  pub there : Stands history place fork
  pub is : IsForkOf fork f.number f.pid
  pub same : fork_of_entry fork f.number f.pid ≡ f

of_one : (x : Entry) (f : MadeFork) → Has (fork_by x (numbered_child x)) f → IsForkOf x f.number f.pid × (fork_of_entry x f.number f.pid ≡ f)
of_one x f = by (numbered_child x) refl
  where
    by : (o : Option NumberedTask) → numbered_child x ≡ o → Has (fork_by x o) f → IsForkOf x f.number f.pid × (fork_of_entry x f.number f.pid ≡ f)
    by None is has = absurd has
    by (Some t) is (inl same) = (
      subst (λ (g : MadeFork). IsForkOf x g.number g.pid) same (fork_made x t is),
      subst (λ (g : MadeFork). fork_of_entry x g.number g.pid ≡ g) same refl,
    )
    by (Some t) is (inr none) = absurd none

pub fork_has : (history : List Entry) (f : MadeFork) → Has (forks_of history) f → IsForkIn history f
fork_has [] f has = absurd has
fork_has (x ∷ xs) f has = by (fork_has xs f) (has_either (fork_by x (numbered_child x)) (forks_of xs) f has)
  where
    by : (Has (forks_of xs) f → IsForkIn xs f) → Has (fork_by x (numbered_child x)) f ⊎ Has (forks_of xs) f → IsForkIn (x ∷ xs) f
    by again (inl here) = let of = of_one x f here in record { place = 0; fork = x; there = refl; is = of.0; same = of.1 }
    by again (inr rest) =
        let of = again rest in record { place = suc of.place; fork = of.fork; there = of.there; is = of.is; same = of.same }

-- whether a number is among some
pub number_decides : (numbers : List ℕ) (k : ℕ) → Decides (has_task numbers k) (Has numbers k)
number_decides numbers k =
    Decides-like (has_task numbers k)
    (λ some. subst (Has numbers) some.3 (has_there numbers some.0 some.1 some.2))
    (λ has. let place = place_of_one numbers k has in (place.0, k, place.1, refl))
    (list_any_decides (λ n. n == k) (λ n. n ≡ k) (λ n. Decides-eqb n k) numbers)

of_number : (history : List Entry) (k : ℕ) → Has (task_numbers history) k → IsTask history k
of_number history k (inl first) = (record { 0 = 0 }, inl (sym first, refl))
of_number history k (inr has) =
    let source = has_source (λ (f : MadeFork). f.number) (forks_of history) k has in
    let fork = fork_has history source.0 source.1 in
    (source.0.pid, inr (fork.place, fork.fork, fork.there, subst (λ (n : ℕ). IsForkOf fork.fork n source.0.pid) source.2 fork.is))

number_of : (history : List Entry) (k : ℕ) → IsTask history k → Has (task_numbers history) k
number_of history k is = by is.1
  where
    by : ((k ≡ 0) × (is.0.0 ≡ 0)) ⊎ ((i : ℕ) × (e : Entry) × Stands history i e × IsForkOf e k is.0) → Has (task_numbers history) k
    by (inl first) = inl (sym first.0)
    by (inr fork) =
        inr (has_image (λ (f : MadeFork). f.number) (forks_of history) (fork_of_entry fork.1 k is.0)
        (has_fork history fork.0 fork.1 k is.0 fork.2 fork.3))

pub task_decides : (history : List Entry) (k : ℕ) → Decides (has_task (task_numbers history) k) (IsTask history k)
task_decides history k =
    Decides-like (has_task (task_numbers history) k) (of_number history k) (number_of history k) (number_decides (task_numbers history) k)
