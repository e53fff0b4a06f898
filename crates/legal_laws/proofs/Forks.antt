use Rattle.std.proofs.Common.{◌≡◌, ◌<◌, ℕ, ◌+◌, Bool, true, false, ◌==◌, inl, inr, if◌then◌else◌, List, [], ◌∷◌, ◌++◌, length, length-append, refl, sym, ap, subst, ◌∙◌, arith, append_assoc, Option, Some, None}
use Rattle.std.proofs.lemmas.Bool.{cases_Bool, eqb-true, lt-leb}
use Rattle.smack_base.specs.declared.ids.Pid.{Pid}
use Rattle.rules_spec.specs.Rulings.{ruling}
use Rattle.verb_spec.specs.declared.Verb.{Verb}
use Rattle.verb_spec.specs.declared.Verb.TheVariants as Verb
use Rattle.script_spec.specs.Lines.{ScriptLine, word_in, verb_in}
use Rattle.script_spec.specs.Tasks.{change_by, change_of, is_fork, has_exit, forked_name, parents_in, task_names}
use Rattle.world_spec.specs.declared.tasks.TaskCall.TheVariants as TaskCall
use Rattle.world_spec.specs.declared.Call.{Call}
use Rattle.world_spec.specs.declared.Call.TheVariants as Call
use Rattle.world_spec.specs.declared.Reply.TheVariants as Reply
use Rattle.world_spec.specs.declared.Entry.{Entry}
use Rattle.world_spec.specs.Worlds.{most_tasks}
use Rattle.world_spec.specs.Steps.{step}
use Rattle.record_spec.specs.declared.AskedWhat.{AskedWhat}
use Rattle.record_spec.specs.declared.AskedWhat.TheVariants as AskedWhat
use Rattle.replay_spec.specs.declared.Act.TheVariants as Act
use Rattle.verb_spec.specs.Values.{pid_in}
use Rattle.replay_spec.specs.Calls.{of_one}
use Rattle.replay_spec.specs.Acts.{act_by, call_by, call_of_line}
use Rattle.replay_spec.proofs.ReadCalls.{act_words}
use Rattle.replay_spec.specs.Plain.{IsNameTable}
use Rattle.replay_spec.specs.Replays.{Run}
use Rattle.legal_spec.specs.Calls.{Stands, IsForkOf}
use Rattle.legal_spec.specs.Lines.{IsAskedOfLine}
use Rattle.plain_laws.proofs.GoodLines.{IsGoodLine}
use Rattle.plain_laws.proofs.Tasks.{names_more}
use Rattle.replay_laws.proofs.Numbers.{none_made, row_is_live}
use Rattle.replay_laws.proofs.InStep.{IsInStep, next_pid}
use Rattle.legal_laws.proofs.Places.{stands_more, stands_front, stands_last}
use Rattle.legal_laws.proofs.Runs.{entry_by, IsNext, batch, entry, asked, Replays, first, more}
use Rattle.legal_laws.proofs.Children.{fork_replies}
use Rattle.legal_laws.proofs.Lineages.{parent_of, AreOlder, parent_below, parent_kept, newest_parent}
use Rattle.legal_laws.proofs.ForkLines.{fork_line, parents_more, parents_many}

-- a fork in the history: its number is the pid, and the lines so far have its parent
pub record IsKnownFork (above : List ScriptLine) (e : Entry) (number : ℕ) (pid : Pid) : Type 0 where
  pub is_pid : number ≡ pid.0
  pub parent : parent_of (parents_in above) number ≡ Some e.task

-- the fork of a task in the history
pub record HasFork (history : List Entry) (task parent : ℕ) : Type 0 where
  pub place : ℕ
  pub fork : Entry
  pub there : Stands history place fork
  pub is : IsForkOf fork task (record { 0 = task })
  pub own : fork.task ≡ parent

pub record AreForked (above : List ScriptLine) (history : List Entry) : Type 0 where
  pub known : (i : ℕ) (e : Entry) (number : ℕ) (pid : Pid) → Stands history i e → IsForkOf e number pid → IsKnownFork above e number pid
  pub there : (task parent : ℕ) → parent_of (parents_in above) task ≡ Some parent → HasFork history task parent
  pub older : AreOlder (parents_in above)

-- an asked, refused or waited line forks nothing, nor does a batch
verb_forks_nothing : (l : ScriptLine) (verb : Verb) → verb_in l ≡ Some verb → is_fork (change_by (Some verb) l) ≡ false → is_fork (change_of l) ≡ false
verb_forks_nothing l verb is nothing = ap (λ v. is_fork (change_by v l)) is ∙ nothing

asked_forks_nothing : (labels names : List (List ℕ)) (l : ScriptLine) (what : AskedWhat) → IsAskedOfLine labels names l what
    → is_fork (change_of l) ≡ false
asked_forks_nothing labels names l (AskedWhat.Ask v) of =
    verb_forks_nothing l Verb.Ask (act_words labels names l (Act.Ask v.subject v.object v.modes) of).0 refl
asked_forks_nothing labels names l (AskedWhat.Refused file fault) of = verb_forks_nothing l Verb.Write of.0 refl
asked_forks_nothing labels names l (AskedWhat.Wait pid) of = verb_forks_nothing l Verb.Wait (act_words labels names l (Act.Wait pid) of).0 refl

same_number : (a b : ℕ) → Reply.Child a ≡ Reply.Child b → a ≡ b
same_number a b is = cc

same_pid : (a b : Pid) → Call.Task (TaskCall.Fork a) ≡ Call.Task (TaskCall.Fork b) → a ≡ b
same_pid a b is = cc

same_parent : (a b : ℕ) → ◌≡◌ {A = Option ℕ} (Some a) (Some b) → a ≡ b
same_parent a b is = cc

-- the verb of a line that forks
pub forks_by : (l : ScriptLine) (verb : Option Verb) → verb_in l ≡ verb → is_fork (change_by verb l) ≡ true → verb_in l ≡ Some Verb.Fork
forks_by l (Some Verb.Fork) is forks = is
forks_by l verb is forks = absurd cc

same_call : (a b : Call) → ◌≡◌ {A = Option Call} (Some a) (Some b) → a ≡ b
same_call a b is = cc

true_is_not_false : (b : Bool) → b ≡ true → b ≡ false → ⊥
true_is_not_false true is not = cc
true_is_not_false false is not = cc

abbrev pub longer_fork : (history : List Entry) (e : Entry) (task parent : ℕ) → HasFork history task parent → HasFork (history ++ e ∷ []) task parent
longer_fork history e task parent has = record {
  place = has.place;
  fork = has.fork;
  there = stands_front history (e ∷ []) has.place has.fork has.there;
  is = has.is;
  own = has.own;
}

-- a line that forks nothing leaves the parents as they are
module _ (above : List ScriptLine) (l : ScriptLine) (nothing : is_fork (change_of l) ≡ false) where
  same_parents : parents_in (above ++ l ∷ []) ≡ parents_in above
  same_parents = parents_more above l ∙ ap (λ b. if b then l.task ∷ parents_in above else parents_in above) nothing

  still_forked : (history : List Entry) → AreForked above history → AreForked (above ++ l ∷ []) history
  still_forked history forked = record {
    known = λ i e number pid at is.
        let k = forked.known i e number pid at is in
        record { is_pid = k.is_pid; parent = ap (λ ps. parent_of ps number) same_parents ∙ k.parent };
    there = λ task parent is. forked.there task parent (ap (λ ps. parent_of ps task) (sym same_parents) ∙ is);
    older = subst AreOlder (sym same_parents) forked.older;
  }

  -- and so does an entry that is no fork
  quiet_entry : (history : List Entry) (e : Entry) → ((pid : Pid) → e.call ≡ Call.Task (TaskCall.Fork pid) → ⊥) → AreForked above history
      → AreForked (above ++ l ∷ []) (history ++ e ∷ [])
  quiet_entry history e quiet forked =
      let same = still_forked history forked in
      record {
        known = λ i x number pid at is.
            elim (stands_more history e i x at) [
              | inl old ↦ same.known i x number pid old is
              | inr new ↦ absurd (quiet pid (ap (λ y. y.call) (sym new.1) ∙ is.0))
            ];
        there = λ task parent is. longer_fork history e task parent (same.there task parent is);
        older = same.older;
      }

-- a line that forks a task
module _ (labels names : List (List ℕ)) (above : List ScriptLine) (l : ScriptLine) (run : Run) (good : IsGoodLine above l) (in_step : IsInStep above run.world.tasks) (table : IsNameTable names) (rest : List (List ℕ)) (whole : names ≡ task_names (above ++ l ∷ []) ++ rest) (verb : verb_in l ≡ Some Verb.Fork) where
  abbrev new_pid : Pid
  new_pid = record { 0 = length (task_names above) }

  one_name : forked_name (change_of l) ≡ word_in 1 l ∷ []
  one_name = ap (λ v. forked_name (change_by v l)) verb

  names_with : task_names (above ++ l ∷ []) ≡ task_names above ++ word_in 1 l ∷ []
  names_with = names_more above l ∙ ap (λ ns. task_names above ++ ns) one_name

  -- the pid that it names is the next
  pid_is_next : pid_in names (word_in 1 l) ≡ Some new_pid
  pid_is_next =
      next_pid names (task_names above) (word_in 1 l) rest
      (whole ∙ ap (λ ns. ns ++ rest) names_with ∙ append_assoc (task_names above) (word_in 1 l ∷ []) rest) table

  replies : (step run.world (ruling run.journal) l.task (Call.Task (TaskCall.Fork new_pid))).reply ≡ Reply.Child (length run.world.tasks)
  replies =
      let zero_more : 0 + l.task ≡ l.task = omega arith in
      let few : length (task_names above) < most_tasks =
      omega (arith, good.few, ap (λ (t : List (List ℕ)). length t) names_with, length-append (task_names above) (word_in 1 l ∷ [])) in
      fork_replies run.world (ruling run.journal) l.task new_pid
      (row_is_live (has_exit above) 0 run.world.tasks l.task (omega (arith, good.there, in_step.many)) (ap (has_exit above) zero_more ∙ good.live) in_step.numbered)
      (none_made (has_exit above) 0 run.world.tasks (length (task_names above)) (omega (arith, in_step.many)) in_step.numbered)
      (lt-leb most_tasks (length run.world.tasks) (omega (arith, few, in_step.many)))

  one_parent : parents_in (above ++ l ∷ []) ≡ l.task ∷ parents_in above
  one_parent = parents_more above l ∙ ap (λ b. if b then l.task ∷ parents_in above else parents_in above) (ap (λ v. is_fork (change_by v l)) verb)

  new_number : length run.world.tasks ≡ length (parents_in above) + 1
  new_number = omega (arith, in_step.many, parents_many above)

  -- the entry of the fork is known
  known_fork : (x : Entry) (call : Call) → call ≡ Call.Task (TaskCall.Fork new_pid) → x ≡ entry_by run l call → (number : ℕ) (pid : Pid)
      → IsForkOf x number pid → IsKnownFork (above ++ l ∷ []) x number pid
  known_fork x call is new number pid fork =
      let replied : x.reply ≡ Reply.Child (length run.world.tasks) =
      ap (λ y. y.reply) new ∙ ap (λ c. (step run.world (ruling run.journal) l.task c).reply) is ∙ replies in
      let numbered : number ≡ length run.world.tasks = same_number number (length run.world.tasks) (sym fork.1 ∙ replied) in
      let named : pid ≡ new_pid = same_pid pid new_pid (sym fork.0 ∙ ap (λ y. y.call) new ∙ is) in
      let next : number ≡ length (parents_in above) + 1 = numbered ∙ new_number in
      record {
        is_pid = omega (arith, ap (λ (p : Pid). p.0) named, numbered, in_step.many);
        parent =
            ap (λ ps. parent_of ps number) one_parent ∙ ap (parent_of (l.task ∷ parents_in above)) next
            ∙ newest_parent l.task (parents_in above) ∙ ap (λ k. Some k) (sym (ap (λ y. y.task) new));
      }

  new_fork : (call : Call) → call ≡ Call.Task (TaskCall.Fork new_pid) → (task : ℕ) → task ≡ length (parents_in above) + 1
      → HasFork (run.history ++ entry_by run l call ∷ []) task l.task
  new_fork call is task next = record {
    place = length run.history;
    fork = entry_by run l call;
    there = stands_last run.history (entry_by run l call);
    is = (
      is ∙ ap (λ n. Call.Task (TaskCall.Fork (record { 0 = n }))) (omega (arith, next, parents_many above)),
      ap (λ c. (step run.world (ruling run.journal) l.task c).reply) is ∙ replies ∙ ap (λ n. Reply.Child n) (new_number ∙ sym next),
    );
    own = refl;
  }

  there_with : (call : Call) → call ≡ Call.Task (TaskCall.Fork new_pid) → AreForked above run.history → (task parent : ℕ)
      → parent_of (l.task ∷ parents_in above) task ≡ Some parent → HasFork (run.history ++ entry_by run l call ∷ []) task parent
  there_with call is forked task parent is_parent = by (task == length (l.task ∷ parents_in above)) refl is_parent
    where
      by : (here : Bool) → (task == length (l.task ∷ parents_in above)) ≡ here
          → (if here then Some l.task else parent_of (parents_in above) task) ≡ Some parent
          → HasFork (run.history ++ entry_by run l call ∷ []) task parent
      by true here is_parent =
          let next : task ≡ length (parents_in above) + 1 = omega (arith, eqb-true task (length (l.task ∷ parents_in above)) here) in
          subst (λ (k : ℕ). HasFork (run.history ++ entry_by run l call ∷ []) task k) (same_parent l.task parent is_parent) (new_fork call is task next)
      by false here is_parent = longer_fork run.history (entry_by run l call) task parent (forked.there task parent is_parent)

  pub fork_entry : (call : Call) → call ≡ Call.Task (TaskCall.Fork new_pid) → AreForked above run.history
      → AreForked (above ++ l ∷ []) (run.history ++ entry_by run l call ∷ [])
  fork_entry call is forked = record {
    known = λ i x number pid at fork.
        elim (stands_more run.history (entry_by run l call) i x at) [
          | inl old ↦
              let k = forked.known i x number pid old fork in
              record {
                is_pid = k.is_pid;
                parent =
                    ap (λ ps. parent_of ps number) one_parent
                    ∙ parent_kept l.task (parents_in above) number (parent_below (parents_in above) number x.task k.parent) ∙ k.parent;
              }
          | inr new ↦ known_fork x call is new.1 number pid fork
        ];
    there = λ task parent is_parent. there_with call is forked task parent (ap (λ ps. parent_of ps task) (sym one_parent) ∙ is_parent);
    older = subst AreOlder (sym one_parent) (omega (arith, good.there, parents_many above), forked.older);
  }

-- an object call of a line that forks is the fork, and that of another line is none
module _ (labels names : List (List ℕ)) (table : IsNameTable names) where
  entry_forked : (above : List ScriptLine) (l : ScriptLine) (run : Run) (call : Call) → IsGoodLine above l → IsInStep above run.world.tasks
      → (rest : List (List ℕ)) → names ≡ task_names (above ++ l ∷ []) ++ rest → call_of_line labels names l ≡ Some call
      → AreForked above run.history → AreForked (above ++ l ∷ []) (run.history ++ entry_by run l call ∷ [])
  entry_forked above l run call good in_step rest whole of forked =
      elim (cases_Bool (is_fork (change_of l))) [
        | inl forks ↦
            let verb = forks_by l (verb_in l) refl forks in
            let pid = pid_is_next labels names above l run good in_step table rest whole verb in
            let given : call ≡ Call.Task (TaskCall.Fork (record { 0 = length (task_names above) })) =
            same_call call (Call.Task (TaskCall.Fork (record { 0 = length (task_names above) })))
            (sym of ∙ ap (call_by labels l) (ap (act_by labels names l) verb ∙ ap (λ (p : Option Pid). of_one p (λ x. Act.Fork x)) pid)) in
            fork_entry labels names above l run good in_step table rest whole verb call given forked
        | inr nothing ↦
            quiet_entry above l nothing run.history (entry_by run l call)
            (λ pid is.
            let line = fork_line labels names l pid (of ∙ ap (λ c. Some c) is) in
            true_is_not_false (is_fork (change_of l)) (ap (λ v. is_fork (change_by v l)) line.0) nothing)
            forked
      ]

  -- the forks of the history are those of the lines so far
  pub forks_are_known : (above : List ScriptLine) (run : Run) → Replays labels names above run → AreForked above run.history
  forks_are_known lines now first = record { known = λ i e number pid at is. cc; there = λ task parent is. cc; older = tt }
  forks_are_known lines now (more above l run after replays good in_step rest whole next) = by after next (forks_are_known above run replays)
    where
      by : (after : Run) → IsNext labels names run l after → AreForked above run.history → AreForked (above ++ l ∷ []) after.history
      by after (batch ops of may) forked = still_forked above l (verb_forks_nothing l Verb.Write of.0 refl) run.history forked
      by after (entry call of) forked = entry_forked above l run call good in_step rest whole of forked
      by after (asked what of so) forked = still_forked above l (asked_forks_nothing labels names l what of) run.history forked
