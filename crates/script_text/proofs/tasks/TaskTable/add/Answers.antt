use Rattle.std.proofs.Common.{◌≡◌, ◌≤◌, ◌+◌, length, sym, ap, ◌∙◌, subst}
use Rattle.script_spec.specs.Tasks.{TaskChange, Forks, Awaits, change_of, forked_name}
use Rattle.script_spec.specs.Grammar.{most_script_tasks}
use Rattle.script_text.specs.Spelled.{spelled_seen}
use Rattle.script_text.specs.TaskTables.{tasks_seen, change_seen, part_names, IsWaitThere, IsTasksAfter}
use Rattle.script_text.proofs.TaskSteps.{nothing_after, exit_after, wait_after, fork_after}
use Rattle.script_text.proofs.tasks.TaskTable.add.Goals as goal

pub returns-in_ok-fork-in-Fork : goal.returns-in_ok-fork-in-Fork
returns-in_ok-fork-in-Fork c =
    let name = c.in-Fork.name.bytes.now in
    let is : Forks name ≡ change_of (spelled_seen c.args.call.now) = ap change_seen (sym c.in-Fork.is) ∙ c.change_of.ensures in
    let room : length (part_names c.args.self.now.names.items) + 1 ≤ most_script_tasks =
    subst (λ (x : TaskChange). length (part_names c.args.self.now.names.items) + length (forked_name x) ≤ most_script_tasks) (sym is) c.requires.room in
    subst (λ (x : TaskChange). IsTasksAfter c.args.call.now.task x c.args.self.now c.fork.new.self) is
    (fork_after c.args.call.now.task name c.args.self.now c.count.new.self c.fork.new.self c.requires.table c.requires.task room c.count.ensures
    c.in_ok-fork-in-Fork.ensures)

pub returns-in-Exit : goal.returns-in-Exit
returns-in-Exit c =
    subst (λ (x : TaskChange). IsTasksAfter c.args.call.now.task x c.args.self.now c.exit.new.self)
    (ap change_seen (sym c.in-Exit.is) ∙ c.change_of.ensures)
    (exit_after c.args.call.now.task c.args.self.now c.count.new.self c.exit.new.self c.requires.table c.requires.task c.count.ensures c.exit.ensures)

pub returns-in-Wait : goal.returns-in-Wait
returns-in-Wait c =
    let name = c.in-Wait.name.bytes.now in
    let is : Awaits name ≡ change_of (spelled_seen c.args.call.now) = ap change_seen (sym c.in-Wait.is) ∙ c.change_of.ensures in
    subst (λ (x : TaskChange). IsTasksAfter c.args.call.now.task x c.args.self.now c.wait.new.self) is
    (wait_after c.args.call.now.task c.pid_of-child.result name c.args.self.now c.count.new.self c.wait.new.self c.requires.table c.requires.task
    c.count.ensures c.pid_of-child.ensures
    (subst (λ (x : TaskChange). IsWaitThere (tasks_seen c.args.self.now) x) (sym is) c.requires.there)
    c.wait.ensures)

pub returns-in-Nothing : goal.returns-in-Nothing
returns-in-Nothing c =
    subst (λ (x : TaskChange). IsTasksAfter c.args.call.now.task x c.args.self.now c.count.new.self)
    (ap change_seen (sym c.in-Nothing.is) ∙ c.change_of.ensures)
    (nothing_after c.args.call.now.task c.args.self.now c.count.new.self c.requires.table c.requires.task c.count.ensures)
