use Rattle.std.proofs.Common.{sym, ◌∙◌, arith}
use Rattle.std.proofs.lemmas.Bool.{ne_eqb}
use Rattle.script_text.specs.TaskTables.{flag_in}
use Rattle.script_text.proofs.TaskLists.{flags_flagged, flags_past}
use Rattle.script_text.proofs.tasks.is_gone.Goals as goal

pub returns-then-has_flag : goal.returns-then-has_flag
returns-then-has_flag c =
    flags_flagged (flag_in c.args.flags.now) c.args.parents.now c.loop-older.older c.loop-older.task _ c.loop-older-test.true
    c.loop-older.invariant.within c.loop-older.invariant.flags c.if-task-youngest.true (sym c.has_flag.ensures ∙ c.if-has_flag.true)

pub loop-older-preserved : goal.loop-older-preserved
loop-older-preserved c = record {
  flags =
      flags_past (flag_in c.args.flags.now) c.args.parents.now c.loop-older.older c.loop-older.task _ c.loop-older-test.true
      c.loop-older.invariant.within c.loop-older.invariant.flags (ne_eqb c.loop-older.task c.loop-older.older c.if-task-youngest.false);
  within = omega (arith, c.loop-older.invariant.within);
}
