use Rattle.std.proofs.Common.{sym, subst}
use Rattle.live_table.specs.Lists.{Has}
use Rattle.smack_kernel.specs.Answers.{IsWholeTask}
use Rattle.smack_kernel.proofs.kernel.Kernel.close.Goals as goal

pub close-requires-clause-whole : goal.close-requires-clause-whole
close-requires-clause-whole c =
    let t = c.task.invariant.0 in
    let whole = subst IsWholeTask (sym c.task.view_is) c.requires.whole in record {
      penless = t.rests.0;
      turnless = t.rests.1;
      first = subst (Has 0) (sym t.numbered) whole.first;
      closed = λ e h mine k made. subst (Has k) (sym t.numbered)
          (whole.closed e h (subst (Has e.task) t.numbered mine) k made);
    }
