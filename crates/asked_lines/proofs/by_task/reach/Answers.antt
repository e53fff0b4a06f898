use Rattle.std.proofs.Common.{List, [], ◌∷◌, ◌++◌, length, ap, sym, ◌∙◌, subst, arith, length-append}
use Rattle.record_spec.specs.declared.AskedLine.{AskedLine}
use Rattle.asked_lines.specs.ByTask.{all_lines, AreByTask}
use Rattle.asked_lines.proofs.Order.{none_more, same_lines}
use Rattle.asked_lines.proofs.by_task.reach.Goals as goal

pub loop-lists-preserved : goal.loop-lists-preserved
loop-lists-preserved c =
    let lists : List (List AskedLine) = c.loop-lists.lists.items in
    let is = c.in_ok-push.ensures.items ∙ ap (λ (l : List AskedLine). lists ++ l ∷ []) c.new-none.ensures in
    let kept = c.loop-lists.invariant in record {
      are = subst (AreByTask 0) (sym is) (none_more lists 0 kept.are);
      same = ap all_lines is ∙ (same_lines lists ∙ kept.same);
      longer = omega (arith, ap length is, length-append lists ([] ∷ []), kept.longer);
    }
