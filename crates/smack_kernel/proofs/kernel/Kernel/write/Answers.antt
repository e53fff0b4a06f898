use Rattle.std.proofs.Common.{arith, refl, ap, sym, subst, ◌∙◌, ◌≡◌, ◌<◌, ◌+◌}
use Rattle.std.specs.Prelude.{Ok, Err}
use Rattle.file_spec.specs.Files.{compiled}
use Rattle.smack_kernel.specs.Tasks.{TaskValue, KernelValue, Loads, most_calls}
use Rattle.file_spec.specs.declared.Compiled.TheVariants as Compiled
use Rattle.world_spec.specs.declared.Call.TheVariants as Call
use Rattle.world_spec.specs.declared.tasks.TaskCall.TheVariants as TaskCall
use Rattle.smack_kernel.specs.Answers.{IsWritten, TakesPen, written_call}
use Rattle.smack_kernel.specs.declared.kernel.Written.{Written}
use Rattle.smack_kernel.specs.declared.kernel.Written.TheVariants as Written
use Rattle.smackfs.specs.Gives.{Faults}
use Rattle.smack_kernel.proofs.Tasks.{loads_none}
use Rattle.smack_kernel.proofs.Texts.{GoodCompiled, compiled_good, text_refused, text_penless, own_written}
use Rattle.smack_kernel.proofs.kernel.Kernel.write.Goals as goal

pub returns-then-task-ge-MOST_CALLS-clause-loads : goal.returns-then-task-ge-MOST_CALLS-clause-loads
returns-then-task-ge-MOST_CALLS-clause-loads g c = rw (← c.task.view_is) (loads_none c.task.invariant.0 c.task.inside.seat.view.loads)

pub write_ops-requires-clause-packed : goal.write_ops-requires-clause-packed
write_ops-requires-clause-packed g c =
    let good = compiled_good c.self.inside.labels
    (let a = c.len.ensures.len in let b = c.len.ensures.limit in omega arith) c.args.file.now c.args.text.now in
    subst GoodCompiled (c.in-Ok-Rules.ensures ∙ ap Ok c.in-Ok-Rules.field-0-is) good

pub returns-in-Err-Refused-clause-written : goal.returns-in-Err-Refused-clause-written
returns-in-Err-Refused-clause-written g c =
    let v = c.args.task.now in
    let file = c.args.file.now in
    let text = c.args.text.now in
    let fault = c.in-Err-Refused.fault in
    let good = compiled_good c.self.inside.labels
    (let a = c.len.ensures.len in let b = c.len.ensures.limit in omega arith) file text in
    let is = subst
    (λ f. Faults f
    (compiled c.self.inside.labels file text)) c.in-Err-Refused.field-0-is c.in-Err-Refused.ensures in
    let few : v.made < most_calls = (let made = ap (λ (t : TaskValue). t.made) c.task.view_is in
    let below = c.if-task-ge-MOST_CALLS.false in omega arith) in
    let answer = c.refuse_text.ensures.answer ∙ ap (Written.Refused v.version) c.in-Err-Refused.fault-is in
    subst (λ (z : TaskValue × Written). IsWritten c.args.self.now.labels v z.0 file text z.1)
    (λ i. (sym c.refuse_text.ensures.refused i, sym answer i)) (
      few,
      text_refused c.args.self.now.labels v (record v { made = v.made + 1 }) file text v.version fault
          (subst GoodCompiled is good)
          (subst (λ (k : KernelValue). compiled k.labels file text ≡ Err fault) c.self.view_is is) (refl, refl),
    )

pub returns-in-Err-Refused-clause-pens : goal.returns-in-Err-Refused-clause-pens
returns-in-Err-Refused-clause-pens g c =
    let v = c.args.task.now in
    let file = c.args.file.now in
    let text = c.args.text.now in
    let fault = c.in-Err-Refused.fault in
    let good = compiled_good c.self.inside.labels
    (let a = c.len.ensures.len in let b = c.len.ensures.limit in omega arith) file text in
    let is = subst (λ f. Faults f (compiled c.self.inside.labels file text)) c.in-Err-Refused.field-0-is
    c.in-Err-Refused.ensures in
    let answer = c.refuse_text.ensures.answer ∙ ap (Written.Refused v.version) c.in-Err-Refused.fault-is in
    subst (λ (z : TaskValue × Written). TakesPen v z.0 z.1) (λ i. (sym c.refuse_text.ensures.refused i, sym answer i))
    (text_penless v (record v { made = v.made + 1 }) v.version fault (subst GoodCompiled is good) refl)

pub returns-in-Err-Refused-clause-loads : goal.returns-in-Err-Refused-clause-loads
returns-in-Err-Refused-clause-loads g c =
    subst (Loads c.args.task.now) (sym c.refuse_text.ensures.refused)
    (rw (← c.task.view_is) (loads_none c.task.invariant.0 c.task.inside.seat.view.loads))

pub returns-in-Err-Memory-clause-loads : goal.returns-in-Err-Memory-clause-loads
returns-in-Err-Memory-clause-loads g c = rw (← c.task.view_is) (loads_none c.task.invariant.0 c.task.inside.seat.view.loads)

pub returns-in-Ok-SelfRules-clause-written : goal.returns-in-Ok-SelfRules-clause-written
returns-in-Ok-SelfRules-clause-written g c =
    let file = c.args.file.now in
    let text = c.args.text.now in
    let is = subst (λ (k : KernelValue). compiled k.labels file text ≡ Ok (Compiled.SelfRules c.in-Ok-SelfRules.rules)) c.self.view_is
    (c.in-Ok-SelfRules.ensures ∙ ap Ok c.in-Ok-SelfRules.field-0-is) in
    own_written c.args.self.now.labels c.args.task.now c.write_own.new.task file text
    (Call.Task (TaskCall.SelfRules c.in-Ok-SelfRules.rules)) (ap written_call is) c.write_own.result c.write_own.ensures.written

pub returns-in-Ok-Relabels-clause-written : goal.returns-in-Ok-Relabels-clause-written
returns-in-Ok-Relabels-clause-written g c =
    let file = c.args.file.now in
    let text = c.args.text.now in
    let is = subst (λ (k : KernelValue). compiled k.labels file text ≡ Ok (Compiled.Relabels c.in-Ok-Relabels.labels)) c.self.view_is
    (c.in-Ok-Relabels.ensures ∙ ap Ok c.in-Ok-Relabels.field-0-is) in
    own_written c.args.self.now.labels c.args.task.now c.write_own-in-Ok-Relabels.new.task file text
    (Call.Task (TaskCall.Relabels c.in-Ok-Relabels.labels)) (ap written_call is) c.write_own-in-Ok-Relabels.result c.write_own-in-Ok-Relabels.ensures.written
