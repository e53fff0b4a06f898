use Rattle.std.proofs.Common.{◌∷◌}
use Rattle.script_text.specs.Lines.{call_seen}
use Rattle.runs_spec.proofs.Acts.{make_forks_nothing}
use Rattle.runs_spec.proofs.Calls.{ran_stopped}
use Rattle.script_run.specs.Stages.{stage_script}
use Rattle.script_run.proofs.Working.{called_entry, called_full, called_seq}
use Rattle.script_run.proofs.making.make_line.Goals as goal

pub returns-in-Ok-Entry-clause-ran : goal.returns-in-Ok-Entry-clause-ran
returns-in-Ok-Entry-clause-ran g c = λ ls.
    called_entry (stage_script g.S.ScriptLines.told c.args.stage) (call_seen c.args.line.now) ls c.args.task.now c.call.new.task c.args.asked.now c.args.asked.now
    c.args.call c.in-Ok-Entry.field-0 c.in-Ok-Entry.field-0-0 c.requires.act c.in-Ok-Entry.field-0-is c.in-Ok-Entry.ensures.called
    c.in-Ok-Entry.ensures.once

pub returns-in-Ok-TrailFull-clause-ran : goal.returns-in-Ok-TrailFull-clause-ran
returns-in-Ok-TrailFull-clause-ran g c = λ ls. called_full (stage_script g.S.ScriptLines.told c.args.stage) (call_seen c.args.line.now) ls c.args.task.now c.call.new.task
    c.args.asked.now c.args.asked.now c.args.call c.in-Ok-TrailFull.field-0-0 c.in-Ok-TrailFull.field-0 c.in-Ok-TrailFull.field-0-is
    c.in-Ok-TrailFull.ensures.called

pub returns-in-Ok-SeqFull-clause-ran : goal.returns-in-Ok-SeqFull-clause-ran
returns-in-Ok-SeqFull-clause-ran g c = λ ls. called_seq (stage_script g.S.ScriptLines.told c.args.stage) (call_seen c.args.line.now) ls c.args.task.now c.call.new.task
    c.args.asked.now c.args.asked.now c.args.call c.in-Ok-SeqFull.field-0-0 c.in-Ok-SeqFull.field-0 c.requires.top c.in-Ok-SeqFull.field-0-is
    c.in-Ok-SeqFull.ensures.called

pub returns-clause-ran : goal.returns-clause-ran
returns-clause-ran g c = λ ls. ran_stopped (stage_script g.S.ScriptLines.told c.args.stage) (call_seen c.args.line.now ∷ ls) ls c.args.task.now c.call.new.task
    c.args.asked.now c.args.asked.now c.in-Err.ensures.back.1

pub call-requires-clause-plain : goal.call-requires-clause-plain
call-requires-clause-plain g c =
    make_forks_nothing c.args.stage.kernel.now.labels c.args.stage.names.now (call_seen c.args.line.now) c.args.call c.requires.act
