use Rattle.std.proofs.Common.{◌∷◌, is_some}
use Rattle.script_text.specs.Lines.{call_seen}
use Rattle.runs_spec.proofs.Calls.{ran_stopped}
use Rattle.script_run.specs.Stages.{stage_script}
use Rattle.script_run.proofs.Working.{asked_verdict, asked_seq}
use Rattle.script_run.proofs.making.ask_line.Goals as goal

pub returns-in-Ok-Verdict-clause-ran : goal.returns-in-Ok-Verdict-clause-ran
returns-in-Ok-Verdict-clause-ran g c = λ ls.
    asked_verdict (stage_script g.S.ScriptLines.told c.args.stage) (call_seen c.args.line.now) ls c.args.task.now c.ask.new.task c.args.asked.now c.note.new.asked
    c.args.question.0 c.args.question.1 c.args.question.2 c.in-Ok-Verdict.field-0 (is_some c.note.result) c.in-Ok-Verdict.version
    c.in-Ok-Verdict.verdict c.requires.act c.in-Ok-Verdict.field-0-is c.in-Ok-Verdict.ensures.asked
    (rw (← c.number-number.ensures, ← c.made-seq.ensures.made) c.note.ensures.line) c.in-Ok-Verdict.ensures.once

pub returns-in-Ok-SeqFull-clause-ran : goal.returns-in-Ok-SeqFull-clause-ran
returns-in-Ok-SeqFull-clause-ran g c = λ ls. asked_seq (stage_script g.S.ScriptLines.told c.args.stage) (call_seen c.args.line.now) ls c.args.task.now c.ask.new.task
    c.args.asked.now c.args.asked.now c.args.question.0 c.args.question.1 c.args.question.2 c.in-Ok-SeqFull.field-0 c.requires.top
    c.in-Ok-SeqFull.field-0-is c.in-Ok-SeqFull.ensures.asked

pub returns-in-Err-clause-ran : goal.returns-in-Err-clause-ran
returns-in-Err-clause-ran g c = λ ls. ran_stopped (stage_script g.S.ScriptLines.told c.args.stage) (call_seen c.args.line.now ∷ ls) ls c.args.task.now c.ask.new.task
    c.args.asked.now c.args.asked.now c.in-Err.ensures.stays
