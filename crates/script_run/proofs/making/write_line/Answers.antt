use Rattle.std.proofs.Common.{◌∷◌, is_some}
use Rattle.script_text.specs.Lines.{call_seen}
use Rattle.runs_spec.proofs.Calls.{ran_stopped}
use Rattle.script_run.specs.Stages.{stage_script}
use Rattle.script_run.proofs.Working.{written_batch, written_entry, written_refused, written_full, written_seq}
use Rattle.script_run.proofs.making.write_line.Goals as goal

pub returns-in-Ok-Batch-clause-ran : goal.returns-in-Ok-Batch-clause-ran
returns-in-Ok-Batch-clause-ran g c = λ ls. written_batch (stage_script g.S.ScriptLines.told c.args.stage) (call_seen c.args.line.now) ls c.args.task.now c.write.new.task
    c.args.asked.now c.args.asked.now c.word-file.result.now c.in-Ok-Batch.field-0 c.word-file.ensures c.requires.act c.requires.top
    c.in-Ok-Batch.ensures.written c.in-Ok-Batch.field-0-0 c.made-seq.ensures.sound c.in-Ok-Batch.field-0-is c.in-Ok-Batch.ensures.once

pub returns-in-Ok-Entry-clause-ran : goal.returns-in-Ok-Entry-clause-ran
returns-in-Ok-Entry-clause-ran g c = λ ls. written_entry (stage_script g.S.ScriptLines.told c.args.stage) (call_seen c.args.line.now) ls c.args.task.now c.write.new.task
    c.args.asked.now c.args.asked.now c.word-file.result.now c.in-Ok-Entry.field-0 c.word-file.ensures c.requires.act c.requires.top
    c.in-Ok-Entry.ensures.written c.in-Ok-Entry.field-0-0 c.in-Ok-Entry.field-0-is c.in-Ok-Entry.ensures.once

pub returns-in-Ok-Refused-clause-ran : goal.returns-in-Ok-Refused-clause-ran
returns-in-Ok-Refused-clause-ran g c = λ ls. written_refused (stage_script g.S.ScriptLines.told c.args.stage) (call_seen c.args.line.now) ls c.args.task.now c.write.new.task
    c.args.asked.now c.refuse.new.asked c.word-file.result.now c.in-Ok-Refused.field-0 c.word-file.ensures c.requires.act c.requires.top
    c.in-Ok-Refused.ensures.written (is_some c.refuse.result) c.in-Ok-Refused.version
    c.in-Ok-Refused.fault c.made-seq.ensures.sound c.in-Ok-Refused.field-0-is
    (rw (← c.number-number.ensures, ← c.made-seq.ensures.made) c.refuse.ensures.line) c.in-Ok-Refused.ensures.once

pub returns-in-Ok-TrailFull-clause-ran : goal.returns-in-Ok-TrailFull-clause-ran
returns-in-Ok-TrailFull-clause-ran g c = λ ls. written_full (stage_script g.S.ScriptLines.told c.args.stage) (call_seen c.args.line.now) ls c.args.task.now c.write.new.task
    c.args.asked.now c.args.asked.now c.word-file.result.now c.in-Ok-TrailFull.field-0 c.word-file.ensures c.requires.act c.requires.top
    c.in-Ok-TrailFull.ensures.written c.in-Ok-TrailFull.field-0-is

pub returns-in-Ok-SeqFull-clause-ran : goal.returns-in-Ok-SeqFull-clause-ran
returns-in-Ok-SeqFull-clause-ran g c = λ ls. written_seq (stage_script g.S.ScriptLines.told c.args.stage) (call_seen c.args.line.now) ls c.args.task.now c.write.new.task
    c.args.asked.now c.args.asked.now c.word-file.result.now c.in-Ok-SeqFull.field-0 c.word-file.ensures c.requires.act c.requires.top
    c.in-Ok-SeqFull.ensures.written c.in-Ok-SeqFull.field-0-is

pub returns-clause-ran : goal.returns-clause-ran
returns-clause-ran g c = λ ls. ran_stopped (stage_script g.S.ScriptLines.told c.args.stage) (call_seen c.args.line.now ∷ ls) ls c.args.task.now c.write.new.task
    c.args.asked.now c.args.asked.now c.in-Err.ensures.stays
