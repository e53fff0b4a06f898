use Rattle.std.proofs.Common.{ap, subst, ◌∙◌, ◌++◌, ◌∷◌, [], false}
use Rattle.live_table.specs.Seats.{SeatValue}
use Rattle.smack_kernel.specs.Growth.{IsBatchJudged}
use Rattle.smack_kernel.specs.declared.publishing.Published.TheVariants as Published
use Rattle.live_table.proofs.AfterSteps.{sees_loaded}
use Rattle.smack_kernel.proofs.Indexes.{stands_longer}
use Rattle.smack_kernel.proofs.Growing.{back_grows, back_judged, batch_grows}
use Rattle.smack_kernel.proofs.publishing.publish.Goals as goal

pub judge-requires-clause-stands : goal.judge-requires-clause-stands
judge-requires-clause-stands g c = stands_longer c.take_pen.ensures.seen.0.journal c.requires.stands

pub returns-in-Ok-Batch-clause-published : goal.returns-in-Ok-Batch-clause-published
returns-in-Ok-Batch-clause-published g c =
    let v = c.args.seat.now.view in
    let loads = c.judge.new.seat.view.loads in
    let m = record c.take_pen.new.seat.view { loads = loads } in
    let n = c.publish_batch.new.seat.view in
    let b = c.args.batch.now in
    batch_grows v m n c.args.seat.now.number c.args.creds.now b c.requires.numbered c.requires.apart c.requires.own (sees_loaded loads c.take_pen.ensures.seen.0)
    (ap (λ (s : SeatValue _). s.view) c.publish_batch.ensures.published
    ∙ ap (λ (s : SeatValue _). record s.view {
      journal = s.view.journal ++ b ∷ [];
      pen = false;
      filled = [];
    }) c.judge.ensures.same)
    (subst (IsBatchJudged m.journal c.args.creds.now b.ops) c.in-Ok-Batch.field-0-is c.in-Ok-Batch.ensures.judged)

pub returns-in-Ok-NotPrivileged-clause-published : goal.returns-in-Ok-NotPrivileged-clause-published
returns-in-Ok-NotPrivileged-clause-published g c =
    let v = c.args.seat.now.view in
    let loads = c.judge.new.seat.view.loads in
    let m = record c.take_pen.new.seat.view { loads = loads } in
    let n = c.give_pen_back.new.seat.view in
    let is = c.give_pen_back.ensures.view
    ∙ ap (λ (s : SeatValue _). record s.view { pen = false }) c.judge.ensures.same in (
      back_grows v m n c.args.seat.now.number c.requires.numbered (sees_loaded loads c.take_pen.ensures.seen.0) is,
      back_judged m n c.args.creds.now c.args.batch.now.ops Published.NotPrivileged c.in-Ok-NotPrivileged.field-0 is c.in-Ok-NotPrivileged.field-0-is c.in-Ok-NotPrivileged.ensures.judged,
    )

pub returns-in-Ok-JournalFull-clause-published : goal.returns-in-Ok-JournalFull-clause-published
returns-in-Ok-JournalFull-clause-published g c =
    let v = c.args.seat.now.view in
    let loads = c.judge.new.seat.view.loads in
    let m = record c.take_pen.new.seat.view { loads = loads } in
    let n = c.give_pen_back-in-Ok-JournalFull.new.seat.view in
    let is = c.give_pen_back-in-Ok-JournalFull.ensures.view
    ∙ ap (λ (s : SeatValue _). record s.view { pen = false }) c.judge.ensures.same in (
      back_grows v m n c.args.seat.now.number c.requires.numbered (sees_loaded loads c.take_pen.ensures.seen.0) is,
      back_judged m n c.args.creds.now c.args.batch.now.ops
          (Published.JournalFull c.in-Ok-JournalFull.rows) c.in-Ok-JournalFull.field-0 is c.in-Ok-JournalFull.field-0-is c.in-Ok-JournalFull.ensures.judged,
    )

pub returns-in-Err-clause-err : goal.returns-in-Err-clause-err
returns-in-Err-clause-err g c =
    let v = c.args.seat.now.view in
    let loads = c.judge.new.seat.view.loads in
    let m = record c.take_pen.new.seat.view { loads = loads } in
    let n = c.give_pen_back-in-Err.new.seat.view in
    back_grows v m n c.args.seat.now.number c.requires.numbered (sees_loaded loads c.take_pen.ensures.seen.0)
    (c.give_pen_back-in-Err.ensures.view ∙ ap (λ (s : SeatValue _). record s.view { pen = false }) c.judge.ensures.same)
