use Rattle.std.proofs.lemmas.List.Elements.{All-push}
use Rattle.file_spec.specs.Writes.{writes_of_text}
use Rattle.smackfs.specs.Named.{named_write, HasGoodNames}
use Rattle.smackfs.proofs.ReadWrites.{read_more}
use Rattle.smackfs.proofs.text_writes.read_writes.Goals as goal

pub loop-answer-preserved : goal.loop-answer-preserved
loop-answer-preserved c =
    rw c.in-Ok-push.ensures.ok (record {
      same =
          read_more named_write c.loop-answer.ops c.in-Ok.op c.loop-answer.writes c.next.new.self (writes_of_text c.args.file c.args.text.now)
          c.loop-answer.invariant.same (rw c.in-Ok.is at c.in-Some.ensures.answer);
      good = All-push (λ op. HasGoodNames (named_write op)) c.loop-answer.ops c.in-Ok.op c.loop-answer.invariant.good (rw c.in-Ok.is at c.in-Some.ensures.good);
    })
