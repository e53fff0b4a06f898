use Rattle.smack_program.proofs.Streams.{from_unwritten}
use Rattle.smack_program.proofs.running.program.Goals as goal

pub returns-clause-ends : goal.returns-clause-ends
returns-clause-ends g c =
    let ends = c.given_main-ending.ensures.ends in (
      ends.0,
      from_unwritten _ _ _ _ (g.O.Write.contents c.args.output) _ ends.0 (rw (c.new-source.ensures, c.in-Ok.ensures) at ends.1),
      rw c.new-errors.ensures at ends.2,
    )
