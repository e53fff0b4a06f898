use Rattle.std.specs.Prelude.{◌++◌, decimal}
use Rattle.outside.proofs.Appending.{appends_front_more, appends_front_of_more}
use Rattle.smack_program.proofs.Promises.{at_fault, then_fault}
use Rattle.smack_program.proofs.telling.put_numbered.Goals as goal

pub returns-in_err-put_number-clause-err : goal.returns-in_err-put_number-clause-err
returns-in_err-put_number-clause-err g c =
    at_fault c.from_residual.result _
    (appends_front_of_more _ _ (c.args.text.now ++ decimal c.args.n) c.args.rest.now c.in_err-put_number.ensures.err)

pub returns-clause-err : goal.returns-clause-err
returns-clause-err g c =
    then_fault c.offer.result _ _ (appends_front_more _ _ _ (c.args.text.now ++ decimal c.args.n) c.args.rest.now c.in_ok-put_number.ensures.ok)
    c.offer.ensures.err
