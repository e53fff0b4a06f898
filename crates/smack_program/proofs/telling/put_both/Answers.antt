use Rattle.outside.proofs.Appending.{appends_front_more, appends_front_of_more}
use Rattle.smack_program.proofs.Promises.{at_fault, then_fault}
use Rattle.smack_program.proofs.telling.put_both.Goals as goal

pub returns-in_err-offer-clause-err : goal.returns-in_err-offer-clause-err
returns-in_err-offer-clause-err g c =
    at_fault c.from_residual.result _ (appends_front_of_more _ _ c.args.first.now c.args.second.now c.in_err-offer.ensures.err)

pub returns-clause-err : goal.returns-clause-err
returns-clause-err g c =
    then_fault c.offer-2.result _ _ (appends_front_more _ _ _ c.args.first.now c.args.second.now c.in_ok-offer.ensures.ok) c.offer-2.ensures.err
