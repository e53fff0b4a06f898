use Rattle.smack_program.proofs.Promises.{at_fault, then_ok, then_fault}
use Rattle.smack_program.proofs.Malformed.{told, cut_in_head, cut_in_cause}
use Rattle.smack_program.proofs.telling.put_malformed.Goals as goal

pub returns-in_err-put_numbered-clause-err : goal.returns-in_err-put_numbered-clause-err
returns-in_err-put_numbered-clause-err g c =
    at_fault c.from_residual.result _ (cut_in_head c.args.line c.args.cause _ _ c.in_err-put_numbered.ensures.err)

pub returns-clause-ok : goal.returns-clause-ok
returns-clause-ok g c =
    then_ok c.put_cause.result _ _ (told c.args.line c.args.cause _ _ _ c.in_ok-put_numbered.ensures.ok) c.put_cause.ensures.ok

pub returns-clause-err : goal.returns-clause-err
returns-clause-err g c =
    then_fault c.put_cause.result _ _ (cut_in_cause c.args.line c.args.cause _ _ _ c.in_ok-put_numbered.ensures.ok) c.put_cause.ensures.err
