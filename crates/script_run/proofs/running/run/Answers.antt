use Rattle.script_run.proofs.Closing.{is_legal_for, is_plain}
use Rattle.script_run.proofs.running.run.Goals as goal

pub returns-clause-legal : goal.returns-clause-legal
returns-clause-legal g c = is_legal_for c.args.script.now c.in-Ok.closed c.in-Ok.asked c.in_ok-report.report
    c.in-Ok.ensures.has_run c.in_ok-report.ensures

pub returns-clause-plain : goal.returns-clause-plain
returns-clause-plain g c = is_plain c.args.script.now c.in-Ok.closed c.in-Ok.asked c.in_ok-report.report
    c.in-Ok.ensures.has_run c.in_ok-report.ensures
