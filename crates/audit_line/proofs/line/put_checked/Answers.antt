use Rattle.std.proofs.Common.{rules, append_assoc}
use Rattle.audit_line.proofs.line.put_checked.Goals as goal

pub returns : goal.returns
returns c = search (rules, append_assoc)
