use Rattle.audit_line.proofs.Numbers.{printed_utf8}
use Rattle.audit_line.proofs.words.number.Goals as goal

pub returns-in-Err : goal.returns-in-Err
returns-in-Err c = λ n small e. absurd (c.in-Err.ensures.cases.0 (rw e (printed_utf8 n small)))
