use Rattle.std.proofs.Common.{◌≡◌, Ok, arith}
use Rattle.audit_line.proofs.Numbers.{parses}
use Rattle.audit_line.proofs.words.parsed.Goals as goal

pub returns-in-Ok : goal.returns-in-Ok
returns-in-Ok c =
    λ n small e.
    let read : c.parse.result ≡ Ok n = parses c.args.text.now c.parse.result c.parse.ensures.value.0 n small e in
    grind (arith, read, c.in-Ok.is)

pub returns-in-Err : goal.returns-in-Err
returns-in-Err c =
    λ n small e.
    let read : c.parse.result ≡ Ok n = parses c.args.text.now c.parse.result c.parse.ensures.value.0 n small e in
    grind (arith, read, c.in-Err.is)
