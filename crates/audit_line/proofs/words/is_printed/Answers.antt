use Rattle.std.proofs.Common.{rules, arith}
use Rattle.log_spec.proofs.Numerals.{numeral_is_decimal}
use Rattle.audit_line.proofs.words.is_printed.Goals as goal

pub returns : goal.returns
returns c = rw (numeral_is_decimal c.args.case (omega (arith, c.ranges.case.fits))) (search rules)
