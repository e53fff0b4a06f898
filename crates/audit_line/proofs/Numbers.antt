use Rattle.std.proofs.Common.{◌≡◌, ◌<◌, ℕ, Result, Ok, List, sym, ◌∙◌, subst, arith}
use Rattle.std.specs.Prelude.{decimal}
use Rattle.std.specs.Str.{IsUtf8}
use Rattle.std.specs.Str.Parse.{ParsesUnsigned}
use Rattle.std.proofs.lemmas.Fmt.{parse-decimal, IsAscii-decimal}
use Rattle.std.proofs.lemmas.Str.{IsUtf8-from_ascii}
use Rattle.log_spec.specs.Numerals.{numeral}
use Rattle.log_spec.proofs.Numerals.{numeral_is_decimal}

-- a number of one byte is written as the library writes it
as_decimal : (n : ℕ) → n < 256 → numeral n ≡ decimal n
as_decimal n small = numeral_is_decimal n (omega (arith, small))

-- a printed number parses as itself
pub parses : {E : Type 0} (text : List ℕ) (r : Result ℕ E) → ParsesUnsigned 8 10 text r → (n : ℕ) → n < 256 → text ≡ numeral n → r ≡ Ok n
parses text r h n small e = parse-decimal 8 n text r small (omega (arith, small)) (e ∙ as_decimal n small) h

-- a printed number is UTF-8
pub printed_utf8 : (n : ℕ) → n < 256 → IsUtf8 (numeral n)
printed_utf8 n small = subst IsUtf8 (sym (as_decimal n small)) (IsUtf8-from_ascii (decimal n) (IsAscii-decimal n (omega (arith, small))))
