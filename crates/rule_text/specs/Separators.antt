use Rattle.std.specs.Prelude.{ℕ, Bool}
use Rattle.text_spec.specs.Texts.{is_space, is_blank}
use Rattle.rule_text.specs.declared.words.Separator.{Separator}
use Rattle.rule_text.specs.declared.words.Separator.TheVariants as Separator

-- which bytes part words
abbrev pub separates : Separator → ℕ → Bool
separates Separator.Space = is_space
separates Separator.Blank = is_blank
