use Rattle.std.specs.Prelude.{ℕ, List, ◌++◌, codes}
use Rattle.smack_base.specs.Modes.{letters_of}
use Rattle.rules_spec.specs.declared.Verdict.{Verdict}
use Rattle.log_spec.specs.Words.{word, feed, name_at}
use Rattle.log_spec.specs.Numerals.{numeral}
use Rattle.log_spec.specs.Audits.{pair, outcome, action_text}

-- the last words of a line: what was asked, and the case that decided it
abbrev pub checked_words : List (List ℕ) → Verdict → List ℕ
checked_words labels v =
    word (pair (codes "subject") (name_at labels v.subject)) ++ word (pair (codes "object") (name_at labels v.object))
    ++ word (pair (codes "requested") (letters_of v.modes)) ++ word (pair (codes "case") (numeral v.case))

-- the words of a line, as they are put one behind the other
abbrev pub words_of_line : List (List ℕ) → List ℕ → Verdict → List ℕ
words_of_line labels verb v =
    codes "a" ++ word (pair (codes "action") (action_text (outcome v.allowed))) ++ word (pair (codes "fn") verb) ++ checked_words labels v ++ feed
