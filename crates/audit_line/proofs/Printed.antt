use Rattle.std.proofs.Common.{◌≡◌, ◌++◌, ℕ, List, [], refl, append_assoc, append-nil, codes}
use Rattle.smack_base.specs.Modes.{letters_of}
use Rattle.rules_spec.specs.declared.Verdict.{Verdict}
use Rattle.log_spec.specs.Words.{word, feed, name_at}
use Rattle.log_spec.specs.Numerals.{numeral}
use Rattle.log_spec.specs.Audits.{pair, outcome, action_text, audit_line}
use Rattle.audit_line.specs.Words.{words_of_line}

six_words : (a u v w x y z f : List ℕ)
    → a ++ u ++ v ++ (w ++ x ++ y ++ z) ++ f ≡ a ++ (u ++ (v ++ (w ++ (x ++ (y ++ (z ++ [])))))) ++ f
six_words a u v w x y z f = simp (append_assoc, append-nil) refl

-- the words, put one behind the other, are the line of the check
pub line_printed : (labels : List (List ℕ)) (verb : List ℕ) (v : Verdict) → words_of_line labels verb v ≡ audit_line labels verb v (outcome v.allowed)
line_printed labels verb v =
    six_words (codes "a") (word (pair (codes "action") (action_text (outcome v.allowed)))) (word (pair (codes "fn") verb))
    (word (pair (codes "subject") (name_at labels v.subject))) (word (pair (codes "object") (name_at labels v.object)))
    (word (pair (codes "requested") (letters_of v.modes))) (word (pair (codes "case") (numeral v.case))) feed
