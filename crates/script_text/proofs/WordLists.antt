use Rattle.std.proofs.Common.{◌≡◌, ◌≤◌, ◌<◌, ◌-◌, List, [], ◌∷◌, length, take, arith}
use Rattle.std.specs.Prelude.{map}
use Rattle.rule_text.specs.declared.part.Part.{Part}
use Rattle.rule_text.specs.Parts.{placed}
use Rattle.verb_spec.specs.Words.{word_at}
use Rattle.script_text.specs.declared.spelled.Spelled.{Spelled}
use Rattle.script_text.specs.Lines.{call_seen}
use Rattle.script_text.specs.Spelled.{spelled_seen}

-- the first of some words, and as many of the next three as there are, are the words
words_apart : (ws : List Part) (a b c d : Part) → placed a ≡ word_at 0 (map placed ws) → placed b ≡ word_at 1 (map placed ws)
    → placed c ≡ word_at 2 (map placed ws) → placed d ≡ word_at 3 (map placed ws) → 0 < length ws → length ws ≤ 4
    → placed a ∷ map placed (take (length ws - 1) (b ∷ c ∷ d ∷ [])) ≡ map placed ws
words_apart [] a b c d is is1 is2 is3 some few = absurd (omega (arith, some))
words_apart (v ∷ []) a b c d is is1 is2 is3 some few = λ i. is i ∷ []
words_apart (v ∷ w ∷ []) a b c d is is1 is2 is3 some few = λ i. is i ∷ is1 i ∷ []
words_apart (v ∷ w ∷ x ∷ []) a b c d is is1 is2 is3 some few = λ i. is i ∷ is1 i ∷ is2 i ∷ []
words_apart (v ∷ w ∷ x ∷ y ∷ []) a b c d is is1 is2 is3 some few = λ i. is i ∷ is1 i ∷ is2 i ∷ is3 i ∷ []
words_apart (v ∷ w ∷ x ∷ y ∷ z ∷ ws) a b c d is is1 is2 is3 some few = absurd (omega (arith, few))

-- a call with its words apart
pub line_is : (c : Spelled) (verb one two three : Part) → placed verb ≡ word_at 0 (map placed c.words.now) → placed one ≡ word_at 1 (map placed c.words.now)
    → placed two ≡ word_at 2 (map placed c.words.now) → placed three ≡ word_at 3 (map placed c.words.now) → 0 < length c.words.now
    → length c.words.now ≤ 4
    → call_seen (record { task = c.task; seq = c.seq; line = c.line; verb = verb; words = one ∷ two ∷ three ∷ []; count = length c.words.now - 1; text = c.text })
    ≡ spelled_seen c
line_is c verb one two three is is1 is2 is3 some few =
    let words = words_apart c.words.now verb one two three is is1 is2 is3 some few in
    λ i. record { task = c.task; seq = c.seq; line = c.line; words = words i; text = placed c.text }
