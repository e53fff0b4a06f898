use Rattle.std.proofs.Common.{◌≡◌, ℕ, Bool, true, false, ◌==◌, if◌then◌else◌, List, [], ◌∷◌, ◌++◌, codes, refl, sym}
use Rattle.std.specs.Str.{bytes_eq}
use Rattle.std.proofs.lemmas.Bool.{eqb-true}
use Rattle.smack_base.specs.Modes.{modes_of}
use Rattle.rules_spec.specs.declared.Verdict.{Verdict}
use Rattle.log_spec.specs.Numerals.{numeral}
use Rattle.log_spec.specs.Words.{over_words, decision}
use Rattle.log_spec.specs.Shown.{plain_words, triple, spelled, spell_line}
use Rattle.record_spec.specs.Entries.{check_line}
use Rattle.text_spec.specs.Names.{IsLabelTable}
use Rattle.replay_spec.specs.Plain.{IsPlainVerdict}
use Rattle.text_laws.proofs.Clean.{is_clean, AreClean, plain_clean}
use Rattle.text_laws.proofs.Cut.{cut_line}
use Rattle.text_laws.proofs.Turns.{Tells}
use Rattle.text_laws.proofs.Numbers.{number_in, number_read, numeral_clean}
use Rattle.text_laws.proofs.Letters.{modes_read, modes_clean}
use Rattle.text_laws.proofs.Told.{told, word_at, label_in, label_read, name_clean}

-- the words of a verdict: subject, object and modes, and what was decided
abbrev pub verdict_words : List (List ℕ) → List (List ℕ) → Verdict → List (List ℕ)
verdict_words labels names v = spelled labels names (triple v.subject v.object v.modes ++ plain_words (decision v))

-- the verdict that some words are
abbrev pub verdict_in : List (List ℕ) → List (List ℕ) → Verdict
verdict_in labels ws = record {
  allowed = bytes_eq (codes "allow") (word_at 3 ws);
  case = number_in (word_at 4 ws);
  over = number_in (word_at 6 ws);
  subject = label_in labels (word_at 0 ws);
  object = label_in labels (word_at 1 ws);
  modes = modes_of (word_at 2 ws);
}

-- what was decided is read back
allowed_read : (allowed : Bool) → bytes_eq (codes "allow") (if allowed then codes "allow" else codes "deny") ≡ allowed
allowed_read true = refl
allowed_read false = refl

-- where no case is printed that was gone over, there is none
over_read : (labels names : List (List ℕ)) (n : ℕ) → number_in (word_at 1 (spelled labels names (plain_words (over_words n)))) ≡ n
over_read labels names n = by (n == 0) refl
  where
    by : (none : Bool) → (n == 0) ≡ none
        → number_in (word_at 1 (spelled labels names (plain_words (if none then [] else codes "over" ∷ numeral n ∷ [])))) ≡ n
    by true is = sym (eqb-true n 0 is)
    by false is = number_read n

-- the words of a decision have no space and no line feed
decided_clean : (allowed : Bool) → is_clean (if allowed then codes "allow" else codes "deny") ≡ true
decided_clean true = refl
decided_clean false = refl

over_clean : (n : ℕ) → AreClean (over_words n)
over_clean n = by (n == 0)
  where
    by : (none : Bool) → AreClean (if none then [] else codes "over" ∷ numeral n ∷ [])
    by true = tt
    by false = (refl, (numeral_clean n, tt))

pub decision_clean : (v : Verdict) → AreClean (decision v)
decision_clean v = (decided_clean v.allowed, (numeral_clean v.case, over_clean v.over))

module _ (labels names : List (List ℕ)) (table : IsLabelTable labels) where
  -- a verdict is read back from its words
  pub verdict_read : (v : Verdict) → IsPlainVerdict labels v → verdict_in labels (verdict_words labels names v) ≡ v
  verdict_read v plain = λ i. record {
    allowed = allowed_read v.allowed i;
    case = number_read v.case i;
    over = over_read labels names v.over i;
    subject = label_read labels table v.subject plain.subject i;
    object = label_read labels table v.object plain.object i;
    modes = modes_read v.modes i;
  }

  pub triple_clean : (v : Verdict) → IsPlainVerdict labels v → AreClean (spelled labels names (triple v.subject v.object v.modes))
  triple_clean v plain = (name_clean labels table v.subject plain.subject, (name_clean labels table v.object plain.object, (modes_clean v.modes, tt)))

  verdict_clean : (v : Verdict) → IsPlainVerdict labels v → AreClean (verdict_words labels names v)
  verdict_clean v plain = let front = triple_clean v plain in (front.0, (front.1.0, (front.1.1.0, plain_clean labels names (decision v) (decision_clean v))))

  -- a printed check tells it
  pub check_told : Tells (IsPlainVerdict labels) (λ r. Unit {0}) (λ v. spell_line labels names (check_line v))
  check_told x y r s plain plain' ends ends' same =
      let cut = cut_line (codes "c") (verdict_words labels names x) (verdict_words labels names y) r s refl (verdict_clean x plain) (verdict_clean y plain') same in
      (told (verdict_in labels) (verdict_words labels names) x y (verdict_read x plain) (verdict_read y plain') cut.0, cut.1)
