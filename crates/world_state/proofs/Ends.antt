use Rattle.std.proofs.Common.{◌≡◌, Bool, true, false, List, [], ◌∷◌, ◌++◌, Some, None, refl, sym, ap, ◌∙◌, ◌≤◌, ℕ, length, drop, append_assoc, append-nil, if◌then◌else◌}
use Rattle.std.proofs.lemmas.List.{drop_all}
use Rattle.rules_spec.specs.declared.Verdict.{Verdict}
use Rattle.world_spec.specs.declared.Why.{Why}
use Rattle.world_spec.specs.declared.Question.{Question}
use Rattle.world_spec.specs.declared.Part.{Part}
use Rattle.world_spec.specs.declared.Part.TheVariants as Part
use Rattle.world_spec.specs.declared.Reply.TheVariants as Reply
use Rattle.world_spec.specs.Steps.{Went, asked, went}
use Rattle.world_state.specs.Judging.{behind_checks, ended_by, Passes}

-- a refusal ends the call where it holds
pub refused_ends : (verdict : Question → Verdict) (checks : List Verdict) (holds : Bool) (why : Why) (more : List Part)
    → behind_checks checks (went verdict (Part.Refuses holds why ∷ more)) ≡ ended_by checks (if holds then Some (Reply.Refused why) else None) (went verdict more)
refused_ends verdict checks true why more = λ i. record { checks = append-nil checks i; stop = Some (Reply.Refused why) }
refused_ends verdict checks false why more = refl

-- a denied question ends the call
pub asked_ends : (checks : List Verdict) (v : Verdict) (w : Went)
    → behind_checks checks (asked v w) ≡ ended_by (checks ++ v ∷ []) (if v.allowed then None else Some (Reply.Denied v.case)) w
asked_ends checks v w = by v.allowed
  where
    by : (allowed : Bool)
        → behind_checks checks (if allowed then record { checks = v ∷ w.checks; stop = w.stop } else record { checks = v ∷ []; stop = Some (Reply.Denied v.case) })
        ≡ ended_by (checks ++ v ∷ []) (if allowed then None else Some (Reply.Denied v.case)) w
    by true = λ i. record { checks = sym (append_assoc checks (v ∷ []) w.checks) i; stop = w.stop }
    by false = refl

abbrev went_by : Bool → Verdict → Went → Went
went_by allowed v w = if allowed then record { checks = v ∷ w.checks; stop = w.stop } else record { checks = v ∷ []; stop = Some (Reply.Denied v.case) }

went_on : (allowed : Bool) (v : Verdict) (w : Went) → (went_by allowed v w).stop ≡ None → w.stop ≡ None
went_on true v w none = none
went_on false v w none = cc

-- where nothing ends the call, no refusal applies
pub passes : (verdict : Question → Verdict) (parts : List Part) → (went verdict parts).stop ≡ None → Passes parts
passes verdict [] none = tt
passes verdict (Part.Refuses true why ∷ more) none = cc
passes verdict (Part.Refuses false why ∷ more) none = (refl, passes verdict more none)
passes verdict (Part.Asks question ∷ more) none = passes verdict more (went_on (verdict question).allowed (verdict question) (went verdict more) none)

-- behind the last part nothing is left to go through
pub at_end : (verdict : Question → Verdict) (checks : List Verdict) (i : ℕ) (parts : List Part) (w : Went) → length parts ≤ i
    → behind_checks checks (went verdict (drop i parts)) ≡ w → record { checks = checks; stop = None } ≡ w
at_end verdict checks i parts w past is =
    (λ j. record { checks = sym (append-nil checks) j; stop = None })
    ∙ sym (ap (λ ps. behind_checks checks (went verdict ps)) (drop_all i parts past)) ∙ is
