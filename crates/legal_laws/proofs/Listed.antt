use Rattle.std.proofs.Common.{◌≡◌, ◌≤◌, ◌<◌, ℕ, zero, suc, Bool, true, false, ◌==◌, if◌then◌else◌, inl, inr, List, [], ◌∷◌, refl, sym, ap, subst, arith}
use Rattle.std.specs.List.{AllByRecursion}
use Rattle.std.proofs.lemmas.Bool.{cases_Bool, eqb-true, eqb-false, ltb-true, ltb-false}
use Rattle.script_spec.specs.Lines.{ScriptLine}
use Rattle.script_spec.specs.Tasks.{calls_by}
use Rattle.record_spec.specs.declared.AskedLine.{AskedLine}
use Rattle.replay_spec.specs.Replays.{Run, is_before, with_asked}
use Rattle.legal_spec.specs.Calls.{Stands, IsBefore, asked as asked_call}
use Rattle.plain_laws.proofs.Lists.{all_follow}
use Rattle.legal_forms_laws.proofs.Members.{same_some, stands_in, all_stand}
use Rattle.legal_laws.proofs.Places.{asked_more}
use Rattle.legal_laws.proofs.Runs.{asked_by, IsNext, batch, entry, asked, Replays, first, more}
use Rattle.legal_laws.proofs.Growth.{calls_within}

-- each line stands before all that follow it
abbrev pub AreListed : List AskedLine → Type 0
AreListed [] = Unit {0}
AreListed (a ∷ behind) = AllByRecursion (IsBefore a) behind × AreListed behind

before_all : (a b x : AskedLine) → a.task < b.task → IsBefore b x → IsBefore a x
before_all a b x below (inl later) = inl (omega (arith, below, later))
before_all a b x below (inr same) = inl (omega (arith, below, same.0))

-- a line that is not before another, and has the higher number where both are of one task, is behind it
not_before : (a b : AskedLine) → b.task ≤ a.task → (b.task ≡ a.task → b.seq < a.seq) → IsBefore b a
not_before a b behind later =
    elim (cases_Bool (b.task == a.task)) [
      | inl same ↦ let own : b.task ≡ a.task = eqb-true b.task a.task same in inr (own, later own)
      | inr other ↦ inl (omega (arith, behind, eqb-false b.task a.task other))
    ]

-- a line comes to its place, where it is the last of its task
pub with_listed : (asked : List AskedLine) (a : AskedLine) → AreListed asked
    → ((i : ℕ) (x : AskedLine) → Stands asked i x → x.task ≡ a.task → x.seq < a.seq) → AreListed (with_asked asked a)
with_listed [] a listed last = (tt, tt)
with_listed (b ∷ bs) a listed last =
    by (is_before a b) refl (with_listed bs a listed.1 (λ i x at own. last (suc i) x at own))
  where
    by : (before : Bool) → is_before a b ≡ before → AreListed (with_asked bs a)
        → AreListed (if before then a ∷ b ∷ bs else b ∷ with_asked bs a)
    by true before rest =
        let below : a.task < b.task = ltb-true a.task b.task before in
        ((inl below, all_follow (IsBefore b) (IsBefore a) (λ x. before_all a b x below) bs listed.0), listed)
    by false before rest =
        let behind : IsBefore b a = not_before a b (ltb-false a.task b.task before) (λ own. last zero b refl own) in (
          all_stand (IsBefore b) (with_asked bs a)
              (λ i x at.
              elim (asked_more bs a i x at) [
                | inl old ↦ stands_in (IsBefore b) bs old.0 x listed.0 old.1
                | inr new ↦ subst (λ y. IsBefore b y) (sym new) behind
              ]),
          rest,
        )

-- so each stands before the later ones
pub listed_pairs : (asked : List AskedLine) → AreListed asked → (i k : ℕ) (a b : AskedLine) → Stands asked i a → Stands asked k b → i < k
    → IsBefore a b
listed_pairs [] listed i k a b at_a at_b before = cc
listed_pairs (x ∷ xs) listed zero zero a b at_a at_b before = absurd (omega (arith, before))
listed_pairs (x ∷ xs) listed zero (suc k) a b at_a at_b before =
    subst (λ y. IsBefore y b) (same_some x a at_a) (stands_in (IsBefore x) xs k b listed.0 at_b)
listed_pairs (x ∷ xs) listed (suc i) zero a b at_a at_b before = absurd (omega (arith, before))
listed_pairs (x ∷ xs) listed (suc i) (suc k) a b at_a at_b before = listed_pairs xs listed.1 i k a b at_a at_b (omega (arith, before))

module _ (labels names : List (List ℕ)) where
  pub lines_are_listed : (above : List ScriptLine) (run : Run) → Replays labels names above run → AreListed run.asked
  lines_are_listed lines now first = tt
  lines_are_listed lines now (more above l run after replays good in_step rest whole next) = by after next (lines_are_listed above run replays)
    where
      by : (after : Run) → IsNext labels names run l after → AreListed run.asked → AreListed after.asked
      by after (batch ops of may) listed = listed
      by after (entry call of) listed = listed
      by after (asked what of so) listed =
          with_listed run.asked (asked_by run l what) listed
          (λ i x at own.
          let within = calls_within labels names above run replays x.task x.seq x.version x.version (asked_call i x at) in
          let count : ◌≡◌ {A = ℕ} (calls_by above x.task) (calls_by above l.task) = ap (λ t. calls_by above t) own in
          omega (arith, within.to, count, good.seq))
