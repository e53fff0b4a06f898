-- The walk along a history decides whether its entries are judged.
use Rattle.std.proofs.Common.{◌≡◌, ◌≤◌, ◌<◌, ℕ, zero, suc, ◌+◌, Bool, true, false, ◌&&◌, if◌then◌else◌, Some, List, [], ◌∷◌, length, take, fold, refl, subst, arith, le-leb}
use Rattle.std.specs.Prelude.{nat_le, is_none}
use Rattle.std.specs.Bool.{Decides}
use Rattle.std.proofs.lemmas.Bool.{leb-true}
use Rattle.std.proofs.lemmas.Bool.Decides.{Decides-and, Decides-at, Decides-like}
use Rattle.rules_spec.specs.declared.Batch.{Batch}
use Rattle.rules_spec.specs.declared.Verdict.{Verdict}
use Rattle.world_spec.specs.declared.Entry.{Entry}
use Rattle.world_spec.specs.Worlds.{World, world_first}
use Rattle.world_spec.specs.Replays.{step_of, after_entry}
use Rattle.record_spec.specs.declared.RunRecord.{RunRecord}
use Rattle.legal_spec.specs.Calls.{Stands}
use Rattle.legal_spec.specs.Entries.{ShowsAs, AreShownAs, IsEntryAt}
use Rattle.legal_forms_laws.proofs.Steps.{shown_as_is, as_judged}
use Rattle.legal_forms.specs.Same.{same_checks, same_reply}
use Rattle.legal_forms.specs.Forms.{is_entry, are_entries, first_wrong, wrong_place}
use Rattle.legal_forms.specs.Laws.{EntriesAreDecided, IsFirstWrong, FirstWrongIsTold}
use Rattle.legal_forms_laws.proofs.Same.{checks_decide, reply_decides}
use Rattle.legal_forms_laws.proofs.Members.{same_some}

pub le_decides : (a b : ℕ) → Decides (nat_le a b) (a ≤ b)
le_decides a b = (leb-true a b, le-leb a b)

shown_decide : (vs ws : List Verdict) → Decides (same_checks vs ws) (AreShownAs ShowsAs vs ws)
shown_decide vs ws = Decides-like (same_checks vs ws) (shown_as_is ShowsAs (λ v. refl) vs ws) (as_judged vs ws) (checks_decide vs ws)

-- what is said of an entry in its world, behind one with this version
abbrev IsEntryIn : List Batch → World → ℕ → Entry → Type 0
IsEntryIn journal w version e = AreShownAs ShowsAs e.checks (step_of journal w e).checks
    × ((e.reply ≡ (step_of journal w e).reply) × ((version ≤ e.version) × (e.version ≤ length journal)))

entry_decides : (journal : List Batch) (w : World) (version : ℕ) (e : Entry) → Decides (is_entry journal w version e) (IsEntryIn journal w version e)
entry_decides journal w version e =
    Decides-and (same_checks e.checks (step_of journal w e).checks) _ (shown_decide e.checks (step_of journal w e).checks)
    (Decides-and (same_reply e.reply (step_of journal w e).reply) _ (reply_decides e.reply (step_of journal w e).reply)
    (Decides-and (nat_le version e.version) (nat_le e.version (length journal)) (le_decides version e.version) (le_decides e.version (length journal))))

abbrev AreEntriesIn : List Batch → World → ℕ → List Entry → Type 0
AreEntriesIn journal w version es = (i : ℕ) (e : Entry) → Stands es i e
    → IsEntryIn journal (fold (after_entry journal) w (take i es)) (fold (λ v x. x.version) version (take i es)) e

entries_decide : (journal : List Batch) (w : World) (version : ℕ) (es : List Entry)
    → Decides (are_entries journal w version es) (AreEntriesIn journal w version es)
entries_decide journal w version [] = ((λ is i e at. cc), (λ all. refl))
entries_decide journal w version (x ∷ xs) =
    Decides-like (is_entry journal w version x && are_entries journal (after_entry journal w x) x.version xs) more
    (λ all. (all 0 x refl, (λ i e at. all (suc i) e at)))
    (Decides-and (is_entry journal w version x) (are_entries journal (after_entry journal w x) x.version xs)
    (entry_decides journal w version x) (entries_decide journal (after_entry journal w x) x.version xs))
  where
    more : IsEntryIn journal w version x × AreEntriesIn journal (after_entry journal w x) x.version xs → AreEntriesIn journal w version (x ∷ xs)
    more both zero e at = subst (IsEntryIn journal w version) (same_some x e at) both.0
    more both (suc i) e at = both.1 i e at

-- what is said of an entry where it stands
at_place : (r : RunRecord) (i : ℕ) (e : Entry)
    → IsEntryIn r.journal (fold (after_entry r.journal) world_first (take i r.history)) (fold (λ v x. x.version) 0 (take i r.history)) e
    → IsEntryAt ShowsAs r i e
at_place r i e is = record { checks = is.0; reply = is.1.0; rising = is.1.1.0; within = is.1.1.1 }

pub entries_are_decided : EntriesAreDecided
entries_are_decided r =
    Decides-like (are_entries r.journal world_first 0 r.history)
    (λ all i e at. at_place r i e (all i e at))
    (λ judged i e at. let is = judged i e at in (is.checks, (is.reply, (is.rising, is.within))))
    (entries_decide r.journal world_first 0 r.history)

-- the walk that tells the first wrong place passes the same entries
same_walk : (journal : List Batch) (w : World) (version place : ℕ) (es : List Entry)
    → is_none (first_wrong journal w version place es) ≡ are_entries journal w version es
same_walk journal w version place [] = refl
same_walk journal w version place (e ∷ es) = by (is_entry journal w version e) (same_walk journal (after_entry journal w e) e.version (place + 1) es)
  where
    by : (b : Bool)
        → is_none (first_wrong journal (after_entry journal w e) e.version (place + 1) es) ≡ are_entries journal (after_entry journal w e) e.version es
        → is_none (if b then first_wrong journal (after_entry journal w e) e.version (place + 1) es else Some place)
        ≡ (b && are_entries journal (after_entry journal w e) e.version es)
    by true rest = rest
    by false rest = refl

-- an entry behind so many others, which are judged
record IsWrongIn (journal : List Batch) (w : World) (version : ℕ) (es : List Entry) (i : ℕ) : Type 0 where
  entry : Entry
  there : Stands es i entry
  wrong : IsEntryIn journal (fold (after_entry journal) w (take i es)) (fold (λ v x. x.version) version (take i es)) entry → ⊥
  before : (k : ℕ) (e : Entry) → k < i → Stands es k e
      → IsEntryIn journal (fold (after_entry journal) w (take k es)) (fold (λ v x. x.version) version (take k es)) e

false_is_not : (b : Bool) (P : Type 0) → Decides b P → b ≡ false → P → ⊥
false_is_not true P decides is p = cc
false_is_not false P decides is p = let wrong : false ≡ true = decides.1 p in cc

wrong_in : (journal : List Batch) (w : World) (version place : ℕ) (es : List Entry) (found : ℕ) → first_wrong journal w version place es ≡ Some found
    → (i : ℕ) × (found ≡ place + i) × IsWrongIn journal w version es i
wrong_in journal w version place [] found is = absurd cc
wrong_in journal w version place (x ∷ xs) found is =
    by (is_entry journal w version x) refl (wrong_in journal (after_entry journal w x) x.version (place + 1) xs found) is
  where
    by : (b : Bool) → is_entry journal w version x ≡ b
        → (first_wrong journal (after_entry journal w x) x.version (place + 1) xs ≡ Some found
        → (i : ℕ) × (found ≡ (place + 1) + i) × IsWrongIn journal (after_entry journal w x) x.version xs i)
        → (if b then first_wrong journal (after_entry journal w x) x.version (place + 1) xs else Some place) ≡ Some found
        → (i : ℕ) × (found ≡ place + i) × IsWrongIn journal w version (x ∷ xs) i
    by true good again is =
        let rest = again is in
        let found_is = rest.1 in (
          suc rest.0,
          omega (arith, found_is),
          record {
            entry = rest.2.entry;
            there = rest.2.there;
            wrong = rest.2.wrong;
            before = earlier rest.0 rest.2;
          },
        )
      where
        earlier : (i : ℕ) → IsWrongIn journal (after_entry journal w x) x.version xs i → (k : ℕ) (e : Entry) → k < suc i → Stands (x ∷ xs) k e
            → IsEntryIn journal (fold (after_entry journal) w (take k (x ∷ xs))) (fold (λ v y. y.version) version (take k (x ∷ xs))) e
        earlier i rest zero e less at = subst (IsEntryIn journal w version) (same_some x e at) ((entry_decides journal w version x).0 good)
        earlier i rest (suc k) e less at = rest.before k e (omega (arith, less)) at
    by false good again is =
        let same : place ≡ found = same_some place found is in (
          0,
          omega (arith, same),
          record {
            entry = x;
            there = refl;
            wrong = false_is_not (is_entry journal w version x) (IsEntryIn journal w version x) (entry_decides journal w version x) good;
            before = λ k e less at. absurd (omega (arith, less));
          },
        )

pub first_wrong_is_told : FirstWrongIsTold
first_wrong_is_told = record {
  none = λ r.
      Decides-at (is_none (wrong_place r)) (are_entries r.journal world_first 0 r.history) (same_walk r.journal world_first 0 0 r.history)
      (entries_are_decided r);
  some = λ r place is.
      let found = wrong_in r.journal world_first 0 0 r.history place is in
      let i = found.0 in
      let place_is = found.1 in
      let same : i ≡ place = omega (arith, place_is) in
      subst (IsFirstWrong r) same (first r i found.2);
}
  where
    first : (r : RunRecord) (i : ℕ) → IsWrongIn r.journal world_first 0 r.history i → IsFirstWrong r i
    first r i wrong = record {
      entry = wrong.entry;
      there = wrong.there;
      wrong = λ is. wrong.wrong (is.checks, (is.reply, (is.rising, is.within)));
      before = λ k e less at. at_place r k e (wrong.before k e less at);
    }
