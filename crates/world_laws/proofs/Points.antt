use Rattle.std.proofs.Common.{◌≡◌, ◌<◌, ℕ, Bool, true, false, ◌&&◌, ◌||◌, List, [], ◌∷◌, ◌++◌, fold, refl, sym, ap, ◌∙◌, inl, inr, if◌then◌else◌}
use Rattle.std.specs.Prelude.{◌==◌, nat_lt}
use Rattle.std.specs.List.{list_any, AllByRecursion}
use Rattle.std.proofs.lemmas.Bool.{cases_Bool, eq-eqb, lt-ltb}
use Rattle.std.proofs.lemmas.List.Folds.{list_any-append}
use Rattle.rules_spec.specs.declared.Batch.{Batch}
use Rattle.world_spec.specs.declared.Entry.{Entry}
use Rattle.world_spec.specs.Replies.{makes}
use Rattle.world_spec.specs.Worlds.{World, world_first, creds_of}
use Rattle.world_spec.specs.Replays.{AreSteps, version_of, after_entry, replay_of, comes_before_call, up_to_last}
use Rattle.world_laws.specs.Laws.{OthersKeepCredAt, CredAtIsNow}
use Rattle.world_laws.proofs.Keeping.{others_keep}

or_false : (a b : Bool) → b ≡ false → (a || b) ≡ a
or_false true b none = refl
or_false false b none = none

any_more : {X : Type 0} (test : X → Bool) (xs : List X) (x : X) → test x ≡ false → list_any test (xs ++ x ∷ []) ≡ list_any test xs
any_more test xs x fails = list_any-append test xs (x ∷ []) ∙ or_false (list_any test xs) (test x || false) (or_false (test x) false refl ∙ fails)

-- an entry that does not pass, behind the others
last_fails : (test : Entry → Bool) (es : List Entry) (e : Entry) → test e ≡ false → up_to_last test (es ++ e ∷ []) ≡ up_to_last test es
last_fails test [] e fails = simp fails refl
last_fails test (x ∷ xs) e fails =
    ap (λ b. if b then x ∷ up_to_last test (xs ++ e ∷ []) else []) (any_more test (x ∷ xs) e fails)
    ∙ ap (λ t. if list_any test (x ∷ xs) then x ∷ t else []) (last_fails test xs e fails)

pub kept_at : OthersKeepCredAt
kept_at journal history e k q fails =
    ap (λ es. creds_of (replay_of journal es) k) (last_fails (comes_before_call k q) history e fails)

none_pass : (test : Entry → Bool) (es : List Entry) → list_any test es ≡ false → up_to_last test es ≡ []
none_pass test [] none = refl
none_pass test (e ∷ es) none = simp none refl

or_parts : (a b : Bool) → (a || b) ≡ false → (a ≡ false) × (b ≡ false)
or_parts true b none = cc
or_parts false b none = (refl, none)

true_false : (b : Bool) → b ≡ true → b ≡ false → ⊥
true_false true is not = cc
true_false false is not = cc

-- an entry that neither makes a task nor is a call of it before, where its calls are all before, is of another task
is_other : (k q : ℕ) (e : Entry) → (e.task ≡ k → e.seq < q) → comes_before_call k q e ≡ false → e.task ≡ k → ⊥
is_other k q e before fails same =
    let own = (or_parts ((e.task == k) && nat_lt e.seq q) (makes k e.reply) fails).0 in
    true_false ((e.task == k) && nat_lt e.seq q) (simp (eq-eqb e.task k same, lt-ltb e.seq q (before same)) refl) own

at_from : (journal : List Batch) (k q : ℕ) (w : World) (es : List Entry) → AreSteps journal w es → AllByRecursion (λ e. e.task ≡ k → e.seq < q) es
    → creds_of (fold (after_entry journal) w (up_to_last (comes_before_call k q) es)) k ≡ creds_of (fold (after_entry journal) w es) k
at_from journal k q w [] steps before = refl
at_from journal k q w (e ∷ es) steps before =
    let rest = at_from journal k q (after_entry journal w e) es steps.2 before.1 in
    elim (cases_Bool (list_any (comes_before_call k q) (e ∷ es))) [
      | inl some ↦ simp some rest
      | inr none ↦
          let parts = or_parts (comes_before_call k q e) (list_any (comes_before_call k q) es) none in
          let unmade = (or_parts ((e.task == k) && nat_lt e.seq q) (makes k e.reply) parts.0).1 in
          let kept = others_keep w (version_of journal e.version) e.task k e.call (is_other k q e before.0 parts.0) (ap (makes k) (sym steps.1) ∙ unmade) in
          let here = ap (λ xs. creds_of (fold (after_entry journal) (after_entry journal w e) xs) k) (none_pass (comes_before_call k q) es parts.1) in
          simp none (sym kept ∙ sym here ∙ rest)
    ]

pub at_is_now : CredAtIsNow
at_is_now journal history k q steps before = at_from journal k q world_first history steps before
