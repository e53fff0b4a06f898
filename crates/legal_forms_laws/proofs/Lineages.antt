-- One pass over the forks tells who descends from a task: what a child forks stands behind the fork that made it.
use Rattle.std.proofs.Common.{◌≡◌, ◌<◌, ◌⊎◌, ⊎_elim, inl, inr, ℕ, zero, suc, ◌+◌, Bool, true, false, if◌then◌else◌, List, [], ◌∷◌, ◌++◌, length, fold, refl, sym, ap, ◌∙◌, subst, arith}
use Rattle.std.specs.Bool.{Decides}
use Rattle.std.proofs.lemmas.Bool.Decides.{Decides-like}
use Rattle.std.proofs.lemmas.Grind.{flat_map-append}
use Rattle.std.proofs.lemmas.List.Sums.{fold-append}
use Rattle.smack_base.specs.declared.ids.Pid.{Pid}
use Rattle.world_spec.specs.declared.Entry.{Entry}
use Rattle.record_spec.specs.Tasks.{numbered_child}
use Rattle.legal_spec.specs.Calls.{Stands, IsForkOf, Descends, itself, child}
use Rattle.legal_forms.specs.MadeCalls.{MadeFork, fork_by, forks_of, has_task, with_descendant, descendants}
use Rattle.legal_forms_laws.proofs.Members.{same_some, Has}
use Rattle.legal_forms_laws.proofs.Forks.{made_fork, fork_of_entry, IsForkIn, fork_has, number_decides}

-- what stands before a place, and what behind it
record IsSplit {X : Type 0} (xs : List X) (i : ℕ) (x : X) : Type 0 where
  front : List X
  back : List X
  is : xs ≡ front ++ x ∷ back
  long : length front ≡ i

split : {X : Type 0} (xs : List X) (i : ℕ) (x : X) → Stands xs i x → IsSplit xs i x
split [] i x at = absurd (none at)
  where
    none : Stands [] i x → ⊥
    none at = cc
split (y ∷ ys) zero x at = record { front = []; back = ys; is = ap (λ z. z ∷ ys) (same_some y x at); long = refl }
split (y ∷ ys) (suc i) x at =
    let rest = split ys i x at in
    record { front = y ∷ rest.front; back = rest.back; is = ap (λ zs. y ∷ zs) rest.is; long = ap (λ n. suc n) rest.long }

stands_behind : {X : Type 0} (xs ys : List X) (j : ℕ) (y : X) → Stands ys j y → Stands (xs ++ ys) (length xs + j) y
stands_behind [] ys j y at = let same : j ≡ 0 + j = omega arith in subst (λ (k : ℕ). Stands ys k y) same at
stands_behind (x ∷ xs) ys j y at =
    let same : suc (length xs + j) ≡ suc (length xs) + j = omega arith in
    subst (λ (k : ℕ). Stands (x ∷ (xs ++ ys)) k y) same (stands_behind xs ys j y at)

-- the numbers after some more forks
abbrev after : List ℕ → List MadeFork → List ℕ
after numbers forks = fold with_descendant numbers forks

kept_by : (numbers : List ℕ) (f : MadeFork) (k : ℕ) → Has numbers k → Has (with_descendant numbers f) k
kept_by numbers f k has = by (has_task numbers f.parent)
  where
    by : (b : Bool) → Has (if b then f.number ∷ numbers else numbers) k
    by true = inr has
    by false = has

kept : (forks : List MadeFork) (numbers : List ℕ) (k : ℕ) → Has numbers k → Has (after numbers forks) k
kept [] numbers k has = has
kept (f ∷ fs) numbers k has = kept fs (with_descendant numbers f) k (kept_by numbers f k has)

-- a number that is new is that of a child whose parent was there
added_by : (numbers : List ℕ) (f : MadeFork) (k : ℕ) → Has (with_descendant numbers f) k → Has numbers k ⊎ ((f.number ≡ k) × Has numbers f.parent)
added_by numbers f k has = by (has_task numbers f.parent) refl has
  where
    by : (b : Bool) → has_task numbers f.parent ≡ b → Has (if b then f.number ∷ numbers else numbers) k
        → Has numbers k ⊎ ((f.number ≡ k) × Has numbers f.parent)
    by true there (inl same) = inr (same, (number_decides numbers f.parent).0 there)
    by true there (inr has) = inl has
    by false there has = inl has

added : (forks : List MadeFork) (numbers : List ℕ) (k : ℕ) → Has (after numbers forks) k
    → Has numbers k ⊎ ((f : MadeFork) × Has forks f × (f.number ≡ k))
added [] numbers k has = inl has
added (f ∷ fs) numbers k has =
    ⊎_elim (λ old. ⊎_elim (λ was. inl was) (λ new. inr (f, inl refl, new.0)) (added_by numbers f k old))
    (λ new. inr (new.0, inr new.1, new.2)) (added fs (with_descendant numbers f) k has)

module _ (history : List Entry) (ancestor : ℕ) where
  abbrev AllDescend : List ℕ → Type 0
  AllDescend numbers = (k : ℕ) → Has numbers k → Descends history ancestor k

  fork_descends : (f : MadeFork) → IsForkIn history f → Descends history ancestor f.parent → Descends history ancestor f.number
  fork_descends f fork down =
      child fork.place fork.fork f.number f.pid
      (subst (Descends history ancestor) (sym (ap (λ (g : MadeFork). g.parent) fork.same)) down) fork.there fork.is

  all_descend : (forks : List MadeFork) → ((f : MadeFork) → Has forks f → IsForkIn history f) → (numbers : List ℕ) → AllDescend numbers
      → AllDescend (after numbers forks)
  all_descend [] are numbers down k has = down k has
  all_descend (f ∷ fs) are numbers down k has =
      all_descend fs (λ g among. are g (inr among)) (with_descendant numbers f)
      (λ n new. ⊎_elim (down n)
      (λ of. subst (Descends history ancestor) of.0 (fork_descends f (are f (inl refl)) (down f.parent of.1)))
      (added_by numbers f n new)) k has

  pub who_is_told : (k : ℕ) → Has (descendants (forks_of history) ancestor) k → Descends history ancestor k
  who_is_told =
      all_descend (forks_of history) (λ f has. fork_has history f has) (ancestor ∷ [])
      (λ k has. ⊎_elim (λ same. subst (Descends history ancestor) same itself) (λ none. absurd none) has)

  -- the object calls of a child stand behind the fork that made it
  module _ (behind : (i k : ℕ) (fork e : Entry) (pid : Pid) → Stands history i fork → IsForkOf fork e.task pid → Stands history k e → i < k) where
    not_later : (i : ℕ) (e : Entry) → Stands history i e → (s : IsSplit history i e) → (f : MadeFork)
        → Has (forks_of (e ∷ s.back)) f → f.number ≡ e.task → ⊥
    not_later i e at s f has same =
        let fork = fork_has (e ∷ s.back) f has in
        let there : Stands history (length s.front + fork.place) fork.fork =
        subst (λ (es : List Entry). Stands es (length s.front + fork.place) fork.fork) (sym s.is)
        (stands_behind s.front (e ∷ s.back) fork.place fork.fork fork.there) in
        let before =
        behind (length s.front + fork.place) i fork.fork e f.pid there (subst (λ (n : ℕ). IsForkOf fork.fork n f.pid) same fork.is) at in
        omega (arith, before, s.long)

    -- the forks before an entry, and then its own and those behind it
    parts : (i : ℕ) (e : Entry) (s : IsSplit history i e)
        → descendants (forks_of history) ancestor ≡ after (after (ancestor ∷ []) (forks_of s.front)) (forks_of (e ∷ s.back))
    parts i e s =
        ap (λ (es : List Entry). after (ancestor ∷ []) (forks_of es)) s.is
        ∙ ap (after (ancestor ∷ [])) (flat_map-append (λ x. fork_by x (numbered_child x)) s.front (e ∷ s.back))
        ∙ fold-append with_descendant (ancestor ∷ []) (forks_of s.front) (forks_of (e ∷ s.back))

    joins : (numbers : List ℕ) (e : Entry) (back : List Entry) (k : ℕ) (pid : Pid) → IsForkOf e k pid → Has numbers e.task
        → Has (after numbers (forks_of (e ∷ back))) k
    joins numbers e back k pid is has =
        subst (λ o. Has (after numbers (fork_by e o ++ forks_of back)) k) (sym (made_fork e k pid is))
        (kept (forks_of back) (with_descendant numbers (fork_of_entry e k pid)) k
        (by (has_task numbers e.task) ((number_decides numbers e.task).1 has)))
      where
        by : (b : Bool) → b ≡ true → Has (if b then k ∷ numbers else numbers) k
        by true there = inl refl
        by false there = absurd cc

    pub is_told_of : (k : ℕ) → Descends history ancestor k → Has (descendants (forks_of history) ancestor) k
    is_told_of k itself = kept (forks_of history) (ancestor ∷ []) ancestor (inl refl)
    is_told_of k (child i e number pid down at is) =
        let s = split history i e at in
        let before = after (ancestor ∷ []) (forks_of s.front) in
        let there : Has (after before (forks_of (e ∷ s.back))) e.task =
        subst (λ (ns : List ℕ). Has ns e.task) (parts i e s) (is_told_of e.task down) in
        subst (λ (ns : List ℕ). Has ns number) (sym (parts i e s))
        (⊎_elim (λ was. joins before e s.back number pid is was) (λ new. absurd (not_later i e at s new.0 new.1 new.2))
        (added (forks_of (e ∷ s.back)) before e.task there))

    pub descendants_decide : (k : ℕ) → Decides (has_task (descendants (forks_of history) ancestor) k) (Descends history ancestor k)
    descendants_decide k =
        Decides-like (has_task (descendants (forks_of history) ancestor) k) (who_is_told k) (is_told_of k)
        (number_decides (descendants (forks_of history) ancestor) k)
