-- The credentials that a task had at a call.
use Rattle.std.proofs.Common.{◌≡◌, ℕ, zero, suc, ◌+◌, ◌<◌, ◌≤◌, ◌==◌, ◌&&◌, ◌||◌, nat_lt, List, [], ◌∷◌, ◌++◌, take, drop, Bool, true, false, sym, refl, ap, ◌∙◌, subst, arith, append_assoc, append-nil, take-append-drop, ⊎_elim}
use Rattle.std.specs.List.{AllByRecursion}
use Rattle.std.proofs.lemmas.Bool.{cases_Bool, eqb-true, le-ltb}
use Rattle.rules_spec.specs.declared.Batch.{Batch}
use Rattle.world_spec.specs.declared.Reply.{Reply}
use Rattle.world_spec.specs.declared.Entry.{Entry}
use Rattle.world_spec.specs.Worlds.{World, world_first}
use Rattle.world_spec.specs.Replies.{makes}
use Rattle.world_spec.specs.Replays.{AreSteps, after_entry, comes_before_call, cred_at}
use Rattle.world_laws.proofs.Points.{kept_at, at_is_now}
use Rattle.legal_spec.specs.Calls.{Stands}
use Rattle.runs_spec.specs.Deeds.{creds_after}

steps_take : (j : List Batch) (w : World) (m : ℕ) (es : List Entry) → AreSteps j w es → AreSteps j w (take m es)
steps_take j w zero es s = tt
steps_take j w (suc m) [] s = tt
steps_take j w (suc m) (e ∷ es) s = (s.0, s.1, steps_take j (after_entry j w e) m es s.2)

pub all_stand : {A : Type 0} (P : A → Type 0) (xs : List A) → ((n : ℕ) (x : A) → Stands xs n x → P x) → AllByRecursion P xs
all_stand P [] f = tt
all_stand P (x ∷ xs) f = (f zero x refl, all_stand P xs (λ n y s. f (suc n) y s))

pub stands_take : {A : Type 0} (m n : ℕ) (xs : List A) (x : A) → Stands (take m xs) n x → (n < m) × Stands xs n x
stands_take zero n xs x s = cc
stands_take (suc m) n [] x s = cc
stands_take (suc m) zero (y ∷ xs) x s = (omega arith, s)
stands_take (suc m) (suc n) (y ∷ xs) x s = let i = stands_take m n xs x s in let l = i.0 in (omega arith, i.1)

pub stands_drop : {A : Type 0} (m n : ℕ) (xs : List A) (x : A) → Stands (drop m xs) n x → Stands xs (m + n) x
stands_drop zero n xs x s = subst (λ i. Stands xs i x) (let e : n ≡ 0 + n = omega arith in e) s
stands_drop (suc m) n [] x s = cc
stands_drop (suc m) n (y ∷ xs) x s =
    subst (λ i. Stands (y ∷ xs) i x) (let e : suc (m + n) ≡ suc m + n = omega arith in e) (stands_drop m n xs x s)

makes_named : (k : ℕ) (r : Reply) → makes k r ≡ true → r ≡ Reply.Child k
makes_named k (Reply.Child n) is = ap (λ x. Reply.Child x) (eqb-true n k is)
makes_named k reply is = cc

not_before : (k q : ℕ) (e : Entry) → (e.task ≡ k → q ≤ e.seq) → (e.reply ≡ Reply.Child k → ⊥) → comes_before_call k q e ≡ false
not_before k q e later none = both ((e.task == k) && nat_lt e.seq q) (makes k e.reply) own made
  where
    both : (a b : Bool) → a ≡ false → b ≡ false → (a || b) ≡ false
    both a b x y = rw (x, y) refl

    own_by : (b : Bool) → (e.task == k) ≡ b → (b && nat_lt e.seq q) ≡ false
    own_by true is = le-ltb e.seq q (later (eqb-true e.task k is))
    own_by false is = refl

    own : ((e.task == k) && nat_lt e.seq q) ≡ false
    own = own_by (e.task == k) refl

    made : makes k e.reply ≡ false
    made = ⊎_elim (λ is. absurd (none (makes_named k e.reply is))) (λ is. is) (cases_Bool (makes k e.reply))

-- entries that do not stand before a call change nothing
kept_all : (j : List Batch) (k q : ℕ) (front es : List Entry) → AllByRecursion (λ e. comes_before_call k q e ≡ false) es
    → cred_at j (front ++ es) k q ≡ cred_at j front k q
kept_all j k q front [] all = ap (λ x. cred_at j x k q) (append-nil front)
kept_all j k q front (e ∷ es) all =
    ap (λ x. cred_at j x k q) (sym (append_assoc front (e ∷ []) es))
    ∙ (kept_all j k q (front ++ e ∷ []) es all.1 ∙ kept_at j front e k q all.0)

-- A task has at a call the credentials that the first m entries leave it with, where those of its own among them are of
-- its earlier calls, those behind them are not, and none behind them makes it.
pub creds_are : (j : List Batch) (h : List Entry) (k q m : ℕ) → AreSteps j world_first h
    → ((n : ℕ) (e : Entry) → Stands h n e → n < m → e.task ≡ k → e.seq < q)
    → ((n : ℕ) (e : Entry) → Stands h n e → m ≤ n → e.task ≡ k → q ≤ e.seq)
    → ((n : ℕ) (e : Entry) → Stands h n e → m ≤ n → e.reply ≡ Reply.Child k → ⊥) → cred_at j h k q ≡ creds_after j h k m
creds_are j h k q m steps before behind made =
    ap (λ x. cred_at j x k q) (sym (take-append-drop m h))
    ∙ (kept_all j k q (take m h) (drop m h)
    (all_stand (λ e. comes_before_call k q e ≡ false) (drop m h)
    (λ n e st. let s = stands_drop m n h e st in
    not_before k q e (behind (m + n) e s (omega arith)) (made (m + n) e s (omega arith))))
    ∙ at_is_now j (take m h) k q (steps_take j world_first m h steps)
    (all_stand (λ e. e.task ≡ k → e.seq < q) (take m h) (λ n e st is. let s = stands_take m n h e st in before n e s.1 s.0 is)))
