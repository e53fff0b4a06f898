-- Orderly lines: those between a fork and its wait, and those behind it.
use Rattle.std.proofs.Common.{◌≡◌, ℕ, ◌==◌, ◌||◌, Bool, true, false, if◌then◌else◌, List, [], ◌∷◌, ◌++◌, sym, refl, ap, ◌∙◌, subst, Option, Some, None}
use Rattle.std.specs.List.{list_any}
use Rattle.std.proofs.lemmas.Bool.{eqb-true, eqb-false, eq-eqb, ne_eqb, or_parts, or_from}
use Rattle.std.proofs.lemmas.List.Folds.{list_any-append}
use Rattle.smack_base.specs.declared.ids.Pid.{Pid}
use Rattle.verb_spec.specs.declared.Verb.{Verb}
use Rattle.script_spec.specs.Lines.{ScriptLine, word_in, verb_in}
use Rattle.script_spec.specs.Tasks.{change_by, change_of}
use Rattle.replay_spec.specs.declared.Act.TheVariants as Act
use Rattle.verb_spec.specs.Values.{pid_in}
use Rattle.replay_spec.specs.Calls.{of_one}
use Rattle.replay_spec.specs.Acts.{act_by, act_of_line}
use Rattle.replay_spec.proofs.ReadCalls.{act_words}
use Rattle.runs_spec.specs.Scripts.{Scripted, WaitsFor}
use Rattle.runs_spec.specs.Orders.{with_open, without_open, open_after, IsOrderlyBehind, IsOrderly, NoneWaits}

-- none of these lines waits for a child, and none of more behind them
pub none_both : (names : List (List ℕ)) (child : Pid) (ls more : List ScriptLine) → NoneWaits names child ls → NoneWaits names child more
    → NoneWaits names child (ls ++ more)
none_both names child [] more a b = b
none_both names child (l ∷ ls) more a b = (a.0, none_both names child ls more a.1 b)

-- c is not among these
abbrev IsNew : ℕ → List ℕ → Type 0
IsNew c xs = list_any (λ x. x == c) xs ≡ false

other : (a b : ℕ) → (a == b) ≡ false → (b == a) ≡ false
other a b e = ne_eqb b a (λ same. eqb-false a b e (sym same))

-- The children that are open above c behind a line that does not wait for c are those that the line leaves without c.
record Above (c : ℕ) (opens : Option (List ℕ)) (P : Option (List ℕ) → Type 0) : Type 0 where
  left : List ℕ
  new : IsNew c left
  is : opens ≡ Some left
  holds : P (Some (left ++ c ∷ []))

module _ (names : List (List ℕ)) (c : ℕ) (P : Option (List ℕ) → Type 0) (some : P None → ⊥) where
  abbrev IsAbove : Option (List ℕ) → Option (List ℕ) → Type 0
  IsAbove opens opens' = P opens' → Above c opens P

  kept : (X : List ℕ) → IsNew c X → IsAbove (Some X) (Some (X ++ c ∷ []))
  kept X new p = record { left = X; new = new; is = refl; holds = p }

  forked : (X : List ℕ) → IsNew c X → (found : Option Pid) → IsAbove (with_open X found) (with_open (X ++ c ∷ []) found)
  forked X new None p = absurd (some p)
  forked X new (Some pid) p =
      by (list_any (λ x. x == pid.0) X) (c == pid.0) refl refl (list_any-append (λ x. x == pid.0) X (c ∷ [])) p
    where
      by : (a b : Bool) → list_any (λ x. x == pid.0) X ≡ a → (c == pid.0) ≡ b
          → list_any (λ x. x == pid.0) (X ++ c ∷ []) ≡ (list_any (λ x. x == pid.0) X || ((c == pid.0) || false))
          → IsAbove (with_open X (Some pid)) (with_open (X ++ c ∷ []) (Some pid))
      by true b ea eb whole p = absurd (some (subst (λ t. P (if t then None else Some (pid.0 ∷ (X ++ c ∷ [])))) (whole ∙ (λ i. ea i || (eb i || false))) p))
      by false true ea eb whole p = absurd (some (subst (λ t. P (if t then None else Some (pid.0 ∷ (X ++ c ∷ [])))) (whole ∙ (λ i. ea i || (eb i || false))) p))
      by false false ea eb whole p = record {
        left = pid.0 ∷ X;
        new = or_from (pid.0 == c) (list_any (λ x. x == c) X) (other c pid.0 eb) new;
        is = ap (λ t. if t then None else Some (pid.0 ∷ X)) ea;
        holds = subst (λ t. P (if t then None else Some (pid.0 ∷ (X ++ c ∷ [])))) (whole ∙ (λ i. ea i || (eb i || false))) p;
      }

  waited : (X : List ℕ) → IsNew c X → (found : Option Pid) → (found ≡ Some (record { 0 = c }) → ⊥)
      → IsAbove (without_open X found) (without_open (X ++ c ∷ []) found)
  waited [] new None not_so p = absurd (some p)
  waited [] new (Some pid) not_so p = by (c == pid.0) refl p
    where
      by : (b : Bool) → (c == pid.0) ≡ b → P (if b then Some [] else None) → Above c None P
      by true e p = absurd (not_so (ap (λ n. Some (record { 0 = n })) (sym (eqb-true c pid.0 e))))
      by false e p = absurd (some p)
  waited (x ∷ X) new None not_so p = absurd (some p)
  waited (x ∷ X) new (Some pid) not_so p = by (x == pid.0) refl p
    where
      by : (b : Bool) → (x == pid.0) ≡ b → P (if b then Some (X ++ c ∷ []) else None)
          → Above c (without_open (x ∷ X) (Some pid)) P
      by true e p = record {
        left = X;
        new = (or_parts (x == c) (list_any (λ y. y == c) X) new).1;
        is = ap (λ t. if t then Some X else None) e;
        holds = p;
      }
      by false e p = absurd (some p)

  one_line : (X : List ℕ) → IsNew c X → (l : ScriptLine) → ((labels : List (List ℕ)) → act_of_line labels names l ≡ Some (Act.Wait (record { 0 = c })) → ⊥)
      → IsAbove (open_after names X (change_of l)) (open_after names (X ++ c ∷ []) (change_of l))
  one_line X new l not_so = by (verb_in l) refl
    where
      by : (verb : Option Verb) → verb_in l ≡ verb
          → IsAbove (open_after names X (change_by verb l)) (open_after names (X ++ c ∷ []) (change_by verb l))
      by (Some Verb.Wait) e = waited X new (pid_in names (word_in 1 l))
          (λ is. not_so [] (ap (act_by [] names l) e ∙ ap (λ p. of_one p (λ x. Act.Wait x)) is))
      by (Some Verb.Fork) e = forked X new (pid_in names (word_in 1 l))
      by verb e = kept X new

module _ (s : Scripted) (child : Pid) where
  -- lines that do not wait for an open child are orderly without it
  between : (X : List ℕ) (ls rest : List ScriptLine) → NoneWaits s.names child ls → IsNew child.0 X
      → IsOrderlyBehind s (Some (X ++ child.0 ∷ [])) (ls ++ rest) → IsOrderlyBehind s (Some X) ls
  between X [] rest none new is = tt
  between X (l ∷ ls) rest none new is =
      let a = one_line s.names child.0 (λ o. IsOrderlyBehind s o (ls ++ rest)) (λ not_so. not_so) X new l none.0 is.1 in
      (is.0, subst (λ o. IsOrderlyBehind s o ls) (sym a.is) (between a.left ls rest none.1 a.new a.holds))

  awaited : (X : List ℕ) (l : ScriptLine) (rest : List ScriptLine) → IsNew child.0 X → WaitsFor s l child.0
      → IsOrderlyBehind s (Some (X ++ child.0 ∷ [])) (l ∷ rest) → IsOrderlyBehind s (Some []) rest
  awaited X l rest new waits is =
      let words = act_words s.labels s.names l (Act.Wait child) waits in
      by X new (subst (λ found. IsOrderlyBehind s (without_open (X ++ child.0 ∷ []) found) rest) words.1
      (subst (λ verb. IsOrderlyBehind s (open_after s.names (X ++ child.0 ∷ []) (change_by verb l)) rest) words.0 is.1))
    where
      by : (X : List ℕ) → IsNew child.0 X → IsOrderlyBehind s (without_open (X ++ child.0 ∷ []) (Some child)) rest
          → IsOrderlyBehind s (Some []) rest
      by [] new is = subst (λ t. IsOrderlyBehind s (if t then Some [] else None) rest) (eq-eqb child.0 child.0 refl) is
      by (x ∷ X) new is =
          absurd (subst (λ t. IsOrderlyBehind s (if t then Some (X ++ child.0 ∷ []) else None) rest)
          (or_parts (x == child.0) (list_any (λ y. y == child.0) X) new).0 is)

  -- lines behind the wait for an open child are orderly where no child is open
  behind : (X : List ℕ) (ls : List ScriptLine) (l : ScriptLine) (rest : List ScriptLine) → NoneWaits s.names child ls → IsNew child.0 X
      → WaitsFor s l child.0 → IsOrderlyBehind s (Some (X ++ child.0 ∷ [])) (ls ++ l ∷ rest) → IsOrderly s rest
  behind X [] l rest none new waits is = awaited X l rest new waits is
  behind X (x ∷ ls) l rest none new waits is =
      let a = one_line s.names child.0 (λ o. IsOrderlyBehind s o (ls ++ l ∷ rest)) (λ not_so. not_so) X new x none.0 is.1 in
      behind a.left ls l rest none.1 a.new waits a.holds

  -- a line that forks a child
  module _ (f : ScriptLine) (verb : verb_in f ≡ Some Verb.Fork) (forks : pid_in s.names (word_in 1 f) ≡ Some child) where
    opened : (ls : List ScriptLine) → IsOrderly s (f ∷ ls) → IsOrderlyBehind s (Some (child.0 ∷ [])) ls
    opened ls is = subst (λ found. IsOrderlyBehind s (with_open [] found) ls) forks
        (subst (λ v. IsOrderlyBehind s (open_after s.names [] (change_by v f)) ls) verb is.1)

    pub fork_between : (ls rest : List ScriptLine) → NoneWaits s.names child ls → IsOrderly s (f ∷ (ls ++ rest)) → IsOrderly s ls
    fork_between ls rest none is = between [] ls rest none refl (opened (ls ++ rest) is)

    pub fork_behind : (ls : List ScriptLine) (l : ScriptLine) (rest : List ScriptLine) → NoneWaits s.names child ls → WaitsFor s l child.0
        → IsOrderly s (f ∷ (ls ++ l ∷ rest)) → IsOrderly s rest
    fork_behind ls l rest none waits is = behind [] ls l rest none refl waits (opened (ls ++ l ∷ rest) is)
