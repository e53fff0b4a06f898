-- Where each of so many numbers has a call, each has just one.
use Rattle.std.proofs.Common.{◌≡◌, ◌≤◌, ◌<◌, ℕ, zero, suc, ◌+◌, true, ◌&&◌, ◌==◌, cond, if◌then◌else◌, nat_le, List, [], ◌∷◌, Option, Some, None, refl, sym, ap, ◌∙◌, subst, arith, inl, inr}
use Rattle.std.specs.Prelude.{is_some}
use Rattle.std.specs.Bool.{Decides}
use Rattle.std.proofs.lemmas.Bool.{le-leb, ne_eqb}
use Rattle.std.proofs.lemmas.Bool.Decides.{Decides-and, Decides-like}
use Rattle.legal_forms.specs.MadeCalls.{MadeCall, count_of, call_at}
use Rattle.legal_forms.specs.Forms.{has_each}
use Rattle.legal_forms_laws.proofs.Members.{Has}
use Rattle.legal_forms_laws.proofs.MadeCalls.{count_at, count-cons}
use Rattle.legal_forms_laws.proofs.Counting.{once_filled}
use Rattle.legal_forms_laws.proofs.CallsAt.{call_is, call_some}

module _ (call : ℕ → Option MadeCall) where
  abbrev AreThere : ℕ → ℕ → Type 0
  AreThere seq n = (i : ℕ) → i < n → is_some (call (seq + i)) ≡ true

  each_decides : (seq n : ℕ) → Decides (has_each call seq n) (AreThere seq n)
  each_decides seq zero = ((λ e i less. absurd (omega (arith, less))), (λ are. refl))
  each_decides seq (suc n) =
      Decides-like (is_some (call seq) && has_each call (seq + 1) n) more
      (λ are. (
        subst (λ (k : ℕ). is_some (call k) ≡ true) here (are 0 (omega arith)),
        (λ i less. subst (λ (k : ℕ). is_some (call k) ≡ true) (there i) (are (suc i) (omega (arith, less)))),
      ))
      (Decides-and (is_some (call seq)) (has_each call (seq + 1) n) ((λ e. e), (λ e. e)) (each_decides (seq + 1) n))
    where
      here : seq + 0 ≡ seq
      here = omega arith

      there : (i : ℕ) → seq + suc i ≡ (seq + 1) + i
      there i = omega arith

      more : (is_some (call seq) ≡ true) × AreThere (seq + 1) n → AreThere seq (suc n)
      more both zero less = subst (λ (k : ℕ). is_some (call k) ≡ true) (sym here) both.0
      more both (suc i) less = subst (λ (k : ℕ). is_some (call k) ≡ true) (sym (there i)) (both.1 i (omega (arith, less)))

found : {X : Type 0} (o : Option X) → is_some o ≡ true → (x : X) × (o ≡ Some x)
found None is = absurd cc
found (Some x) is = (x, refl)

module _ (calls : List MadeCall) (task : ℕ) where
  -- each number is once, and no other
  abbrev pub IsOnce : Type 0
  IsOnce = (seq : ℕ) → count_at calls task seq ≡ (if nat_le 1 seq && nat_le seq (count_of calls task) then 1 else 0)

  once_there : AreThere (call_at calls task) 1 (count_of calls task) → IsOnce
  once_there are = once_filled task calls (λ i less. counted i (found (call_at calls task (1 + i)) (are i less)))
    where
      counted : (i : ℕ) → (c : MadeCall) × (call_at calls task (1 + i) ≡ Some c) → 1 ≤ count_at calls task (1 + i)
      counted i is = (call_is task (1 + i) calls is.0 is.1).counted

  there_once : IsOnce → AreThere (call_at calls task) 1 (count_of calls task)
  there_once once i less =
      let one : count_at calls task (1 + i) ≡ 1 =
      once (1 + i) ∙ rw (le-leb 1 (1 + i) (omega arith), le-leb (1 + i) (count_of calls task) (omega (arith, less))) refl in
      let is = call_some task (1 + i) calls (omega (arith, one)) in ap is_some is.1

  pub numbers_decide : Decides (has_each (call_at calls task) 1 (count_of calls task)) IsOnce
  numbers_decide =
      Decides-like (has_each (call_at calls task) 1 (count_of calls task)) once_there there_once
      (each_decides (call_at calls task) 1 (count_of calls task))

  none_counted : (cs : List MadeCall) → ((c : MadeCall) → Has cs c → c.task ≡ task → ⊥) → count_of cs task ≡ 0
  none_counted [] none = refl
  none_counted (c ∷ cs) none =
      let first : ◌≡◌ {A = ℕ} (cond (c.task == task) 1 0) 0 = ap (λ b. cond b 1 0) (ne_eqb c.task task (none c (inl refl))) in
      omega (arith, count-cons (λ (x : MadeCall). x.task == task) c cs, first, none_counted cs (λ x has. none x (inr has)))

  -- a task without calls has none of any number
  pub none_once : ((c : MadeCall) → Has calls c → c.task ≡ task → ⊥) → IsOnce
  none_once none =
      let zero_calls = none_counted calls none in
      once_there (λ i less. absurd (omega (arith, less, zero_calls)))
