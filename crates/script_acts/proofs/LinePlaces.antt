-- Where the lines of a script stand, as they are kept.
use Rattle.std.proofs.Common.{◌≡◌, ℕ, suc, ◌+◌, ◌<◌, ◌≤◌, List, [], ◌∷◌, ◌++◌, length, sym, map, take, drop, get_or, refl, ap, ◌∙◌, subst, arith, drop-cons, ne_eqb}
use Rattle.std.proofs.lemmas.List.{length-take-le, get_or-take}
use Rattle.std.proofs.Math.ListN.{get_or-map}
use Rattle.smack_base.specs.declared.ids.Pid.{Pid}
use Rattle.record_spec.specs.declared.AskedWhat.TheVariants as AskedWhat
use Rattle.legal_spec.specs.Calls.{Stands}
use Rattle.legal_spec.specs.Lines.{IsAskedOfLine}
use Rattle.live_table.proofs.Lists.{long_map}
use Rattle.script_spec.specs.Lines.{ScriptLine}
use Rattle.script_text.specs.Lines.{call_seen}
use Rattle.script_text.specs.declared.line.Line.{Line}
use Rattle.runs_spec.specs.Scripts.{segment, lines_by}
use Rattle.runs_spec.specs.Orders.{NoneWaits}
use Rattle.runs_spec.proofs.Segments.{cut, one, empty, stands_here}
use Rattle.runs_spec.proofs.Orders.{none_both}
use Rattle.script_acts.specs.Places.{IsWaitAt}

module _ (p n to : ℕ) (xs : List Line) (d : Line) (low : n < to) (high : to ≤ length xs) where
  seen_at : get_or (map call_seen xs) n (call_seen d) ≡ call_seen (get_or xs n d)
  seen_at = get_or-map call_seen xs n d

  within : to ≤ length (map call_seen xs)
  within = omega (arith, long_map call_seen xs)

  -- the line at a place is the next of its task
  pub line_at : (get_or xs n d).task ≡ p
      → segment p n to (map call_seen xs) ≡ call_seen (get_or xs n d) ∷ segment p (n + 1) to (map call_seen xs)
  line_at e = one p n to (map call_seen xs) (call_seen d) low within (ap (λ (l : ScriptLine). l.task) seen_at ∙ e)
      ∙ ap (λ (l : ScriptLine). l ∷ segment p (n + 1) to (map call_seen xs)) seen_at

  pub stands_at : Stands (map call_seen xs) n (call_seen (get_or xs n d))
  stands_at = subst (Stands (map call_seen xs) n) seen_at
      (stands_here (map call_seen xs) n (call_seen d) (omega (arith, long_map call_seen xs)))

  pub wait_at : (names : List (List ℕ)) (child : Pid) → (get_or xs n d).task ≡ p
      → ((labels : List (List ℕ)) → IsAskedOfLine labels names (call_seen (get_or xs n d)) (AskedWhat.Wait child))
      → IsWaitAt names (map call_seen xs) p child n to
  wait_at names child e waits = record { line = call_seen (get_or xs n d); waits = waits; is = line_at e }

-- no line between a place and itself
pub none_here : (p to : ℕ) (xs : List Line) → to ≤ length xs → segment p to to (map call_seen xs) ≡ []
none_here p to xs l = empty p to (map call_seen xs) (omega (arith, long_map call_seen xs))

-- a line of another task
pub skip_line : (p n to : ℕ) (xs : List Line) (d : Line) → n < to → to ≤ length xs → ((get_or xs n d).task ≡ p → ⊥)
    → segment p n to (map call_seen xs) ≡ segment p (n + 1) to (map call_seen xs)
skip_line p n to xs d low high ne =
    let ys : List ScriptLine = map call_seen xs in
    let at : get_or (take to ys) n (call_seen d) ≡ call_seen (get_or xs n d) =
    get_or-take to ys n (call_seen d) low ∙ get_or-map call_seen xs n d in
    ap (lines_by p) (drop-cons (take to ys) n (call_seen d) (omega (arith, long_map call_seen xs, length-take-le to ys (omega (arith, long_map call_seen xs)))))
    ∙ (ap (λ (l : ScriptLine). lines_by p (l ∷ drop (suc n) (take to ys))) at
    ∙ (other (call_seen (get_or xs n d)) (drop (suc n) (take to ys)) ne
    ∙ ap (λ (m : ℕ). segment p m to ys) (let z : suc n ≡ n + 1 = omega arith in z))) where
      other : (l : ScriptLine) (ls : List ScriptLine) → (l.task ≡ p → ⊥) → lines_by p (l ∷ ls) ≡ lines_by p ls
      other l ls e = rw (ne_eqb l.task p e) refl

-- lines of which none waits for a child, and one more place
module _ (names : List (List ℕ)) (child : Pid) where
  module _ (p from n : ℕ) (xs : List Line) (d : Line) (low : from ≤ n) (high : n < length xs)
      (none : NoneWaits names child (segment p from n (map call_seen xs))) where
    more : NoneWaits names child (segment p n (n + 1) (map call_seen xs)) → NoneWaits names child (segment p from (n + 1) (map call_seen xs))
    more last = subst (NoneWaits names child) (sym (cut p from n (n + 1) (map call_seen xs) low (omega arith) (omega (arith, high, long_map call_seen xs))))
        (none_both names child (segment p from n (map call_seen xs)) (segment p n (n + 1) (map call_seen xs)) none last)

    pub none_of_own : (get_or xs n d).task ≡ p → ((labels : List (List ℕ)) → IsAskedOfLine labels names (call_seen (get_or xs n d)) (AskedWhat.Wait child) → ⊥)
        → NoneWaits names child (segment p from (n + 1) (map call_seen xs))
    none_of_own e not_so = more (subst (NoneWaits names child)
        (sym (line_at p n (n + 1) xs d (omega arith) (omega (arith, high)) e
        ∙ ap (λ (ls : List ScriptLine). call_seen (get_or xs n d) ∷ ls) (none_here p (n + 1) xs (omega (arith, high))))) (not_so, tt))

    pub none_of_other : ((get_or xs n d).task ≡ p → ⊥) → NoneWaits names child (segment p from (n + 1) (map call_seen xs))
    none_of_other ne = more (subst (NoneWaits names child)
        (sym (skip_line p n (n + 1) xs d (omega arith) (omega (arith, high)) ne ∙ none_here p (n + 1) xs (omega (arith, high)))) tt)
