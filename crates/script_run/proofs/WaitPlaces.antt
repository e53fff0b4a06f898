-- The places of the lines that wait for a task, and what is so of the lines between them.
use Rattle.std.proofs.Common.{◌≡◌, ◌⊎◌, ⊎_elim, inl, inr, ℕ, zero, suc, ◌+◌, ◌≤◌, ◌<◌, Bool, true, false, if◌then◌else◌, ◌==◌, List, [], ◌∷◌, ◌++◌, length, map, take, drop, get_or, Option, Some, None, refl, sym, ap, ◌∙◌, subst, arith, append_assoc, drop-cons}
use Rattle.std.specs.Prelude.{codes}
use Rattle.std.specs.Option.{option_map, option_or}
use Rattle.std.specs.Str.{bytes_eq}
use Rattle.std.proofs.lemmas.Bool.{cases_Bool}
use Rattle.std.proofs.lemmas.Slice.Eq.{bytes_eq-Decides}
use Rattle.std.proofs.lemmas.List.{append-nil}
use Rattle.std.proofs.Math.Seq.{take-suc}
use Rattle.std.proofs.Math.ListN.{get_or-map}
use Rattle.live_table.specs.Lists.{Has, here, there}
use Rattle.live_table.proofs.Lists.{long_map}
use Rattle.verb_spec.specs.declared.CallVerb.{CallVerb}
use Rattle.verb_spec.specs.declared.Verb.{Verb}
use Rattle.verb_spec.specs.declared.Verb.TheVariants as Verb
use Rattle.verb_spec.specs.Verbs.{call_verb_of, verb_of}
use Rattle.script_spec.specs.Lines.{ScriptLine, word_in, verb_in}
use Rattle.script_text.specs.Lines.{call_seen}
use Rattle.script_text.specs.declared.line.Line.{Line}
use Rattle.smack_base.specs.declared.ids.Pid.{Pid}
use Rattle.replay_spec.specs.declared.Act.TheVariants as Act
use Rattle.replay_spec.proofs.ReadCalls.{act_words}
use Rattle.runs_spec.specs.Scripts.{lines_by, segment}
use Rattle.runs_spec.specs.Orders.{NoneWaits}
use Rattle.runs_spec.proofs.Segments.{cut}
use Rattle.runs_spec.proofs.Orders.{none_both}
use Rattle.script_run.specs.Waits.{is_wait, waits_from, AreOutside, AreNoWaits, WaitStands}

-- one more line
one_first : (at : ℕ) (l : ScriptLine) (ls : List ScriptLine) (b : Bool) → is_wait l ≡ b
    → waits_from at (l ∷ ls) ≡ waits_from at (l ∷ []) ++ waits_from (at + 1) ls
one_first at l ls true is = rw is refl
one_first at l ls false is = rw is refl

module _ (xs : List Line) (at : ℕ) (d : Line) (low : at < length xs) where
  rest : drop at (map call_seen xs) ≡ call_seen (get_or xs at d) ∷ drop (at + 1) (map call_seen xs)
  rest = drop-cons (map call_seen xs) at (call_seen d) (omega (arith, long_map call_seen xs, low))
      ∙ (ap (λ (l : ScriptLine). l ∷ drop (suc at) (map call_seen xs)) (get_or-map call_seen xs at d)
      ∙ ap (λ (n : ℕ). call_seen (get_or xs at d) ∷ drop n (map call_seen xs)) (let z : suc at ≡ at + 1 = omega arith in z))

  pub one_line : (places more all : List ℕ) → more ≡ places ++ waits_from at (call_seen (get_or xs at d) ∷ [])
      → places ++ waits_from at (drop at (map call_seen xs)) ≡ all → more ++ waits_from (at + 1) (drop (at + 1) (map call_seen xs)) ≡ all
  one_line places more all is so =
      let l : ScriptLine = call_seen (get_or xs at d) in
      let ls : List ScriptLine = drop (at + 1) (map call_seen xs) in
      ap (λ t. t ++ waits_from (at + 1) ls) is
      ∙ (append_assoc places (waits_from at (l ∷ [])) (waits_from (at + 1) ls)
      ∙ (ap (λ t. places ++ t) (sym (ap (waits_from at) rest ∙ one_first at l ls (is_wait l) refl)) ∙ so))

-- no line is left
none_left : (at : ℕ) (ls : List ScriptLine) → length ls ≤ at → drop at ls ≡ []
none_left at [] low = drop_none at
  where
    drop_none : (n : ℕ) → drop {A = ScriptLine} n [] ≡ []
    drop_none zero = refl
    drop_none (suc n) = refl
none_left zero (l ∷ ls) low = absurd (omega (arith, low))
none_left (suc n) (l ∷ ls) low = none_left n ls (omega (arith, low))

pub all_waits : (xs : List Line) (at : ℕ) (places all : List ℕ) → length xs ≤ at
    → places ++ waits_from at (drop at (map call_seen xs)) ≡ all → places ≡ all
all_waits xs at places all high so =
    sym (append-nil places) ∙ ap (λ t. places ++ waits_from at t) (sym (none_left at (map call_seen xs) (omega (arith, high, long_map call_seen xs)))) ∙ so

-- places outside
outside_less : (from to less : ℕ) (ps : List ℕ) → less ≤ to → AreOutside from to ps → AreOutside from less ps
outside_less from to less [] low out = tt
outside_less from to less (p ∷ ps) low out =
    (⊎_elim (λ (a : p < from). inl a) (λ (b : to ≤ p). inr (omega (arith, b, low))) out.0, outside_less from to less ps low out.1)

outside_both : (from to : ℕ) (ps qs : List ℕ) → AreOutside from to ps → AreOutside from to qs → AreOutside from to (ps ++ qs)
outside_both from to [] qs a b = b
outside_both from to (p ∷ ps) qs a b = (a.0, outside_both from to ps qs a.1 b)

-- the least of the places so far, and one more place
module _ (from to least : ℕ) (ps : List ℕ) (n d : ℕ) (low : n < length ps) (out : AreOutside from least (take n ps)) where
  one_more : (new : ℕ) → new ≤ least → (get_or ps n d < from) ⊎ (new ≤ get_or ps n d) → AreOutside from new (take (n + 1) ps)
  one_more new under is = subst (AreOutside from new)
      (sym (take-suc ps n d low) ∙ ap (λ (m : ℕ). take m ps) (let z : suc n ≡ n + 1 = omega arith in z))
      (outside_both from new (take n ps) (get_or ps n d ∷ []) (outside_less from least new (take n ps) under out) (is, tt))

  pub taken : (new : ℕ) → new ≡ get_or ps n d → get_or ps n d < least → AreOutside from new (take (n + 1) ps)
  taken new is less = one_more new (omega (arith, is, less)) (inr (omega (arith, is)))

  pub left : (new : ℕ) → new ≡ least → (get_or ps n d < from) ⊎ (least ≤ get_or ps n d) → AreOutside from new (take (n + 1) ps)
  left new is where_it_is = one_more new (omega (arith, is))
      (⊎_elim (λ (a : get_or ps n d < from). inl a) (λ (b : least ≤ get_or ps n d). inr (omega (arith, is, b))) where_it_is)

-- each place of a list is among its members
pub has_at : (ps : List ℕ) (n d : ℕ) → n < length ps → Has (get_or ps n d) ps
has_at [] n d low = absurd (omega (arith, low))
has_at (p ∷ ps) zero d low = here
has_at (p ∷ ps) (suc n) d low = there (has_at ps n d (omega (arith, low)))

-- a line that waits stands at each place of waits
wait_step : (at p : ℕ) (l : ScriptLine) (ls : List ScriptLine)
    → (Has p (waits_from (at + 1) ls) → (k : ℕ) × (p ≡ at + 1 + k) × WaitStands ls k) → (b : Bool) → is_wait l ≡ b
    → Has p (if b then at ∷ waits_from (at + 1) ls else waits_from (at + 1) ls) → (k : ℕ) × (p ≡ at + k) × WaitStands (l ∷ ls) k
wait_step at p l ls behind true is here = (0, omega arith, (l, refl, ap verb_of ((bytes_eq-Decides (word_in 0 l) (codes "wait")).0 is)))
wait_step at p l ls behind true is (there h) = let x = behind h in (suc x.0, (let y = x.1 in omega arith), x.2)
wait_step at p l ls behind false is h = let x = behind h in (suc x.0, (let y = x.1 in omega arith), x.2)

wait_behind : (at p : ℕ) (ls : List ScriptLine) → Has p (waits_from at ls) → (k : ℕ) × (p ≡ at + k) × WaitStands ls k
wait_behind at p [] h = elim h [ ]
wait_behind at p (l ∷ ls) h = wait_step at p l ls (wait_behind (at + 1) p ls) (is_wait l) refl h

pub wait_stands : (p : ℕ) (ls : List ScriptLine) → Has p (waits_from 0 ls) → WaitStands ls p
wait_stands p ls h = let x = wait_behind 0 p ls h in
    subst (WaitStands ls) (sym (let y = x.1 in let z : p ≡ x.0 = omega arith in z)) x.2

-- the lines between two places, where none of the places of waits is between them
verb_no_wait : (name : List ℕ) → bytes_eq name (codes "wait") ≡ false → verb_of name ≡ Some Verb.Wait → ⊥
verb_no_wait name other = elim (cases_Bool (bytes_eq name (codes "write"))) [
  | inl e ↦ simp e (λ is. let z : ◌≡◌ {A = Option Verb} (Some Verb.Write) (Some Verb.Wait) = is in cc)
  | inr e ↦ elim (cases_Bool (bytes_eq name (codes "ask"))) [
    | inl f ↦ simp (e, f) (λ is. cc)
    | inr f ↦ simp (e, f, other) (behind (bytes_eq name (codes "fork")) (bytes_eq name (codes "exit")) (call_verb_of name))
  ]
]
  where
    behind : (fork exit : Bool) (call : Option CallVerb)
        → option_or (if fork then Some Verb.Fork else (if exit then Some Verb.Exit else None)) (option_map (λ verb. Verb.Call verb) call) ≡ Some Verb.Wait → ⊥
    behind true exit call is = cc
    behind false true call is = cc
    behind false false (Some verb) is = cc
    behind false false None is = cc

line_no_wait : (l : ScriptLine) → is_wait l ≡ false → verb_in l ≡ Some Verb.Wait → ⊥
line_no_wait l other = verb_no_wait (word_in 0 l) other

clash : (at from to : ℕ) → from ≤ at → at < to → (at < from) ⊎ (to ≤ at) → ⊥
clash at from to low high is = ⊎_elim (λ (a : at < from). omega (arith, a, low)) (λ (b : to ≤ at). omega (arith, b, high)) is

module _ (at from to : ℕ) (places : List ℕ) where
  out_here : (b : Bool) → from ≤ at → at < to → AreOutside from to (if b then at ∷ places else places)
      → (b ≡ false) × AreOutside from to places
  out_here true low high out = absurd (clash at from to low high out.0)
  out_here false low high out = (refl, out)

  out_rest : (b : Bool) → AreOutside from to (if b then at ∷ places else places) → AreOutside from to places
  out_rest true out = out.1
  out_rest false out = out

-- the lines from the first place on
none_up_to : (at from to n : ℕ) (ls : List ScriptLine) → from ≤ at → at + n ≤ to → AreOutside from to (waits_from at ls) → AreNoWaits (take n ls)
none_up_to at from to zero [] low high out = tt
none_up_to at from to zero (l ∷ ls) low high out = tt
none_up_to at from to (suc n) [] low high out = tt
none_up_to at from to (suc n) (l ∷ ls) low high out =
    let is = out_here at from to (waits_from (at + 1) ls) (is_wait l) low (omega (arith, high)) out in
    (line_no_wait l is.0, none_up_to (at + 1) from to n ls (omega (arith, low)) (omega (arith, high)) is.1)

none_behind : (at from to skip n : ℕ) (ls : List ScriptLine) → from ≡ at + skip → at + n ≤ to → AreOutside from to (waits_from at ls)
    → AreNoWaits (drop skip (take n ls))
none_behind at from to zero n ls is high out = none_up_to at from to n ls (omega (arith, is)) high out
none_behind at from to (suc skip) zero [] is high out = tt
none_behind at from to (suc skip) zero (l ∷ ls) is high out = tt
none_behind at from to (suc skip) (suc n) [] is high out = tt
none_behind at from to (suc skip) (suc n) (l ∷ ls) is high out =
    none_behind (at + 1) from to skip n ls (omega (arith, is)) (omega (arith, high)) (out_rest at from to (waits_from (at + 1) ls) (is_wait l) out)

pub none_between : (from to : ℕ) (ls : List ScriptLine) → AreOutside from to (waits_from 0 ls) → AreNoWaits (drop from (take to ls))
none_between from to ls out = none_behind 0 from to from to ls (omega arith) (omega arith) out

-- nor does a line of one task wait where no line does
pub none_of_task : (pid : ℕ) (ls : List ScriptLine) → AreNoWaits ls → AreNoWaits (lines_by pid ls)
none_of_task pid [] none = tt
none_of_task pid (l ∷ ls) none = elim (cases_Bool (l.task == pid)) [
  | inl e ↦ simp e (none.0, none_of_task pid ls none.1)
  | inr e ↦ simp e (none_of_task pid ls none.1)
]

-- none of them waits for a child then, and none from a place before them on
module _ (names : List (List ℕ)) (child : Pid) where
  none_of_child : (ls : List ScriptLine) → AreNoWaits ls → NoneWaits names child ls
  none_of_child [] none = tt
  none_of_child (l ∷ ls) none =
      (λ labels is. none.0 (act_words labels names l (Act.Wait child) is).0, none_of_child ls none.1)

  pub none_from : (pid from first last : ℕ) (ls : List ScriptLine) → from ≤ first → first ≤ last → last ≤ length ls
      → AreNoWaits (drop from (take first ls)) → NoneWaits names child (segment pid first last ls) → NoneWaits names child (segment pid from last ls)
  none_from pid from first last ls low high long none behind =
      subst (NoneWaits names child) (sym (cut pid from first last ls low high long))
      (none_both names child (segment pid from first ls) (segment pid first last ls)
      (none_of_child (segment pid from first ls) (none_of_task pid (drop from (take first ls)) none)) behind)
