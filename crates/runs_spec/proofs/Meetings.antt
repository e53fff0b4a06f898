-- Where the two halves of a fork meet, and what the line of the fork comes to.
use Rattle.std.proofs.Common.{◌≡◌, ℕ, ◌+◌, ◌<◌, ◌&&◌, not, List, [], ◌∷◌, ◌++◌, Bool, true, false, sym, refl, ap, ◌∙◌, subst, append_assoc, append-nil, Option, Some, None, ⊎_elim, inl, inr}
use Rattle.world_spec.specs.declared.Call.TheVariants as Call
use Rattle.world_spec.specs.declared.tasks.TaskCall.TheVariants as TaskCall
use Rattle.world_spec.specs.declared.Reply.TheVariants as Reply
use Rattle.script_spec.specs.Lines.{ScriptLine}
use Rattle.record_spec.specs.declared.AskedLine.{AskedLine}
use Rattle.smack_kernel.specs.Tasks.{TaskValue, Calls, Starts, Adopts, LoadsOnce}
use Rattle.smack_kernel.specs.declared.turns.Entered.{Entered}
use Rattle.runs_spec.specs.Scripts.{Scripted, ForksTask, WaitsFor, lines_by}
use Rattle.runs_spec.specs.Deeds.{FitsTo}
use Rattle.runs_spec.specs.Runs.{waited, own, asked_of, Kids, WentOver, Ran}
use Rattle.runs_spec.specs.Meetings.{with_wait_line, IsLineOf, MeetAt, Met}
use Rattle.runs_spec.proofs.Runs.{over_lines, stopped}
use Rattle.runs_spec.proofs.Forking.{waits_none, waits_one, wait_of, went_fork}

module _ (s : Scripted) (pid : ℕ) (u c : TaskValue) (asked told after : List AskedLine) (until to : ℕ) where
  -- one of them stopped, or there is no memory for its lines
  pub met_stop : (a b : Bool) (w : TaskValue) (at : ℕ) → Adopts u c w → Met s pid a b true u c w asked told after until to at
  met_stop a b w at d = record {
    middle = w;
    adopted = d;
    wait = None;
    made' = w.made;
    is = refl;
    waits = λ l line ls. waits_none s pid w l ls;
    halves = λ h. ⊎_elim (λ e. absurd (let e' : true ≡ false = e in cc)) (λ t. absurd (let e' : None ≡ Some t.0 = t.1 in cc)) h;
    asked_all = λ e. absurd (let e' : true ≡ false = e in cc);
    at_end = λ e. absurd (let e' : true ≡ false = e in cc);
  }

  -- no line waits for the child
  pub met_end : (a b : Bool) (w : TaskValue) → Adopts u c w → a ≡ false → b ≡ false → after ≡ asked ++ told → until ≡ to
      → Met s pid a b false u c w asked told after until to until
  met_end a b w d ea eb er eu = record {
    middle = w;
    adopted = d;
    wait = None;
    made' = w.made;
    is = refl;
    waits = λ l line ls. waits_none s pid w l ls;
    halves = λ _. (ea, eb);
    asked_all = λ _. er ∙ sym (append-nil (asked ++ told));
    at_end = λ _. (eu, refl);
  }

  -- a line waits for it
  pub met_wait : (a b stop : Bool) (x w : TaskValue) → Adopts u c x → w ≡ record x { made = x.made + 1 } → a ≡ false → b ≡ false
      → (stop ≡ false → after ≡ (asked ++ told) ++ wait_of x pid ∷ []) → until < to
      → Met s pid a b stop u c w asked told after until to (until + 1)
  met_wait a b stop x w d e ea eb er lt = record {
    middle = x;
    adopted = d;
    wait = Some (wait_of x pid);
    made' = x.made + 1;
    is = e;
    waits = λ l line ls. waits_one s pid x l ls d.within line;
    halves = λ _. (ea, eb);
    asked_all = er;
    at_end = (lt, refl);
  }

-- more lines behind those that were run
fits-more : (s : Scripted) (k n : ℕ) (ds : _) (ls left more : List ScriptLine) → FitsTo s k n ds ls left → FitsTo s k n ds (ls ++ more) (left ++ more)
fits-more s k n [] ls left more f = ap (λ l. l ++ more) f
fits-more s k n (d ∷ ds) [] left more f = absurd f
fits-more s k n (d ∷ ds) (l ∷ ls) left more f = (f.0, fits-more s k (n + 1) ds ls left more f.1)

pub went_more : (full : Bool) (s : Scripted) (ls left more : List ScriptLine) (v w : TaskValue) → WentOver full s ls left v w
    → WentOver full s (ls ++ more) (left ++ more) v w
went_more full s ls left more v w a = over_lines full full s ls left (ls ++ more) (left ++ more) v w a a.kids
    (fits-more s v.number (v.made + 1) (own a.run) ls left more a.fits) (λ z. z)

all_asked : (q a b w p t : List AskedLine) → p ≡ q ++ a → t ≡ b → (p ++ t) ++ w ≡ q ++ ((a ++ b) ++ (w ++ []))
all_asked q a b w p t e f = (λ i. (e i ++ f i) ++ w) ∙ (ap (λ l. l ++ w) (append_assoc q a b)
    ∙ (append_assoc q (a ++ b) w ∙ ap (λ l. q ++ ((a ++ b) ++ l)) (sym (append-nil w))))

not_not : (x : Bool) → not x ≡ true → x ≡ false
not_not true z = absurd (let z' : false ≡ true = z in cc)
not_not false z = refl

-- a wait's line and what is behind it, or nothing
pub record LinesOn (s : Scripted) (pid until to at : ℕ) (more rest : List ScriptLine) : Type 0 where
  pub none : until ≡ to → more ≡ []
  pub end : until ≡ to → at ≡ until → rest ≡ []
  pub line : until < to → at ≡ until + 1 → (l : ScriptLine) × WaitsFor s l pid × (more ≡ l ∷ rest)

-- A fork's line: ls are the task's lines up to the wait or the end, more those from there on.
module _ (s : Scripted) (pid : ℕ) (l : ScriptLine) (ls more rest : List ScriptLine) (v u u' c c' w : TaskValue) (r : Entered)
    (asked mine_asked told after : List AskedLine) (until to at : ℕ) where
  pub fork_ran : (a b stop : Bool) → ForksTask s l pid → Calls v u (Call.Task (TaskCall.Fork (record { 0 = pid }))) r → r.reply ≡ Reply.Child c.number
      → Starts u c c.number → LoadsOnce v u → Ran a s ls [] u u' asked mine_asked → Ran b s (lines_by pid s.lines) [] c c' [] told
      → Met s pid a b stop u' c' w mine_asked told after until to at → LinesOn s pid until to at more rest
      → Ran stop s (l ∷ (ls ++ more)) rest v w asked after
  unfolding went_fork over_lines
  fork_ran a b stop line call_ is_child st once mine theirs met on = subst (λ x. Ran stop s (l ∷ (ls ++ more)) rest v x asked after) (sym met.is)
      (finish met.wait refl) where
        x' : TaskValue
        x' = record met.middle { made = met.made' }

        whole : (wl : ScriptLine) (left' : List ScriptLine) → IsLineOf met.wait s wl pid → mine.left ++ more ≡ with_wait_line met.wait wl left'
            → WentOver (not a && not b) s (l ∷ (ls ++ more)) left' v x'
        whole wl left' is e = went_fork s pid (ls ++ more) (with_wait_line met.wait wl left') left' theirs.left v u u' c c' met.middle r met.wait met.made'
            (not a) (not b) l line call_ is_child st once
            (over_lines (not a) (not a) s ls mine.left (ls ++ more) (with_wait_line met.wait wl left') u u' mine.went mine.went.kids
            (subst (FitsTo s u.number (u.made + 1) (own mine.went.run) (ls ++ more)) e
            (fits-more s u.number (u.made + 1) (own mine.went.run) ls mine.left more mine.went.fits)) (λ z. z))
            theirs.went (λ z. theirs.on (not_not b z)) met.adopted (met.waits wl is left')

        by_stop : (z : Bool) → stop ≡ z → (wl : ScriptLine) (left' : List ScriptLine) → IsLineOf met.wait s wl pid
            → mine.left ++ more ≡ with_wait_line met.wait wl left' → (stop ≡ false → (a ≡ false) × (b ≡ false) × (left' ≡ rest))
            → Ran z s (l ∷ (ls ++ more)) rest v x' asked after
        by_stop true e wl left' is e2 h = stopped (not a && not b) s (l ∷ (ls ++ more)) left' rest v x' asked after (whole wl left' is e2)
        by_stop false e wl left' is e2 h =
            let t = h e in
            let g = whole wl left' is e2 in record {
              left = left';
              went = over_lines (not a && not b) true s (l ∷ (ls ++ more)) left' (l ∷ (ls ++ more)) left' v x' g
                  (subst (λ (x : Bool). Kids x s g.run) (λ i. not (t.0 i) && not (t.1 i)) g.kids) g.fits
                  (λ _ i. not (t.0 i) && not (t.1 i));
              on = λ _. t.2;
              asked = λ _. met.asked_all e ∙ all_asked asked (asked_of mine.went.run) (asked_of theirs.went.run) (waited met.wait) mine_asked told
                  (mine.asked t.0) (theirs.asked t.1);
            }

        finish : (wait : Option AskedLine) → met.wait ≡ wait → Ran stop s (l ∷ (ls ++ more)) rest v x' asked after
        finish None e = by_stop stop refl l (mine.left ++ more) (subst (λ y. IsLineOf y s l pid) (sym e) tt)
            (ap (λ y. with_wait_line y l (mine.left ++ more)) (sym e))
            (λ z. let h = met.halves (inl z) in
            let at_end : (until ≡ to) × (at ≡ until) = subst (λ y. MeetAt y stop until to at) e met.at_end z in
            (h.0, h.1, (λ i. mine.on h.0 i ++ on.none at_end.0 i) ∙ sym (on.end at_end.0 at_end.1)))
        finish (Some x) e =
            let h = met.halves (inr (x, e)) in
            let at_end : (until < to) × (at ≡ until + 1) = subst (λ y. MeetAt y stop until to at) e met.at_end in
            let wl = on.line at_end.0 at_end.1 in
            by_stop stop refl wl.0 rest (subst (λ y. IsLineOf y s wl.0 pid) (sym e) wl.1)
            ((λ i. mine.on h.0 i ++ wl.2 i) ∙ ap (λ y. with_wait_line y wl.0 rest) (sym e)) (λ _. (h.0, h.1, refl))
