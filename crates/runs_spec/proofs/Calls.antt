-- What one line comes to, where it makes no task and waits for none.
use Rattle.std.proofs.Common.{◌≡◌, ℕ, ◌+◌, ◌<◌, ◌≤◌, List, [], ◌∷◌, ◌++◌, length, take, Bool, true, false, sym, refl, ap, ◌∙◌, subst, append-nil, arith, length-append, Option, Some, None, le_refl, take_all}
use Rattle.std.specs.List.{AllByRecursion}
use Rattle.std.specs.Bool.{OnFalse}
use Rattle.std.proofs.lemmas.List.{take-append-le}
use Rattle.smack_base.specs.declared.rule_op.RuleOp.{RuleOp}
use Rattle.smack_base.specs.declared.cap.Cap.TheVariants as Cap
use Rattle.rules_spec.specs.declared.Batch.{Batch}
use Rattle.rules_spec.specs.Rulings.{ruling}
use Rattle.rules_spec.specs.Creds.{is_effective}
use Rattle.world_spec.specs.declared.Call.{Call}
use Rattle.world_spec.specs.declared.Entry.{Entry}
use Rattle.world_spec.specs.Worlds.{creds_of}
use Rattle.world_spec.specs.Replays.{replay_of, version_of}
use Rattle.script_spec.specs.Lines.{ScriptLine}
use Rattle.record_spec.specs.declared.AskedLine.{AskedLine}
use Rattle.record_spec.specs.declared.AskedWhat.{AskedWhat}
use Rattle.record_spec.specs.declared.AskedWhat.TheVariants as AskedWhat
use Rattle.legal_spec.specs.Lines.{IsBatchOfLine, IsCallOfLine, IsAskedOfLine}
use Rattle.live_table.specs.Lists.{Begins}
use Rattle.live_table.proofs.Lists.{begins_self, begins_length}
use Rattle.smack_kernel.specs.Tasks.{TaskValue, IsSound, Does, Stays, Calls, LoadsOnce}
use Rattle.smack_kernel.specs.Indexes.{version_rows}
use Rattle.smack_kernel.specs.Answers.{Wrote, is_fork_call}
use Rattle.smack_kernel.proofs.Worlds.{MakesNext, step_makes}
use Rattle.world_spec.specs.Steps.{step}
use Rattle.smack_kernel.specs.Growth.{batch_of, told_entry}
use Rattle.world_spec.specs.Replies.{child_of}
use Rattle.smack_kernel.specs.declared.turns.Entered.{Entered}
use Rattle.runs_spec.specs.Scripts.{Scripted}
use Rattle.runs_spec.specs.Deeds.{Deed, entered, batched, answered, entries_in, batches_in, SeesTask, creds_after, IsTrueAnswer, IsAt, FitsLine, IsNoWait, IsTaskless, by_version, by_place, IsSeen}
use Rattle.runs_spec.specs.Runs.{ends, does, OthersLoad, WentOver, Ran}
use Rattle.runs_spec.proofs.Growing.{stands_last, sees_grow, creds_grow}
use Rattle.runs_spec.proofs.Runs.{stopped}

-- no task was adopted
others_none : {v w : TaskValue} → w.ended_loads ≡ v.ended_loads → OthersLoad v w 0
others_none {v} {w} same = record {
  more = [];
  is = same ∙ sym (append-nil v.ended_loads);
  each = refl;
  few = λ n h. elim h [ ];
}

-- nothing was made
pub went_none : (full : Bool) (s : Scripted) (ls : List ScriptLine) (v w : TaskValue) → Stays v w → (full ≡ true → LoadsOnce v w)
    → WentOver full s ls ls v w
went_none full s ls v w st once = let d = st.does in let g = d.grows in record {
  run = ends;
  table = d.table;
  number = d.number;
  made = let x = st.made in omega arith;
  fits = refl;
  kids = tt;
  ended = d.ended ∙ sym (append-nil v.ended);
  apart = λ k h t. elim t [ ];
  distinct = tt;
  journal = g.journal;
  history = g.history;
  own_batches = g.own_batches;
  own_entries = g.own_entries;
  at = tt;
  batches = g.batches;
  entries = g.entries;
  others = tt;
  fresh = d.later;
  placed = begins_length g.history;
  within = d.within;
  loads = once;
  others_load = λ _. others_none d.ended_loads;
}

-- at most a call was counted
pub does_count : (v : TaskValue) (made : ℕ) → v.version ≤ length v.journal → Does v (record v { made = made }) [] []
does_count v made top = record {
  table = refl;
  number = refl;
  ended = refl;
  grows = record {
    journal = begins_self v.journal;
    history = begins_self v.history;
    own_batches = sym (append-nil _);
    own_entries = sym (append-nil _);
    batches = λ _ _. refl;
    entries = λ _ _. refl;
  };
  later = le_refl v.version;
  within = top;
  ended_loads = refl;
}

pub stays_self : (v : TaskValue) → v.version ≤ length v.journal → Stays v v
stays_self v top = record { does = does_count v v.made top; made = refl; creds = refl }

-- a worker at its beginning
pub ran_none : (s : Scripted) (ls : List ScriptLine) (v : TaskValue) (x : List AskedLine) → v.version ≤ length v.journal → Ran false s ls ls v v x x
unfolding went_none
ran_none s ls v x top = record {
  left = ls;
  went = went_none true s ls v v (stays_self v top) (λ _. le_refl (v.loads + version_rows v.journal v.version));
  on = λ _. refl;
  asked = λ _. sym (append-nil x);
}

-- a worker that stops before a line
pub ran_stopped : (s : Scripted) (ls rest : List ScriptLine) (v w : TaskValue) (x y : List AskedLine) → Stays v w → Ran true s ls rest v w x y
ran_stopped s ls rest v w x y st = stopped false s ls ls rest v w x y (went_none false s ls v w st (λ z. absurd (let z' : false ≡ true = z in cc)))

-- and where nothing changed
pub ran_unchanged : (s : Scripted) (ls rest : List ScriptLine) (v w : TaskValue) (x y : List AskedLine) → v.version ≤ length v.journal → w ≡ v
    → Ran true s ls rest v w x y
ran_unchanged s ls rest v w x y top e =
    ran_stopped s ls rest v w x y (subst (λ (u : TaskValue). Stays v u) (sym e) (stays_self v top))

-- one call was made
pub went_one : (full : Bool) (s : Scripted) (l : ScriptLine) (ls : List ScriptLine) (v w : TaskValue) (d : Deed)
    → Does v w (batches_in (d ∷ [])) (entries_in (d ∷ [])) → w.made ≡ v.made + 1 → FitsLine s v.number (v.made + 1) d l → IsTaskless full d
    → IsAt w.journal w.history v.number d → by_version v.version d w.version → by_place (length v.history) d (length w.history)
    → (full ≡ true → LoadsOnce v w) → WentOver full s (l ∷ ls) ls v w
went_one full s l ls v w d does_ made fits plain at fresh placed once = let g = does_.grows in record {
  run = does d ends;
  table = does_.table;
  number = does_.number;
  made = made;
  fits = (fits, refl);
  kids = (plain, tt);
  ended = does_.ended ∙ sym (append-nil v.ended);
  apart = λ k h t. elim t [ ];
  distinct = tt;
  journal = g.journal;
  history = g.history;
  own_batches = g.own_batches;
  own_entries = g.own_entries;
  at = (at, tt);
  batches = g.batches;
  entries = g.entries;
  others = tt;
  fresh = (w.version, fresh, le_refl w.version);
  placed = (length w.history, placed, le_refl (length w.history));
  within = does_.within;
  loads = once;
  others_load = λ _. others_none does_.ended_loads;
}

-- a line that became an entry and made no task
pub went_entry : (full : Bool) (s : Scripted) (l : ScriptLine) (ls : List ScriptLine) (v w : TaskValue) (call : Call) (r : Entered)
    → IsCallOfLine s.labels s.names l call → Calls v w call r → child_of r.reply ≡ None → (full ≡ true → is_fork_call call ≡ false)
    → (full ≡ true → LoadsOnce v w) → WentOver full s (l ∷ ls) ls v w
went_entry full s l ls v w call r line c none other once =
    let e = c.enters in
    let x : Entry = told_entry v.number (v.made + 1) call r.version r.checks r.reply in
    went_one full s l ls v w (entered x (length e.before)) c.does c.made (refl, refl, line) (none, other)
    (stands_last w.history e.before x e.is)
    (let a = c.does.later in let b = c.now in (omega arith, omega arith))
    (let a = begins_length e.more in let b = ap length e.is in let d = length-append e.before (x ∷ []) in (omega arith, omega arith)) once

-- no call but a fork makes a task
no_child : (v w : TaskValue) (call : Call) (r : Entered) → is_fork_call call ≡ false → Calls v w call r → child_of r.reply ≡ None
no_child v w call r plain c =
    let e = c.enters in
    let before = replay_of e.looked e.before in
    ap child_of e.reply ∙ none (child_of (step before (ruling e.looked) v.number call).reply) (length before.tasks)
    (length (step before (ruling e.looked) v.number call).world.tasks)
    (subst (λ (b : Bool). MakesNext (length before.tasks) b (child_of (step before (ruling e.looked) v.number call).reply)
    (length (step before (ruling e.looked) v.number call).world.tasks)) plain (step_makes before (ruling e.looked) v.number call)) where
      none : (o : Option ℕ) (n m : ℕ) → MakesNext n false o m → o ≡ None
      none None n m h = refl
      none (Some k) n m h = absurd (let h' : false ≡ true = h.3 in cc)

-- what a task had seen before a call
pub sees_before : (v w : TaskValue) → Begins w.journal v.journal → Begins w.history v.history → IsSound v
    → SeesTask w.journal w.history v.number (length v.history)
    × (creds_after w.journal w.history v.number (length v.history) ≡ v.creds)
sees_before v w j h s =
    let all : take (length v.history) v.history ≡ v.history = take_all (length v.history) v.history (le_refl (length v.history)) in
    let now : SeesTask v.journal v.history v.number (length v.history) = record {
      long = le_refl (length v.history);
      versions = subst (AllByRecursion (λ e. e.version ≤ length v.journal)) (sym all) s.seen.versions;
      there = subst (λ (l : List Entry). v.number < length (replay_of v.journal l).tasks) (sym all) s.alive;
    } in (
      sees_grow v.journal w.journal j v.history w.history h v.number (length v.history) now,
      creds_grow v.journal w.journal j v.history w.history h v.number (length v.history) now
          ∙ (ap (λ (l : List Entry). creds_of (replay_of v.journal l) v.number) all ∙ sym s.creds),
    )

-- a line that became a batch
pub went_batch : (full : Bool) (s : Scripted) (l : ScriptLine) (ls : List ScriptLine) (v w : TaskValue) (ops : List RuleOp) (version : ℕ)
    → v.version ≤ length v.journal → IsSound v → IsBatchOfLine s.labels l ops → Wrote v w ops version → LoadsOnce v w
    → WentOver full s (l ∷ ls) ls v w
went_batch full s l ls v w ops version top sound line c once =
    let p = c.publishes in
    let b : Batch = batch_of v.number (v.made + 1) ops in
    let n : ℕ = length p.before in
    let g = c.does.grows in
    let sees = sees_before v w g.journal g.history sound in
    let long : length w.journal ≡ n + 1 = ap length p.is ∙ length-append p.before (b ∷ []) in
    let below = begins_length p.more in
    let rule : version_of w.journal n ≡ ruling p.before = ap ruling
    (ap (take n) p.is ∙ (take-append-le n p.before (b ∷ []) (le_refl n) ∙ take_all n p.before (le_refl n))) in
    went_one full s l ls v w (batched n b (length v.history)) c.does c.made (refl, refl, line) tt
    (stands_last w.journal p.before b p.is, sees.0, (λ i. is_effective (sees.1 i) Cap.MacAdmin (rule i)) ∙ p.effective)
    (let y = c.whole in (omega arith, omega arith)) (le_refl (length v.history), begins_length g.history) (λ _. once)

abbrev pub line_of : TaskValue → ℕ → AskedWhat → AskedLine
line_of v version what = record { task = v.number; seq = v.made + 1; version = version; what = what }

seen_now : (a b : ℕ) (what : AskedWhat) → a ≤ b → IsSeen what a a b
seen_now a b (AskedWhat.Ask verdict) l = tt
seen_now a b (AskedWhat.Refused file fault) l = (le_refl a, l)
seen_now a b (AskedWhat.Wait pid) l = tt

-- a line that became a line of neither kind
pub went_answer : (full : Bool) (s : Scripted) (l : ScriptLine) (ls : List ScriptLine) (v w : TaskValue) (version : ℕ) (what : AskedWhat)
    → Does v w [] [] → w.made ≡ v.made + 1 → version ≡ w.version → IsAskedOfLine s.labels s.names l what → IsNoWait what
    → IsTrueAnswer w.journal w.history v.number (length v.history) version what → LoadsOnce v w → WentOver full s (l ∷ ls) ls v w
went_answer full s l ls v w version what d made now line plain answer once =
    went_one full s l ls v w (answered (line_of v version what) (length v.history)) d made (refl, refl, line) plain
    (let x = d.within in omega arith, answer)
    (let x = d.later in (omega arith, omega arith))
    (begins_length d.grows.history, seen_now (length v.history) (length w.history) what (begins_length d.grows.history))
    (λ _. once)

-- lines that came to be: an entry
pub ran_entry : (s : Scripted) (l : ScriptLine) (ls : List ScriptLine) (v w : TaskValue) (x : List AskedLine) (call : Call) (r : Entered)
    → IsCallOfLine s.labels s.names l call → is_fork_call call ≡ false → Calls v w call r → LoadsOnce v w
    → Ran false s (l ∷ ls) ls v w x x
unfolding went_entry went_one
ran_entry s l ls v w x call r line plain c once = record {
  left = ls;
  went = went_entry true s l ls v w call r line c (no_child v w call r plain c) (λ _. plain) (λ _. once);
  on = λ _. refl;
  asked = λ _. sym (append-nil x);
}

-- a batch
pub ran_batch : (s : Scripted) (l : ScriptLine) (ls : List ScriptLine) (v w : TaskValue) (x : List AskedLine) (ops : List RuleOp) (version : ℕ)
    → v.version ≤ length v.journal → IsSound v → IsBatchOfLine s.labels l ops → Wrote v w ops version → LoadsOnce v w
    → Ran false s (l ∷ ls) ls v w x x
unfolding went_batch went_one
ran_batch s l ls v w x ops version top sound line c once = record {
  left = ls;
  went = went_batch true s l ls v w ops version top sound line c once;
  on = λ _. refl;
  asked = λ _. sym (append-nil x);
}

-- and a line of neither kind, which there was memory for or not
pub ran_answer : (b : Bool) (s : Scripted) (l : ScriptLine) (ls : List ScriptLine) (v w : TaskValue) (x y : List AskedLine) (version : ℕ)
    (what : AskedWhat) → Does v w [] [] → w.made ≡ v.made + 1 → version ≡ w.version → IsAskedOfLine s.labels s.names l what → IsNoWait what
    → IsTrueAnswer w.journal w.history v.number (length v.history) version what → OnFalse b (y ≡ x ++ line_of v version what ∷ [])
    → LoadsOnce v w → Ran b s (l ∷ ls) ls v w x y
unfolding went_answer went_one
ran_answer true s l ls v w x y version what d made now line plain answer more once =
    stopped true s (l ∷ ls) ls ls v w x y (went_answer true s l ls v w version what d made now line plain answer once)
ran_answer false s l ls v w x y version what d made now line plain answer more once = record {
  left = ls;
  went = went_answer true s l ls v w version what d made now line plain answer once;
  on = λ _. refl;
  asked = λ _. more;
}
