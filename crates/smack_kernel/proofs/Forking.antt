-- What a turn with a fork comes to.
use Rattle.std.proofs.Common.{◌≡◌, ℕ, ◌+◌, ◌<◌, ◌≤◌, true, false, List, [], ◌∷◌, ◌++◌, ⊎_elim, length, Option, Some, None, refl, sym, ap, subst, ◌∙◌, arith, append-nil, length-append}
use Rattle.std.specs.Prelude.{Result, Ok, is_some}
use Rattle.smack_base.specs.declared.ids.Pid.{Pid}
use Rattle.rules_spec.specs.Creds.{Creds}
use Rattle.rules_spec.specs.Rulings.{Ruling, ruling}
use Rattle.rules_spec.specs.declared.Batch.{Batch}
use Rattle.rules_spec.specs.declared.Verdict.{Verdict}
use Rattle.rule_fold.specs.Index.{IndexValue}
use Rattle.world_spec.specs.declared.Call.{Call}
use Rattle.world_spec.specs.declared.Call.TheVariants as Call
use Rattle.world_spec.specs.declared.tasks.TaskCall.TheVariants as TaskCall
use Rattle.world_spec.specs.declared.Entry.{Entry}
use Rattle.world_spec.specs.declared.Reply.{Reply}
use Rattle.world_spec.specs.declared.Reply.TheVariants as Reply
use Rattle.world_spec.specs.Worlds.{World, world_first, creds_of, creds_or_first, task_begun}
use Rattle.world_spec.specs.Steps.{asks, Effect, went, verdict_of, effect, stepped, step}
use Rattle.world_spec.specs.Replays.{StandsOver, replay_of}
use Rattle.world_laws.proofs.Standing.{longer_stands}
use Rattle.smack_world.specs.Stepping.{WorldValue}
use Rattle.live_table.specs.declared.view.View.{View}
use Rattle.live_table.specs.Lists.{Begins, Has, here, rest_of}
use Rattle.live_table.specs.Batches.{batches_by}
use Rattle.live_table.specs.Machines.{made, last_version, entries_by}
use Rattle.live_table.specs.Plays.{MayGive, given, notified, knowing, loads_of, notice_of, enrolled}
use Rattle.live_table.specs.Seats.{SeatValue, Turns, Hears as HearsView}
use Rattle.live_table.proofs.Lists.{begins_self, begins_length}
use Rattle.world_spec.specs.Replies.{child_of}
use Rattle.smack_kernel.specs.Histories.{world_means}
use Rattle.smack_kernel.specs.Indexes.{StandsAt}
use Rattle.smack_kernel.specs.Growth.{told_entry}
use Rattle.smack_kernel.specs.declared.turns.Entered.{Entered}
use Rattle.smack_kernel.specs.declared.turns.Turned.{Turned}
use Rattle.smack_kernel.specs.declared.turns.Turned.TheVariants as Turned
use Rattle.smack_kernel.specs.Tasks.{TaskValue, AreSeen, IsTaskState, Calls, Starts, task_of, most_calls}
use Rattle.smack_kernel.specs.Turns.{IsMade}
use Rattle.smack_kernel.specs.Forks.{task_made, IsBranched, MayFork, Drew, Forks}
use Rattle.smack_kernel.specs.Answers.{IsForked}
use Rattle.smack_kernel.specs.declared.kernel.Called.TheVariants as Called
use Rattle.smack_kernel.proofs.Indexes.{stands_longer, stands_within}
use Rattle.smack_kernel.proofs.Worlds.{IsLive, Stops, MakesNext, are_seen, stop_child, went_stops, step_makes, replay_made}
use Rattle.smack_kernel.proofs.OwnCreds.{child_has, fork_keeps}
use Rattle.smack_kernel.proofs.Turning.{trail_made, turn_live, turn_numbers, turn_enters, turn_calls, task_given, alive_made}

-- a child was drawn, and the seat heard of it
pub drew_all : (v v1 note c0 c1 d w : View Entry) (n n2 number : ℕ) → v.turn ≡ true → v.noticed ≡ false
    → v1 ≡ notified (knowing n v) → note ≡ notice_of (knowing n v) → number ≡ made world_means note.history + 1
    → c0 ≡ enrolled number note → batches_by number note.journal ≡ [] → entries_by world_means number note.history ≡ []
    → ((k : ℕ) → Has k c0.numbers → k < n2) → c1 ≡ notified (knowing n2 c0) → d ≡ notice_of (knowing n2 c0)
    → HearsView world_means v1 d w → Drew v w c1 number
drew_all v v1 note c0 c1 d w n n2 number turn quiet e1 en is ec nob noe low e2 ed h' =
    let h : HearsView world_means (notified (knowing n v)) d w =
    subst (λ (y : View Entry). HearsView world_means y d w) e1 h' in
    let cv : c0 ≡ enrolled number (notice_of (knowing n v)) = ec ∙ ap (enrolled number) en in
    let dv : d ≡ notice_of (knowing n2 (enrolled number (notice_of (knowing n v)))) =
    ed ∙ ap (λ y. notice_of (knowing n2 y)) cv in
    let c1v : c1 ≡ notified (knowing n2 (enrolled number (notice_of (knowing n v)))) =
    e2 ∙ ap (λ y. notified (knowing n2 y)) cv in
    let first : number ≡ made world_means v.history + 1 =
    is ∙ ap (λ (y : View Entry). made world_means y.history + 1) en in
    let below : number < n2 = low number (subst (λ (y : View Entry). Has number y.numbers) (sym cv) here) in
    let told : d.known ≡ n2 = ap (λ (y : View Entry). y.known) dv in
    let known = h.known in record {
      numbers = h.numbers ∙ (ap (λ (y : View Entry). v.numbers ++ y.numbers) dv ∙ append-nil v.numbers);
      turn = h.turn;
      pen = h.pen;
      noticed = h.noticed ∙ turn;
      history = ⊎_elim (λ e. e) (λ e. e ∙ ap (λ (y : View Entry). y.history) dv) h.longest;
      journal = h.journal;
      known = omega arith;
      batches = h.batches;
      is = first;
      child_numbers = ap (λ (y : View Entry). y.numbers) c1v;
      child_history = ap (λ (y : View Entry). y.history) c1v;
      child_rests = (ap (λ (y : View Entry). y.pen) c1v, ap (λ (y : View Entry). y.turn) c1v);
      child_entries = ap (λ (y : View Entry). entries_by world_means number y.history) c1v
          ∙ (sym (ap (λ (y : View Entry). entries_by world_means number y.history) en) ∙ noe);
      child_batches = ap (λ (y : View Entry). batches_by number y.journal) c1v
          ∙ (sym (ap (λ (y : View Entry). batches_by number y.journal) en) ∙ nob);
      counts = record {
        loads = h.loads;
        looks = h.looks;
        pens = h.pens;
        ended_loads = h.ended_loads
            ∙ (ap (λ (y : View Entry). v.ended_loads ++ loads_of y.numbers y.loads y.ended_loads) dv ∙ append-nil v.ended_loads);
      };
      child_counts = record {
        loads = ap (λ (y : View Entry). y.loads) c1v;
        ended_loads = ap (λ (y : View Entry). y.ended_loads) c1v;
        looks = ap (λ (y : View Entry). y.looks) c1v;
        pens = ap (λ (y : View Entry). y.pens) c1v;
      };
    }

-- the turn may be given back with the entry of a fork, after a child was drawn
pub drawn_may_give : (v u c : View Entry) (number : ℕ) (x : WorldValue) (e : Entry) → Drew v u c number → MayFork v x e
    → MayGive world_means u x (e ∷ [])
drawn_may_give v u c number x e d may = record {
  history = may.history ∙ ap (λ l. l ++ e ∷ []) (sym d.history);
  stands = subst (λ j. StandsOver j x.trail x.world) (sym d.journal.is)
      (longer_stands v.journal d.journal.rest x.trail x.world may.stands);
  entry = record {
    number = may.number;
    ended = may.ended;
    numbers = d.numbers ∙ may.numbers;
    own = may.own;
    within = let l = begins_length d.journal in let w = may.within in omega arith;
    late = subst (λ h. last_version world_means h ≤ e.version) (sym d.history) may.late;
    no_child = λ quiet. absurd (let f : true ≡ false = sym d.noticed ∙ quiet in cc);
    child = λ _.
        let same : made world_means v.history ≡ made world_means u.history = ap (made world_means) (sym d.history) in
        let known = d.known in (may.child ∙ ap (λ n. Some (n + 1)) same, omega arith);
  };
}

-- the turn was given back, and the child heard of it
pub forks_all : (v u c u1 u2 note c2 : View Entry) (number n : ℕ) (e : Entry) → Drew v u c number → u1 ≡ given u (e ∷ [])
    → u2 ≡ notified (knowing n u1) → note ≡ notice_of (knowing n u1) → HearsView world_means c note c2
    → Forks v u2 c2 number e
forks_all v u c u1 u2 note c2 number n e d e1 e2 en h =
    let all : u2 ≡ notified (knowing n (given u (e ∷ []))) = e2 ∙ ap (λ y. notified (knowing n y)) e1 in
    let nv : note ≡ notice_of (knowing n (given u (e ∷ []))) = en ∙ ap (λ y. notice_of (knowing n y)) e1 in
    let theirs : Has number c.numbers = subst (Has number) (sym d.child_numbers) here in
    let journal : u2.journal ≡ u.journal = ap (λ (y : View Entry). y.journal) all in
    let history : u2.history ≡ v.history ++ e ∷ [] = ap (λ (y : View Entry). y.history) all
    ∙ ap (λ l. l ++ e ∷ []) d.history in
    let told_history : note.history ≡ u2.history = ap (λ (y : View Entry). y.history) nv
    ∙ sym (ap (λ (y : View Entry). y.history) all) in
    let told_journal : note.journal ≡ u2.journal = ap (λ (y : View Entry). y.journal) nv ∙ sym journal in
    let longer = begins_length h.told_history in
    let long = ap length told_history in
    let one = ap length history in
    let l = length-append v.history (e ∷ []) in record {
      numbers = ap (λ (y : View Entry). y.numbers) all ∙ d.numbers;
      pen = ap (λ (y : View Entry). y.pen) all ∙ d.pen;
      turn = ap (λ (y : View Entry). y.turn) all;
      history = history;
      journal = subst (λ z. Begins z v.journal) (sym journal) d.journal;
      batches = λ k g. ap (batches_by k) journal ∙ d.batches k g;
      is = d.is;
      child_numbers = h.numbers ∙ (λ i. d.child_numbers i ++ ap (λ (y : View Entry). y.numbers) nv i);
      child_journal = subst (Begins c2.journal) told_journal h.told_journal;
      child_history = ⊎_elim (λ same. absurd (let k = ap length (same ∙ d.child_history) in omega arith))
          (λ same. same ∙ told_history) h.longest;
      child_rests = (h.pen ∙ d.child_rests.0, h.turn ∙ d.child_rests.1);
      child_entries = h.entries number theirs ∙ d.child_entries;
      child_batches = h.batches number theirs ∙ d.child_batches;
      ended_loads = ap (λ (y : View Entry). y.ended_loads) all ∙ d.counts.ended_loads;
      child_counts = record {
        loads = h.loads ∙ d.child_counts.loads;
        ended_loads = h.ended_loads
            ∙ (ap (λ (y : View Entry). c.ended_loads ++ loads_of y.numbers y.loads y.ended_loads) nv
            ∙ (append-nil c.ended_loads ∙ d.child_counts.ended_loads));
        looks = h.looks ∙ d.child_counts.looks;
        pens = h.pens ∙ d.child_counts.pens;
      };
    }

stepped_child : (w : World) (task : ℕ) (e : Effect) (checks : List Verdict) (stop : Option Reply) → Stops stop
    → (stop ≡ None → creds_of e.world (length w.tasks) ≡ creds_of w task) → (k : ℕ)
    → child_of (stepped w e checks stop).reply ≡ Some k
    → creds_of (stepped w e checks stop).world (length w.tasks) ≡ creds_of w task
stepped_child w task e checks (Some reply) stops goes k is =
    absurd (let none : ◌≡◌ {A = Option ℕ} None (Some k) = sym (stop_child reply stops) ∙ is in cc)
stepped_child w task e checks None stops goes k is = goes refl

-- the child of a fork has its parent's credentials
fork_child : (w : World) (version : Ruling) (task : ℕ) (pid : Pid) (k : ℕ)
    → child_of (step w version task (Call.Task (TaskCall.Fork pid))).reply ≡ Some k
    → creds_of (step w version task (Call.Task (TaskCall.Fork pid))).world (length w.tasks) ≡ creds_of w task
fork_child w version task pid k is =
    let parts = asks w version task (Call.Task (TaskCall.Fork pid)) in
    let went_by = went (verdict_of w version) parts in
    stepped_child w task (effect w version task (Call.Task (TaskCall.Fork pid))) went_by.checks went_by.stop
    (went_stops (verdict_of w version) parts)
    (λ _. ap creds_or_first (child_has w.tasks (task_begun pid (creds_of w task)))) k is

over_longer : {j j' : List Batch} (m : WorldValue) → Begins j' j → StandsOver j m.trail m.world → StandsOver j' m.trail m.world
over_longer {j} {j'} m b over = subst (λ z. StandsOver z m.trail m.world) (sym b.is)
    (longer_stands j b.rest m.trail m.world over)

-- a call that made a task is an entry
pub some_made : (q : Turned) → is_some (task_made q) ≡ true
    → (r : Entered) × (q ≡ Turned.Entry r) × ((k : ℕ) × (child_of r.reply ≡ Some k))
some_made (Turned.Entry r) is = (r, refl, some_of (child_of r.reply) is)
  where
    some_of : (o : Option ℕ) → is_some o ≡ true → (k : ℕ) × (o ≡ Some k)
    some_of None is = absurd (let e : false ≡ true = is in cc)
    some_of (Some k) is = (k, refl)
some_made (Turned.TrailFull back) is = absurd (let e : false ≡ true = is in cc)

pub none_of : (o : Option ℕ) → is_some o ≡ false → o ≡ None
none_of None is = refl
none_of (Some k) is = absurd (let e : true ≡ false = is in cc)

-- a task takes the turn and its fork makes a task
module _ {s : SeatValue Entry} {w : View Entry} {rules : IndexValue} {rows : ℕ} {creds : Creds} (task : IsTaskState s rules rows creds)
    (x m' : WorldValue) (t : Turns world_means s.view w x) (calls : ℕ) (pid : Pid) (r : Entered)
    (is_made : IsMade x m' (ruling w.journal) s.number (calls + 1) (Call.Task (TaskCall.Fork pid)) (Turned.Entry r)) (k : ℕ)
    (is_child : child_of r.reply ≡ Some k) (stands : StandsOver w.journal m'.trail m'.world) where
  abbrev pub entry : Entry
  entry = told_entry s.number (calls + 1) (Call.Task (TaskCall.Fork pid)) r.version r.checks r.reply

  replies : child_of (step x.world (ruling w.journal) s.number (Call.Task (TaskCall.Fork pid))).reply ≡ Some k
  replies = ap child_of (sym is_made.0.reply_is) ∙ is_child

  next : MakesNext (length x.world.tasks) true (Some k) (length m'.world.tasks)
  next = subst (λ (z : Option ℕ × ℕ). MakesNext (length x.world.tasks) true z.0 z.1)
      (λ i. (replies i, ap (λ (z : WorldValue). length z.world.tasks) (sym is_made.0.is) i))
      (step_makes x.world (ruling w.journal) s.number (Call.Task (TaskCall.Fork pid)))

  count : length x.world.tasks ≡ made world_means w.history + 1
  count =
      let all = replay_made w.journal world_first x.trail t.stands.steps in
      let world = ap (λ (z : World). length z.tasks) t.stands.world in
      let met = ap (made world_means) t.is in
      omega arith

  trail : m'.trail ≡ w.history ++ entry ∷ []
  trail =
      let q : Result Turned ℕ = Ok (Turned.Entry r) in
      trail_made w.journal x m' s.number (calls + 1) (Call.Task (TaskCall.Fork pid)) q is_made tt ∙ ap (λ l. l ++ entry ∷ []) t.is

  pub may_fork : MayFork w m' entry
  may_fork = record {
    history = trail;
    stands = stands;
    number = s.number;
    ended = rest_of s.view.numbers;
    numbers = turn_numbers task w x t;
    own = refl;
    within = let now = is_made.1 in omega arith;
    late = let now = is_made.1 in let recent = t.recent in omega arith;
    child = is_child ∙ ap Some (next.0 ∙ count);
    few = let low = next.2 in let n = count in omega arith;
  }

  module _ {s3 c : SeatValue Entry} {rules' : IndexValue} {rows' : ℕ} {creds' creds_c : Creds}
      (f : Forks w s3.view c.view c.number entry) (table : s3.table ≡ s.table) (number : s3.number ≡ s.number)
      (child_table : c.table ≡ s3.table) (is_creds : creds' ≡ creds_of m'.world s.number)
      (index : StandsAt rules' rows' w.journal) (later : rules.version ≤ rules'.version)
      (whole : rules'.version ≡ length w.journal) (inherited : creds_c ≡ creds) where
    seen_numbers : w.numbers ≡ s.view.numbers
    seen_numbers = ap (λ (z : View Entry). z.numbers) t.view

    over : StandsOver s3.view.journal m'.trail m'.world
    over = over_longer m' f.journal stands

    history : m'.trail ≡ s3.view.history
    history = trail ∙ sym f.history

    live : IsLive m'.world s.number creds'
    live = (
      (let q : Result Turned ℕ = Ok (Turned.Entry r) in
          alive_made w.journal x m' s.number (calls + 1) (Call.Task (TaskCall.Fork pid)) q is_made tt s.number
          (turn_live task w x t).0),
      is_creds,
    )

    pub task_forked : IsTaskState s3 rules' rows' creds'
    task_forked = task_given m' task number (f.numbers ∙ seen_numbers)
        (f.pen ∙ (ap (λ (z : View Entry). z.pen) t.view ∙ task.rests.0), f.turn) (stands_longer f.journal index) over history
        live

    pub calls_forked : Calls (task_of s rules calls creds) (task_of s3 rules' (calls + 1) creds') (Call.Task (TaskCall.Fork pid)) r
    calls_forked = turn_calls task task_forked calls table number (f.numbers ∙ seen_numbers)
        (f.ended_loads ∙ ap (λ (z : View Entry). z.ended_loads) t.view) later (Call.Task (TaskCall.Fork pid)) r
        (is_made.1 ∙ sym whole)
        (turn_enters task w x t s3.view entry r.place refl f.history f.journal
        (λ q h. f.batches q (subst (Has q) (sym seen_numbers) h)) is_made.0.room is_made.0.at is_made.1 is_made.0.checks_are is_made.0.reply_is)

    -- the parent's credentials are as before
    creds_kept : creds' ≡ creds
    creds_kept =
        let l = turn_live task w x t in
        is_creds ∙ (ap (λ (z : WorldValue). creds_of z.world s.number) is_made.0.is
        ∙ (fork_keeps x.world (ruling w.journal) s.number pid l.0 ∙ sym l.1))

    child_over : StandsOver c.view.journal m'.trail m'.world
    child_over = over_longer m' f.child_journal over

    child_met : m'.trail ≡ c.view.history
    child_met = history ∙ sym f.child_history

    child_number : c.number ≡ length x.world.tasks
    child_number = f.is ∙ sym count

    child_live : IsLive m'.world c.number creds_c
    child_live = (
      (let n = child_number in let m = next.1 in omega arith),
      inherited ∙ ((turn_live task w x t).1
          ∙ (sym (fork_child x.world (ruling w.journal) s.number pid k replies)
          ∙ (λ i. creds_of (sym (ap (λ (z : WorldValue). z.world) is_made.0.is) i) (sym child_number i)))),
    )

    pub child_task : IsTaskState c rules' rows' creds_c
    child_task =
        let live = subst (λ z. IsLive z c.number creds_c)
        (child_over.world ∙ ap (replay_of c.view.journal) child_met) child_live in record {
          rests = f.child_rests;
          stands = stands_longer f.child_journal (stands_longer f.journal index);
          apart = λ h. elim (subst (Has c.number) (ap rest_of f.child_numbers) h) [ ];
          numbered = f.child_numbers ∙ (λ i. c.number ∷ sym (ap rest_of f.child_numbers) i);
          low = let n = child_number in let few = next.2 in omega arith;
          seen = subst (AreSeen c.view.journal) child_met (are_seen child_over);
          alive = live.0;
          is_creds = live.1;
        }

    pub child_starts : (made_w : ℕ) → Starts (task_of s3 rules' made_w creds') (task_of c rules' 0 creds_c) c.number
    child_starts made_w = record {
      table = child_table;
      is_number = refl;
      made = refl;
      version = refl;
      creds = inherited ∙ sym creds_kept;
      ended = ap rest_of f.child_numbers;
      journal = f.child_journal;
      history = subst (λ z. Begins z s3.view.history) (sym f.child_history) (begins_self s3.view.history);
      batches = f.child_batches;
      entries = f.child_entries;
      within = stands_within child_task.stands;
      loads = f.child_counts.loads;
      ended_loads = f.child_counts.ended_loads;
      looks = f.child_counts.looks;
      pens = f.child_counts.pens;
    }

    pub child_named : child_of r.reply ≡ Some c.number
    child_named = is_child ∙ ap Some (next.0 ∙ sym child_number)

child_reply : (reply : Reply) (n : ℕ) → child_of reply ≡ Some n → reply ≡ Reply.Child n
child_reply Reply.Ok n is = absurd (let e : ◌≡◌ {A = Option ℕ} None (Some n) = is in cc)
child_reply (Reply.Child k) n is = let same : k ≡ n = cc in ap Reply.Child same
child_reply (Reply.Signal sig) n is = absurd (let e : ◌≡◌ {A = Option ℕ} None (Some n) = is in cc)
child_reply (Reply.Names count names) n is = absurd (let e : ◌≡◌ {A = Option ℕ} None (Some n) = is in cc)
child_reply (Reply.Denied case) n is = absurd (let e : ◌≡◌ {A = Option ℕ} None (Some n) = is in cc)
child_reply (Reply.Refused why) n is = absurd (let e : ◌≡◌ {A = Option ℕ} None (Some n) = is in cc)

-- the child of a fork that is counted
counted_starts : (w c : TaskValue) (n : ℕ) → Starts w c c.number → Starts (record w { made = n }) c c.number
counted_starts w c n s = record {
  table = s.table;
  is_number = s.is_number;
  made = s.made;
  version = s.version;
  creds = s.creds;
  ended = s.ended;
  journal = s.journal;
  history = s.history;
  batches = s.batches;
  entries = s.entries;
  within = s.within;
  loads = s.loads;
  ended_loads = s.ended_loads;
  looks = s.looks;
  pens = s.pens;
}

-- what a fork comes to, once it is counted
pub forked_entry : (v w : TaskValue) (pid : Pid) (r : Entered) (child : Option TaskValue) → v.made < most_calls
    → IsBranched v w pid (Turned.Entry r) child
    → IsForked v (record w { made = v.made + 1 }) pid (Called.Entry r) child
forked_entry v w pid r None few b = (few, b.0, b.1)
forked_entry v w pid r (Some c) few b = (few, b.0, child_reply r.reply c.number b.1, counted_starts w c (v.made + 1) b.2)

pub forked_full : (v w : TaskValue) (pid : Pid) (call : Call) (child : Option TaskValue) → v.made < most_calls
    → IsBranched v w pid (Turned.TrailFull call) child → IsForked v w pid (Called.TrailFull call) child
forked_full v w pid call None few b = ((few, b.0.0, b.0.2), b.0.1)
forked_full v w pid call (Some c) few b = absurd (let e : ◌≡◌ {A = Option ℕ} None (Some c.number) = b.1 in cc)
