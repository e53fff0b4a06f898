-- What a turn comes to.
use Rattle.std.proofs.Common.{◌≡◌, ℕ, ◌+◌, ◌<◌, ◌≤◌, true, false, List, [], ◌∷◌, ◌++◌, length, None, refl, sym, ap, subst, ◌∙◌, arith, append-nil, length-append}
use Rattle.std.specs.Prelude.{Result, Ok, Err, IfOk, IfErr, OnErr, OnOk}
use Rattle.rules_spec.specs.declared.Batch.{Batch}
use Rattle.rules_spec.specs.Creds.{Creds}
use Rattle.rules_spec.specs.Rulings.{ruling}
use Rattle.rule_fold.specs.Index.{IndexValue}
use Rattle.world_spec.specs.declared.Call.{Call}
use Rattle.world_spec.specs.declared.Entry.{Entry}
use Rattle.world_spec.specs.Worlds.{creds_of}
use Rattle.world_spec.specs.Steps.{step}
use Rattle.world_spec.specs.Replays.{StandsOver, replay_of}
use Rattle.smack_world.specs.Stepping.{WorldValue, most_entries}
use Rattle.smack_world.specs.Stepping as stepping
use Rattle.live_table.specs.declared.view.View.{View}
use Rattle.live_table.specs.Lists.{Begins, Has, here, there, rest_of}
use Rattle.live_table.specs.Batches.{batches_by}
use Rattle.live_table.specs.Machines.{entries_by}
use Rattle.live_table.specs.Plays.{MayEnter, MayGive, at_turn, given}
use Rattle.live_table.specs.Seats.{SeatValue, Rests, Turns}
use Rattle.live_table.proofs.Lists.{begins_self, begins_more, begins_trans, those-append, those_none, those_all}
use Rattle.world_spec.specs.Replies.{child_of}
use Rattle.smack_kernel.specs.Histories.{world_means}
use Rattle.smack_kernel.specs.Indexes.{StandsAt}
use Rattle.smack_kernel.specs.Growth.{Grows, Enters, told_entry}
use Rattle.smack_kernel.specs.declared.turns.Entered.{Entered}
use Rattle.smack_kernel.specs.declared.turns.Turned.{Turned}
use Rattle.smack_kernel.specs.declared.turns.Turned.TheVariants as Turned
use Rattle.smack_kernel.specs.Tasks.{AreSeen, IsTaskState, Stays, Calls, task_of}
use Rattle.smack_kernel.specs.Turns.{IsMade, IsTurned}
use Rattle.smack_kernel.specs.Forks.{task_made}
use Rattle.smack_kernel.specs.Answers.{is_fork_call}
use Rattle.smack_kernel.proofs.Indexes.{stands_within}
use Rattle.smack_kernel.proofs.Growing.{grows_by}
use Rattle.smack_kernel.proofs.Worlds.{IsLive, are_seen, step_makes, next_plain, step_alive}
use Rattle.smack_kernel.proofs.Tasks.{still_live, task_same}

-- what came of a call, with the call where there is no memory
abbrev pub Outcome : Type 0 → Type 0
Outcome E = Result Turned E

-- the entries that a call made
abbrev pub entries_made : {E : Type 0} → ℕ → ℕ → Call → Outcome E → List Entry
entries_made task seq call (Ok (Turned.Entry r)) = told_entry task seq call r.version r.checks r.reply ∷ []
entries_made task seq call (Ok (Turned.TrailFull back)) = []
entries_made task seq call (Err e) = []

-- what a call makes of a world that stands over a journal
module _ (journal : List Batch) (m m' : WorldValue) (task seq : ℕ) (call : Call) where
  made_entry : (r : Entered) → IsMade m m' (ruling journal) task seq call (Turned.Entry r)
      → told_entry task seq call r.version r.checks r.reply ≡ stepping.entry_of m (ruling journal) task seq call
  made_entry r h =
      let stepped = h.0 in
      λ i. record { task = task; seq = seq; call = call; version = h.1 i; checks = stepped.checks_are i; reply = stepped.reply_is i }

  pub trail_made : {E : Type 0} (r : Outcome E) → IfOk r (IsMade m m' (ruling journal) task seq call) → OnErr r (m' ≡ m)
      → m'.trail ≡ m.trail ++ entries_made task seq call r
  trail_made (Ok (Turned.Entry r)) h none =
      ap (λ (z : WorldValue). z.trail) h.0.is ∙ ap (λ e. m.trail ++ e ∷ []) (sym (made_entry r h))
  trail_made (Ok (Turned.TrailFull back)) h none = ap (λ (z : WorldValue). z.trail) h.1 ∙ sym (append-nil m.trail)
  trail_made (Err e) h none = ap (λ (z : WorldValue). z.trail) none ∙ sym (append-nil m.trail)

  pub alive_made : {E : Type 0} (r : Outcome E) → IfOk r (IsMade m m' (ruling journal) task seq call) → OnErr r (m' ≡ m) → (k : ℕ)
      → k < length m.world.tasks → k < length m'.world.tasks
  alive_made (Ok (Turned.Entry r)) h none k low = subst (λ (z : WorldValue). k < length z.world.tasks) (sym h.0.is)
      (step_alive m.world (ruling journal) task call k low)
  alive_made (Ok (Turned.TrailFull back)) h none k low =
      subst (λ (z : WorldValue). k < length z.world.tasks) (sym h.1) low
  alive_made (Err e) h none k low = subst (λ (z : WorldValue). k < length z.world.tasks) (sym none) low

  -- a call that is no fork makes no task
  none_made : (r : Entered) → IsMade m m' (ruling journal) task seq call (Turned.Entry r) → is_fork_call call ≡ false
      → child_of r.reply ≡ None
  none_made r h plain = ap child_of h.0.reply_is ∙ next_plain _ _ _ _ (step_makes m.world (ruling journal) task call) plain

  pub plain_made : {E : Type 0} (r : Outcome E) → IfOk r (IsMade m m' (ruling journal) task seq call)
      → is_fork_call call ≡ false → IfOk r (λ q. task_made q ≡ None)
  plain_made (Ok (Turned.Entry r)) h plain = none_made r h plain
  plain_made (Ok (Turned.TrailFull back)) h plain = refl
  plain_made (Err e) h plain = tt

-- a task takes the turn: it then has this view, and the machine is the world x
module _ {s : SeatValue Entry} {rules : IndexValue} {rows : ℕ} {creds : Creds} (task : IsTaskState s rules rows creds)
    (w : View Entry) (x : WorldValue) (t : Turns world_means s.view w x) where
  mine : Has s.number s.view.numbers
  mine = subst (Has s.number) (sym task.numbered) here

  theirs : (k : ℕ) → Has k (rest_of s.view.numbers) → Has k s.view.numbers
  theirs k h = subst (Has k) (sym task.numbered) (there h)

  pub world_is : x.world ≡ replay_of w.journal w.history
  world_is = t.stands.world ∙ ap (replay_of w.journal) t.is

  -- the machine has the task, with its credentials
  pub turn_live : IsLive x.world s.number creds
  turn_live =
      let seen = subst (AreSeen w.journal) t.is (are_seen t.stands) in
      subst (λ z. IsLive z s.number creds) (sym world_is)
      (still_live task (record { table = s.table; number = s.number; view = w }) seen t.journal t.history
      (t.entries s.number mine))

  pub turn_numbers : w.numbers ≡ s.number ∷ rest_of s.view.numbers
  turn_numbers = ap (λ (z : View Entry). z.numbers) t.view ∙ task.numbered

  -- what has been seen where no entry was made
  pub turn_grows : (w' : View Entry) → w'.history ≡ w.history → Begins w'.journal w.journal
      → ((k : ℕ) → Has k s.view.numbers → batches_by k w'.journal ≡ batches_by k w.journal)
      → Grows s.number (rest_of s.view.numbers) s.view.journal w'.journal s.view.history w'.history [] []
  turn_grows w' history more same = grows_by task.numbered (begins_trans more t.journal)
      (subst (λ h. Begins h s.view.history) (sym history) t.history) (λ k h. same k h ∙ t.batches k h)
      (λ k h. ap (entries_by world_means k) history ∙ t.entries k h)

  -- what has been seen where this entry was made, after which the journal may have grown
  pub turn_enters : (w' : View Entry) (e : Entry) (place : ℕ) → e.task ≡ s.number → w'.history ≡ w.history ++ e ∷ []
      → Begins w'.journal w.journal
      → ((k : ℕ) → Has k s.view.numbers → batches_by k w'.journal ≡ batches_by k w.journal)
      → length x.trail < most_entries → place ≡ length x.trail + 1 → e.version ≡ length w.journal
      → e.checks ≡ (step x.world (ruling w.journal) e.task e.call).checks
      → e.reply ≡ (step x.world (ruling w.journal) e.task e.call).reply
      → Enters s.number (rest_of s.view.numbers) s.view.journal w'.journal s.view.history w'.history e place
  turn_enters w' e place own history more same room at now checks reply =
      let number : Entry → ℕ = λ y. y.task in
      let one : entries_by world_means s.number (e ∷ []) ≡ e ∷ [] =
      those_all number s.number (e ∷ []) (λ y h. ap number (only_one h) ∙ own) in
      let grows = turn_grows (record w' { history = w.history }) refl more same in record {
        before = w.history;
        is = history;
        room = let n = ap length t.is in omega arith;
        more = t.history;
        own_before = t.entries s.number mine;
        grows = record {
          journal = grows.journal;
          history = subst (λ h. Begins h s.view.history) (sym history) (begins_more (e ∷ []) t.history);
          own_batches = grows.own_batches;
          own_entries = ap (entries_by world_means s.number) history
              ∙ (those-append number s.number w.history (e ∷ []) ∙ (λ i. t.entries s.number mine i ++ one i));
          batches = grows.batches;
          entries = λ k h. ap (entries_by world_means k) history ∙ (those-append number k w.history (e ∷ [])
              ∙ ((λ i. t.entries k (theirs k h) i ++ others k h i) ∙ append-nil (entries_by world_means k s.view.history)));
        };
        at = let l = length-append w.history (e ∷ []) in let h = ap length history in let n = ap length t.is in omega arith;
        looked = w.journal;
        seen = more;
        all = t.journal;
        now = now;
        checks = checks ∙ ap (λ z. (step z (ruling w.journal) e.task e.call).checks) world_is;
        reply = reply ∙ ap (λ z. (step z (ruling w.journal) e.task e.call).reply) world_is;
        recent = let r = t.recent in omega arith;
      }
    where
      only_one : {y : Entry} → Has y (e ∷ []) → y ≡ e
      only_one here = refl
      only_one (there h) = elim h [ ]

      others : (k : ℕ) → Has k (rest_of s.view.numbers) → entries_by world_means k (e ∷ []) ≡ []
      others k h = those_none (λ (y : Entry). y.task) k (e ∷ [])
          (λ y i same. task.apart (subst (λ z. Has z (rest_of s.view.numbers))
          (sym same ∙ (ap (λ (y : Entry). y.task) (only_one i) ∙ own)) h))

  -- the turn may be given back with the entry of a call that made no task, or with none
  pub may_give : {E : Type 0} (m' : WorldValue) (seq : ℕ) (call : Call) (r : Outcome E)
      → IfOk r (λ q. task_made q ≡ None)
      → IfOk r (IsMade x m' (ruling w.journal) s.number seq call) → OnErr r (m' ≡ x)
      → StandsOver w.journal m'.trail m'.world → MayGive world_means w m' (entries_made s.number seq call r)
  may_give {E} m' seq call r childless made none stands = record {
    history = trail_made w.journal x m' s.number seq call r made none ∙ ap (λ l. l ++ entries_made s.number seq call r) t.is;
    stands = stands;
    entry = entry r childless made;
  }
    where
      quiet : w.noticed ≡ false
      quiet = ap (λ (z : View Entry). z.noticed) t.view

      entry : (r : Outcome E) → IfOk r (λ q. task_made q ≡ None) → IfOk r (IsMade x m' (ruling w.journal) s.number seq call)
          → Rattle.live_table.specs.Plays.IsTurn world_means w m' (entries_made s.number seq call r)
      entry (Ok (Turned.Entry r)) childless made = record {
        number = s.number;
        ended = rest_of s.view.numbers;
        numbers = turn_numbers;
        own = refl;
        within = let now = made.1 in omega arith;
        late = let now = made.1 in let recent = t.recent in omega arith;
        no_child = λ _. childless;
        child = λ e. absurd (let f : true ≡ false = sym e ∙ quiet in cc);
      }
      entry (Ok (Turned.TrailFull back)) childless made = quiet
      entry (Err e) childless made = quiet

-- what a seat is that gave the turn back with a world that stands for what it has seen
pub task_given : {s s' : SeatValue Entry} {rules rules' : IndexValue} {rows rows' : ℕ} {creds creds' : Creds}
    (m' : WorldValue) → IsTaskState s rules rows creds → s'.number ≡ s.number → s'.view.numbers ≡ s.view.numbers → Rests s'.view
    → StandsAt rules' rows' s'.view.journal → StandsOver s'.view.journal m'.trail m'.world → m'.trail ≡ s'.view.history
    → IsLive m'.world s.number creds' → IsTaskState s' rules' rows' creds'
task_given {s} {s'} {creds' = creds'} m' task number numbers rests stands over is live =
    task_same task number numbers (rests.0 ∙ sym task.rests.0, rests.1 ∙ sym task.rests.1) stands
    (subst (AreSeen s'.view.journal) is (are_seen over))
    (subst (λ z. IsLive z s.number creds') (over.world ∙ ap (replay_of s'.view.journal) is) live)

-- What a task and its turn come to, after the call was made and the turn was given back with it.
module _ {s s' : SeatValue Entry} {rules rules' : IndexValue} {rows rows' : ℕ} {creds creds' : Creds}
    (task : IsTaskState s rules rows creds) (task' : IsTaskState s' rules' rows' creds') (made : ℕ) (table : s'.table ≡ s.table)
    (number : s'.number ≡ s.number) (numbers : s'.view.numbers ≡ s.view.numbers)
    (ended_loads : s'.view.ended_loads ≡ s.view.ended_loads) (later : rules.version ≤ rules'.version)
  where
    pub turn_stays : Grows s.number (rest_of s.view.numbers) s.view.journal s'.view.journal s.view.history s'.view.history [] []
        → creds' ≡ creds → Stays (task_of s rules made creds) (task_of s' rules' made creds')
    turn_stays grows same = record {
      does = record {
        table = table;
        number = number;
        ended = ap rest_of numbers;
        grows = grows;
        later = later;
        within = stands_within task'.stands;
        ended_loads = ended_loads;
      };
      made = refl;
      creds = same;
    }

    pub turn_calls : (call : Call) (r : Entered) → r.version ≡ rules'.version
        → Enters s.number (rest_of s.view.numbers) s.view.journal s'.view.journal s.view.history s'.view.history
        (told_entry s.number (made + 1) call r.version r.checks r.reply) r.place
        → Calls (task_of s rules made creds) (task_of s' rules' (made + 1) creds') call r
    turn_calls call r now enters = record {
      does = record {
        table = table;
        number = number;
        ended = ap rest_of numbers;
        grows = enters.grows;
        later = later;
        within = stands_within task'.stands;
        ended_loads = ended_loads;
      };
      made = refl;
      now = now;
      creds = task'.is_creds ∙ ap (creds_of (replay_of s'.view.journal s'.view.history)) number;
      enters = enters;
    }

-- the whole of a turn with a call that is no fork
module _ {E : Type 0} {s s1 s3 : SeatValue Entry} {rules rules' : IndexValue} {rows rows' : ℕ} {creds creds' : Creds}
    (task : IsTaskState s rules rows creds) (x m' : WorldValue) (t : Turns world_means s.view s1.view x) (made : ℕ) (call : Call)
    (r : Result Turned (E × Call)) (same1 : (s1.table ≡ s.table) × (s1.number ≡ s.number))
    (same3 : (s3.table ≡ s1.table) × (s3.number ≡ s1.number))
    (is_made : IfOk r (IsMade x m' (ruling s1.view.journal) s.number (made + 1) call)) (none : OnErr r (m' ≡ x))
    (stands : StandsOver s1.view.journal m'.trail m'.world) (is_creds : creds' ≡ creds_of m'.world s.number)
    (index : StandsAt rules' rows' s1.view.journal) (later : rules.version ≤ rules'.version)
    (whole : OnOk r (rules'.version ≡ length s1.view.journal))
    (is : s3.view ≡ given s1.view (entries_made s.number (made + 1) call r)) where
  numbers : s3.view.numbers ≡ s.view.numbers
  numbers = ap (λ (z : View Entry). z.numbers) is ∙ ap (λ (z : View Entry). z.numbers) t.view

  ended_loads : s3.view.ended_loads ≡ s.view.ended_loads
  ended_loads = ap (λ (z : View Entry). z.ended_loads) is ∙ ap (λ (z : View Entry). z.ended_loads) t.view

  journal : s3.view.journal ≡ s1.view.journal
  journal = ap (λ (z : View Entry). z.journal) is

  history : s3.view.history ≡ s1.view.history ++ entries_made s.number (made + 1) call r
  history = ap (λ (z : View Entry). z.history) is

  table : s3.table ≡ s.table
  table = same3.0 ∙ same1.0

  number : s3.number ≡ s.number
  number = same3.1 ∙ same1.1

  live : IsLive m'.world s.number creds'
  live = (
    alive_made s1.view.journal x m' s.number (made + 1) call r is_made none s.number (turn_live task s1.view x t).0,
    is_creds,
  )

  pub task_turned : IsTaskState s3 rules' rows' creds'
  task_turned = task_given m' task number numbers
      (ap (λ (z : View Entry). z.pen) is ∙ (ap (λ (z : View Entry). z.pen) t.view ∙ task.rests.0), ap (λ (z : View Entry). z.turn) is)
      (subst (StandsAt rules' rows') (sym journal) index)
      (subst (λ z. StandsOver z m'.trail m'.world) (sym journal) stands)
      (trail_made s1.view.journal x m' s.number (made + 1) call r is_made none
      ∙ (ap (λ z. z ++ entries_made s.number (made + 1) call r) t.is ∙ sym history))
      live

  more : Begins s3.view.journal s1.view.journal
  more = subst (λ z. Begins z s1.view.journal) (sym journal) (begins_self s1.view.journal)

  no_batch : (k : ℕ) → Has k s.view.numbers → batches_by k s3.view.journal ≡ batches_by k s1.view.journal
  no_batch k h = ap (batches_by k) journal

  -- where the world has not changed, the credentials have not
  creds_same : m' ≡ x → creds' ≡ creds
  creds_same same = is_creds ∙ (ap (λ (z : WorldValue). creds_of z.world s.number) same
      ∙ sym (turn_live task s1.view x t).1)

  stays : entries_made s.number (made + 1) call r ≡ [] → m' ≡ x
      → Stays (task_of s rules made creds) (task_of s3 rules' made creds')
  stays empty same = turn_stays task task_turned made table number numbers ended_loads later
      (turn_grows task s1.view x t s3.view (history ∙ (ap (λ z. s1.view.history ++ z) empty ∙ append-nil s1.view.history)) more no_batch)
      (creds_same same)

  pub turned_all : IfOk r (IsTurned (task_of s rules made creds) (task_of s3 rules' made creds') call)
  turned_all = by r refl
    where
      by : (q : Result Turned (E × Call)) → r ≡ q
          → IfOk q (IsTurned (task_of s rules made creds) (task_of s3 rules' made creds') call)
      by (Ok (Turned.Entry e)) is_q =
          let m = subst (λ z. IfOk z (IsMade x m' (ruling s1.view.journal) s.number (made + 1) call)) is_q is_made in
          let all = subst (λ z. OnOk z (rules'.version ≡ length s1.view.journal)) is_q whole in
          let entry = told_entry s.number (made + 1) call e.version e.checks e.reply in
          let ends : s3.view.history ≡ s1.view.history ++ entry ∷ [] =
          history ∙ ap (λ z. s1.view.history ++ entries_made s.number (made + 1) call z) is_q in
          turn_calls task task_turned made table number numbers ended_loads later call e (m.1 ∙ sym all)
          (turn_enters task s1.view x t s3.view entry e.place refl ends more no_batch m.0.room m.0.at m.1 m.0.checks_are m.0.reply_is)
      by (Ok (Turned.TrailFull back)) is_q =
          let m = subst (λ z. IfOk z (IsMade x m' (ruling s1.view.journal) s.number (made + 1) call)) is_q is_made in
          let empty = ap (entries_made s.number (made + 1) call) is_q in
          let same : s3.view.history ≡ x.trail = history
          ∙ (ap (λ z. s1.view.history ++ z) empty ∙ (append-nil s1.view.history ∙ sym t.is)) in
          (stays empty m.1, m.2, ap length same ∙ m.0)
      by (Err e) is_q = tt

  pub back_all : IfErr r (λ e. e.1 ≡ call)
      → IfErr r (λ e. (e.1 ≡ call) × Stays (task_of s rules made creds) (task_of s3 rules' made creds'))
  back_all back = by r refl
    where
      by : (q : Result Turned (E × Call)) → r ≡ q
          → IfErr q (λ e. (e.1 ≡ call) × Stays (task_of s rules made creds) (task_of s3 rules' made creds'))
      by (Ok y) is_q = tt
      by (Err e) is_q = (
        subst (λ z. IfErr z (λ e. e.1 ≡ call)) is_q back,
        stays (ap (entries_made s.number (made + 1) call) is_q) (subst (λ z. OnErr z (m' ≡ x)) is_q none),
      )
