use Rattle.std.proofs.Common.{◌≡◌, ◌⊎◌, inl, inr, ℕ, ◌+◌, ◌<◌, ◌≤◌, true, false, if◌then◌else◌, List, [], ◌∷◌, ◌++◌, ⊎_elim, sym, refl, ap, ◌∙◌, subst, append-nil, arith}
use Rattle.std.specs.Prelude.{Result, Ok, Err, OnOk, OnErr, nat_lt}
use Rattle.std.proofs.lemmas.Bool.Decides.{nat_tests}
use Rattle.atomic_table.specs.Seated.{TableId}
use Rattle.rules_spec.specs.declared.Batch.{Batch}
use Rattle.rules_spec.specs.Creds.{Creds, creds_first}
use Rattle.rule_fold.specs.Index.{IndexValue, StandsFor}
use Rattle.world_spec.specs.declared.Entry.{Entry}
use Rattle.world_spec.specs.Replays.{replay_of}
use Rattle.live_table.specs.declared.view.View.{View}
use Rattle.live_table.specs.Lists.{Begins, Has, here, rest_of}
use Rattle.live_table.specs.Machines.{entries_by}
use Rattle.live_table.specs.Core.{opening_view}
use Rattle.live_table.specs.Plays.{loads_of}
use Rattle.live_table.specs.Seats.{SeatValue, NoticeValue, Rests, Sees, Hears as HearsView}
use Rattle.live_table.specs.Batches.{rows_of}
use Rattle.live_table.proofs.Lists.{begins_self, has_either}
use Rattle.live_table.proofs.Cuts.{cut_within}
use Rattle.smack_kernel.specs.Histories.{world_means}
use Rattle.smack_kernel.specs.Indexes.{StandsAt, version_rows}
use Rattle.smack_kernel.specs.Growth.{IsPublished}
use Rattle.smack_kernel.specs.declared.publishing.Published.{Published}
use Rattle.smack_kernel.specs.declared.publishing.Published.TheVariants as Published
use Rattle.smack_kernel.specs.declared.index.Index.{Index}
use Rattle.smack_kernel.specs.Tasks.{ToldValue, AreSeen, IsTaskState, IsTold, Does, Hears, Adopts, task_of}
use Rattle.smack_kernel.proofs.Indexes.{stands_first, stands_longer, stands_within, stands_rows}
use Rattle.smack_kernel.proofs.Growing.{grows_by}
use Rattle.smack_kernel.proofs.Worlds.{IsLive, live_kept, seen_longer}

module _ {s : SeatValue Entry} {rules : IndexValue} {rows : ℕ} {creds : Creds} (t : IsTaskState s rules rows creds) where
  -- what has grown without an entry of the task's own leaves it live with its credentials
  pub still_live : (s' : SeatValue Entry) → AreSeen s'.view.journal s'.view.history → Begins s'.view.journal s.view.journal
      → Begins s'.view.history s.view.history
      → entries_by world_means s.number s'.view.history ≡ entries_by world_means s.number s.view.history
      → IsLive (replay_of s'.view.journal s'.view.history) s.number creds
  still_live s' seen journal history same =
      live_kept s.number creds t.seen seen journal history same (t.alive, t.is_creds)

  -- a seat with more numbers behind its own, which is at rest, with an index and credentials that fit it, is a task
  pub task_with : {s' : SeatValue Entry} {rules' : IndexValue} {rows' : ℕ} {creds' : Creds} (more : List ℕ) → s'.number ≡ s.number
      → s'.view.numbers ≡ s.view.numbers ++ more → (Has s.number more → ⊥)
      → (s'.view.pen ≡ s.view.pen) × (s'.view.turn ≡ s.view.turn) → StandsAt rules' rows' s'.view.journal
      → AreSeen s'.view.journal s'.view.history → IsLive (replay_of s'.view.journal s'.view.history) s.number creds'
      → IsTaskState s' rules' rows' creds'
  task_with {s'} {rules'} {rows'} {creds'} more number numbers apart rests stands seen live =
      let named : s'.view.numbers ≡ s.number ∷ (rest_of s.view.numbers ++ more) = numbers
      ∙ ap (λ z. z ++ more) t.numbered in
      let ended : rest_of s'.view.numbers ≡ rest_of s.view.numbers ++ more = ap rest_of named in
      let live' = subst (λ k. IsLive (replay_of s'.view.journal s'.view.history) k creds') (sym number) live in record {
        rests = (rests.0 ∙ t.rests.0, rests.1 ∙ t.rests.1);
        stands = stands;
        apart = λ h. ⊎_elim t.apart apart (has_either (rest_of s.view.numbers) more
            (subst (λ (z : ℕ × List ℕ). Has z.0 z.1) (λ i. (number i, ended i)) h));
        numbered = named ∙ (λ i. sym number i ∷ sym ended i);
        low = let l = t.low in omega (arith, number);
        seen = seen;
        alive = live'.0;
        is_creds = live'.1;
      }

  -- the same with no more numbers
  pub task_same : {s' : SeatValue Entry} {rules' : IndexValue} {rows' : ℕ} {creds' : Creds} → s'.number ≡ s.number
      → s'.view.numbers ≡ s.view.numbers → (s'.view.pen ≡ s.view.pen) × (s'.view.turn ≡ s.view.turn)
      → StandsAt rules' rows' s'.view.journal → AreSeen s'.view.journal s'.view.history
      → IsLive (replay_of s'.view.journal s'.view.history) s.number creds' → IsTaskState s' rules' rows' creds'
  task_same {s'} number numbers rests stands seen live =
      task_with {s' = s'} [] number (numbers ∙ sym (append-nil s.view.numbers)) (λ h. elim h [ ]) rests stands seen live

module _ {s s' : SeatValue Entry} {rules rules' : IndexValue} {rows rows' : ℕ} {creds : Creds} where
  -- a look at the rows keeps what holds of a task
  pub sees_task : IsTaskState s rules rows creds → (s'.table ≡ s.table) × (s'.number ≡ s.number) → Sees s.view s'.view
      → StandsAt rules' rows' s'.view.journal → IsTaskState s' rules' rows' creds
  sees_task t same sees stands =
      let history : s'.view.history ≡ s.view.history = ap (λ (z : View Entry). z.history) sees.view in
      let seen : AreSeen s'.view.journal s'.view.history = subst (AreSeen s'.view.journal) (sym history)
      (seen_longer sees.journal t.seen) in
      task_same t same.1 (ap (λ (z : View Entry). z.numbers) sees.view)
      (ap (λ (z : View Entry). z.pen) sees.view, ap (λ (z : View Entry). z.turn) sees.view) stands seen
      (still_live t s' seen sees.journal (subst (λ h. Begins h s.view.history) (sym history) (begins_self s.view.history))
      (ap (entries_by world_means s.number) history))

  pub sees_does : (made made' : ℕ) → IsTaskState s rules rows creds → (s'.table ≡ s.table) × (s'.number ≡ s.number)
      → Sees s.view s'.view
      → StandsAt rules' rows' s'.view.journal → rules.version ≤ rules'.version
      → Does (task_of s rules made creds) (task_of s' rules' made' creds) [] []
  sees_does made made' t same sees stands later =
      let history : s'.view.history ≡ s.view.history = ap (λ (z : View Entry). z.history) sees.view in record {
        table = same.0;
        number = same.1;
        ended = ap (λ (z : View Entry). rest_of z.numbers) sees.view;
        grows = grows_by t.numbered sees.journal
            (subst (λ h. Begins h s.view.history) (sym history) (begins_self s.view.history)) sees.batches
            (λ k x. ap (entries_by world_means k) history);
        later = later;
        within = stands_within stands;
        ended_loads = ap (λ (z : View Entry). z.ended_loads) sees.view;
      }

-- what was seen when writes were judged
module _ (number : ℕ) (ended : List ℕ) (j j' : List Batch) (h h' : List Entry) (b : Batch) (creds : Creds) where
  pub published_more : (p : Published) → IsPublished number ended j j' h h' b creds p → Begins j' j
  published_more Published.Batch q = q.grows.journal
  published_more Published.NotPrivileged q = q.0.journal
  published_more (Published.JournalFull rows) q = q.0.journal

-- a seat that had the pen, and has it no more, is a task
pub task_published : {s s' : SeatValue Entry} {rules rules' : IndexValue} {rows rows' : ℕ} {creds : Creds}
    → IsTaskState s rules rows creds → s'.number ≡ s.number → Rests s'.view → s'.view.numbers ≡ s.view.numbers
    → s'.view.history ≡ s.view.history → StandsAt rules' rows' s'.view.journal → Begins s'.view.journal s.view.journal
    → IsTaskState s' rules' rows' creds
task_published {s} {s'} t number rests numbers history stands more =
    let seen : AreSeen s'.view.journal s'.view.history = subst (AreSeen s'.view.journal) (sym history)
    (seen_longer more t.seen) in
    task_same t number numbers (rests.0 ∙ sym t.rests.0, rests.1 ∙ sym t.rests.1) stands seen
    (still_live t s' seen more (subst (λ h. Begins h s.view.history) (sym history) (begins_self s.view.history))
    (ap (entries_by world_means s.number) history))

-- what was seen by a seat that heard another was seen together
heard_seen : (v n x : View Entry) → HearsView world_means v n x → AreSeen v.journal v.history → AreSeen n.journal n.history
    → AreSeen x.journal x.history
heard_seen v n x hears mine told = ⊎_elim
    (λ e. subst (AreSeen x.journal) (sym e) (seen_longer hears.journal mine))
    (λ e. subst (AreSeen x.journal) (sym e) (seen_longer hears.told_journal told)) hears.longest

module _ {s s' : SeatValue Entry} {rules : IndexValue} {rows : ℕ} {creds : Creds} where
  -- hearing another seat keeps what holds of a task
  pub hears_task : {rules' : IndexValue} {rows' : ℕ} (n : View Entry) → IsTaskState s rules rows creds
      → (s'.table ≡ s.table) × (s'.number ≡ s.number) → HearsView world_means s.view n s'.view
      → AreSeen n.journal n.history → StandsAt rules' rows' s'.view.journal → IsTaskState s' rules' rows' creds
  hears_task n t same hears told stands =
      let seen = heard_seen s.view n s'.view hears t.seen told in
      let mine = subst (Has s.number) (sym t.numbered) here in
      task_with t n.numbers same.1 hears.numbers (hears.apart s.number mine) (hears.pen, hears.turn) stands seen
      (still_live t s' seen hears.journal hears.history (hears.entries s.number mine))

  pub hears_does : (made : ℕ) (n : NoticeValue Entry) (told : ToldValue) → IsTaskState s rules rows creds
      → (s'.table ≡ s.table) × (s'.number ≡ s.number) → HearsView world_means s.view n.view s'.view → IsTold n
      → told.journal ≡ n.view.journal → told.history ≡ n.view.history
      → Hears (task_of s rules made creds) told (task_of s' rules made creds)
  hears_does made n told t same hears is_told journal history =
      let numbers : s'.view.numbers ≡ s.view.numbers = hears.numbers
      ∙ (ap (λ z. s.view.numbers ++ z) is_told.unnumbered ∙ append-nil s.view.numbers) in record {
        stays = record {
          does = record {
            table = same.0;
            number = same.1;
            ended = ap rest_of numbers;
            grows = grows_by t.numbered hears.journal hears.history hears.batches hears.entries;
            later = omega arith;
            within = stands_within (stands_longer hears.journal t.stands);
            ended_loads = hears.ended_loads
                ∙ (ap (λ ns. s.view.ended_loads ++ loads_of ns n.view.loads n.view.ended_loads) is_told.unnumbered
                ∙ append-nil s.view.ended_loads);
          };
          made = refl;
          creds = refl;
        };
        version = refl;
        counts = record { loads = hears.loads; looks = hears.looks; pens = hears.pens };
        told_journal = subst (λ z. Begins s'.view.journal z) (sym journal) hears.told_journal;
        told_history = subst (λ z. Begins s'.view.history z) (sym history) hears.told_history;
      }

-- of two indexes, that of the greater version
pub record Newer (a b n : Index) (journal : List Batch) : Type 0 where
  pub stands : StandsAt n.rules n.rows journal
  pub later : a.rules.version ≤ n.rules.version
  pub told_later : b.rules.version ≤ n.rules.version
  pub greater : (n.rules.version ≡ a.rules.version) ⊎ (n.rules.version ≡ b.rules.version)

pub newer : (journal : List Batch) (a b n : Index) → n ≡ (if nat_lt a.rules.version b.rules.version then b else a)
    → StandsAt a.rules a.rows journal → StandsAt b.rules b.rows journal → Newer a b n journal
newer journal a b n is s t = (elim (nat_lt a.rules.version b.rules.version) as
    (λ z. nat_lt a.rules.version b.rules.version ≡ z → n ≡ (if z then b else a) → Newer a b n journal) [
      | true ↦ λ e i. subst (λ z. Newer a b z journal) (sym i) record {
        stands = t;
        later = let l : a.rules.version < b.rules.version = grind (arith, nat_tests) in omega arith;
        told_later = omega arith;
        greater = inr refl;
      }
      | false ↦ λ e i. subst (λ z. Newer a b z journal) (sym i) record {
        stands = s;
        later = omega arith;
        told_later = let l : b.rules.version ≤ a.rules.version = grind (arith, nat_tests) in omega arith;
        greater = inl refl;
      }
    ]) refl is

-- what a task that adopted another is
pub adopts_does : {s c s' : SeatValue Entry} {rules rules_c rules' : IndexValue} {rows rows_c rows' : ℕ}
    {creds creds_c : Creds} (made made_c : ℕ) → IsTaskState s rules rows creds → IsTaskState c rules_c rows_c creds_c
    → (s'.table ≡ s.table) × (s'.number ≡ s.number) → HearsView world_means s.view c.view s'.view
    → StandsAt rules' rows' s'.view.journal → rules.version ≤ rules'.version → rules_c.version ≤ rules'.version
    → (rules'.version ≡ rules.version) ⊎ (rules'.version ≡ rules_c.version)
    → Adopts (task_of s rules made creds) (task_of c rules_c made_c creds_c) (task_of s' rules' made creds)
adopts_does {s} {c} {s'} made made_c t d same hears stands later told_later greater =
    let named : s'.view.numbers ≡ s.number ∷ (rest_of s.view.numbers ++ c.number ∷ rest_of c.view.numbers) =
    hears.numbers ∙ (λ i. t.numbered i ++ d.numbered i) in
    let mine : (k : ℕ) → Has k (s.number ∷ rest_of s.view.numbers) → Has k s.view.numbers =
    λ k h. subst (Has k) (sym t.numbered) h in
    let theirs : (k : ℕ) → Has k (c.number ∷ rest_of c.view.numbers) → Has k c.view.numbers =
    λ k h. subst (Has k) (sym d.numbered) h in record {
      table = same.0;
      number = same.1;
      made = refl;
      creds = refl;
      ended = ap rest_of named;
      journal = hears.journal;
      history = hears.history;
      told_journal = hears.told_journal;
      told_history = hears.told_history;
      apart = λ k a b. hears.apart k (mine k a) (theirs k b);
      batches = λ k h. hears.batches k (mine k h);
      entries = λ k h. hears.entries k (mine k h);
      told_batches = λ k h. hears.told_batches k (theirs k h);
      told_entries = λ k h. hears.told_entries k (theirs k h);
      version = later;
      told_version = told_later;
      greater = greater;
      ended_loads = hears.ended_loads ∙ ap (λ ns. s.view.ended_loads ++ loads_of ns c.view.loads c.view.ended_loads) d.numbered;
      counts = record { loads = hears.loads; looks = hears.looks; pens = hears.pens };
      within = stands_within stands;
    }

-- the first world stands for nothing
first_seen : AreSeen [] []
first_seen = record { world = refl; steps = tt; versions = tt }

-- what holds of the first task
pub first_is_task : {s : SeatValue Entry} {rules : IndexValue} {rows : ℕ} {creds : Creds} (table : TableId)
    → s ≡ record { table = table; number = 0; view = opening_view }
    → StandsFor rules [] → rows ≡ 0 → creds ≡ creds_first → IsTaskState s rules rows creds
first_is_task {s} {rules} {rows} {creds} table is stands none same =
    subst (λ (z : SeatValue Entry × Creds). IsTaskState z.0 rules rows z.1) (λ i. (sym is i, sym same i)) record {
      rests = (refl, refl);
      stands = stands_first stands none;
      apart = λ h. elim h [ ];
      numbered = refl;
      low = omega arith;
      seen = first_seen;
      alive = omega arith;
      is_creds = refl;
    }

-- a call that loads no row loads no more than it may
pub loads_none : {s : SeatValue Entry} {rules : IndexValue} {rows : ℕ} {creds : Creds} → IsTaskState s rules rows creds
    → (n : ℕ) → n + version_rows s.view.journal rules.version ≤ n + rows_of s.view.journal
loads_none t n =
    let rows = stands_rows t.stands in
    let within = cut_within t.stands.cut in
    omega arith

pub on_ok : {T E : Type 0} {P Q : Type 0} (r : Result T E) → (P → Q) → OnOk r P → OnOk r Q
on_ok (Ok x) f p = f p
on_ok (Err e) f p = tt

pub on_err : {T E : Type 0} {P : Type 0} (r : Result T E) → P → OnErr r P
on_err (Ok x) p = tt
on_err (Err e) p = p
