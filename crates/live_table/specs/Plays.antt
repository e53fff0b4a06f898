use Rattle.std.specs.Prelude.{◌≡◌, ℕ, ◌+◌, ◌-◌, ◌/◌, ◌%◌, ◌<◌, ◌≤◌, ◌⊎◌, ◌&&◌, not, max, nat_lt, List, [], ◌∷◌, ◌++◌, length, true, false, if◌then◌else◌, Option, Some, None, slice_index}
use Rattle.atomic_table.specs.Table.{Me, Step}
use Rattle.rules_spec.specs.declared.Batch.{Batch}
use Rattle.live_table.specs.declared.view.View.{View}
use Rattle.live_table.specs.Lists.{Begins, Has}
use Rattle.live_table.specs.Batches.{ArePacked, journal_words, rows_of, batches_by}
use Rattle.live_table.specs.Machines.{Means, LegalFrom, made, last_version, entries_by}
use Rattle.live_table.specs.Core.{row_count}

-- What a step tells the seat that takes it. Each says how the view and the held slots are before the step, what was
-- found in the word, and how they are after it.
abbrev pub Telling : (S E : Type 0) → Type 1
Telling S E = Step (Option S) → Me (Option S) (View E) → ℕ → Me (Option S) (View E) → Type 0

-- What a seat of these numbers loaded, and each that it adopted; a notice, which has no number, loads nothing.
abbrev pub loads_of : List ℕ → ℕ → List ℕ → List ℕ
loads_of [] loads ended = []
loads_of (k ∷ ks) loads ended = loads ∷ ended

module _ {E : Type 0} where
  -- The seat looked, and has seen the journal that the found word tells: it begins with what the seat had seen, and its
  -- numbers have no more batches in it.
  pub record Saw (v : View E) (found : ℕ) (w : View E) : Type 0 where
    pub same : w ≡ record v { journal = w.journal; looks = v.looks + 1; misses = v.misses + found % 2 }
    pub more : Begins w.journal v.journal
    pub rows : found / 2 ≡ rows_of w.journal
    pub own : (k : ℕ) → Has k v.numbers → batches_by k w.journal ≡ batches_by k v.journal
    pub room : rows_of w.journal + length w.filled ≤ row_count
    pub packed : ArePacked w.journal

  -- the view with the pen, before anything is filled
  abbrev pub with_pen : View E → View E
  with_pen v = record v { pen = true; filled = []; pens = v.pens + 1 }

  -- the seat knows that so many numbers are drawn
  abbrev pub knowing : ℕ → View E → View E
  knowing n v = record v { known = n }

  -- the seat made a notice, in a turn where it has one
  abbrev pub notified : View E → View E
  notified v = record v { noticed = v.turn }

  -- A notice has seen what its maker has, and is marked where it is the first of a turn. What it does itself is counted
  -- from 0, so that a task's counts are those of its own life.
  abbrev pub notice_of : View E → View E
  notice_of v = record {
    numbers = [];
    journal = v.journal;
    history = v.history;
    told_numbers = [];
    told_journal = [];
    told_history = [];
    pen = false;
    filled = [];
    turn = false;
    noticed = false;
    marked = v.turn && not v.noticed;
    known = v.known;
    loads = 0;
    ended_loads = [];
    looks = 0;
    pens = 0;
    misses = 0;
  }

  -- a view that was joined into another
  abbrev pub spent : View E
  spent = record {
    numbers = [];
    journal = [];
    history = [];
    told_numbers = [];
    told_journal = [];
    told_history = [];
    pen = false;
    filled = [];
    turn = false;
    noticed = false;
    marked = false;
    known = 0;
    loads = 0;
    ended_loads = [];
    looks = 0;
    pens = 0;
    misses = 0;
  }

  -- what the other view has is kept as told, until the next look at the rows, and what it loaded is noted
  abbrev pub joined : View E → View E → View E
  joined v w = record v {
    told_numbers = w.numbers;
    told_journal = w.journal;
    told_history = w.history;
    known = max v.known w.known;
    ended_loads = v.ended_loads ++ loads_of w.numbers w.loads w.ended_loads;
  }

  -- the view with the turn
  abbrev pub at_turn : View E → List Batch → List E → View E
  at_turn v journal history = record v { journal = journal; history = history; turn = true; noticed = false }

  -- the view after the turn was given back with these entries
  abbrev pub given : View E → List E → View E
  given v es = record v { history = v.history ++ es; turn = false; noticed = false }

  -- a notice that drew a number
  abbrev pub enrolled : ℕ → View E → View E
  enrolled n v = record v { numbers = n ∷ []; marked = false }

abbrev pub longer : {A : Type 0} → List A → List A → List A
longer xs ys = if nat_lt (length xs) (length ys) then ys else xs

module _ {S E : Type 0} where
  abbrev pub saw : Telling S E
  saw st m r m' = Saw m.0 r m'.0 × (m'.1 ≡ m.1)

  -- the row is that of the seen journal, and it is one more that was loaded
  abbrev pub read : Telling S E
  read st m r m' = (m'.1 ≡ m.1) × (m'.0 ≡ record m.0 { loads = m.0.loads + 1 }) × (r ≡ slice_index (journal_words m.0.journal) (st.word - 3))

  -- the pen was free, and is the seat's; or the word had changed
  abbrev pub penned : Telling S E
  penned st m r m' = (m'.1 ≡ m.1) × (r ≡ st.first → Saw (with_pen m.0) r m'.0) × (¬ (r ≡ st.first) → m'.0 ≡ record m.0 { misses = m.0.misses + 1 })

  abbrev pub filled : Telling S E
  filled st m r m' = (m'.1 ≡ m.1) × (m'.0 ≡ record m.0 { filled = m.0.filled ++ r ∷ [] })

  -- what was filled is published, and the pen is given back
  abbrev pub published : Telling S E
  published st m r m' = (m'.1 ≡ m.1) × ((bs : List Batch) → m.0.filled ≡ journal_words bs → ArePacked bs
      → m'.0 ≡ record m.0 { journal = m.0.journal ++ bs; pen = false; filled = [] })

  -- the numbers of the seat are below what was found
  abbrev pub counted : Telling S E
  counted st m r m' = (m'.1 ≡ m.1) × (m'.0 ≡ knowing r m.0) × (m.0.known ≤ r) × ((k : ℕ) → Has k m.0.numbers → k < r)

module _ {S E : Type 0} (m : Means S E) where
  -- The turn was free and is the seat's, and the value was in the slot: it stands for the history that the seat has now
  -- met, over the journal that it has now seen.
  pub record TookTurn (v : View E) (w : View E) (held : List (ℕ × Option S)) (x : S) : Type 0 where
    pub view : w ≡ at_turn v w.journal w.history
    pub journal : Begins w.journal v.journal
    pub history : Begins w.history v.history
    pub batches : (k : ℕ) → Has k v.numbers → batches_by k w.journal ≡ batches_by k v.journal
    pub entries : (k : ℕ) → Has k v.numbers → entries_by m k w.history ≡ entries_by m k v.history
    pub out : held ≡ (0, Some x) ∷ []
    pub is : m.history x ≡ w.history
    pub stands : m.stands x w.journal
    pub legal : LegalFrom m 0 0 w.history
    pub recent : last_version m w.history ≤ length w.journal
    pub room : rows_of w.journal + length w.filled ≤ row_count
    pub packed : ArePacked w.journal

  abbrev pub took : Telling S E
  took st me r me' = (r ≡ 0 → (x : S) × TookTurn me.0 me'.0 me'.1 x)
      × (¬ (r ≡ 0) → (me'.1 ≡ me.1) × (me'.0 ≡ record me.0 { misses = me.0.misses + 1 }))

  abbrev pub gave : Telling S E
  gave st me r me' = (me'.1 ≡ [])
      × ((x : S) (es : List E) → me.1 ≡ (0, Some x) ∷ [] → m.history x ≡ me.0.history ++ es → me'.0 ≡ given me.0 es)

  -- the number that was drawn is the next, and has made nothing
  abbrev pub drew : Telling S E
  drew st me r me' = (me'.1 ≡ me.1) × (r ≡ made m me.0.history + 1) × (me'.0 ≡ enrolled r me.0)
      × (batches_by r me.0.journal ≡ []) × (entries_by m r me.0.history ≡ [])

  -- The entry that a turn may add: it is of the seat's own number, at a version that the seat has seen and that is not
  -- below the last one; and it makes the task whose number was drawn in this turn, or none where none was.
  pub record MayEnter (v : View E) (x : S) (e : E) : Type 0 where
    pub number : ℕ
    pub ended : List ℕ
    pub numbers : v.numbers ≡ number ∷ ended
    pub own : m.number e ≡ number
    pub within : m.version e ≤ length v.journal
    pub late : last_version m v.history ≤ m.version e
    pub no_child : v.noticed ≡ false → m.child e ≡ None
    pub child : v.noticed ≡ true → (m.child e ≡ Some (made m v.history + 1)) × (made m v.history + 2 ≤ v.known)

  abbrev pub IsTurn : View E → S → List E → Type 0
  IsTurn v x [] = v.noticed ≡ false
  IsTurn v x (e ∷ []) = MayEnter v x e
  IsTurn v x (e ∷ f ∷ fs) = ⊥

  -- what may be given back: a value with the history that was met, and with one entry more or with none
  pub record MayGive (v : View E) (x : S) (es : List E) : Type 0 where
    pub history : m.history x ≡ v.history ++ es
    pub stands : m.stands x v.journal
    pub entry : IsTurn v x es

  -- the seat has taken in what it was told
  pub record Heard (v : View E) (found : ℕ) (w : View E) : Type 0 where
    pub view : w ≡ record v {
      numbers = v.numbers ++ v.told_numbers;
      journal = w.journal;
      history = w.history;
      told_numbers = [];
      told_journal = [];
      told_history = [];
    }
    pub rows : found / 2 ≡ rows_of w.journal
    pub room : rows_of w.journal + length w.filled ≤ row_count
    pub packed : ArePacked w.journal
    pub journal : Begins w.journal v.journal
    pub history : Begins w.history v.history
    pub told_journal : Begins w.journal v.told_journal
    pub told_history : Begins w.history v.told_history
    pub longest : (w.history ≡ v.history) ⊎ (w.history ≡ v.told_history)
    pub apart : (k : ℕ) → Has k v.numbers → Has k v.told_numbers → ⊥
    pub batches : (k : ℕ) → Has k v.numbers → batches_by k w.journal ≡ batches_by k v.journal
    pub entries : (k : ℕ) → Has k v.numbers → entries_by m k w.history ≡ entries_by m k v.history
    pub told_batches : (k : ℕ) → Has k v.told_numbers → batches_by k w.journal ≡ batches_by k v.told_journal
    pub told_entries : (k : ℕ) → Has k v.told_numbers → entries_by m k w.history ≡ entries_by m k v.told_history

  abbrev pub heard : Telling S E
  heard st me r me' = (me'.1 ≡ me.1) × Heard me.0 r me'.0
