use Rattle.std.specs.Prelude.{◌≡◌, ℕ, ◌+◌, ◌≤◌, ◌∷◌, ◌++◌, ◌⊎◌, max, [], List, Option, Some, length, false, if◌then◌else◌}
use Rattle.atomic_table.specs.Seated.{TableId}
use Rattle.atomic_table.specs.Table.{Me}
use Rattle.rules_spec.specs.declared.Batch.{Batch}
use Rattle.live_table.specs.declared.view.View.{View}
use Rattle.live_table.specs.Lists.{Begins, Has, rest_of}
use Rattle.live_table.specs.Batches.{ArePacked, journal_words, rows_of, batches_by}
use Rattle.live_table.specs.Machines.{Means, LegalFrom, last_version, entries_by}
use Rattle.live_table.specs.Core.{row_count}
use Rattle.live_table.specs.Plays.{at_turn, loads_of}

-- a seat with a number, as contracts see it: the table that it is of, its own number, and what it knows
pub record SeatValue (E : Type 0) : Type 0 where
  pub table : TableId
  pub number : ℕ
  pub view : View E

-- a notice as contracts see it
pub record NoticeValue (E : Type 0) : Type 0 where
  pub table : TableId
  pub view : View E

-- the slots that are held
abbrev pub slots_of : {X : Type 0} → List (ℕ × X) → List ℕ
slots_of [] = []
slots_of (x ∷ xs) = x.0 ∷ slots_of xs

-- What a seat with a number keeps beside its view: its number is the first, and it knows how many rows it has seen and
-- filled. It holds the slot where it has the turn.
pub record IsSeat {S E : Type 0} (me : Me (Option S) (View E)) (number rows filled : ℕ) : Type 0 where
  pub numbered : me.0.numbers ≡ number ∷ rest_of me.0.numbers
  pub settled : me.0.told_numbers ≡ []
  pub counted : rows ≡ rows_of me.0.journal
  pub room : rows + filled ≤ row_count
  pub packed : ArePacked me.0.journal
  pub held : slots_of me.1 ≡ (if me.0.turn then 0 ∷ [] else [])
  pub filled_is : filled ≡ length me.0.filled

-- a notice holds nothing, and knows how many rows it has seen
pub record IsNotice {S E : Type 0} (me : Me (Option S) (View E)) (rows : ℕ) : Type 0 where
  pub counted : rows ≡ rows_of me.0.journal
  pub room : rows ≤ row_count
  pub packed : ArePacked me.0.journal
  pub unnumbered : me.0.numbers ≡ []
  pub settled : me.0.told_numbers ≡ []
  pub penless : me.0.pen ≡ false
  pub turnless : me.0.turn ≡ false
  pub bare : slots_of me.1 ≡ []
  pub unfilled : me.0.filled ≡ []

-- the words of a new table: one number is drawn, and all else is 0
pub record IsOpening (words : List ℕ) : Type 0 where
  pub rows : List ℕ
  pub is : words ≡ 1 ∷ 0 ∷ 0 ∷ rows
  pub long : length rows ≡ row_count

-- the seat, with so many rows loaded
abbrev pub with_loads : {E : Type 0} → ℕ → SeatValue E → SeatValue E
with_loads n s = record s { view = record s.view { loads = n } }

-- the seat, after it met the pen or the turn in another's hand so often
abbrev pub with_misses : {E : Type 0} → ℕ → SeatValue E → SeatValue E
with_misses n s = record s { view = record s.view { misses = n } }

-- it holds neither pen nor turn
abbrev pub Rests : {E : Type 0} → View E → Type 0
Rests v = (v.pen ≡ false) × (v.turn ≡ false)

-- filled rows that are whole batches of one task
pub record AreWhole (filled : List ℕ) (number : ℕ) : Type 0 where
  pub batches : List Batch
  pub words : filled ≡ journal_words batches
  pub own : (b : Batch) → Has b batches → b.task ≡ number
  pub packed : ArePacked batches

-- it has loaded no row since, nor adopted a seat, nor looked, nor taken the pen
pub record SameCounts {E : Type 0} (v w : View E) : Type 0 where
  pub loads : w.loads ≡ v.loads
  pub looks : w.looks ≡ v.looks
  pub pens : w.pens ≡ v.pens
  pub ended_loads : w.ended_loads ≡ v.ended_loads

-- The view v after looks at the rows, and loads of rows: the seen journal is longer or the same, and the seat's numbers
-- have no more batches in it. The pen, how often it was taken, and the turn are as before.
pub record Sees {E : Type 0} (v w : View E) : Type 0 where
  pub view : w ≡ record v { journal = w.journal; loads = w.loads; looks = w.looks; misses = w.misses }
  pub journal : Begins w.journal v.journal
  pub batches : (k : ℕ) → Has k v.numbers → batches_by k w.journal ≡ batches_by k v.journal

module _ {S E : Type 0} (m : Means S E) where
  -- The view v after it heard w: the seen lists begin with those of both, and the numbers are those of both, each with
  -- the batches and entries that it had.
  pub record Hears (v w x : View E) : Type 0 where
    pub numbers : x.numbers ≡ v.numbers ++ w.numbers
    pub pen : x.pen ≡ v.pen
    pub filled : x.filled ≡ v.filled
    pub turn : x.turn ≡ v.turn
    pub noticed : x.noticed ≡ v.noticed
    pub known : x.known ≡ max v.known w.known
    pub loads : x.loads ≡ v.loads
    pub ended_loads : x.ended_loads ≡ v.ended_loads ++ loads_of w.numbers w.loads w.ended_loads
    pub looks : x.looks ≡ v.looks
    pub pens : x.pens ≡ v.pens
    pub journal : Begins x.journal v.journal
    pub history : Begins x.history v.history
    pub told_journal : Begins x.journal w.journal
    pub told_history : Begins x.history w.history
    pub longest : (x.history ≡ v.history) ⊎ (x.history ≡ w.history)
    pub apart : (k : ℕ) → Has k v.numbers → Has k w.numbers → ⊥
    pub batches : (k : ℕ) → Has k v.numbers → batches_by k x.journal ≡ batches_by k v.journal
    pub entries : (k : ℕ) → Has k v.numbers → entries_by m k x.history ≡ entries_by m k v.history
    pub told_batches : (k : ℕ) → Has k w.numbers → batches_by k x.journal ≡ batches_by k w.journal
    pub told_entries : (k : ℕ) → Has k w.numbers → entries_by m k x.history ≡ entries_by m k w.history

  -- the view v after the turn was taken, with looks at the rows and loads of rows, and the value that was in the slot
  pub record Turns (v w : View E) (x : S) : Type 0 where
    pub view : w ≡ record (at_turn v w.journal w.history) { loads = w.loads; looks = w.looks; misses = w.misses }
    pub journal : Begins w.journal v.journal
    pub history : Begins w.history v.history
    pub is : m.history x ≡ w.history
    pub stands : m.stands x w.journal
    pub legal : LegalFrom m 0 0 w.history
    pub recent : last_version m w.history ≤ length w.journal
    pub batches : (k : ℕ) → Has k v.numbers → batches_by k w.journal ≡ batches_by k v.journal
    pub entries : (k : ℕ) → Has k v.numbers → entries_by m k w.history ≡ entries_by m k v.history

  -- A whole seat may close the table: it holds neither pen nor turn, and its numbers are 0 and each task that an entry of
  -- theirs makes.
  pub record IsWhole (v : View E) : Type 0 where
    pub penless : v.pen ≡ false
    pub turnless : v.turn ≡ false
    pub first : Has 0 v.numbers
    pub closed : (e : E) → Has e v.history → Has (m.number e) v.numbers → (k : ℕ) → m.child e ≡ Some k → Has k v.numbers

  -- What a whole seat is handed: a value with the history that the seat has met, which is legal and stands over the
  -- journal that it has seen, and that journal has batches of its numbers alone.
  pub record Closes (v : View E) (x : S) : Type 0 where
    pub history : m.history x ≡ v.history
    pub stands : m.stands x v.journal
    pub legal : LegalFrom m 0 0 v.history
    pub recent : last_version m v.history ≤ length v.journal
    pub tasks : (b : Batch) → Has b v.journal → Has b.task v.numbers
