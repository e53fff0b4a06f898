use Rattle.std.specs.Prelude.{◌≡◌, ℕ, ◌+◌, ◌*◌, ◌<◌, ◌≤◌, List, [], ◌∷◌, ◌++◌, length, Bool, true, false, Option, Some}
use mathlib.Core.Option as maybe
use lib.ListN.{get_elem?}
use Rattle.atomic_table.specs.Table.{State}
use Rattle.rules_spec.specs.declared.Batch.{Batch}
use Rattle.live_table.specs.declared.view.View.{View}
use Rattle.live_table.specs.Lists.{Begins, Has}
use Rattle.live_table.specs.Batches.{ArePacked, journal_words, rows_of, batches_by}
use Rattle.live_table.specs.Machines.{Means, made, last_version, LegalFrom, entries_by}

-- What the words, the slot and the views of a table tell together: the journal and the history; who has the pen, and
-- the rows that are filled and not yet published; who has the turn, whether that seat made a notice in this turn, the
-- seat of the first such notice, and whether it drew a number; and the seat of each number.
pub record Core (E : Type 0) : Type 0 where
  pub journal : List Batch
  pub history : List E
  pub filled : List ℕ
  pub penned : Bool
  pub penner : ℕ
  pub turned : Bool
  pub turner : ℕ
  pub noticed : Bool
  pub drawn : Bool
  pub child : ℕ
  pub owner : ℕ → ℕ

-- the rows of a table, which follow its three words
abbrev pub row_count : ℕ
row_count = 1048576

abbrev pub bit : Bool → ℕ
bit true = 1
bit false = 0

module _ {S E : Type 0} (m : Means S E) where
  -- how many numbers are drawn: that of the first task, those of the tasks that the history makes, and one more while
  -- a number is drawn and its entry is not yet made
  abbrev pub drawn_count : Core E → ℕ
  drawn_count c = made m c.history + 1 + bit c.drawn

  -- the words: the numbers drawn, twice the published rows and the pen's bit, the turn's bit, and the rows
  abbrev pub words_at : Core E → List ℕ → List ℕ
  words_at c rows = drawn_count c ∷ (2 * rows_of c.journal + bit c.penned) ∷ bit c.turned ∷ rows

  -- the slot is out while the turn is had; else its value has the history, and stands for it over the journal
  abbrev pub Home : Core E → Bool → List (maybe.Option (Option S)) → Type 0
  Home c true homes = homes ≡ maybe.none ∷ []
  Home c false homes = (x : S) × (homes ≡ maybe.some (Some x) ∷ []) × (m.history x ≡ c.history) × m.stands x c.journal

  -- the seat j has the pen: it has a number and has seen the whole journal, and the filled rows are its own
  pub record HoldsPen (is_penned : Bool) (holder : ℕ) (all : List Batch) (rows : List ℕ) (j : ℕ) (seen : List Batch)
      (mine its_numbers : List ℕ) : Type 0 where
    pub penned : is_penned ≡ true
    pub penner : holder ≡ j
    pub journal : seen ≡ all
    pub filled : mine ≡ rows
    pub number : ℕ
    pub ended : List ℕ
    pub numbers : its_numbers ≡ number ∷ ended

  -- the seat j has the turn: it has a number that the history makes and has met the whole history, and has seen of the
  -- journal at least the last version of it
  pub record HoldsTurn (is_turned : Bool) (holder : ℕ) (all : List E) (is_noticed : Bool) (j : ℕ) (seen : List Batch)
      (met : List E) (told : Bool) (its_numbers : List ℕ) : Type 0 where
    pub turned : is_turned ≡ true
    pub turner : holder ≡ j
    pub history : met ≡ all
    pub recent : last_version m all ≤ length seen
    pub noticed : told ≡ is_noticed
    pub number : ℕ
    pub ended : List ℕ
    pub numbers : its_numbers ≡ number ∷ ended
    pub alive : number ≤ made m all

  -- the seat j is the first notice of the present turn, and it alone may draw a number
  pub record IsMarked (is_turned is_noticed is_drawn : Bool) (first : ℕ) (all : List E) (j : ℕ) (met : List E)
      (its_numbers : List ℕ) : Type 0 where
    pub turned : is_turned ≡ true
    pub noticed : is_noticed ≡ true
    pub drawn : is_drawn ≡ false
    pub child : first ≡ j
    pub history : met ≡ all
    pub numbers : its_numbers ≡ []

  -- the number k is that of the seat j, which has seen all its batches and entries
  pub record Owns (journal : List Batch) (history : List E) (count seat : ℕ) (j : ℕ) (seen : List Batch) (met : List E)
      (k : ℕ) : Type 0 where
    pub owner : seat ≡ j
    pub drawn : k < count
    pub batches : batches_by k journal ≡ batches_by k seen
    pub entries : entries_by m k history ≡ entries_by m k met

  -- The view of the seat j fits the core: what it has seen and what it was told are beginnings of the journal and the
  -- history, it owns its numbers, and its own number is none of those that it was told.
  pub record Fits (c : Core E) (j : ℕ) (d : View E) : Type 0 where
    pub seen : Begins c.journal d.journal
    pub told : Begins c.journal d.told_journal
    pub met : Begins c.history d.history
    pub heard : Begins c.history d.told_history
    pub known : d.known ≤ drawn_count c
    pub owns : (k : ℕ) → Has k d.numbers → Owns c.journal c.history (drawn_count c) (c.owner k) j d.journal d.history k
    pub told_owns : (k : ℕ) → Has k d.told_numbers
        → Owns c.journal c.history (drawn_count c) (c.owner k) j d.told_journal d.told_history k
    pub apart : (k : ℕ) → Has k d.numbers → Has k d.told_numbers → ⊥
    pub pen : d.pen ≡ true → HoldsPen c.penned c.penner c.journal c.filled j d.journal d.filled d.numbers
    pub turn : d.turn ≡ true → HoldsTurn c.turned c.turner c.history c.noticed j d.journal d.history d.noticed d.numbers
    pub mark : d.marked ≡ true → IsMarked c.turned c.noticed c.drawn c.child c.history j d.history d.numbers
    pub bare : d.pen ≡ false → d.filled ≡ []

  -- where it is held, the seat j holds it
  abbrev pub Holds : Bool → ℕ → (View E → Bool) → List (View E) → Type 0
  Holds false j held views = Unit {0}
  Holds true j held views = (d : View E) × (get_elem? views j ≡ maybe.some d) × (held d ≡ true)

  -- What holds of a table between any two steps.
  pub record Rule (s : State (Option S) (View E)) : Type 0 where
    pub core : Core E
    pub rows : List ℕ
    pub words : s.words ≡ words_at core rows
    pub room : length rows ≡ row_count
    pub shown : Begins rows (journal_words core.journal ++ core.filled)
    pub home : Home core core.turned s.homes
    pub legal : LegalFrom m 0 0 core.history
    pub recent : last_version m core.history ≤ length core.journal
    pub tasks : (b : Batch) → Has b core.journal → b.task < drawn_count core
    pub packed : ArePacked core.journal
    pub idle : core.turned ≡ false → (core.noticed ≡ false) × (core.drawn ≡ false)
    pub first : core.drawn ≡ true → core.noticed ≡ true
    pub unfilled : core.penned ≡ false → core.filled ≡ []
    pub penned : Holds core.penned core.penner (λ d. d.pen) s.views
    pub turned : Holds core.turned core.turner (λ d. d.turn) s.views
    pub owned : (k : ℕ) → k < drawn_count core → (d : View E) × (get_elem? s.views (core.owner k) ≡ maybe.some d)
        × Has k (d.numbers ++ d.told_numbers)
    pub fits : (j : ℕ) (d : View E) → get_elem? s.views j ≡ maybe.some d → Fits core j d

-- what the first seat knows
abbrev pub opening_view : {E : Type 0} → View E
opening_view = record {
  numbers = 0 ∷ [];
  journal = [];
  history = [];
  told_numbers = [];
  told_journal = [];
  told_history = [];
  pen = false;
  filled = [];
  turn = false;
  noticed = false;
  marked = false;
  known = 0;
  loads = 0;
  ended_loads = [];
  looks = 0;
  pens = 0;
  misses = 0;
}
