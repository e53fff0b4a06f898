use Rattle.std.specs.Prelude.{◌≡◌, ℕ, ◌+◌, ◌≤◌, List, [], ◌∷◌, ◌++◌, length, Option, Some, None}
use Rattle.rules_spec.specs.declared.Batch.{Batch}
use Rattle.live_table.specs.Lists.{Has, those_of}

-- What a machine means: the history of a value, whether the value stands for its history over a journal, and of each
-- entry the task, the version in which it was judged, and the task that it makes, if any.
pub record Means (S E : Type 0) : Type 1 where
  pub history : S → List E
  pub stands : S → List Batch → Type 0
  pub number : E → ℕ
  pub version : E → ℕ
  pub child : E → Option ℕ

module _ {S E : Type 0} (m : Means S E) where
  -- the law of a machine: a value that stands for its history has no version above the journal's length, and it stands
  -- over each longer journal as well
  pub record IsLawful : Type 0 where
    pub within : (x : S) (journal : List Batch) (e : E) → m.stands x journal → Has e (m.history x)
        → m.version e ≤ length journal
    pub longer : (x : S) (journal more : List Batch) → m.stands x journal → m.stands x (journal ++ more)

  abbrev pub makes : Option ℕ → ℕ
  makes (Some _) = 1
  makes None = 0

  -- how many tasks the entries make
  abbrev pub made : List E → ℕ
  made [] = 0
  made (e ∷ es) = makes (m.child e) + made es

  abbrev pub last_from : ℕ → List E → ℕ
  last_from v [] = v
  last_from v (e ∷ es) = last_from (m.version e) es

  -- the version of the last entry
  abbrev pub last_version : List E → ℕ
  last_version = last_from 0

  abbrev pub Next : ℕ → Option ℕ → Type 0
  Next n None = Unit {0}
  Next n (Some k) = k ≡ n

  -- Where c tasks were made and the last version was v: each entry is of task 0 or of one that was made before it,
  -- versions do not fall, and the tasks that are made have the next numbers.
  abbrev pub LegalFrom : ℕ → ℕ → List E → Type 0
  LegalFrom c v [] = Unit {0}
  LegalFrom c v (e ∷ es) = (m.number e ≤ c) × (v ≤ m.version e) × Next (c + 1) (m.child e)
      × LegalFrom (c + makes (m.child e)) (m.version e) es

  abbrev pub IsLegal : List E → Type 0
  IsLegal history = LegalFrom 0 0 history

  -- the entries of one task, in order
  abbrev pub entries_by : ℕ → List E → List E
  entries_by = those_of m.number
