use Rattle.std.specs.Prelude.{◌≡◌, ◌<◌, ℕ, Some, is_none}
use Rattle.std.specs.Bool.{Decides}
use Rattle.world_spec.specs.declared.Entry.{Entry}
use Rattle.record_spec.specs.declared.RunRecord.{RunRecord}
use Rattle.replay_spec.specs.Plain.{IsNameTable}
use Rattle.legal_spec.specs.Calls.{Stands}
use Rattle.legal_spec.specs.Entries.{ShowsAs, IsEntryAt}
use Rattle.legal_spec.specs.Legal.{IsEachCallOnce, AreJudged, ArePrivileged, AreAnswered, IsFresh, IsLegal}
use Rattle.legal_forms.specs.Forms.{are_names, is_each_call_once, are_judged, wrong_place, are_privileged, are_answered, is_fresh, is_legal}

-- each test holds just where its clause does
abbrev pub NamesAreDecided : Type 0
NamesAreDecided = (r : RunRecord) → Decides (are_names r.names) (IsNameTable r.names)

abbrev pub CallsAreDecided : Type 0
CallsAreDecided = (r : RunRecord) → Decides (is_each_call_once r) (IsEachCallOnce r)

abbrev pub EntriesAreDecided : Type 0
EntriesAreDecided = (r : RunRecord) → Decides (are_judged r) (AreJudged r)

-- an entry that is not judged, behind entries that are
pub record IsFirstWrong (r : RunRecord) (place : ℕ) : Type 0 where
  pub entry : Entry
  pub there : Stands r.history place entry
  pub wrong : IsEntryAt ShowsAs r place entry → ⊥
  pub before : (i : ℕ) (e : Entry) → i < place → Stands r.history i e → IsEntryAt ShowsAs r i e

-- the place of the first entry that is not judged is told, just where there is one
pub record FirstWrongIsTold : Type 0 where
  pub none : (r : RunRecord) → Decides (is_none (wrong_place r)) (AreJudged r)
  pub some : (r : RunRecord) (place : ℕ) → wrong_place r ≡ Some place → IsFirstWrong r place

abbrev pub BatchesAreDecided : Type 0
BatchesAreDecided = (r : RunRecord) → Decides (are_privileged r) (ArePrivileged r)

abbrev pub LinesAreDecided : Type 0
LinesAreDecided = (r : RunRecord) → Decides (are_answered r) (AreAnswered r)

-- where each call stands once and in order
abbrev pub FreshnessIsDecided : Type 0
FreshnessIsDecided = (r : RunRecord) → IsEachCallOnce r → Decides (is_fresh r) (IsFresh r)

-- the whole
abbrev pub LegalityIsDecided : Type 0
LegalityIsDecided = (r : RunRecord) → Decides (is_legal r) (IsLegal r)
