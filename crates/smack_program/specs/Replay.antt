use Rattle.std.specs.Prelude.{◌≡◌, ℕ, List, [], ◌∷◌, Result, Ok, Err, codes}
use Rattle.outside.specs.Seen.{Seen}
use Rattle.script_spec.specs.declared.ScriptFault.{ScriptFault}
use Rattle.script_spec.specs.Grammar.{parse}
use Rattle.script_spec.specs.Lines.{ScriptLine}
use Rattle.script_text.specs.Scripts.{Fails}
use Rattle.record_spec.specs.declared.RunRecord.{RunRecord}
use Rattle.replay_spec.specs.Replays.{replayed}
use Rattle.legal_spec.specs.Fits.{IsLegalFor}
use Rattle.record_spec.specs.Show.{show}
use Rattle.smack_program.specs.declared.status.Status.{Status}
use Rattle.smack_program.specs.Scripts.{IsNoScript, ScriptEnds}

-- the record is that of the script that these bytes are, when it is replayed; and it is legal for this script
abbrev pub IsReplay : List ℕ → RunRecord → Type 0
IsReplay bytes r = (lines : List ScriptLine) × (parse bytes ≡ Ok lines) × (r ≡ replayed lines) × IsLegalFor lines r

-- the record of these bytes, or why there is none
abbrev pub GivesReplay : List ℕ → Result RunRecord ScriptFault → Type 0
GivesReplay bytes (Ok r) = IsReplay bytes r
GivesReplay bytes (Err e) = Fails e (parse bytes)

-- A script is answered by the text of its record when it is replayed. Other bytes are refused for their fault.
abbrev pub replay_answers : List ℕ → Result (List ℕ) Status → Type 0
replay_answers bytes (Ok text) = (r : RunRecord) × IsReplay bytes r × (text ≡ show r)
replay_answers bytes (Err status) = IsNoScript bytes status

-- how a replay ended
abbrev pub ReplayEnds : Seen → Seen → Seen → Seen → Status → Type 0
ReplayEnds = ScriptEnds replay_answers

-- the words are those of the command that replays
abbrev pub AreReplay : List (List ℕ) → Type 0
AreReplay words = words ≡ codes "replay" ∷ []
