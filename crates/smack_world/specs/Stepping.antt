use Rattle.std.specs.Prelude.{◌≡◌, ◌<◌, ◌+◌, ℕ, List, [], ◌∷◌, ◌++◌, length, Option, Some, None}
use Rattle.rules_spec.specs.declared.Verdict.{Verdict}
use Rattle.rules_spec.specs.Rulings.{Ruling}
use Rattle.rules_spec.specs.Creds.{Creds}
use Rattle.world_spec.specs.declared.Call.{Call}
use Rattle.world_spec.specs.declared.Entry.{Entry}
use Rattle.world_spec.specs.declared.Reply.{Reply}
use Rattle.world_spec.specs.Worlds.{World, creds_of}
use Rattle.world_spec.specs.Steps.{step}
use Rattle.smack_world.specs.declared.world.Stepped.{Stepped}
use Rattle.smack_world.specs.declared.world.Stepped.TheVariants as Stepped

-- what a machine holds: the world, and the entries of the calls that were made
pub record WorldValue : Type 0 where
  pub world : World
  pub trail : List Entry

-- the most entries of a trail
abbrev pub most_entries : ℕ
most_entries = 131072

-- the entry of a call that a task makes in some version, from what the world was before
abbrev pub entry_of : WorldValue → Ruling → ℕ → ℕ → Call → Entry
entry_of before version task seq call = let s = step before.world version task call in
    record { task = task; seq = seq; call = call; version = version.number; checks = s.checks; reply = s.reply }

-- the world steps, and one entry comes last in the trail
abbrev pub with_entry : WorldValue → Ruling → ℕ → ℕ → Call → WorldValue
with_entry before version task seq call = record {
  world = (step before.world version task call).world;
  trail = before.trail ++ entry_of before version task seq call ∷ [];
}

-- The credentials that are handed out are those that the task has after its call; where none are, it has those that it had
-- before.
abbrev pub HandsOut : World → World → ℕ → Option Creds → Type 0
HandsOut before after task None = creds_of after task ≡ creds_of before task
HandsOut before after task (Some creds) = creds ≡ creds_of after task

-- a call is entered at a place of the trail, counted from 1, with copies of the checks and the reply of its entry
pub record IsEntered (before after : WorldValue) (version : Ruling) (task seq : ℕ) (call : Call) (place : ℕ)
    (checks : List Verdict) (reply : Reply) : Type 0 where
  pub room : length before.trail < most_entries
  pub is : after ≡ with_entry before version task seq call
  pub at : place ≡ length before.trail + 1
  pub checks_are : checks ≡ (step before.world version task call).checks
  pub reply_is : reply ≡ (step before.world version task call).reply

-- What a step says: the entry, and the credentials that its caller has after it; or, where the trail is full, that nothing
-- was done, with the call.
abbrev pub IsStepped : WorldValue → WorldValue → Ruling → ℕ → ℕ → Call → Stepped → Type 0
IsStepped before after version task seq call (Stepped.Entered place checks reply creds) =
    IsEntered before after version task seq call place checks reply × HandsOut before.world after.world task creds
IsStepped before after version task seq call (Stepped.TrailFull back) =
    (length before.trail ≡ most_entries) × (after ≡ before) × (back ≡ call)
