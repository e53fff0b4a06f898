use Rattle.std.specs.Prelude.{◌≤◌, List, length}
use Rattle.rules_spec.specs.declared.Batch.{Batch}
use Rattle.world_spec.specs.declared.Entry.{Entry}
use Rattle.world_spec.specs.Replies.{child_of}
use Rattle.world_spec.specs.Worlds.{world_first}
use Rattle.world_spec.specs.Replays.{AreSteps, StandsOver}
use Rattle.smack_world.specs.Stepping.{WorldValue}
use Rattle.live_table.specs.Machines.{Means, LegalFrom, last_version}

-- what a world means to the table: its trail is its history, for which it stands over a journal
abbrev pub world_means : Means WorldValue Entry
world_means = record {
  history = λ m. m.trail;
  stands = λ m journal. StandsOver journal m.trail m.world;
  number = λ e. e.task;
  version = λ e. e.version;
  child = λ e. child_of e.reply;
}

-- A journal and a history that are one history: each entry is the step of its call in the world that the entries before
-- it leave, in a version that the journal has; versions do not fall, and each entry is of task 0 or of one that an entry
-- before it makes, the tasks that are made having the next numbers.
pub record AreOneHistory (journal : List Batch) (history : List Entry) : Type 0 where
  pub steps : AreSteps journal world_first history
  pub legal : LegalFrom world_means 0 0 history
  pub recent : last_version world_means history ≤ length journal
