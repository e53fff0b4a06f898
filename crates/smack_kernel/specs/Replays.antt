use Rattle.std.specs.Prelude.{◌≤◌, List, [], ◌∷◌, length}
use Rattle.std.specs.List.{AllByRecursion}
use Rattle.rules_spec.specs.declared.Batch.{Batch}
use Rattle.world_spec.specs.declared.Entry.{Entry}
use Rattle.world_laws.proofs.Standing.{longer_stands}
use Rattle.live_table.specs.Lists.{Has, here, there}
use Rattle.live_table.specs.Machines.{IsLawful}
use Rattle.smack_kernel.specs.Histories.{world_means}

within : (journal : List Batch) (es : List Entry) (e : Entry) → AllByRecursion (λ x. x.version ≤ length journal) es → Has e es
    → e.version ≤ length journal
within journal [] e all h = elim h [ ]
within journal (x ∷ es) e all here = all.0
within journal (x ∷ es) e all (there h) = within journal es e all.1 h

-- a world that stands for its history has no version above the journal's length, and stands over each longer journal
pub lawful : IsLawful world_means
lawful = record {
  within = λ x journal e s h. within journal x.trail e s.versions h;
  longer = λ x journal more s. longer_stands journal more x.trail x.world s;
}
