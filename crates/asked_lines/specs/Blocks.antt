use Rattle.std.specs.Prelude.{◌≡◌, ℕ, List}
use Rattle.std.specs.List.{flat_map, AllByRecursion}
use Rattle.record_spec.specs.declared.AskedLine.{AskedLine}
use Rattle.asked_lines.specs.declared.blocks.Block.{Block}

-- the lines of all blocks, one block after another
abbrev pub block_lines : List Block → List AskedLine
block_lines blocks = flat_map (λ b. b.lines) blocks

-- these lines are of one task
abbrev pub AreOf : ℕ → List AskedLine → Type 0
AreOf task lines = AllByRecursion (λ a. a.task ≡ task) lines

-- each block has lines of its own task alone
abbrev pub AreBlocks : List Block → Type 0
AreBlocks blocks = AllByRecursion (λ b. AreOf b.task b.lines) blocks
