use Rattle.std.proofs.Common.{◌≡◌, ◌+◌, true, refl, ap, ◌∙◌, subst, arith}
use Rattle.std.specs.Prelude.{Bool, map, is_some}
use Rattle.std.proofs.lemmas.List.{take_rest, length-reverse, length-map}
use Rattle.rule_text.specs.declared.part.Part.{Part}
use Rattle.rule_text.specs.Parts.{placed}
use Rattle.script_text.specs.TaskTables.{tasks_seen}
use Rattle.script_text.specs.Spelled.{HasVerb}
use Rattle.script_text.proofs.Spelling.{spelled, pid_fits}
use Rattle.script_text.proofs.reading.spell.Goals as goal

pub overflow_cast-call : goal.overflow_cast-call
overflow_cast-call c =
    omega (
      arith,
      pid_fits (tasks_seen c.args.tasks.now) c.args.words.now c.is_some.result c.in-Ok.verb c.word.result c.pid_of-task.result c.in-Ok.ensures c.word.ensures
          c.pid_of-task.ensures (omega (arith, c.requires.table.few, length-map c.args.tasks.now.names.items (λ (p : Part). p.bytes.now))),
    )

pub returns-clause-ok : goal.returns-clause-ok
returns-clause-ok c =
    let tasks = tasks_seen c.args.tasks.now in
    let there : c.is_some.result ≡ true = c.is_some.ensures ∙ ap is_some c.in-Some.is in
    let has : HasVerb tasks (map placed c.args.words.now) true c.in-Ok.verb =
    subst (λ (b : Bool). HasVerb tasks (map placed c.args.words.now) b c.in-Ok.verb) there c.in-Ok.ensures in
    spelled tasks c.args.found _ _ c.args.words.now c.word.result c.text_count-count.result c.requires.words has
    (omega
    (arith, c.requires.table.parents, length-map c.args.tasks.now.names.items (λ (p : Part). p.bytes.now), length-reverse c.args.tasks.now.parents.items))
    (take_rest c.args.words.now 1) refl c.word.ensures c.pid_of-task.ensures (ap (λ n. n + 1) c.calls.ensures) c.text_count-count.ensures
    (rw c.in-Some.is at c.text_of-text.ensures.text) (rw c.in-Some.is at c.text_of-text.ensures.is) refl
