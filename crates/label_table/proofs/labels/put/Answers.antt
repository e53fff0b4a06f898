use Rattle.std.proofs.Common.{ap, ◌∙◌}
use Rattle.std.specs.Prelude.{map}
use Rattle.text_spec.specs.Names.{with_name}
use Rattle.label_table.proofs.Places.{insert_is_with_name}
use Rattle.label_table.proofs.labels.put.Goals as goal

pub returns-clause-ok : goal.returns-clause-ok
returns-clause-ok c =
    ap (map (λ t. t.items)) c.in_ok-insert.ensures.keys ∙ insert_is_with_name (λ t. t.items) c.args.texts.now.keys c.in_ok-text.text
    ∙ ap (with_name (map (λ t. t.items) c.args.texts.now.keys)) c.in_ok-text.ensures.items
