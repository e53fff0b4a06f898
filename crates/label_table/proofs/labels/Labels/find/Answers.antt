use Rattle.std.proofs.Common.{sym, ◌∙◌, Some, None}
use Rattle.label_table.proofs.Places.{position_is_id, id_is_named}
use Rattle.label_table.proofs.labels.Labels.find.Goals as goal

pub returns-in-Some-clause-id : goal.returns-in-Some-clause-id
returns-in-Some-clause-id c = rw (← c.self.view_is)
    (position_is_id (λ t. t.items) c.args.bytes.now c.self.inside.texts.keys (Some c.in-Some.place) (sym c.in-Some.is ∙ c.get_index_of.ensures.index))

pub returns-in-Some-clause-named : goal.returns-in-Some-clause-named
returns-in-Some-clause-named c = id_is_named c.args.self.now c.args.bytes.now c.in-Some.place (returns-in-Some-clause-id c)

pub returns-in-None-clause-id : goal.returns-in-None-clause-id
returns-in-None-clause-id c = rw (← c.self.view_is)
    (position_is_id (λ t. t.items) c.args.bytes.now c.self.inside.texts.keys None (sym c.in-None.is ∙ c.get_index_of.ensures.index))
