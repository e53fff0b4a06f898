use Rattle.std.proofs.Common.{get_or, ap, ◌∙◌}
use Rattle.std.proofs.lemmas.List.{length-map}
use Rattle.label_table.proofs.Places.{place_of_text}
use Rattle.label_table.proofs.labels.Labels.name.Goals as goal

pub returns-clause-own : goal.returns-clause-own
returns-clause-own c =
    let keys = c.self.inside.texts.keys in
    let within = rw (← c.self.view_is) at c.requires in
    let at = c.index-as_slice-id.is ∙ ap (λ ks. get_or ks c.args.id.0 c.index-as_slice-id.result) c.as_slice.ensures.keys in
    rw (c.as_slice-2.ensures.value, ← c.self.view_is)
    (place_of_text (λ t. t.items) keys c.args.id.0 c.index-as_slice-id.result c.as_slice.ensures.unique (rw length-map at within) at)
