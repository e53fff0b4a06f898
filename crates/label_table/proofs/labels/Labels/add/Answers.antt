use Rattle.std.proofs.Common.{List, ℕ, length, ap, sym, ◌∙◌}
use Rattle.std.proofs.lemmas.List.{length-map}
use Rattle.std.specs.Prelude.{map}
use Rattle.smack_base.specs.Labels.{label_fault}
use Rattle.text_spec.specs.Names.{id_of}
use Rattle.label_table.proofs.Places.{place_of_added}
use Rattle.label_table.proofs.LabelTables.{put_label}
use Rattle.label_table.proofs.labels.Labels.add.Goals as goal

pub returns-clause-table : goal.returns-clause-table
returns-clause-table c =
    let keys = c.self.inside.texts.keys in
    let none = sym c.in_default.is ∙ c.id.ensures.id ∙ ap (id_of c.args.self.now) c.bytes.ensures.text in
    let put = rw (c.self.view_is, c.bytes-2.ensures.text) at c.in-Ok.ensures.ok in
    let at = c.len-place.ensures.len ∙ sym (length-map keys (λ t. t.items)) ∙ ap (λ (t : List (List ℕ)). length t) c.self.view_is in
    (put, place_of_added c.args.self.now _ c.args.label.now c.len-place.result none put at)

pub invariant_of-self-2 : goal.invariant_of-self-2
invariant_of-self-2 c =
    let keys = c.self.inside.texts.keys in
    put_label (map (λ t. t.items) keys) (map (λ t. t.items) c.put.new.texts.keys) c.bytes-2.result.now c.len-place.result c.if-place-eq-LIMIT.false
    c.self.invariant.0 (c.len-place.ensures.len ∙ sym (length-map keys (λ t. t.items))) c.in-Ok.ensures.ok
    (ap label_fault c.bytes-2.ensures.text ∙ c.bytes-2.ensures.label) c.self.invariant.1
