use Rattle.std.proofs.Common.{rules, sym, ◌∙◌, ◌≡◌, ◌<◌, None, Some, length, arith, slice_set}
use Rattle.std.specs.Option.{option_map}
use Rattle.std.proofs.lemmas.List.{set-set}
use Rattle.tree_spec.specs.Trees.{relabelled}
use Rattle.file_tree.proofs.Sound.{labels_sound}
use Rattle.file_tree.proofs.tree.Tree.set_labels.Goals as goal

pub invariant_of-self : goal.invariant_of-self
invariant_of-self c =
    let rows = c.self.inside.rows.items in
    let within : c.args.n < length rows = (let count : c.len.result ≡ length rows = search rules in omega (arith, count, c.if-n-len.false)) in
    labels_sound rows c.put_row.new.rows.items c.self.inside.below.items c.self.inside.live c.args.n c.in-Some.row c.args.labels c.self.invariant within (sym c.in-Some.ensures.row)
    (c.put_row.ensures ∙ (λ k. slice_set (c.take_row.ensures.rows k) c.args.n (Some (c.relabelled_row.ensures k))) ∙ set-set rows c.args.n None (Some (relabelled c.args.labels c.in-Some.row)))

pub returns-in-Some : goal.returns-in-Some
returns-in-Some c =
    let rows = c.self.inside.rows.items in
    rw (← c.self.view_is)
    (c.put_row.ensures ∙ (λ k. slice_set (c.take_row.ensures.rows k) c.args.n (Some (c.relabelled_row.ensures k))) ∙ set-set rows c.args.n None (Some (relabelled c.args.labels c.in-Some.row))
    ∙ (λ k. slice_set rows c.args.n (option_map (relabelled c.args.labels) (c.in-Some.ensures.row k))))
