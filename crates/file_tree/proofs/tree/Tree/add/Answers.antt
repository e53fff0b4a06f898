use Rattle.std.proofs.Common.{rules, refl, sym, ap, ◌∙◌, ◌≡◌, ◌<◌, ◌-◌, ◌^◌, ◌∷◌, ◌++◌, [], Some, length, if◌then◌else◌, is_ok, arith}
use Rattle.tree_spec.specs.declared.nodes.NodeRow.{NodeRow}
use Rattle.file_tree.proofs.Sound.{live_fits, more_sound}
use Rattle.file_tree.proofs.tree.Tree.add.Goals as goal

pub overflow_add-self : goal.overflow_add-self
overflow_add-self c =
    let count : c.len.result ≡ length c.self.inside.rows.items = search rules in
    let few : length c.self.inside.rows.items < 2 ^ 32 - 1 = omega (arith, count, c.if-len.false) in
    omega (arith, live_fits c.self.inside.rows.items c.self.inside.below.items c.self.inside.live c.self.invariant few)

pub invariant_of-self-2 : goal.invariant_of-self-2
invariant_of-self-2 c =
    let number : c.len-number.result ≡ length c.self.inside.rows.items = search rules in
    let count : c.len.result ≡ length c.self.inside.rows.items = search rules in
    let row : NodeRow = record { parent = Some c.args.dir; name = c.in_ok-own.own; kind = c.args.kind; labels = c.args.labels } in
    more_sound c.self.inside.rows.items c.push.new.self.items c.self.inside.below.items c.put_more.new.below.items c.self.inside.live _ c.args.dir c.len-number.result c.in_ok-key.key row
    c.self.invariant (omega (arith, count, c.if-len.false)) (rw (c.in_ok-own.ensures, c.self.view_is) c.requires.free) refl number (c.in_ok-key.ensures ∙ sym c.in_ok-own.ensures)
    c.in_default.ensures.long c.in_default.ensures.ok refl
    (c.push.ensures.items ∙ ap (λ r. if is_ok r then c.reserve.new.self.items ++ Some row ∷ [] else c.reserve.new.self.items) c.unwrap.ensures
    ∙ (λ k. c.reserve.ensures.items k ++ Some row ∷ []))
