use Rattle.std.proofs.Common.{sym, ap, ◌∙◌, ◌≡◌, ◌<◌, cond, None, Some, refl, subst, slice_set}
use Rattle.std.specs.Option.{option_map}
use Rattle.std.proofs.lemmas.List.{set-set}
use Rattle.tree_spec.specs.declared.nodes.NodeRow.{NodeRow}
use Rattle.tree_spec.specs.Trees.{node_at, parent_of, moved, put_below}
use Rattle.file_tree.specs.Indexes.{found, is_place}
use Rattle.file_tree.proofs.Indexed.{dir_within}
use Rattle.file_tree.proofs.Sound.{moved_sound, placed_within}
use Rattle.file_tree.proofs.tree.Tree.move_to.Goals as goal

pub take_name-requires : goal.take_name-requires
take_name-requires c =
    let rows = c.self.inside.rows.items in
    let here : node_at rows c.args.n ≡ Some c.in-Some-take_row.row = sym c.in-Some-take_row.ensures.row in
    let placed : parent_of (node_at rows c.args.n) ≡ Some c.in-Some.from = sym (c.in-Some.ensures ∙ ap (λ ns. parent_of (node_at ns c.args.n)) c.deref.ensures.value) in
    subst (λ k. c.in-Some.from < k) (sym c.in_default-put_name.ensures.long)
    (dir_within rows c.self.inside.below.items c.args.n c.in-Some.from c.in-Some-take_row.row c.self.invariant.indexed here (sym (ap parent_of here) ∙ placed))

pub invariant_of-self-in-Some-take_row : goal.invariant_of-self-in-Some-take_row
invariant_of-self-in-Some-take_row c =
    let rows = c.self.inside.rows.items in
    let below = c.self.inside.below.items in
    let own = c.in_ok-own.own in
    let row = c.in-Some-take_row.row in
    let here : node_at rows c.args.n ≡ Some row = sym c.in-Some-take_row.ensures.row in
    let placed : parent_of (node_at rows c.args.n) ≡ Some c.in-Some.from = sym (c.in-Some.ensures ∙ ap (λ ns. parent_of (node_at ns c.args.n)) c.deref.ensures.value) in
    let new : NodeRow = record row { parent = Some c.args.dir; name = own } in
    moved_sound rows c.put_row.new.rows.items below c.take_name.new.below.items c.self.inside.live c.args.n c.in-Some.from c.args.dir row new
    c.self.invariant (placed_within rows c.args.n c.in-Some.from placed) here (sym (ap parent_of here) ∙ placed)
    (rw (c.in_ok-own.ensures, c.self.view_is) c.requires.free) refl (c.take_name.ensures.long ∙ c.in_default-put_name.ensures.long)
    (λ f q. c.take_name.ensures.taken f q
    ∙ (λ k. cond (is_place c.in-Some.from (c.items.ensures k) f q) None (c.in_default-put_name.ensures.ok f q k))
    ∙ (λ k. cond (is_place c.in-Some.from row.name f q) None
    (cond (is_place c.args.dir ((c.in_ok-key.ensures ∙ sym c.in_ok-own.ensures) k) f q) (Some c.args.n) (found below f q))))
    (c.put_row.ensures ∙ (λ k. slice_set (c.take_row.ensures.rows k) c.args.n (Some (c.moved_row.ensures k))) ∙ set-set rows c.args.n None (Some new))

pub returns-in-Some-take_row-clause-ok : goal.returns-in-Some-take_row-clause-ok
returns-in-Some-take_row-clause-ok c =
    let rows = c.self.inside.rows.items in
    let own = c.in_ok-own.own in
    let row = c.in-Some-take_row.row in
    let here : node_at rows c.args.n ≡ Some row = sym c.in-Some-take_row.ensures.row in
    let placed : parent_of (node_at rows c.args.n) ≡ Some c.in-Some.from = sym (c.in-Some.ensures ∙ ap (λ ns. parent_of (node_at ns c.args.n)) c.deref.ensures.value) in
    let there : row.parent ≡ Some c.in-Some.from = sym (ap parent_of here) ∙ placed in
    let new : NodeRow = record row { parent = Some c.args.dir; name = own } in
    rw (← c.self.view_is)
    (c.put_row.ensures ∙ (λ k. slice_set (c.take_row.ensures.rows k) c.args.n (Some (c.moved_row.ensures k)))
    ∙ set-set rows c.args.n None (Some new)
    ∙ (λ k. slice_set rows c.args.n (Some (put_below c.args.dir own row (sym there k))))
    ∙ (λ k. slice_set rows c.args.n (option_map (moved c.args.dir (c.in_ok-own.ensures k)) (sym here k))))
