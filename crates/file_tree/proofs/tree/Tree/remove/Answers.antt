use Rattle.std.proofs.Common.{rules, sym, ap, ◌∙◌, ◌≡◌, ◌<◌, cond, None, refl, length, arith}
use Rattle.file_tree.specs.Indexes.{found, is_place}
use Rattle.file_tree.proofs.Indexed.{dir_within}
use Rattle.file_tree.proofs.Sound.{some_live, root_sound, less_sound}
use Rattle.file_tree.proofs.tree.Tree.remove.Goals as goal

pub overflow_sub-self : goal.overflow_sub-self
overflow_sub-self c =
    let rows = c.self.inside.rows.items in
    let within : c.args.n < length rows = (let count : c.len.result ≡ length rows = search rules in omega (arith, count, c.if-n-len.false)) in
    some_live rows c.self.inside.below.items c.self.inside.live c.args.n c.in-Some.row c.self.invariant within (sym c.in-Some.ensures.row)

pub invariant_of-self-in_default-parent : goal.invariant_of-self-in_default-parent
invariant_of-self-in_default-parent c =
    let rows = c.self.inside.rows.items in
    let within : c.args.n < length rows = (let count : c.len.result ≡ length rows = search rules in omega (arith, count, c.if-n-len.false)) in
    root_sound rows c.take_row.new.rows.items c.self.inside.below.items c.self.inside.live _ c.args.n c.in-Some.row c.self.invariant within
    (sym c.in-Some.ensures.row) c.in_default-parent.is refl c.take_row.ensures.rows

pub take_name-requires : goal.take_name-requires
take_name-requires c =
    dir_within c.self.inside.rows.items c.self.inside.below.items c.args.n c.in-Some-parent.dir c.in-Some.row c.self.invariant.indexed (sym c.in-Some.ensures.row) c.in-Some-parent.is

pub invariant_of-self-2 : goal.invariant_of-self-2
invariant_of-self-2 c =
    let rows = c.self.inside.rows.items in
    let below = c.self.inside.below.items in
    let within : c.args.n < length rows = (let count : c.len.result ≡ length rows = search rules in omega (arith, count, c.if-n-len.false)) in
    less_sound rows c.take_row.new.rows.items below c.take_name.new.below.items c.self.inside.live _ c.args.n c.in-Some-parent.dir c.in-Some.row
    c.self.invariant within (sym c.in-Some.ensures.row) c.in-Some-parent.is c.take_name.ensures.long
    (λ e q. c.take_name.ensures.taken e q ∙ ap (λ name. cond (is_place c.in-Some-parent.dir name e q) None (found below e q)) c.items.ensures)
    refl c.take_row.ensures.rows
