use Rattle.std.proofs.Common.{◌≡◌, ◌∙◌, ap, subst, length, arith}
use Rattle.name_map.specs.Names.{names_in, Rises}
use Rattle.file_tree.specs.Indexes.{names_at}
use Rattle.file_tree.proofs.Sound.{count_is, count_fits}
use Rattle.file_tree.proofs.tree.Tree.count.Goals as goal

pub overflow_cast-result : goal.overflow_cast-result
overflow_cast-result c =
    let is : c.count.result ≡ length (names_at c.self.inside.below.items c.args.dir) = c.count.ensures.count ∙ ap (λ b. length (names_at b c.args.dir)) c.as_slice.ensures.value in
    let rises = subst (λ b. Rises (names_in (names_at b c.args.dir))) c.as_slice.ensures.value c.count.ensures.rises in
    omega (arith, is, count_fits c.self.inside.rows.items c.self.inside.below.items c.self.inside.live c.args.dir c.self.invariant rises)

pub returns : goal.returns
returns c =
    let rises = subst (λ b. Rises (names_in (names_at b c.args.dir))) c.as_slice.ensures.value c.count.ensures.rises in
    rw (← c.self.view_is)
    (c.count.ensures.count ∙ ap (λ b. length (names_at b c.args.dir)) c.as_slice.ensures.value
    ∙ count_is c.self.inside.rows.items c.self.inside.below.items c.self.inside.live c.args.dir c.self.invariant rises)
