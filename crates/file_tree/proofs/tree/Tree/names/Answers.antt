use Rattle.std.proofs.Common.{◌≡◌, ◌∙◌, ap, subst, IfOk}
use Rattle.name_map.specs.Names.{names_in, Rises}
use Rattle.tree_spec.specs.Listed.{listed_from}
use Rattle.file_tree.specs.Indexes.{names_at}
use Rattle.file_tree.proofs.Sound.{names_are}
use Rattle.file_tree.proofs.tree.Tree.names.Goals as goal

pub returns : goal.returns
returns c =
    let rises = subst (λ b. Rises (names_in (names_at b c.args.dir))) c.as_slice.ensures.value c.listed.ensures.rises in
    rw (← c.self.view_is)
    (subst (λ ns. IfOk c.listed.result (λ list. list ≡ ns))
    (ap (λ b. listed_from c.args.at (names_in (names_at b c.args.dir))) c.as_slice.ensures.value
    ∙ names_are c.self.inside.rows.items c.self.inside.below.items c.self.inside.live c.args.dir c.args.at c.self.invariant rises)
    c.listed.ensures.names)
