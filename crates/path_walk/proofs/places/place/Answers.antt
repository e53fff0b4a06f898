use Rattle.std.proofs.Common.{◌∙◌, sym, ap, arith, get_or, None}
use Rattle.path_walk.proofs.Walking.{node_at_name}
use Rattle.path_walk.proofs.places.place.Goals as goal

pub returns-in-None-clause-node : goal.returns-in-None-clause-node
returns-in-None-clause-node c =
    let names = c.args.names.now in
    let i = c.loop-name.name-index in
    let is = c.items.ensures ∙ c.name-item.is ∙ ap (λ d. get_or names i d) (sym c.items.ensures) in
    node_at_name c.args.tree.now c.loop-name.at names i c.items.result.now None _ (omega arith) is (sym c.in-None.is ∙ c.look.ensures.node) c.loop-name.invariant.0
