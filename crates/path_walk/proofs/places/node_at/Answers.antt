use Rattle.std.proofs.Common.{◌∙◌, ◌-◌, sym, ap, arith, length, get_or}
use Rattle.path_walk.proofs.Paths.{node_is}
use Rattle.path_walk.proofs.places.node_at.Goals as goal

pub returns-in-len1-up-clause-node : goal.returns-in-len1-up-clause-node
returns-in-len1-up-clause-node c =
    let names = c.args.names.now in
    node_is c.args.tree.now names c.items.result.now c.place.result c.node_named_last.result (omega arith)
    (c.items.ensures ∙ c.last-item.is ∙ ap (λ d. get_or names (length names - 1) d) (sym c.items.ensures)) c.place.ensures.node c.node_named_last.ensures.node
