use Rattle.std.proofs.Common.{◌∙◌, ◌-◌, sym, ap, arith, length, get_or}
use Rattle.path_walk.proofs.Paths.{last_is}
use Rattle.path_walk.proofs.places.last_name.Goals as goal

pub returns-in-len1-up : goal.returns-in-len1-up
returns-in-len1-up c =
    let names = c.args.names.now in
    c.items.ensures ∙ c.last-item.is ∙ ap (λ d. get_or names (length names - 1) d) (sym c.items.ensures) ∙ last_is names c.items.result.now (omega arith)
