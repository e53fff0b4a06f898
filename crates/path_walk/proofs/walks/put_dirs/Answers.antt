use Rattle.std.proofs.Common.{◌∙◌, sym, ap, arith, append-nil, get_or, None, Some}
use Rattle.path_walk.proofs.Walking.{node_at_name, parts_at_name}
use Rattle.path_walk.proofs.walks.put_dirs.Goals as goal

pub returns-in-None-clause-node : goal.returns-in-None-clause-node
returns-in-None-clause-node c =
    let names = c.args.names.now in
    let i = c.loop-name.name-index in
    let is = c.items.ensures ∙ c.name-item.is ∙ ap (λ d. get_or names i d) (sym c.items.ensures) in
    node_at_name c.args.tree.now c.loop-name.dir names i c.items.result.now None _ (omega arith) is (sym c.in-None.is ∙ c.in_ok-put_step.ensures.next) c.loop-name.invariant.1

pub returns-in-None-clause-parts : goal.returns-in-None-clause-parts
returns-in-None-clause-parts c =
    let names = c.args.names.now in
    let i = c.loop-name.name-index in
    let is = c.items.ensures ∙ c.name-item.is ∙ ap (λ d. get_or names i d) (sym c.items.ensures) in
    sym (append-nil c.put_step.new.parts.items)
    ∙ parts_at_name c.args.who c.args.tree.now c.loop-name.dir names i c.items.result.now None c.loop-name.parts.items c.put_step.new.parts.items _ (omega arith) is
    (sym c.in-None.is ∙ c.in_ok-put_step.ensures.next) c.in_ok-put_step.ensures.parts c.loop-name.invariant.0

pub loop-name-preserved : goal.loop-name-preserved
loop-name-preserved c =
    let names = c.args.names.now in
    let i = c.loop-name.name-index in
    let is = c.items.ensures ∙ c.name-item.is ∙ ap (λ d. get_or names i d) (sym c.items.ensures) in (
      parts_at_name c.args.who c.args.tree.now c.loop-name.dir names i c.items.result.now (Some c.in-Some.next) c.loop-name.parts.items c.put_step.new.parts.items _ (omega arith) is
          (sym c.in-Some.is ∙ c.in_ok-put_step.ensures.next) c.in_ok-put_step.ensures.parts c.loop-name.invariant.0,
      node_at_name c.args.tree.now c.loop-name.dir names i c.items.result.now (Some c.in-Some.next) _ (omega arith) is (sym c.in-Some.is ∙ c.in_ok-put_step.ensures.next) c.loop-name.invariant.1,
    )
