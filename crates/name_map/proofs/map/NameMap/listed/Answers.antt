use Rattle.std.proofs.Common.{◌∙◌, ◌≡◌, ◌++◌, arith, subst, zero}
use Rattle.tree_spec.specs.Listed.{listed_from}
use Rattle.name_map.specs.Names.{names_in}
use Rattle.name_map.proofs.Listings.{left, all_left, one_listed, names_rise}
use Rattle.name_map.proofs.map.NameMap.listed.Goals as goal

pub loop-name-init : goal.loop-name-init
loop-name-init c =
    rw (← c.self.view_is, c.new-list.ensures)
    (all_left (λ k. k.items) c.args.at c.self.inside.map.entries c.into_iter-name-iterator.result (c.into_iter-name-iterator.ensures.into_iter_gives ∙ c.keys-name-items.ensures.rest))

pub returns-then-wanted-eq0-clause-rises : goal.returns-then-wanted-eq0-clause-rises
returns-then-wanted-eq0-clause-rises c = rw (← c.self.view_is) (names_rise (λ k. k.items) c.self.inside.map.entries c.keys-name-items.ensures.ordered)

pub returns-in_err-push-clause-rises : goal.returns-in_err-push-clause-rises
returns-in_err-push-clause-rises c = rw (← c.self.view_is) (names_rise (λ k. k.items) c.self.inside.map.entries c.keys-name-items.ensures.ordered)

pub loop-name-preserved : goal.loop-name-preserved
loop-name-preserved c =
    let here : c.loop-name.ahead ≡ zero = omega (arith, c.if-ahead-gt0.false) in
    let whole = listed_from c.args.at (names_in c.args.self.now) in
    rw (here, c.in_ok-push.ensures.ok, c.as_slice.ensures.value)
    (one_listed (λ k. k.items) c.loop-name.list whole c.loop-name.wanted c.in-Some.name.now c.loop-name.name-iterator c.next.new.self c.if-wanted-eq0.false c.in-Some.ensures.steps
    (subst (λ a. c.loop-name.list ++ left (λ k. k.items) c.loop-name.wanted a c.loop-name.name-iterator ≡ whole) here c.loop-name.invariant))

pub returns-clause-rises : goal.returns-clause-rises
returns-clause-rises c = rw (← c.self.view_is) (names_rise (λ k. k.items) c.self.inside.map.entries c.keys-name-items.ensures.ordered)
