use Rattle.std.proofs.Common.{sym, ◌∙◌, append-nil, [], false}
use Rattle.smack_kernel.proofs.publishing.give_pen_back.Goals as goal

pub returns-clause-view : goal.returns-clause-view
returns-clause-view c =
    let v = c.args.seat.now.view in
    c.publish.ensures.published [] c.requires.none (λ b h. elim h [ ])
    ∙ (λ i. record v { journal = append-nil v.journal i; pen = false; filled = sym c.requires.none i })
