use Rattle.std.proofs.Common.{ap, ◌∙◌}
use Rattle.std.specs.Prelude.{unwrap_or}
use Rattle.smack_base.specs.Modes.{no_modes, union, without}
use Rattle.rule_fold.proofs.Entries.{look_changed}
use Rattle.rule_fold.proofs.policy.change_rule.Goals as goal

pub returns-clause-after : goal.returns-clause-after
returns-clause-after c =
    let rule = c.copied.ensures ∙ c.get.ensures.value in
    let before = c.unwrap_or-before.ensures ∙ ap (λ o. unwrap_or o no_modes) rule in
    let m = c.less.ensures ∙ ap (λ p. without p c.args.deny) (c.plus.ensures ∙ ap (λ p. union p c.args.allow) before) in
    λ a b. c.set_rule.ensures.after a b ∙ look_changed c.args.s c.args.o a b c.args.rules.now.entries c.args.allow c.args.deny c.less.result m
