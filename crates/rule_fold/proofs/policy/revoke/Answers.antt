use Rattle.std.proofs.Common.{rules, List, ap, ◌∙◌}
use Rattle.rule_fold.specs.Index.{look, Entry}
use Rattle.rule_fold.proofs.Entries.{map_by_key, look_revoked, emptied}
use Rattle.rule_fold.proofs.policy.revoke.Goals as goal

pub returns-clause-after : goal.returns-clause-after
returns-clause-after c = λ a b.
    let kept = map_by_key _ (emptied c.args.s) _ (λ k v b w f' t. search rules) _ _ c.retain.ensures.filtered in
    ap (λ (es : List Entry). look es a b) kept ∙ look_revoked c.args.s a b c.args.rules.now.entries
