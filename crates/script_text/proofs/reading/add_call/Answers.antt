use Rattle.std.proofs.Common.{◌+◌, ℕ, sym, ap, ◌∙◌}
use Rattle.script_text.specs.Spelled.{spelled_seen}
use Rattle.script_text.proofs.Adding.{added}
use Rattle.script_text.proofs.reading.add_call.Goals as goal

pub returns-in-Ok-push-clause-ok : goal.returns-in-Ok-push-clause-ok
returns-in-Ok-push-clause-ok c =
    added c.args.draft.now _ (spelled_seen c.args.call.now) c.line.result c.requires.draft c.requires.wait
    (sym c.is_full_for.ensures ∙ c.if-is_full_for.false) c.if-call-gt-MOST_TEXT.false
    (c.in-Some.ensures.rows ∙ ap (λ (n : ℕ). c.args.draft.now.rows + n) c.in-Ok.ensures.rows) c.in-Some.ensures.within
    c.in-Ok-add_labels.ensures.ok c.in-Ok-add_labels.ensures.limit
    c.in-Ok-add.ensures c.line.ensures c.in-Ok-push.ensures.items
