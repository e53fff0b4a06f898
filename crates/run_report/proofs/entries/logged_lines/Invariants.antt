use Rattle.std.proofs.Common.{◌≡◌, ◌++◌, take}
use Rattle.log_spec.specs.Audits.{selected_as}
use Rattle.log_spec.specs.Shown.{audit_lines}
use Rattle.verb_spec.specs.Verbs.{call_verb}
use Rattle.run_report.specs.Spelling.{lines_spelled_by}
use Rattle.run_report.proofs.entries.logged_lines.Given as goal

abbrev pub invariant-loop-v : goal.invariant-loop-v
invariant-loop-v l = l.page ≡ l.fn.page ++ lines_spelled_by l.by (audit_lines (selected_as l.fn.mode) (call_verb l.fn.entry.call) (take l.v-index l.v-items))
