use Rattle.std.proofs.Common.{◌≡◌, ◌∷◌, [], ℕ, ◌+◌, List, ap, subst, arith, length}
use Rattle.std.specs.Prelude.{MatchOption, IfSome}
use Rattle.live_table.proofs.Lists.{long_map}
use Rattle.script_spec.specs.Lines.{ScriptLine}
use Rattle.script_text.specs.Lines.{call_seen}
use Rattle.legal_spec.specs.Calls.{Stands}
use Rattle.runs_spec.specs.Scripts.{segment}
use Rattle.script_run.proofs.stage.next_line.Goals as goal

pub line_between-requires : goal.line_between-requires
line_between-requires g c = let long = long_map call_seen c.calls.result.now in
    let is = ap length c.calls.ensures in let r = c.requires in
    (r.0, omega (arith, long, is, r.1))

pub returns-clause-line : goal.returns-clause-line
returns-clause-line g c = subst (λ (ls : List ScriptLine). MatchOption c.line_between.result (segment c.args.pid c.args.from c.args.to ls ≡ [])
    (λ r. segment c.args.pid c.args.from c.args.to ls ≡ call_seen r.0 ∷ segment c.args.pid r.1 c.args.to ls)) c.calls.ensures c.line_between.ensures.line

pub returns-clause-at : goal.returns-clause-at
returns-clause-at g c = subst (λ (ls : List ScriptLine). IfSome c.line_between.result (λ r. (n : ℕ) × Stands ls n (call_seen r.0) × (r.1 ≡ n + 1)))
    c.calls.ensures c.line_between.ensures.at
