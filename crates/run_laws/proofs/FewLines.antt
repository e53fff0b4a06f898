-- A script has as many calls as it may have lines, or fewer.
use Rattle.std.proofs.Common.{◌≡◌, ℕ, ◌+◌, ◌-◌, ◌<◌, ◌≤◌, ◌==◌, Bool, true, false, if◌then◌else◌, List, [], ◌∷◌, ◌++◌, length, subst, arith, length-append, Option, Ok}
use Rattle.std.specs.Prelude.{nat_lt}
use Rattle.std.proofs.lemmas.Bool.{ltb-false}
use Rattle.text_spec.specs.Texts.{TextLine, lines_from}
use Rattle.script_spec.specs.declared.What.TheVariants as What
use Rattle.script_spec.specs.declared.ScriptFault.{ScriptFault}
use Rattle.script_spec.specs.Lines.{ScriptLine}
use Rattle.script_spec.specs.Grammar.{item_of, items, is_skipped, text_count, spaced_words, item_fault, call_of, calls_of, lines_fault, script_of, most_bytes, most_lines, parse}
use Rattle.replay_spec.proofs.KnownLabels.{not_refused}
use Rattle.plain_laws.proofs.GoodLines.{within_limit, no_fault, ok_same}

module _ (behind : Option ScriptFault) (lines : List ScriptLine) where
  few_calls : (line text : ℕ) (ls : List TextLine) (above : List ScriptLine) → length above < line → length above ≤ most_lines
      → calls_of behind above (items line text ls) ≡ Ok lines → length lines ≤ most_lines
  few_calls line text [] above low few is =
      subst (λ (ls : List ScriptLine). length ls ≤ most_lines) (ok_same above lines (no_fault behind (Ok above) lines is).1) few
  few_calls line text (l ∷ ls) above low few is =
      by (text == 0) (is_skipped l) (λ text' above' low' few' is'. few_calls (line + 1) text' ls above' low' few' is') is
    where
      call : (text' : ℕ) → ((text' : ℕ) (above' : List ScriptLine) → length above' < line + 1 → length above' ≤ most_lines
          → calls_of behind above' (items (line + 1) text' ls) ≡ Ok lines → length lines ≤ most_lines)
          → calls_of behind above (item_of line l ls ∷ items (line + 1) text' ls) ≡ Ok lines → length lines ≤ most_lines
      call text' rest is =
          let i = item_of line l ls in
          let parts = no_fault (item_fault above i) (calls_of behind (above ++ call_of above i ∷ []) (items (line + 1) text' ls)) lines is in
          let within = ltb-false most_lines line (within_limit (nat_lt most_lines line) (ScriptFault.TooLarge What.Lines) _ parts.0) in
          let long = length-append above (call_of above i ∷ []) in
          rest text' (above ++ call_of above i ∷ []) (omega (arith, long, low)) (omega (arith, long, low, within)) parts.1

      by : (none skipped : Bool) → ((text' : ℕ) (above' : List ScriptLine) → length above' < line + 1 → length above' ≤ most_lines
          → calls_of behind above' (items (line + 1) text' ls) ≡ Ok lines → length lines ≤ most_lines)
          → calls_of behind above (if none then (if skipped then items (line + 1) 0 ls
          else item_of line l ls ∷ items (line + 1) (text_count (spaced_words l)) ls) else items (line + 1) (text - 1) ls) ≡ Ok lines
          → length lines ≤ most_lines
      by true true rest is = rest 0 above (omega (arith, low)) few is
      by true false rest is = call (text_count (spaced_words l)) rest is
      by false skipped rest is = rest (text - 1) above (omega (arith, low)) few is

pub few_lines : (bytes : List ℕ) (lines : List ScriptLine) → parse bytes ≡ Ok lines → length lines ≤ most_lines
few_lines bytes lines is =
    few_calls (lines_fault (lines_from 0 bytes)) lines 1 0 (lines_from 0 bytes) [] (omega arith) (omega arith)
    (not_refused (nat_lt most_bytes (length bytes)) (ScriptFault.TooLarge What.Bytes) (script_of (lines_from 0 bytes)) lines is)
