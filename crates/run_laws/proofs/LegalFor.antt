-- What the tasks of a script did at a kernel is a record that is legal for the script.
use Rattle.std.proofs.Common.{◌≡◌, List, [], true, sym, refl, subst}
use Rattle.rules_spec.specs.declared.Batch.{Batch}
use Rattle.world_spec.specs.declared.Entry.{Entry}
use Rattle.script_spec.specs.Lines.{table_of}
use Rattle.script_spec.specs.Tasks.{task_names}
use Rattle.record_spec.specs.declared.AskedLine.{AskedLine}
use Rattle.plain_laws.proofs.GoodLines.{good_lines}
use Rattle.plain_laws.proofs.Tasks.{names_are_a_table}
use Rattle.legal_spec.specs.Fits.{IsLegalFor}
use Rattle.live_table.specs.Lists.{Has}
use Rattle.runs_spec.specs.Scripts.{scripted}
use Rattle.run_laws.specs.Laws.{RunsAreLegalForScripts}
use Rattle.run_laws.proofs.Lists.{stands_has, has_those}
use Rattle.run_laws.proofs.Sorting.{in_order}
use Rattle.run_laws.proofs.Legal.{is_legal, entry_task}
use Rattle.run_laws.proofs.Fitting.{ForksMade, fits_script}
use Rattle.run_laws.proofs.Forked.{any_fork}

pub runs_are_legal_for_scripts : RunsAreLegalForScripts
runs_are_legal_for_scripts bytes lines is table w told ran closed c =
    let s = scripted lines in
    let g = ran.went in
    let done : true ≡ true → ran.left ≡ [] = λ _. ran.on refl in
    let forked : ForksMade w.history =
    λ n e pid st call. any_fork s w.journal w.history e (stands_has w.history n e st) pid call 0 g.run g.kids g.others
    (λ u i. subst (Has e) g.own_entries (has_those (λ (y : Entry). y.task) 0 w.history e i u)) e.task refl
    (entry_task true s ran.left done table w g (table_of lines) closed c n e st) in
    let legal = is_legal true s ran.left done table w g (table_of lines) closed c (names_are_a_table bytes lines is) in
    let fits = fits_script lines (good_lines bytes lines is) (names_are_a_table bytes lines is) ran.left done table w g (table_of lines) closed c forked in
    subst (λ (x : List Batch × List Entry × List AskedLine).
    IsLegalFor lines (record { labels = table_of lines; names = task_names lines; journal = x.0; history = x.1; asked = in_order x.2 }))
    (λ i. (sym c.journal i, sym c.history i, sym (ran.asked refl) i)) (legal, fits)
