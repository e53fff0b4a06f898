-- The tasks of a script had room for the call of each of its lines, however far they came.
use Rattle.std.proofs.Common.{◌≡◌, [], true, false, Bool, not, refl, arith}
use Rattle.script_spec.specs.Lines.{table_of}
use Rattle.plain_laws.proofs.GoodLines.{good_lines}
use Rattle.plain_laws.proofs.Tasks.{names_are_a_table}
use Rattle.runs_spec.specs.Scripts.{scripted}
use Rattle.run_laws.specs.Laws.{RunsHaveRoom}
use Rattle.run_laws.proofs.Entries.{fewer_entries, calls_within}
use Rattle.run_laws.proofs.FewLines.{few_lines}
use Rattle.run_laws.proofs.Forking.{none_forked_none}

on_false : (b : Bool) → not b ≡ true → b ≡ false
on_false true e = absurd (let z : false ≡ true = e in cc)
on_false false e = refl

pub runs_have_room : RunsHaveRoom
runs_have_room bytes lines is stop table w asked ran closed c =
    let done : not stop ≡ true → ran.left ≡ [] = λ e. ran.on (on_false stop e) in (
      (λ out.
          let fewer = fewer_entries (not stop) (scripted lines) ran.left done table w ran.went (table_of lines) closed c out.lacks in
          absurd (omega (arith, fewer, out.full, few_lines bytes lines is))),
      (λ out.
          let calls = calls_within (not stop) (scripted lines) ran.left done table w ran.went (table_of lines) closed c out in
          absurd (omega (arith, calls, few_lines bytes lines is))),
      none_forked_none lines (good_lines bytes lines is) (names_are_a_table bytes lines is) (not stop) ran.left done table w ran.went
          (table_of lines) closed c,
    )
