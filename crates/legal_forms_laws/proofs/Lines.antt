-- Batches, and asked, refused and waited lines.
use Rattle.std.proofs.Common.{◌≡◌, ◌≤◌, ℕ, Bool, true, false, not, ◌&&◌, ◌==◌, List, length, take, refl}
use Rattle.std.specs.Prelude.{nat_le, is_some}
use Rattle.std.specs.Bool.{Decides}
use Rattle.std.proofs.lemmas.Bool.Decides.{Decides-and, Decides-eqb}
use Rattle.smack_base.specs.declared.cap.Cap.TheVariants as Cap
use Rattle.rules_spec.specs.Cases.{verdict_of_cases}
use Rattle.rules_spec.specs.Creds.{is_effective}
use Rattle.file_spec.specs.declared.Refusal.{Refusal}
use Rattle.file_spec.specs.Writes.{rule_file}
use Rattle.world_spec.specs.Replays.{version_of, cred_at}
use Rattle.record_spec.specs.declared.AskedLine.{AskedLine}
use Rattle.record_spec.specs.declared.AskedWhat.{AskedWhat}
use Rattle.record_spec.specs.declared.RunRecord.{RunRecord}
use Rattle.legal_spec.specs.Legal.{rows_taken, IsRefused, IsSo}
use Rattle.legal_forms.specs.Forms.{is_refused, is_so}
use Rattle.legal_forms.specs.Laws.{BatchesAreDecided, LinesAreDecided}
use Rattle.legal_forms_laws.proofs.Quantified.{all_at_decides, list_all_decides}
use Rattle.legal_forms_laws.proofs.Same.{verdict_decides}
use Rattle.legal_forms_laws.proofs.Entries.{le_decides}

true_decides : (b : Bool) → Decides b (b ≡ true)
true_decides b = ((λ is. is), (λ is. is))

false_decides : (b : Bool) → Decides (not b) (b ≡ false)
false_decides true = ((λ is. absurd cc), (λ is. absurd cc))
false_decides false = ((λ is. refl), (λ is. refl))

always : Decides true (Unit {0})
always = ((λ is. tt), (λ is. refl))

pub batches_are_decided : BatchesAreDecided
batches_are_decided r =
    all_at_decides (λ i b. is_effective (cred_at r.journal r.history b.task b.seq) Cap.MacAdmin (version_of r.journal i))
    (λ i b. is_effective (cred_at r.journal r.history b.task b.seq) Cap.MacAdmin (version_of r.journal i) ≡ true)
    (λ i b. true_decides (is_effective (cred_at r.journal r.history b.task b.seq) Cap.MacAdmin (version_of r.journal i))) r.journal

refused_decides : (r : RunRecord) (a : AskedLine) (file : List ℕ) (fault : Refusal) → Decides (is_refused r a file fault) (IsRefused r a file fault)
refused_decides r a file Refusal.NoSuchFile = always
refused_decides r a file Refusal.TooLong = always
refused_decides r a file (Refusal.BadLine bad) = always
refused_decides r a file (Refusal.UnknownLabel line) = always
refused_decides r a file Refusal.NotPrivileged =
    let may = is_effective (cred_at r.journal r.history a.task a.seq) Cap.MacAdmin (version_of r.journal a.version) in
    Decides-and (is_some (rule_file file)) (not may) (true_decides (is_some (rule_file file))) (false_decides may)
refused_decides r a file (Refusal.JournalFull rows) =
    Decides-and (is_some (rule_file file)) (rows == rows_taken (take a.version r.journal)) (true_decides (is_some (rule_file file)))
    (Decides-eqb rows (rows_taken (take a.version r.journal)))

so_decides : (r : RunRecord) (a : AskedLine) (what : AskedWhat) → Decides (is_so r a what) (IsSo r a what)
so_decides r a (AskedWhat.Ask v) = verdict_decides v (verdict_of_cases (version_of r.journal a.version) v.subject v.object v.modes)
so_decides r a (AskedWhat.Refused file fault) = refused_decides r a file fault
so_decides r a (AskedWhat.Wait pid) = always

pub lines_are_decided : LinesAreDecided
lines_are_decided r =
    list_all_decides (λ a. nat_le a.version (length r.journal) && is_so r a a.what) (λ a. (a.version ≤ length r.journal) × IsSo r a a.what)
    (λ a. Decides-and (nat_le a.version (length r.journal)) (is_so r a a.what) (le_decides a.version (length r.journal)) (so_decides r a a.what))
    r.asked
