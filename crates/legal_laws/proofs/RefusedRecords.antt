-- The test of legality fails on each.
use Rattle.std.proofs.Common.{◌≡◌, false, refl, sym, ◌∙◌}
use Rattle.world_spec.specs.Steps.{verdict_of}
use Rattle.record_spec.specs.declared.RunRecord.{RunRecord}
use Rattle.legal_spec.specs.Legal.{IsLegal}
use Rattle.legal_forms.specs.Forms.{is_legal}
use Rattle.legal_forms_laws.proofs.Whole.{legality_is_decided}
use Rattle.legal_laws.specs.RefusedRecords.{stale_ask, wrong_answer, stale_child, early_wait, early_entry, early_child, swapped_batches, unprivileged_batch, falling_version, swapped_lines, unknown_task, missing_number, name_twice, wrong_reply, wrong_check, missing_check, entry_beyond, ask_beyond, privileged_refusal, own_file_refusal, wrong_rows, wait_below_grandchild, wait_before_fork, wait_for_sibling, wait_for_nobody, RefusedRecords}

refuses : (r : RunRecord) → is_legal r ≡ false → IsLegal r → ⊥
refuses r fails legal = let wrong = sym ((legality_is_decided r).1 legal) ∙ fails in cc

pub refused : RefusedRecords
unfolding verdict_of
refused = record {
  ask = refuses stale_ask refl;
  answer = refuses wrong_answer refl;
  child = refuses stale_child refl;
  wait = refuses early_wait refl;
  waiter = refuses early_entry refl;
  fork = refuses early_child refl;
  batches = refuses swapped_batches refl;
  privilege = refuses unprivileged_batch refl;
  version = refuses falling_version refl;
  lines = refuses swapped_lines refl;
  task = refuses unknown_task refl;
  number = refuses missing_number refl;
  name = refuses name_twice refl;
  reply = refuses wrong_reply refl;
  check = refuses wrong_check refl;
  no_check = refuses missing_check refl;
  entry_within = refuses entry_beyond refl;
  ask_within = refuses ask_beyond refl;
  effective = refuses privileged_refusal refl;
  own_file = refuses own_file_refusal refl;
  rows = refuses wrong_rows refl;
  descendant = refuses wait_below_grandchild refl;
  early = refuses wait_before_fork refl;
  other_child = refuses wait_for_sibling refl;
  no_child = refuses wait_for_nobody refl;
  falls_at = refl;
  replies_at = refl;
  nowhere = refl;
}
