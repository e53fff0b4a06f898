-- The whole.
use Rattle.std.proofs.lemmas.Bool.Decides.{Decides-and, Decides-like}
use Rattle.legal_forms.specs.Forms.{are_names, is_each_call_once, are_judged, are_privileged, are_answered, is_fresh, is_legal}
use Rattle.legal_forms.specs.Laws.{LegalityIsDecided}
use Rattle.legal_forms_laws.proofs.Names.{names_decide}
use Rattle.legal_forms_laws.proofs.Entries.{entries_are_decided}
use Rattle.legal_forms_laws.proofs.Lines.{batches_are_decided, lines_are_decided}
use Rattle.legal_forms_laws.proofs.Calls.{calls_are_decided, both_decide}
use Rattle.legal_forms_laws.proofs.Fresh.{freshness_is_decided}

pub legality_is_decided : LegalityIsDecided
legality_is_decided r =
    Decides-like (is_legal r)
    (λ all. record {
      names = all.0;
      calls = all.1.0;
      entries = all.1.1.0;
      batches = all.1.1.1.0;
      asked = all.1.1.1.1.0;
      fresh = all.1.1.1.1.1;
    })
    (λ legal. (legal.names, (legal.calls, (legal.entries, (legal.batches, (legal.asked, legal.fresh))))))
    (Decides-and (are_names r.names) _ (names_decide r.names)
    (both_decide (is_each_call_once r) _ (calls_are_decided r)
    (λ calls. Decides-and (are_judged r) _ (entries_are_decided r)
    (Decides-and (are_privileged r) _ (batches_are_decided r)
    (Decides-and (are_answered r) (is_fresh r) (lines_are_decided r) (freshness_is_decided r calls))))))
