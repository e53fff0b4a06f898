use Rattle.std.proofs.Common.{◌≡◌, ℕ, List, [], ◌∷◌, ◌++◌, refl, append_assoc, subst}
use Rattle.std.specs.Prelude.{Result, Ok}
use Rattle.outside.specs.Seen.{Seen}
use Rattle.record_spec.specs.declared.RunRecord.{RunRecord}
use Rattle.log_spec.specs.Shown.{PrintedLine}
use Rattle.record_spec.specs.Show.{spelled_text, head_lines, journal_lines, history_lines, question_lines, end_line, show}
use Rattle.run_report.specs.Put.{IsPut}
use Rattle.run_report.specs.declared.fault.ReportFault.{ReportFault}
use Rattle.run_report.proofs.Wrote.{Wrote, wrote_nothing, wrote_more}
use Rattle.record_spec.proofs.Joined.{text-append}

abbrev pub text_in : RunRecord → List PrintedLine → List ℕ
text_in r lines = spelled_text r.labels r.names lines

abbrev pub head_text : RunRecord → List ℕ
head_text r = text_in r (head_lines r)

abbrev pub journal_text : RunRecord → List ℕ
journal_text r = text_in r (journal_lines r)

abbrev pub history_text : RunRecord → List ℕ
history_text r = text_in r (history_lines r)

abbrev pub asked_text : RunRecord → List ℕ
asked_text r = text_in r (question_lines r)

-- what is to be written behind each part
abbrev pub after_asked : RunRecord → List ℕ
after_asked r = text_in r (end_line r ∷ []) ++ []

abbrev pub after_history : RunRecord → List ℕ
after_history r = asked_text r ++ after_asked r

abbrev pub after_journal : RunRecord → List ℕ
after_journal r = history_text r ++ after_history r

abbrev pub after_head : RunRecord → List ℕ
after_head r = journal_text r ++ after_journal r

-- the parts of a text, in the order in which they are written
parts : (r : RunRecord) (h j e q : List PrintedLine) (end : PrintedLine)
    → text_in r (h ++ j ++ e ++ q ++ end ∷ [])
    ≡ text_in r h ++ (text_in r j ++ (text_in r e ++ (text_in r q ++ (text_in r (end ∷ []) ++ []))))
parts r h j e q end = simp (append_assoc, text-append) refl

pub show_parts : (r : RunRecord) → show r ≡ head_text r ++ after_head r
show_parts r = parts r (head_lines r) (journal_lines r) (history_lines r) (question_lines r) (end_line r)

-- the first lines are spelled by the names of the record
pub head_put : (r : RunRecord) (names : List (List ℕ)) → names ≡ r.names → (a b : Seen) (done : Result (Unit {0}) ReportFault)
    → IsPut (spelled_text r.labels names (head_lines r)) a b done → IsPut (head_text r) a b done
head_put r names same a b done put = subst (λ n. IsPut (spelled_text r.labels n (head_lines r)) a b done) same put

-- a part was put
pub wrote_head : (r : RunRecord) (a b : Seen) → IsPut (head_text r) a b (Ok tt) → Wrote a b (show r) (after_head r)
wrote_head r a b head = wrote_more a a b _ _ _ _ (wrote_nothing a (show r)) (show_parts r) head

pub wrote_journal : (r : RunRecord) (a b c : Seen) → Wrote a b (show r) (after_head r) → IsPut (journal_text r) b c (Ok tt) → Wrote a c (show r) (after_journal r)
wrote_journal r a b c w journal = wrote_more a b c _ _ _ _ w refl journal

pub wrote_history : (r : RunRecord) (a b c : Seen) → Wrote a b (show r) (after_journal r) → IsPut (history_text r) b c (Ok tt) → Wrote a c (show r) (after_history r)
wrote_history r a b c w history = wrote_more a b c _ _ _ _ w refl history

pub wrote_asked : (r : RunRecord) (a b c : Seen) → Wrote a b (show r) (after_history r) → IsPut (asked_text r) b c (Ok tt) → Wrote a c (show r) (after_asked r)
wrote_asked r a b c w asked = wrote_more a b c _ _ _ _ w refl asked
