use Rattle.std.proofs.Common.{◌≡◌, ℕ, drop, map, codes, List, [], ◌∷◌, ◌++◌, Option, Some, None, refl, sym, ap, ◌∙◌, append_assoc, append-nil, arith}
use Rattle.std.proofs.lemmas.List.{append_cancel_left}
use Rattle.rules_spec.specs.declared.Verdict.{Verdict}
use Rattle.world_spec.specs.declared.Entry.{Entry}
use Rattle.log_spec.specs.declared.Action.{Action}
use Rattle.log_spec.specs.Numerals.{numeral}
use Rattle.log_spec.specs.Words.{call_number, version_word}
use Rattle.log_spec.specs.Shown.{PrintedLine, spelled, spell_line, logged_as, audit_lines}
use Rattle.verb_spec.specs.Verbs.{call_verb}
use Rattle.record_spec.specs.Entries.{verb_words, entry_head, check_line, reply_line, entry_lines}
use Rattle.record_spec.specs.Show.{spelled_text}
use Rattle.text_spec.specs.Names.{IsLabelTable}
use Rattle.replay_spec.specs.Plain.{IsNameTable, IsPlainVerdict, IsPlainEntry}
use Rattle.text_laws.proofs.Clean.{AreClean}
use Rattle.text_laws.proofs.Cut.{cut_line}
use Rattle.text_laws.proofs.Turns.{Tells, BeginsNot, turns, first_byte, turns_tell, each_is_turn}
use Rattle.record_spec.proofs.Joined.{text-append}
use Rattle.text_laws.proofs.Numbers.{numeral_clean, call_number_clean, version_clean, call_number_told, version_told}
use Rattle.text_laws.proofs.Told.{word_at}
use Rattle.text_laws.proofs.Verdicts.{check_told}
use Rattle.text_laws.proofs.Calls.{call_clean, call_told}
use Rattle.text_laws.proofs.Replies.{reply_told}

-- the byte with which each check begins
abbrev check_tag : ℕ
check_tag = first_byte (codes "c")

-- the log of some checks begins with no check
log_begins : (labels names : List (List ℕ)) (action : Verdict → Option Action) (verb : List ℕ) (checks : List Verdict) (back : List ℕ)
    → BeginsNot check_tag back → BeginsNot check_tag (spelled_text labels names (audit_lines action verb checks) ++ back)
log_begins labels names action verb [] back other = other
log_begins labels names action verb (v ∷ vs) back other = by (action v) (log_begins labels names action verb vs back other)
  where
    by : (logged : Option Action) → BeginsNot check_tag (spelled_text labels names (audit_lines action verb vs) ++ back)
        → BeginsNot check_tag (spelled_text labels names (logged_as verb v logged ++ audit_lines action verb vs) ++ back)
    by (Some a) rest = λ is. omega (arith, is)
    by None rest = rest

-- the lines of an entry: its head, its checks, what is logged of them, and its reply
entry_parts : (labels names : List (List ℕ)) (head : PrintedLine) (checks log : List PrintedLine) (reply : PrintedLine) (rest : List ℕ)
    → spelled_text labels names (head ∷ checks ++ log ++ reply ∷ []) ++ rest
    ≡ spell_line labels names head ++ (spelled_text labels names checks ++ (spelled_text labels names log ++ (spell_line labels names reply ++ rest)))
entry_parts labels names head checks log reply rest = simp (text-append, append_assoc, append-nil) refl

-- the text of an entry, by what each check is logged as in its version
abbrev pub entry_text : List (List ℕ) → List (List ℕ) → (ℕ → Verdict → Option Action) → ℕ → Entry → List ℕ
entry_text labels names action place e = spelled_text labels names (entry_lines (action e.version) place e)

abbrev head_words : List (List ℕ) → List (List ℕ) → ℕ → Entry → List (List ℕ)
head_words labels names place e =
    numeral place ∷ call_number e.task e.seq ∷ version_word e.version ∷ spelled labels names (verb_words e.call)

module _ (labels names : List (List ℕ)) (table : IsLabelTable labels) (tasks : IsNameTable names) (action : ℕ → Verdict → Option Action) where
  -- what is logged of an entry's checks, and what stands behind its checks and its head
  abbrev log_of : Entry → List ℕ
  log_of e = spelled_text labels names (audit_lines (action e.version) (call_verb e.call) e.checks)

  abbrev line_of_reply : Entry → List ℕ
  line_of_reply e = spell_line labels names (reply_line e.reply)

  abbrev behind_checks : Entry → List ℕ → List ℕ
  behind_checks e rest = log_of e ++ (line_of_reply e ++ rest)

  abbrev behind_head : Entry → List ℕ → List ℕ
  behind_head e rest = turns (λ n v. spell_line labels names (check_line v)) 1 e.checks ++ behind_checks e rest

  entry_is : (place : ℕ) (e : Entry) (rest : List ℕ)
      → entry_text labels names action place e ++ rest ≡ spell_line labels names (entry_head place e) ++ behind_head e rest
  entry_is place e rest =
      entry_parts labels names (entry_head place e) (map check_line e.checks) (audit_lines (action e.version) (call_verb e.call) e.checks) (reply_line e.reply) rest
      ∙ ap (λ t. spell_line labels names (entry_head place e) ++ (t ++ behind_checks e rest)) (each_is_turn labels names check_line 1 e.checks)

  head_clean : (place : ℕ) (e : Entry) → IsPlainEntry labels names e → AreClean (head_words labels names place e)
  head_clean place e plain =
      (numeral_clean place, (call_number_clean e.task e.seq, (version_clean e.version, call_clean labels names table tasks e.call plain.call)))

  -- the checks of an entry are told by what stands behind its head
  checks_told : (x y : Entry) (r s : List ℕ) → IsPlainEntry labels names x → IsPlainEntry labels names y → behind_head x r ≡ behind_head y s
      → (x.checks ≡ y.checks) × (behind_checks x r ≡ behind_checks y s)
  checks_told x y r s plain plain' same =
      turns_tell (IsPlainVerdict labels) (λ t. Unit {0}) (λ n v. spell_line labels names (check_line v)) check_tag (λ n v t. refl) (λ n v t. tt)
      (λ n. check_told labels names table)
      1 x.checks y.checks (behind_checks x r) (behind_checks y s) plain.checks plain'.checks tt tt
      (log_begins labels names (action x.version) (call_verb x.call) x.checks (line_of_reply x ++ r) (λ is. omega (arith, is)))
      (log_begins labels names (action y.version) (call_verb y.call) y.checks (line_of_reply y ++ s) (λ is. omega (arith, is))) same

  -- a printed entry tells it
  pub entry_told : (place : ℕ) → Tells (IsPlainEntry labels names) (λ t. Unit {0}) (entry_text labels names action place)
  entry_told place x y r s plain plain' ends ends' same =
      let head = cut_line (codes "h") (head_words labels names place x) (head_words labels names place y) (behind_head x r) (behind_head y s) refl
      (head_clean place x plain) (head_clean place y plain') (sym (entry_is place x r) ∙ same ∙ entry_is place y s) in
      let number = call_number_told x.task y.task x.seq y.seq (ap (word_at 1) head.0) in
      let version = version_told x.version y.version (ap (word_at 2) head.0) in
      let call = call_told labels names table tasks x.call y.call plain.call plain'.call (ap (drop 3) head.0) in
      let checks = checks_told x y r s plain plain' head.1 in
      let log : log_of x ≡ log_of y = λ i. spelled_text labels names (audit_lines (action (version i)) (call_verb (call i)) (checks.0 i)) in
      let reply = reply_told labels names x.reply y.reply r s plain.reply plain'.reply tt tt
      (append_cancel_left (log_of x) (line_of_reply x ++ r) (line_of_reply y ++ s) (checks.1 ∙ ap (λ t. t ++ (line_of_reply y ++ s)) (sym log))) in
      ((λ i. record { task = number.0 i; seq = number.1 i; call = call i; version = version i; checks = checks.0 i; reply = reply.0 i }), reply.1)
