-- What a kernel's answers come to, for the line that was run.
use Rattle.std.proofs.Common.{◌≡◌, ℕ, ◌+◌, ◌≤◌, List, [], ◌∷◌, ◌++◌, length, take, map, Bool, false, sym, refl, ap, ◌∙◌, subst, arith, length-append, Option, Some, None, Result, Ok, Err, take_all}
use Rattle.std.specs.Bool.{OnFalse}
use Rattle.std.proofs.lemmas.List.Sums.{sum_by-cons}
use Rattle.smack_base.specs.declared.ids.LabelId.{LabelId}
use Rattle.smack_base.specs.declared.modes.Modes.{Modes}
use Rattle.smack_base.specs.declared.cap.Cap.TheVariants as Cap
use Rattle.rules_spec.specs.declared.Batch.{Batch}
use Rattle.rules_spec.specs.declared.Verdict.{Verdict}
use Rattle.rules_spec.specs.Rulings.{ruling}
use Rattle.rules_spec.specs.Cases.{verdict_of_cases}
use Rattle.rules_spec.specs.Creds.{is_effective}
use Rattle.file_spec.specs.declared.Refusal.{Refusal}
use Rattle.file_spec.specs.declared.Refusal.TheVariants as Refusal
use Rattle.file_spec.specs.declared.Compiled.{Compiled}
use Rattle.file_spec.specs.declared.Compiled.TheVariants as Compiled
use Rattle.file_spec.specs.Files.{compiled}
use Rattle.world_spec.specs.declared.Call.{Call}
use Rattle.world_spec.specs.declared.Call.TheVariants as Call
use Rattle.world_spec.specs.Replays.{version_of}
use Rattle.script_spec.specs.Lines.{ScriptLine, word_in}
use Rattle.record_spec.specs.declared.AskedLine.{AskedLine}
use Rattle.record_spec.specs.declared.AskedWhat.TheVariants as AskedWhat
use Rattle.replay_spec.specs.declared.Act.TheVariants as Act
use Rattle.replay_spec.specs.Calls.{file_call, of_one}
use Rattle.replay_spec.specs.Acts.{act_of_line, call_by}
use Rattle.replay_spec.proofs.ReadCalls.{act_words}
use Rattle.legal_spec.specs.Legal.{rows_taken}
use Rattle.legal_spec.specs.Lines.{IsAskedOfLine}
use Rattle.live_table.specs.Batches.{journal_words, rows_of as rows_in}
use Rattle.rule_word.specs.Layout.{op_word, head_word}
use Rattle.live_table.proofs.Lists.{long_map}
use Rattle.smack_kernel.specs.Tasks.{TaskValue, IsSound, Does, Answers, Calls, LoadsOnce}
use Rattle.smack_kernel.specs.Answers.{is_fork_call, written_call, IsWriteRefused, IsTextRefused}
use Rattle.smack_kernel.specs.declared.turns.Entered.{Entered}
use Rattle.runs_spec.specs.Scripts.{Scripted}
use Rattle.runs_spec.specs.Deeds.{IsTrueAnswer}
use Rattle.runs_spec.specs.Runs.{Ran}
use Rattle.runs_spec.proofs.Calls.{line_of, does_count, sees_before, ran_entry, ran_answer}

-- the rows of a journal, counted by its batches
one_more : (head : ℕ) (ws rest : List ℕ) (n m : ℕ) → length ws ≡ n → length rest ≡ m → length ((head ∷ ws) ++ rest) ≡ (n + 1) + m
one_more head ws rest n m a b = omega (arith, length-append (head ∷ ws) rest)

rows_count : (bs : List Batch) → rows_in bs ≡ rows_taken bs
rows_count [] = refl
rows_count (b ∷ bs) = one_more (head_word b.task b.seq (length b.ops)) (map op_word b.ops) (journal_words bs) (length b.ops) (rows_taken bs)
    (long_map op_word b.ops) (rows_count bs) ∙ sym (sum_by-cons (λ (x : Batch). length x.ops + 1) b bs)

whole_version : (j : List Batch) (n : ℕ) → n ≡ length j → take n j ≡ j
whole_version j n e = take_all n j (omega (arith, e))

module _ (s : Scripted) (l : ScriptLine) (ls : List ScriptLine) (v w : TaskValue) (x y : List AskedLine) (once : LoadsOnce v w) where
  -- a question was answered
  pub ran_asked : (b : Bool) (version : ℕ) (subject object : LabelId) (m : Modes) (verdict : Verdict)
      → act_of_line s.labels s.names l ≡ Some (Act.Ask subject object m)
      → Answers v w version → verdict ≡ verdict_of_cases (ruling w.journal) subject object m
      → OnFalse b (y ≡ x ++ line_of v version (AskedWhat.Ask verdict) ∷ []) → Ran b s (l ∷ ls) ls v w x y
  ran_asked b version subject object m verdict does a is more =
      ran_answer b s l ls v w x y version (AskedWhat.Ask verdict) a.does a.made a.now
      (subst (λ (d : Verdict). IsAskedOfLine s.labels s.names l (AskedWhat.Ask d)) (sym is) does) tt
      (subst (λ (d : Verdict). d ≡ verdict_of_cases (version_of w.journal version) d.subject d.object d.modes) (sym is)
      (ap (λ (j : List Batch). verdict_of_cases (ruling j) subject object m) (sym (whole_version w.journal version (a.now ∙ a.whole)))))
      more once

  text_does : (version : ℕ) → v.version ≤ length v.journal → IsTextRefused v w version → Does v w [] []
  text_does version top t = subst (λ (u : TaskValue). Does v u [] []) (sym t.0) (does_count v (v.made + 1) top)

  abbrev Refuses : Bool → ℕ → Refusal → Type 0
  Refuses b version fault = OnFalse b (y ≡ x ++ line_of v version (AskedWhat.Refused (word_in 1 l) fault) ∷ [])

  text_refused : (b : Bool) (version : ℕ) (fault : Refusal) → v.version ≤ length v.journal → IsTextRefused v w version
      → IsAskedOfLine s.labels s.names l (AskedWhat.Refused (word_in 1 l) fault)
      → IsTrueAnswer w.journal w.history v.number (length v.history) version (AskedWhat.Refused (word_in 1 l) fault) → Refuses b version fault
      → Ran b s (l ∷ ls) ls v w x y
  text_refused b version fault top t line answer more =
      ran_answer b s l ls v w x y version (AskedWhat.Refused (word_in 1 l) fault) (text_does version top t) (ap (λ (u : TaskValue). u.made) t.0)
      (t.1 ∙ sym (ap (λ (u : TaskValue). u.version) t.0)) line tt answer more once

  -- a text was refused
  pub ran_refused : (b : Bool) (version : ℕ) (fault : Refusal) → act_of_line s.labels s.names l ≡ Some Act.Write → v.version ≤ length v.journal → IsSound v
      → IsWriteRefused s.labels v w (word_in 1 l) l.text.bytes version fault → Refuses b version fault → Ran b s (l ∷ ls) ls v w x y
  ran_refused b version Refusal.NoSuchFile does top sound r more = text_refused b version Refusal.NoSuchFile top r.1 (act_words s.labels s.names l Act.Write does, refl, r.0) tt more
  ran_refused b version Refusal.TooLong does top sound r more = text_refused b version Refusal.TooLong top r.1 (act_words s.labels s.names l Act.Write does, refl, r.0) tt more
  ran_refused b version (Refusal.BadLine bad) does top sound r more = text_refused b version (Refusal.BadLine bad) top r.1 (act_words s.labels s.names l Act.Write does, refl, r.0) tt more
  ran_refused b version (Refusal.UnknownLabel n) does top sound r more = text_refused b version (Refusal.UnknownLabel n) top r.1 (act_words s.labels s.names l Act.Write does, refl, r.0) tt more
  ran_refused b version Refusal.NotPrivileged does top sound r more =
      let a = r.2 in
      let g = a.does.grows in
      let sees = sees_before v w g.journal g.history sound in
      ran_answer b s l ls v w x y version (AskedWhat.Refused (word_in 1 l) Refusal.NotPrivileged) a.does a.made a.now (act_words s.labels s.names l Act.Write does, refl, (r.0, r.1)) tt
      (sees.0, (λ i. is_effective (sees.1 i) Cap.MacAdmin (ruling (whole_version w.journal version (a.now ∙ a.whole) i))) ∙ r.3) more once
  ran_refused b version (Refusal.JournalFull rows) does top sound r more =
      let a = r.2 in
      ran_answer b s l ls v w x y version (AskedWhat.Refused (word_in 1 l) (Refusal.JournalFull rows)) a.does a.made a.now (act_words s.labels s.names l Act.Write does, refl, (r.0, r.1, r.5)) tt
      (r.4 ∙ (rows_count w.journal ∙ ap rows_taken (sym (whole_version w.journal version (a.now ∙ a.whole))))) more once

same_call : (c : Result Compiled Refusal) → written_call c ≡ of_one (file_call c) (λ call. Call.Task call)
same_call (Ok (Compiled.Rules ops)) = refl
same_call (Ok (Compiled.SelfRules rules)) = refl
same_call (Ok (Compiled.Relabels labels)) = refl
same_call (Err fault) = refl

abbrev is_fork_in : Option Call → Bool
is_fork_in None = false
is_fork_in (Some call) = is_fork_call call

none_forks : (c : Result Compiled Refusal) → is_fork_in (written_call c) ≡ false
none_forks (Ok (Compiled.Rules ops)) = refl
none_forks (Ok (Compiled.SelfRules rules)) = refl
none_forks (Ok (Compiled.Relabels labels)) = refl
none_forks (Err fault) = refl

plain_call : (c : Result Compiled Refusal) (call : Call) → written_call c ≡ Some call → is_fork_call call ≡ false
plain_call c call e = ap is_fork_in (sym e) ∙ none_forks c

-- a text that became an object call
pub ran_written : (s : Scripted) (l : ScriptLine) (ls : List ScriptLine) (v w : TaskValue) (x : List AskedLine) (call : Call) (r : Entered)
    → act_of_line s.labels s.names l ≡ Some Act.Write → written_call (compiled s.labels (word_in 1 l) l.text.bytes) ≡ Some call → Calls v w call r
    → LoadsOnce v w → Ran false s (l ∷ ls) ls v w x x
ran_written s l ls v w x call r does is c once = ran_entry s l ls v w x call r
    (ap (call_by s.labels l) does ∙ (sym (same_call (compiled s.labels (word_in 1 l) l.text.bytes)) ∙ is))
    (plain_call (compiled s.labels (word_in 1 l) l.text.bytes) call is) c once
