use Rattle.std.specs.Prelude.{◌≡◌, ℕ, List, [], ◌∷◌, ◌++◌, Ok, Err, Result, codes, replicate}
use Rattle.std.specs.List.{flat_map}
use Rattle.script_spec.specs.declared.ScriptFault.{ScriptFault}
use Rattle.script_spec.specs.Lines.{ScriptLine}
use Rattle.script_spec.specs.Grammar.{parse}
use Rattle.record_spec.specs.Show.{show}
use Rattle.replay_spec.specs.Replays.{replayed}

-- lines, each with its line feed
abbrev pub text : List (List ℕ) → List ℕ
text lines = flat_map (λ l. l ++ codes "\n") lines

abbrev pub shown_record : Result (List ScriptLine) ScriptFault → Result (List ℕ) ScriptFault
shown_record (Ok lines) = Ok (show (replayed lines))
shown_record (Err fault) = Err fault

-- the script of these lines, replayed, has these lines as the text of its record
abbrev pub Prints : List (List ℕ) → List (List ℕ) → Type 0
Prints script lines = shown_record (parse (text script)) ≡ Ok (text lines)

-- a rule and a question
abbrev pub script_question : List (List ℕ)
script_question =
    codes "init write load2 1"
    ∷ codes "A B rw"
    ∷ codes "init ask A B r"
    ∷ []

abbrev pub record_question : List (List ℕ)
record_question =
    codes "smack 1"
    ∷ codes "task 0 init"
    ∷ codes "j 1 0.1 1"
    ∷ codes "o set A B rw"
    ∷ codes "q 0.2 v1 ask A B r"
    ∷ codes "= allow 6"
    ∷ codes "end 1 0 1"
    ∷ []

-- nothing
abbrev pub script_empty : List (List ℕ)
script_empty = []

abbrev pub record_empty : List (List ℕ)
record_empty =
    codes "smack 1"
    ∷ codes "task 0 init"
    ∷ codes "end 0 0 0"
    ∷ []

-- the star label as the subject
abbrev pub script_star : List (List ℕ)
script_star =
    codes "init ask * * r"
    ∷ []

abbrev pub record_star : List (List ℕ)
record_star =
    codes "smack 1"
    ∷ codes "task 0 init"
    ∷ codes "q 0.1 v0 ask * * r"
    ∷ codes "= deny 1"
    ∷ codes "end 0 0 1"
    ∷ []

-- the hat label reads and executes
abbrev pub script_hat : List (List ℕ)
script_hat =
    codes "init ask ^ B rw"
    ∷ codes "init ask ^ B rx"
    ∷ []

abbrev pub record_hat : List (List ℕ)
record_hat =
    codes "smack 1"
    ∷ codes "task 0 init"
    ∷ codes "q 0.1 v0 ask ^ B rw"
    ∷ codes "= deny 7"
    ∷ codes "q 0.2 v0 ask ^ B rx"
    ∷ codes "= allow 2"
    ∷ codes "end 0 0 2"
    ∷ []

-- the floor label, and no modes
abbrev pub script_floor : List (List ℕ)
script_floor =
    codes "init ask A _ x"
    ∷ codes "init ask A _ w"
    ∷ codes "init ask A B -"
    ∷ codes "init write load2 1"
    ∷ codes "A _ w"
    ∷ codes "init ask A _ w"
    ∷ []

abbrev pub record_floor : List (List ℕ)
record_floor =
    codes "smack 1"
    ∷ codes "task 0 init"
    ∷ codes "j 1 0.4 1"
    ∷ codes "o set A _ w"
    ∷ codes "q 0.1 v0 ask A _ x"
    ∷ codes "= allow 3"
    ∷ codes "q 0.2 v0 ask A _ w"
    ∷ codes "= deny 7"
    ∷ codes "q 0.3 v0 ask A B -"
    ∷ codes "= deny 7"
    ∷ codes "q 0.5 v1 ask A _ w"
    ∷ codes "= allow 6"
    ∷ codes "end 1 0 4"
    ∷ []

-- letters of either case, and a rule without modes
abbrev pub script_letters : List (List ℕ)
script_letters =
    codes "init write load2 2"
    ∷ codes "New Old rRrRr"
    ∷ codes "Closed Off -"
    ∷ codes "init ask New Old r"
    ∷ codes "init ask Closed Off r"
    ∷ codes "init ask Closed Off -"
    ∷ []

abbrev pub record_letters : List (List ℕ)
record_letters =
    codes "smack 1"
    ∷ codes "task 0 init"
    ∷ codes "j 1 0.1 2"
    ∷ codes "o set New Old r"
    ∷ codes "o set Closed Off -"
    ∷ codes "q 0.2 v1 ask New Old r"
    ∷ codes "= allow 6"
    ∷ codes "q 0.3 v1 ask Closed Off r"
    ∷ codes "= deny 7"
    ∷ codes "q 0.4 v1 ask Closed Off -"
    ∷ codes "= allow 6"
    ∷ codes "end 1 0 3"
    ∷ []

-- a bad line refuses its whole text
abbrev pub script_bad_line : List (List ℕ)
script_bad_line =
    codes "init write load2 3"
    ∷ codes "A B r"
    ∷ codes "A C r"
    ∷ codes "A B z"
    ∷ []

abbrev pub record_bad_line : List (List ℕ)
record_bad_line =
    codes "smack 1"
    ∷ codes "task 0 init"
    ∷ codes "q 0.1 v0 write load2"
    ∷ codes "= bad-line 3 allow 0"
    ∷ codes "end 0 0 1"
    ∷ []

-- subjects at the bounds of their lengths, and lines of fixed width
abbrev pub script_bounds : List (List ℕ)
script_bounds =
    codes "init write load2 1"
    ∷ (replicate 255 65 ++ codes " B r")
    ∷ codes "init write load2 1"
    ∷ (replicate 256 65 ++ codes " B r")
    ∷ codes "init write load 1"
    ∷ codes " CCCCCCCCCCCCCCCCCCCCCCCB                       r    "
    ∷ codes "init write load 1"
    ∷ codes "CCCCCCCCCCCCCCCCCCCCCCCCB                       r    "
    ∷ codes "init write load 1"
    ∷ codes "C                       B                       r   "
    ∷ []

abbrev pub record_bounds : List (List ℕ)
record_bounds =
    codes "smack 1"
    ∷ codes "task 0 init"
    ∷ codes "j 1 0.1 1"
    ∷ (codes "o set " ++ replicate 255 65 ++ codes " B r")
    ∷ codes "j 2 0.3 1"
    ∷ codes "o set CCCCCCCCCCCCCCCCCCCCCCC B r"
    ∷ codes "q 0.2 v1 write load2"
    ∷ codes "= bad-line 1 subject too-long"
    ∷ codes "q 0.4 v2 write load"
    ∷ codes "= bad-line 1 subject too-long"
    ∷ codes "q 0.5 v2 write load"
    ∷ codes "= bad-line 1 width 52"
    ∷ codes "end 2 0 3"
    ∷ []

-- rules that change and rules that are revoked
abbrev pub script_changes : List (List ℕ)
script_changes =
    codes "init write change-rule 2"
    ∷ codes "A B rw w"
    ∷ codes "C B r -"
    ∷ codes "init ask A B r"
    ∷ codes "init ask A B w"
    ∷ codes "init write revoke-subject 1"
    ∷ codes "A"
    ∷ codes "init ask A B r"
    ∷ codes "init write change-rule 1"
    ∷ codes "A B x w"
    ∷ codes "init ask A B x"
    ∷ codes "init ask A B rx"
    ∷ codes "init ask C B r"
    ∷ []

abbrev pub record_changes : List (List ℕ)
record_changes =
    codes "smack 1"
    ∷ codes "task 0 init"
    ∷ codes "j 1 0.1 2"
    ∷ codes "o change A B rw w"
    ∷ codes "o change C B r -"
    ∷ codes "j 2 0.4 1"
    ∷ codes "o revoke A"
    ∷ codes "j 3 0.6 1"
    ∷ codes "o change A B x w"
    ∷ codes "q 0.2 v1 ask A B r"
    ∷ codes "= allow 6"
    ∷ codes "q 0.3 v1 ask A B w"
    ∷ codes "= deny 7"
    ∷ codes "q 0.5 v2 ask A B r"
    ∷ codes "= deny 7"
    ∷ codes "q 0.7 v3 ask A B x"
    ∷ codes "= allow 6"
    ∷ codes "q 0.8 v3 ask A B rx"
    ∷ codes "= deny 7"
    ∷ codes "q 0.9 v3 ask C B r"
    ∷ codes "= allow 6"
    ∷ codes "end 3 0 6"
    ∷ []

-- the onlycap list takes the writer's privilege
abbrev pub script_onlycap : List (List ℕ)
script_onlycap =
    codes "init write onlycap 1"
    ∷ codes "Admin"
    ∷ codes "init write load2 1"
    ∷ codes "A B r"
    ∷ []

abbrev pub record_onlycap : List (List ℕ)
record_onlycap =
    codes "smack 1"
    ∷ codes "task 0 init"
    ∷ codes "j 1 0.1 2"
    ∷ codes "o only-clear"
    ∷ codes "o only-add Admin"
    ∷ codes "q 0.2 v1 write load2"
    ∷ codes "= not-privileged"
    ∷ codes "end 1 0 1"
    ∷ []

-- object calls of one task
abbrev pub script_calls : List (List ℕ)
script_calls =
    codes "init create /f"
    ∷ codes "init relabel A"
    ∷ codes "init list / 0"
    ∷ codes "init drop mac-override"
    ∷ codes "init unlink /f"
    ∷ codes "init drop mac-admin"
    ∷ codes "init relabel B"
    ∷ []

abbrev pub record_calls : List (List ℕ)
record_calls =
    codes "smack 1"
    ∷ codes "task 0 init"
    ∷ codes "h 1 0.1 v0 create /f"
    ∷ codes "c _ _ x allow 3"
    ∷ codes "c _ _ rw allow 5"
    ∷ codes "= ok"
    ∷ codes "h 2 0.2 v0 relabel A"
    ∷ codes "= ok"
    ∷ codes "h 3 0.3 v0 list / 0"
    ∷ codes "c A _ r allow 3"
    ∷ codes "= names 1 1 f"
    ∷ codes "h 4 0.4 v0 drop mac-override"
    ∷ codes "= ok"
    ∷ codes "h 5 0.5 v0 unlink /f"
    ∷ codes "c A _ x allow 3"
    ∷ codes "c A _ rw deny 7"
    ∷ codes "a action=denied fn=unlink subject=A object=_ requested=rw case=7"
    ∷ codes "= denied 7"
    ∷ codes "h 6 0.6 v0 drop mac-admin"
    ∷ codes "= ok"
    ∷ codes "h 7 0.7 v0 relabel B"
    ∷ codes "= not-privileged"
    ∷ codes "end 0 7 0"
    ∷ []

-- granted checks in the system's log, and then none
abbrev pub script_logging : List (List ℕ)
script_logging =
    codes "init write logging 1"
    ∷ codes "2"
    ∷ codes "init list / 0"
    ∷ codes "init write logging 1"
    ∷ codes "0"
    ∷ codes "init list / 0"
    ∷ []

abbrev pub record_logging : List (List ℕ)
record_logging =
    codes "smack 1"
    ∷ codes "task 0 init"
    ∷ codes "j 1 0.1 1"
    ∷ codes "o logging 2"
    ∷ codes "j 2 0.3 1"
    ∷ codes "o logging 0"
    ∷ codes "h 1 0.2 v1 list / 0"
    ∷ codes "c _ _ r allow 3"
    ∷ codes "a action=granted fn=list subject=_ object=_ requested=r case=3"
    ∷ codes "= names 0 0"
    ∷ codes "h 2 0.4 v2 list / 0"
    ∷ codes "c _ _ r allow 3"
    ∷ codes "= names 0 0"
    ∷ codes "end 2 2 0"
    ∷ []

-- a child with the privilege that its parent gave up
abbrev pub script_child : List (List ℕ)
script_child =
    codes "init fork C"
    ∷ codes "C relabel Admin"
    ∷ codes "init write onlycap 1"
    ∷ codes "Admin"
    ∷ codes "init write load2 1"
    ∷ codes "A B r"
    ∷ codes "C write load2 1"
    ∷ codes "A B r"
    ∷ []

abbrev pub record_child : List (List ℕ)
record_child =
    codes "smack 1"
    ∷ codes "task 0 init"
    ∷ codes "task 1 C"
    ∷ codes "j 1 0.2 2"
    ∷ codes "o only-clear"
    ∷ codes "o only-add Admin"
    ∷ codes "j 2 1.2 1"
    ∷ codes "o set A B r"
    ∷ codes "h 1 0.1 v0 fork C"
    ∷ codes "= child 1"
    ∷ codes "h 2 1.1 v0 relabel Admin"
    ∷ codes "= ok"
    ∷ codes "q 0.3 v1 write load2"
    ∷ codes "= not-privileged"
    ∷ codes "end 2 2 1"
    ∷ []

-- a debugger under the ptrace policies
abbrev pub script_trace : List (List ℕ)
script_trace =
    codes "init fork T"
    ∷ codes "T relabel Tgt"
    ∷ codes "init write ptrace 1"
    ∷ codes "1"
    ∷ codes "init trace attach T"
    ∷ codes "init write ptrace 1"
    ∷ codes "2"
    ∷ codes "init trace attach T"
    ∷ codes "init write load2 1"
    ∷ codes "_ Tgt r"
    ∷ codes "init trace read T"
    ∷ []

abbrev pub record_trace : List (List ℕ)
record_trace =
    codes "smack 1"
    ∷ codes "task 0 init"
    ∷ codes "task 1 T"
    ∷ codes "j 1 0.2 1"
    ∷ codes "o ptrace 1"
    ∷ codes "j 2 0.4 1"
    ∷ codes "o ptrace 2"
    ∷ codes "j 3 0.6 1"
    ∷ codes "o set _ Tgt r"
    ∷ codes "h 1 0.1 v0 fork T"
    ∷ codes "= child 1"
    ∷ codes "h 2 1.1 v0 relabel Tgt"
    ∷ codes "= ok"
    ∷ codes "h 3 0.3 v1 trace attach T"
    ∷ codes "c _ Tgt rw allow 9 over 10"
    ∷ codes "= ok"
    ∷ codes "h 4 0.5 v2 trace attach T"
    ∷ codes "c _ Tgt rw deny 10"
    ∷ codes "a action=denied fn=trace subject=_ object=Tgt requested=rw case=10"
    ∷ codes "= denied 10"
    ∷ codes "h 5 0.7 v3 trace read T"
    ∷ codes "c _ Tgt r allow 6"
    ∷ codes "= ok"
    ∷ codes "end 3 5 0"
    ∷ []

-- the labels that a task may take without privilege
abbrev pub script_relabels : List (List ℕ)
script_relabels =
    codes "init write relabel-self 1"
    ∷ codes "P Q"
    ∷ codes "init drop mac-admin"
    ∷ codes "init relabel P"
    ∷ codes "init relabel Q"
    ∷ []

abbrev pub record_relabels : List (List ℕ)
record_relabels =
    codes "smack 1"
    ∷ codes "task 0 init"
    ∷ codes "h 1 0.1 v0 relabels 2 P Q"
    ∷ codes "= ok"
    ∷ codes "h 2 0.2 v0 drop mac-admin"
    ∷ codes "= ok"
    ∷ codes "h 3 0.3 v0 relabel P"
    ∷ codes "= ok"
    ∷ codes "h 4 0.4 v0 relabel Q"
    ∷ codes "= not-privileged"
    ∷ codes "end 0 4 0"
    ∷ []

-- a self rule denies what the cases allow
abbrev pub script_self_rule : List (List ℕ)
script_self_rule =
    codes "init write load-self2 1"
    ∷ codes "_ _ r"
    ∷ codes "init drop mac-override"
    ∷ codes "init create /f"
    ∷ []

abbrev pub record_self_rule : List (List ℕ)
record_self_rule =
    codes "smack 1"
    ∷ codes "task 0 init"
    ∷ codes "h 1 0.1 v0 self 1 _ _ r"
    ∷ codes "= ok"
    ∷ codes "h 2 0.2 v0 drop mac-override"
    ∷ codes "= ok"
    ∷ codes "h 3 0.3 v0 create /f"
    ∷ codes "c _ _ x deny 8"
    ∷ codes "a action=denied fn=create subject=_ object=_ requested=x case=8"
    ∷ codes "= denied 8"
    ∷ codes "end 0 3 0"
    ∷ []

-- a parent waits for its child and sees its write
abbrev pub script_waits : List (List ℕ)
script_waits =
    codes "init write load2 1"
    ∷ codes "A C r"
    ∷ codes "init fork B"
    ∷ codes "B write revoke-subject 1"
    ∷ codes "A"
    ∷ codes "B exit"
    ∷ codes "init wait B"
    ∷ codes "init ask A C r"
    ∷ []

abbrev pub record_waits : List (List ℕ)
record_waits =
    codes "smack 1"
    ∷ codes "task 0 init"
    ∷ codes "task 1 B"
    ∷ codes "j 1 0.1 1"
    ∷ codes "o set A C r"
    ∷ codes "j 2 1.1 1"
    ∷ codes "o revoke A"
    ∷ codes "h 1 0.2 v1 fork B"
    ∷ codes "= child 1"
    ∷ codes "h 2 1.2 v2 exit"
    ∷ codes "= ok"
    ∷ codes "q 0.3 v2 wait B"
    ∷ codes "= ok"
    ∷ codes "q 0.4 v2 ask A C r"
    ∷ codes "= deny 7"
    ∷ codes "end 2 2 2"
    ∷ []

-- signals
abbrev pub script_signals : List (List ℕ)
script_signals =
    codes "init fork B"
    ∷ codes "init kill B 9"
    ∷ codes "init kill B 3"
    ∷ codes "B take"
    ∷ codes "B take"
    ∷ codes "B take"
    ∷ codes "B exit"
    ∷ codes "init kill B 1"
    ∷ []

abbrev pub record_signals : List (List ℕ)
record_signals =
    codes "smack 1"
    ∷ codes "task 0 init"
    ∷ codes "task 1 B"
    ∷ codes "h 1 0.1 v0 fork B"
    ∷ codes "= child 1"
    ∷ codes "h 2 0.2 v0 kill B 9"
    ∷ codes "c _ _ w allow 5"
    ∷ codes "= ok"
    ∷ codes "h 3 0.3 v0 kill B 3"
    ∷ codes "c _ _ w allow 5"
    ∷ codes "= ok"
    ∷ codes "h 4 1.1 v0 take"
    ∷ codes "= signal 3"
    ∷ codes "h 5 1.2 v0 take"
    ∷ codes "= signal 9"
    ∷ codes "h 6 1.3 v0 take"
    ∷ codes "= again"
    ∷ codes "h 7 1.4 v0 exit"
    ∷ codes "= ok"
    ∷ codes "h 8 0.4 v0 kill B 1"
    ∷ codes "= no-such-task"
    ∷ codes "end 0 8 0"
    ∷ []

-- scripts and their records
pub record WorkedScripts : Type 0 where
  pub question : Prints script_question record_question
  pub empty : Prints script_empty record_empty
  pub star : Prints script_star record_star
  pub hat : Prints script_hat record_hat
  pub floor : Prints script_floor record_floor
  pub letters : Prints script_letters record_letters
  pub bad_line : Prints script_bad_line record_bad_line
  pub bounds : Prints script_bounds record_bounds
  pub changes : Prints script_changes record_changes
  pub onlycap : Prints script_onlycap record_onlycap
  pub calls : Prints script_calls record_calls
  pub logging : Prints script_logging record_logging
  pub child : Prints script_child record_child
  pub trace : Prints script_trace record_trace
  pub relabels : Prints script_relabels record_relabels
  pub self_rule : Prints script_self_rule record_self_rule
  pub waits : Prints script_waits record_waits
  pub signals : Prints script_signals record_signals
