use Rattle.std.specs.Prelude.{◌≡◌, ℕ, List, [], ◌∷◌, ◌++◌, Result, Ok, Err, map, replicate, codes}
use Rattle.smack_base.specs.Modes.{modes_of, no_modes}
use Rattle.smack_base.specs.declared.label.LabelFault.TheVariants as LabelFault
use Rattle.smack_base.specs.declared.modes.Modes.{Modes}
use Rattle.smack_base.specs.declared.rule_op.RuleOp.{RuleOp}
use Rattle.smack_base.specs.declared.rule_op.RuleOp.TheVariants as RuleOp
use Rattle.rules_spec.specs.Versions.{floor}
use Rattle.text_spec.specs.declared.LineFault.{LineFault}
use Rattle.text_spec.specs.declared.LineFault.TheVariants as LineFault
use Rattle.text_spec.specs.Names.{predefined}
use Rattle.file_spec.specs.declared.Refusal.{Refusal}
use Rattle.file_spec.specs.declared.Refusal.TheVariants as Refusal
use Rattle.file_spec.specs.declared.Compiled.{Compiled}
use Rattle.file_spec.specs.declared.Compiled.TheVariants as Compiled
use Rattle.file_spec.specs.Files.{compiled}
use Rattle.row_laws.specs.Versions.{a, b}

-- the predefined labels, A and B
abbrev pub table_of_two : List (List ℕ)
table_of_two = predefined ++ codes "A" ∷ codes "B" ∷ []

abbrev pub read_only : Modes
read_only = modes_of (codes "r")

-- a text that is written to a file, and what comes of it
pub record Row : Type 0 where
  pub file : List ℕ
  pub text : List ℕ
  pub comes : Result Compiled Refusal

abbrev pub becomes_row : List ℕ → List ℕ → List RuleOp → Row
becomes_row file text ops = record { file = file; text = text; comes = Ok (Compiled.Rules ops) }

abbrev pub refused : List ℕ → List ℕ → Refusal → Row
refused file text why = record { file = file; text = text; comes = Err why }

abbrev pub bad_text_row : List ℕ → List ℕ → ℕ → LineFault → Row
bad_text_row file text line fault = refused file text (Refusal.BadLine (record { line = line; fault = fault }))

-- one line that sets the access of A to B
abbrev pub sets : List ℕ → List ℕ → Modes → Row
sets file text m = becomes_row file text (RuleOp.Set a b m ∷ [])

-- each text comes to what its row says
abbrev pub Come : List Row → Type 0
Come rows = map (λ row. compiled table_of_two row.file row.text) rows ≡ map (λ row. row.comes) rows

abbrev pub rule_rows : List Row
rule_rows =
    becomes_row (codes "load2") (codes "A B rR\n\n " ++ 9 ∷ codes "B" ++ 9 ∷ codes "_ -\n") (RuleOp.Set a b read_only ∷ RuleOp.Set b floor no_modes ∷ [])
    ∷ becomes_row (codes "load2") [] []
    ∷ becomes_row (codes "load") (codes "A                       B                       r--  \n\n B                      _                            ") (RuleOp.Set a b read_only ∷ RuleOp.Set b floor no_modes ∷ [])
    ∷ becomes_row (codes "change-rule") (codes "A B wr w\n") (RuleOp.Change a b (modes_of (codes "rw")) (modes_of (codes "w")) ∷ [])
    ∷ becomes_row (codes "revoke-subject") (codes "A\n\n B" ++ 9 ∷ []) (RuleOp.Revoke a ∷ RuleOp.Revoke b ∷ [])
    ∷ []

abbrev pub setting_rows : List Row
setting_rows =
    becomes_row (codes "onlycap") (codes "A\n" ++ 9 ∷ codes "B") (RuleOp.OnlyClear ∷ RuleOp.OnlyAdd a ∷ RuleOp.OnlyAdd b ∷ [])
    ∷ becomes_row (codes "onlycap") (codes " -\n") (RuleOp.OnlyClear ∷ [])
    ∷ becomes_row (codes "onlycap") [] (RuleOp.OnlyClear ∷ [])
    ∷ becomes_row (codes "ambient") (codes "\nA\n") (RuleOp.Ambient a ∷ [])
    ∷ becomes_row (codes "ambient") (codes "_") (RuleOp.Ambient floor ∷ [])
    ∷ becomes_row (codes "ptrace") (codes "0") (RuleOp.Ptrace 0 ∷ [])
    ∷ becomes_row (codes "ptrace") (codes "2\n") (RuleOp.Ptrace 2 ∷ [])
    ∷ becomes_row (codes "logging") (codes " 0 ") (RuleOp.Logging 0 ∷ [])
    ∷ becomes_row (codes "logging") (codes "3") (RuleOp.Logging 3 ∷ [])
    ∷ []

-- the files of a task's own rules and of its labels
abbrev pub own_rows : List Row
own_rows =
    (record { file = codes "load-self2"; text = codes "A B r\n"; comes = Ok (Compiled.SelfRules ((record { s = a; o = b; m = read_only }) ∷ [])) })
    ∷ (record { file = codes "load-self"; text = codes "A                       B                       r----"; comes = Ok (Compiled.SelfRules ((record { s = a; o = b; m = read_only }) ∷ [])) })
    ∷ (record { file = codes "relabel-self"; text = codes "B A"; comes = Ok (Compiled.Relabels (b ∷ a ∷ [])) })
    ∷ (record { file = codes "relabel-self"; text = codes "-"; comes = Ok (Compiled.Relabels []) })
    ∷ bad_text_row (codes "relabel-self") (codes "A - B") 1 (LineFault.Label LabelFault.LeadingDash)
    ∷ []

abbrev pub unknown_rows : List Row
unknown_rows =
    refused (codes "load3") (codes "A B") Refusal.NoSuchFile
    ∷ refused [] [] Refusal.NoSuchFile
    ∷ refused (codes "load2") (codes "A B r\nA C r\n") (Refusal.UnknownLabel 2)
    ∷ refused (codes "load2") (codes "C B r") (Refusal.UnknownLabel 1)
    ∷ refused (codes "change-rule") (codes "\nA C r w") (Refusal.UnknownLabel 2)
    ∷ refused (codes "revoke-subject") (codes "A\nC") (Refusal.UnknownLabel 2)
    ∷ refused (codes "onlycap") (codes "A\nB C") (Refusal.UnknownLabel 2)
    ∷ refused (codes "ambient") (codes "\n\nC") (Refusal.UnknownLabel 3)
    ∷ refused (codes "load2") (replicate 255 65 ++ codes " B r") (Refusal.UnknownLabel 1)
    ∷ refused (codes "load2") (codes "A " ++ replicate 255 65 ++ codes " r") (Refusal.UnknownLabel 1)
    ∷ refused (codes "load") (codes " AAAAAAAAAAAAAAAAAAAAAAAB                       r    ") (Refusal.UnknownLabel 1)
    ∷ []

abbrev pub bad_rows : List Row
bad_rows =
    bad_text_row (codes "load2") (codes "A C r\nA B z\n") 2 (LineFault.Allow 0)
    ∷ bad_text_row (codes "load2") (codes "A B\n") 1 (LineFault.Fields 2)
    ∷ bad_text_row (codes "load") (codes " ") 1 (LineFault.Width 1)
    ∷ bad_text_row (codes "change-rule") (codes "A B r") 1 (LineFault.Fields 3)
    ∷ bad_text_row (codes "change-rule") (codes "A B r wz") 1 (LineFault.Deny 1)
    ∷ bad_text_row (codes "revoke-subject") (codes "A\nA B\n") 2 (LineFault.Fields 2)
    ∷ bad_text_row (codes "revoke-subject") (codes "-") 1 (LineFault.Subject LabelFault.LeadingDash)
    ∷ bad_text_row (codes "onlycap") (codes "A\n- B") 2 (LineFault.Label LabelFault.LeadingDash)
    ∷ bad_text_row (codes "onlycap") (codes "C A/") 1 (LineFault.Label (LabelFault.BadByte 1))
    ∷ bad_text_row (codes "ambient") (codes "A\nB") 2 (LineFault.Fields 2)
    ∷ bad_text_row (codes "ambient") (codes " \n") 1 (LineFault.Fields 0)
    ∷ bad_text_row (codes "ambient") (codes "\nA/") 2 (LineFault.Label (LabelFault.BadByte 1))
    ∷ bad_text_row (codes "ambient") (codes "-") 1 (LineFault.Label LabelFault.LeadingDash)
    ∷ bad_text_row (codes "ptrace") (codes "3") 1 LineFault.Number
    ∷ bad_text_row (codes "ptrace") (codes "\n00") 2 LineFault.Number
    ∷ bad_text_row (codes "ptrace") [] 1 (LineFault.Fields 0)
    ∷ bad_text_row (codes "logging") (codes "4") 1 LineFault.Number
    ∷ bad_text_row (codes "logging") (codes "/") 1 LineFault.Number
    ∷ bad_text_row (codes "logging") (codes "-1") 1 LineFault.Number
    ∷ bad_text_row (codes "logging") (codes "1\n2") 2 (LineFault.Fields 2)
    ∷ []

-- one line at the edges of what a file takes
abbrev pub good_edges : List Row
good_edges =
    sets (codes "load2") (codes "A" ++ 9 ∷ codes "B " ++ 9 ∷ codes " r") read_only
    ∷ sets (codes "load2") (codes "  A B R  ") read_only
    ∷ sets (codes "load2") (codes "A B rRr-") read_only
    ∷ sets (codes "load2") (codes "A B -") no_modes
    ∷ sets (codes "load2") (codes "A B r\n") read_only
    ∷ sets (codes "load") (codes "A                       B                       R    ") read_only
    ∷ sets (codes "load") (codes "   A                         B                     r ") read_only
    ∷ sets (codes "load") (codes "A                       B                            ") no_modes
    ∷ []

abbrev pub bad_edges : List Row
bad_edges =
    bad_text_row (codes "load2") (0 ∷ codes " B r") 1 (LineFault.Subject (LabelFault.BadByte 0))
    ∷ bad_text_row (codes "load2") (codes "A" ++ 13 ∷ codes " B r") 1 (LineFault.Subject (LabelFault.BadByte 1))
    ∷ bad_text_row (codes "load2") (codes "A" ++ 127 ∷ codes " B r") 1 (LineFault.Subject (LabelFault.BadByte 1))
    ∷ bad_text_row (codes "load2") (255 ∷ codes " B r") 1 (LineFault.Subject (LabelFault.BadByte 0))
    ∷ bad_text_row (codes "load2") (codes "A B" ++ 0 ∷ codes " r") 1 (LineFault.Object (LabelFault.BadByte 1))
    ∷ bad_text_row (codes "load2") (codes "A B r" ++ 13 ∷ []) 1 (LineFault.Allow 1)
    ∷ bad_text_row (codes "load") (9 ∷ codes "                       B                       r    ") 1 (LineFault.Subject (LabelFault.BadByte 0))
    ∷ bad_text_row (codes "load") (codes "A                       B" ++ 0 ∷ codes "                      r    ") 1 (LineFault.Object (LabelFault.BadByte 1))
    ∷ bad_text_row (codes "load") (codes "A                       B                       r" ++ 13 ∷ codes "   ") 1 (LineFault.Allow 1)
    ∷ bad_text_row (codes "load") (codes "A                       B                       b    ") 1 (LineFault.Allow 0)
    ∷ bad_text_row (codes "load") (codes "A                       B                       r   ") 1 (LineFault.Width 52)
    ∷ bad_text_row (codes "load") (codes "A                       B                       r     ") 1 (LineFault.Width 54)
    ∷ bad_text_row (codes "load") (codes "AAAAAAAAAAAAAAAAAAAAAAAAB                       r    ") 1 (LineFault.Subject LabelFault.TooLong)
    ∷ bad_text_row (codes "load") (codes "                        B                       r    ") 1 (LineFault.Subject LabelFault.Empty)
    ∷ bad_text_row (codes "load") (codes "A                       AAAAAAAAAAAAAAAAAAAAAAAAr    ") 1 (LineFault.Object LabelFault.TooLong)
    ∷ bad_text_row (codes "load2") (replicate 256 65 ++ codes " B r") 1 (LineFault.Subject LabelFault.TooLong)
    ∷ bad_text_row (codes "load2") (codes "A " ++ replicate 256 65 ++ codes " r") 1 (LineFault.Object LabelFault.TooLong)
    ∷ []

-- What texts become in each file, with the labels A and B, or why they are refused.
pub record WorkedFiles : Type 0 where
  pub rules : Come rule_rows
  pub settings : Come setting_rows
  pub own : Come own_rows
  pub unknown : Come unknown_rows
  pub bad_texts : Come bad_rows
  pub good : Come good_edges
  pub bad_lines : Come bad_edges
  pub longest : compiled table_of_two (codes "load2") (replicate 65536 10) ≡ Ok (Compiled.Rules [])
  pub too_long : compiled table_of_two (codes "load2") (replicate 65537 10) ≡ Err Refusal.TooLong
