use Rattle.std.proofs.Common.{◌≡◌, ℕ, List, ◌++◌, sym, subst, append_assoc}
use Rattle.std.specs.Prelude.{Option, codes, decimal}
use Rattle.outside.specs.Sink.{Appends, AppendsFront}
use Rattle.outside.proofs.Appending.{appends_more, appends_front_more, appends_front_of_more}
use Rattle.script_spec.specs.declared.Cause.{Cause}
use Rattle.smack_program.specs.declared.status.Status.TheVariants as Status
use Rattle.smack_program.specs.Errors.{line_end, cause_text, error_text}

-- the front of the line, up to the cause
abbrev pub head_text : ℕ → List ℕ
head_text line = (codes "smack: line " ++ decimal line) ++ codes ": "

text_is : (line : ℕ) (cause : Cause) → head_text line ++ (cause_text cause ++ line_end) ≡ error_text (Status.Malformed line cause)
text_is line cause = sym (append_assoc (head_text line) (cause_text cause) line_end)

pub told : (line : ℕ) (cause : Cause) (a b c : Option (List ℕ)) → Appends a b (head_text line) → Appends b c (cause_text cause ++ line_end)
    → Appends a c (error_text (Status.Malformed line cause))
told line cause a b c head rest =
    let P : List ℕ → Type 0 = λ t. Appends a c t in
    subst P (text_is line cause) (appends_more a b c (head_text line) (cause_text cause ++ line_end) head rest)

pub cut_in_head : (line : ℕ) (cause : Cause) (a b : Option (List ℕ)) → AppendsFront a b (head_text line)
    → AppendsFront a b (error_text (Status.Malformed line cause))
cut_in_head line cause a b front =
    let P : List ℕ → Type 0 = λ t. AppendsFront a b t in
    subst P (text_is line cause) (appends_front_of_more a b (head_text line) (cause_text cause ++ line_end) front)

pub cut_in_cause : (line : ℕ) (cause : Cause) (a b c : Option (List ℕ)) → Appends a b (head_text line)
    → AppendsFront b c (cause_text cause ++ line_end) → AppendsFront a c (error_text (Status.Malformed line cause))
cut_in_cause line cause a b c head front =
    let P : List ℕ → Type 0 = λ t. AppendsFront a c t in
    subst P (text_is line cause) (appends_front_more a b c (head_text line) (cause_text cause ++ line_end) head front)
