use Rattle.std.proofs.Common.{◌≡◌, Bool, true, false, ◌||◌, List, [], ◌∷◌, ◌++◌, refl, ap, sym, ◌∙◌, length-append, append-nil, None}
use Rattle.std.specs.Prelude.{fold}
use Rattle.std.proofs.lemmas.List.Concat.{flat_map-append}
use Rattle.std.proofs.lemmas.List.Folds.{list_any-append}
use Rattle.std.proofs.lemmas.List.Sums.{fold-append}
use Rattle.smack_base.specs.declared.ids.LabelId.{LabelId}
use Rattle.smack_base.specs.declared.rule_op.RuleOp.{RuleOp}
use Rattle.smack_base.specs.declared.rule_op.RuleOp.TheVariants as RuleOp
use Rattle.rules_spec.specs.declared.Batch.{Batch}
use Rattle.rules_spec.specs.Versions.{floor, same_label, writes, only, after_write, after_only, after_ambient, after_ptrace, after_logging}
use Rattle.rules_spec.specs.Rulings.{ruling, is_empty, has_label}
use Rattle.rule_fold.specs.Absorbing.{after_empty, after_holds, after_batch}

empty_step : (list : List LabelId) (op : RuleOp) → after_empty (is_empty list) op ≡ is_empty (after_only list op)
empty_step list RuleOp.OnlyClear = refl
empty_step [] (RuleOp.OnlyAdd l) = refl
empty_step (x ∷ xs) (RuleOp.OnlyAdd l) = refl
empty_step list _ = refl

empty_along : (list : List LabelId) (ops : List RuleOp) → fold after_empty (is_empty list) ops ≡ is_empty (fold after_only list ops)
empty_along list [] = refl
empty_along list (op ∷ ops) = ap (λ b. fold after_empty b ops) (empty_step list op) ∙ empty_along (after_only list op) ops

or_false : (b : Bool) → b ≡ (b || false)
or_false true = refl
or_false false = refl

holds_step : (l : LabelId) (list : List LabelId) (op : RuleOp) → after_holds l (has_label list l) op ≡ has_label (after_only list op) l
holds_step l list RuleOp.OnlyClear = refl
holds_step l list (RuleOp.OnlyAdd l') =
    ap (λ b. has_label list l || b) (or_false (same_label l' l)) ∙ sym (list_any-append (λ x. same_label x l) list (l' ∷ []))
holds_step l list _ = refl

holds_along : (l : LabelId) (list : List LabelId) (ops : List RuleOp)
    → fold (after_holds l) (has_label list l) ops ≡ has_label (fold after_only list ops) l
holds_along l list [] = refl
holds_along l list (op ∷ ops) = ap (λ b. fold (after_holds l) b ops) (holds_step l list op) ∙ holds_along l (after_only list op) ops

-- one more batch adds its writes
writes_more : (version : List Batch) (batch : Batch) → writes version ++ batch.ops ≡ writes (version ++ batch ∷ [])
writes_more version batch =
    ap (λ ops. writes version ++ ops) (sym (append-nil batch.ops)) ∙ sym (flat_map-append (λ b. b.ops) version (batch ∷ []))

-- a fold over one more batch goes on over its writes
fold_more_writes : {A : Type 0} (f : A → RuleOp → A) (a : A) (version : List Batch) (batch : Batch)
    → fold f (fold f a (writes version)) batch.ops ≡ fold f a (writes (version ++ batch ∷ []))
fold_more_writes f a version batch = sym (fold-append f a (writes version) batch.ops) ∙ ap (fold f a) (writes_more version batch)

-- a version and one more batch say what the batch makes of what the version says
pub after_batch_is : (version : List Batch) (batch : Batch) → after_batch (ruling version) batch ≡ ruling (version ++ batch ∷ [])
after_batch_is version batch = λ i. record {
  number = sym (length-append version (batch ∷ [])) i;
  rights = λ s o. fold_more_writes (after_write s o) None version batch i;
  only_empty = (empty_along (only version) batch.ops ∙ ap is_empty list) i;
  only_holds = λ l. (holds_along l (only version) batch.ops ∙ ap (λ xs. has_label xs l) list) i;
  ambient = fold_more_writes after_ambient floor version batch i;
  ptrace = fold_more_writes after_ptrace 0 version batch i;
  logging = fold_more_writes after_logging 1 version batch i;
}
  where
    list : fold after_only (only version) batch.ops ≡ only (version ++ batch ∷ [])
    list = fold_more_writes after_only [] version batch
