use Rattle.std.specs.Prelude.{◌≡◌, ℕ, List, [], ◌∷◌, Option, Some, None, map, codes}
use Rattle.smack_base.specs.Modes.{modes_of, no_modes}
use Rattle.smack_base.specs.declared.ids.LabelId.{LabelId}
use Rattle.smack_base.specs.declared.modes.Modes.{Modes}
use Rattle.smack_base.specs.declared.rule_op.RuleOp.{RuleOp}
use Rattle.smack_base.specs.declared.rule_op.RuleOp.TheVariants as RuleOp
use Rattle.rules_spec.specs.declared.Batch.{Batch}
use Rattle.rules_spec.specs.Versions.{floor, rights, only, ambient, ptrace, logging}

abbrev pub label_id : ℕ → LabelId
label_id n = record { 0 = n }

abbrev pub a : LabelId
a = label_id 5

abbrev pub b : LabelId
b = label_id 6

abbrev pub c : LabelId
c = label_id 7

-- the modes of these letters
abbrev pub m : List ℕ → Modes
m letters = modes_of letters

-- a version of one batch for each list of writes
abbrev pub version : List (List RuleOp) → List Batch
version batches = map (λ ops. record { task = 0; seq = 1; ops = ops }) batches

-- sets, changes, a revoke between, and a change behind it
abbrev pub writes_of_rules : List RuleOp
writes_of_rules =
    RuleOp.Set a b (m (codes "r")) ∷ RuleOp.Set a c (m (codes "w")) ∷ RuleOp.Change a b (m (codes "w")) (m (codes "r"))
    ∷ RuleOp.Change b b (m (codes "r")) (m (codes "r")) ∷ RuleOp.Change c a (m (codes "rw")) no_modes ∷ RuleOp.Set a b (m (codes "rw"))
    ∷ RuleOp.Revoke a ∷ RuleOp.Change a c (m (codes "r")) (m (codes "w")) ∷ []

-- the rights of A on B and on C, of B on B, of C on A, and of B on C
abbrev pub rights_in : List Batch → List (Option Modes)
rights_in v = rights v a b ∷ rights v a c ∷ rights v b b ∷ rights v c a ∷ rights v b c ∷ []

abbrev pub setting_batch : List RuleOp
setting_batch =
    RuleOp.Change a c (m (codes "rw")) (m (codes "r")) ∷ RuleOp.Set b b (m (codes "r")) ∷ RuleOp.Revoke b ∷ RuleOp.OnlyAdd b ∷ RuleOp.Ambient b ∷ RuleOp.Ptrace 2
    ∷ RuleOp.Logging 3 ∷ []

-- the ambient label, and the numbers of ptrace and logging
pub record Settings : Type 0 where
  pub label : LabelId
  pub ptrace : ℕ
  pub logging : ℕ

abbrev pub settings_in : List Batch → Settings
settings_in v = record { label = ambient v; ptrace = ptrace v; logging = logging v }

-- What versions say: a change takes away what it denies behind what it adds, a revoked rule stays without modes, and a
-- change or a set goes on from there.
pub record WorkedVersions : Type 0 where
  pub rights_of_writes : rights_in (version (writes_of_rules ∷ [])) ≡ Some no_modes ∷ Some (m (codes "r")) ∷ Some no_modes ∷ Some (m (codes "rw")) ∷ None ∷ []
  pub rights_before : rights_in (version ((RuleOp.Set a b (m (codes "r")) ∷ []) ∷ (RuleOp.Set a c (m (codes "w")) ∷ []) ∷ (RuleOp.Change a b (m (codes "w")) (m (codes "r")) ∷ []) ∷ [])) ≡ Some (m (codes "w")) ∷ Some (m (codes "w")) ∷ None ∷ None ∷ None ∷ []
  pub onlycap : map (λ ops. only (version (ops ∷ []))) ((RuleOp.OnlyAdd a ∷ RuleOp.OnlyAdd a ∷ []) ∷ (RuleOp.OnlyAdd a ∷ RuleOp.OnlyClear ∷ RuleOp.OnlyAdd c ∷ []) ∷ (RuleOp.OnlyAdd a ∷ RuleOp.OnlyClear ∷ []) ∷ []) ≡ (a ∷ a ∷ []) ∷ (c ∷ []) ∷ [] ∷ []
  pub settings : settings_in (version (setting_batch ∷ [])) ≡ record { label = b; ptrace = 2; logging = 3 }
  pub first : settings_in [] ≡ record { label = floor; ptrace = 0; logging = 1 }
