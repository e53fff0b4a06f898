use Rattle.std.specs.Prelude.{ℕ, Bool, true, false, ◌&&◌, ◌||◌, if◌then◌else◌, List, [], ◌∷◌, Option, Some, None, fold}
use Rattle.smack_base.specs.declared.modes.Modes.{Modes}
use Rattle.smack_base.specs.declared.ids.LabelId.{LabelId}
use Rattle.smack_base.specs.declared.cap.Cap.{Cap}
use Rattle.smack_base.specs.declared.cap.Cap.TheVariants as Cap
use Rattle.smack_base.specs.declared.rule_op.Pair.{Pair}
use Rattle.rules_spec.specs.Versions.{floor, same_pair}
use Rattle.rules_spec.specs.Rulings.{Ruling, has_label}

-- the credentials of a task: its label, the capabilities that it holds, its self rules, and the labels that it may take
pub record Creds : Type 0 where
  pub label : LabelId
  pub mac_admin : Bool
  pub mac_override : Bool
  pub sys_ptrace : Bool
  pub self_rules : List Pair
  pub relabels : List LabelId

-- the credentials of the first task
abbrev pub creds_first : Creds
creds_first = record {
  label = floor;
  mac_admin = true;
  mac_override = true;
  sys_ptrace = true;
  self_rules = [];
  relabels = [];
}

abbrev pub holds_cap : Creds → Cap → Bool
holds_cap c Cap.MacAdmin = c.mac_admin
holds_cap c Cap.MacOverride = c.mac_override
holds_cap c Cap.SysPtrace = c.sys_ptrace

-- the credentials without a capability
abbrev pub without_cap : Creds → Cap → Creds
without_cap c Cap.MacAdmin = record c { mac_admin = false }
without_cap c Cap.MacOverride = record c { mac_override = false }
without_cap c Cap.SysPtrace = record c { sys_ptrace = false }

abbrev pub with_label : Creds → LabelId → Creds
with_label c l = record c { label = l }

-- the self rule of a pair, where one stands
abbrev pub self_rule : List Pair → LabelId → LabelId → Option Modes
self_rule [] s o = None
self_rule (p ∷ ps) s o = if same_pair p.s p.o s o then Some p.m else self_rule ps s o

-- a self rule takes the place of that of its pair, or comes last
abbrev pub with_self_rule : List Pair → Pair → List Pair
with_self_rule [] p = p ∷ []
with_self_rule (q ∷ qs) p = if same_pair q.s q.o p.s p.o then p ∷ qs else q ∷ with_self_rule qs p

abbrev pub with_self_rules : List Pair → List Pair → List Pair
with_self_rules rules more = fold with_self_rule rules more

-- the most self rules, and the most labels of a relabel list
abbrev pub most_self_rules : ℕ
most_self_rules = 256

abbrev pub most_relabels : ℕ
most_relabels = 256

-- whether a label may be taken by the list
abbrev pub is_listed : Creds → LabelId → Bool
is_listed c l = has_label c.relabels l

abbrev pub is_trace : Cap → Bool
is_trace Cap.MacAdmin = false
is_trace Cap.MacOverride = false
is_trace Cap.SysPtrace = true

-- A capability is effective where the task holds it and the onlycap list of the version is empty or has the task's
-- label; CAP_SYS_PTRACE is not governed by the list.
abbrev pub is_effective : Creds → Cap → Ruling → Bool
is_effective c cap version = holds_cap c cap && (is_trace cap || version.only_empty || version.only_holds c.label)
