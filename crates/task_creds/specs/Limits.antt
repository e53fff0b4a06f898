use Rattle.std.specs.Prelude.{◌≡◌, ◌<◌, ℕ}
use Rattle.task_creds.specs.declared.fault.CredFault.{CredFault}
use Rattle.rules_spec.specs.Creds.{most_self_rules, most_relabels}

-- the fault of a call after which this many self rules would stand: too many, or want of memory
abbrev pub IsSelfFault : ℕ → CredFault → Type 0
IsSelfFault n (CredFault.SelfFull limit) = (limit ≡ most_self_rules) × (most_self_rules < n)
IsSelfFault n (CredFault.RelabelFull limit) = ⊥
IsSelfFault n CredFault.Memory = Unit {0}

-- the fault of a call with this many labels for the relabel list: too many, or want of memory
abbrev pub IsRelabelFault : ℕ → CredFault → Type 0
IsRelabelFault n (CredFault.SelfFull limit) = ⊥
IsRelabelFault n (CredFault.RelabelFull limit) = (limit ≡ most_relabels) × (most_relabels < n)
IsRelabelFault n CredFault.Memory = Unit {0}
