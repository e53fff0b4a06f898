pub mod SelfRules
pub mod RulesApart
