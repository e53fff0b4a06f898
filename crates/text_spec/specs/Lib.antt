pub mod Texts
pub mod RuleTexts
pub mod Names
