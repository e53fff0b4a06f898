use Rattle.std.proofs.Common.{refl}
use Rattle.row_laws.specs.Words.{WorkedWords, WorkedPaths, WorkedTables}
use Rattle.row_laws.specs.RuleLines.{WorkedRuleLines}
use Rattle.row_laws.specs.Files.{WorkedFiles}
use Rattle.row_laws.specs.Versions.{WorkedVersions}
use Rattle.row_laws.specs.Decisions.{WorkedDecisions}

pub words : WorkedWords
words = record {
  labels = refl;
  longest = refl;
  too_long = refl;
  empty = refl;
  dash = refl;
  other_bytes = refl;
  bad_letters = refl;
  letters = refl;
  printed = refl;
}

pub paths : WorkedPaths
paths = refl

pub tables : WorkedTables
tables = record { grown = refl; ids = refl }

pub rule_lines : WorkedRuleLines
rule_lines = record {
  lines = refl;
  by_spaces = refl;
  by_blanks = refl;
  long = refl;
  third = refl;
  capitals = refl;
  fourth_is_bad = refl;
  longest = refl;
  short = refl;
  short_longest = refl;
  short_adjoining = refl;
  short_second = refl;
  change = refl;
  long_faults = refl;
  change_faults = refl;
  short_faults = refl;
  subjects = refl;
  subject_faults = refl;
  third_subject_is_bad = refl;
  dash_is_no_subject = refl;
  no_labels = refl;
  labels = refl;
  dash_before_a_label = refl;
  dash_behind_a_label = refl;
  no_label = refl;
  one_word = refl;
  no_word = refl;
  four_words = refl;
  two_words = refl;
}

pub files : WorkedFiles
files = record {
  rules = refl;
  settings = refl;
  own = refl;
  unknown = refl;
  bad_texts = refl;
  good = refl;
  bad_lines = refl;
  longest = refl;
  too_long = refl;
}

pub versions : WorkedVersions
versions = record { rights_of_writes = refl; rights_before = refl; onlycap = refl; settings = refl; first = refl }

pub decisions : WorkedDecisions
decisions = record {
  by_cases = refl;
  by_task = refl;
  by_self_rules = refl;
  without_privilege = refl;
  capabilities = refl;
  attaching = refl;
  self_rules = refl;
}
