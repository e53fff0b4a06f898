use Rattle.std.specs.Prelude.{ℕ, List, Result, Ok, Err, String, drop, map, string_bytes}
use Rattle.std.specs.Vec.Iter.{into_iter_items}
use Rattle.std.specs.IoError.{error_kind}
use Rattle.std.specs.declared.io.Error.{Error}
use Rattle.std.specs.declared.io.ErrorKind.{ErrorKind}
use Rattle.std.specs.declared.io.ErrorKind.TheVariants as Kind
use Rattle.std.specs.declared.vec.IntoIter.{IntoIter}
use Rattle.smack_program.specs.declared.status.Status.{Status}
use Rattle.smack_program.specs.declared.status.Status.TheVariants as Status

-- what to answer where the words of the command line cannot be had: words that are no UTF-8 are those of no command
abbrev pub status_without_words : ErrorKind → Status
status_without_words Kind.OutOfMemory = Status.OutOfMemory
status_without_words _ = Status.Usage

-- the words of the command line, without the program's name, as the system gave them; or what to answer without words
abbrev pub words_given : {A B : Type 0} → Result (IntoIter (String A) B) Error → Result (List (List ℕ)) Status
words_given (Ok words) = Ok (map string_bytes (drop 1 (into_iter_items words)))
words_given (Err error) = Err (status_without_words (error_kind error))
