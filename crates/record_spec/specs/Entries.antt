use Rattle.std.specs.Prelude.{ℕ, List, [], ◌∷◌, ◌++◌, Option, length, map, codes}
use Rattle.rules_spec.specs.declared.Verdict.{Verdict}
use Rattle.world_spec.specs.declared.Call.{Call}
use Rattle.world_spec.specs.declared.Why.{Why}
use Rattle.world_spec.specs.declared.Reply.{Reply}
use Rattle.world_spec.specs.declared.Entry.{Entry}
use Rattle.log_spec.specs.declared.Action.{Action}
use Rattle.log_spec.specs.Numerals.{numeral}
use Rattle.log_spec.specs.Words.{call_number, version_word, decision}
use Rattle.log_spec.specs.Shown.{Shown, Plain, plain_words, triple, PrintedLine, Says, audit_lines}
use Rattle.verb_spec.specs.Verbs.{call_verb, call_words}

-- a call as words, the verb first
abbrev pub verb_words : Call → List Shown
verb_words call = Plain (call_verb call) ∷ call_words call

-- the call, its place among all calls, and the version that it was judged in
abbrev pub entry_head : ℕ → Entry → PrintedLine
entry_head place e =
    Says (codes "h") (Plain (numeral place) ∷ Plain (call_number e.task e.seq) ∷ Plain (version_word e.version) ∷ verb_words e.call)

-- a verdict that was asked
abbrev pub check_line : Verdict → PrintedLine
check_line v = Says (codes "c") (triple v.subject v.object v.modes ++ plain_words (decision v))

-- why a call was refused
abbrev pub why_text : Why → List ℕ
why_text Why.Exists = codes "exists"
why_text Why.IsRoot = codes "is-root"
why_text Why.NotDirectory = codes "not-directory"
why_text Why.NotPrivileged = codes "not-privileged"
why_text Why.NoSuchTask = codes "no-such-task"
why_text Why.NoSuchName = codes "no-such-name"
why_text Why.Range = codes "range"
why_text Why.Again = codes "again"
why_text (Why.TasksFull limit) = codes "tasks-full"
why_text (Why.SelfFull limit) = codes "self-full"
why_text (Why.RelabelFull limit) = codes "relabel-full"
why_text (Why.TreeFull limit) = codes "tree-full"

-- the answer to a call
abbrev pub reply_words : Reply → List Shown
reply_words Reply.Ok = Plain (codes "ok") ∷ []
reply_words (Reply.Child k) = Plain (codes "child") ∷ Plain (numeral k) ∷ []
reply_words (Reply.Signal sig) = Plain (codes "signal") ∷ Plain (numeral sig) ∷ []
reply_words (Reply.Names count names) = Plain (codes "names") ∷ Plain (numeral count) ∷ Plain (numeral (length names)) ∷ plain_words names
reply_words (Reply.Denied case) = Plain (codes "denied") ∷ Plain (numeral case) ∷ []
reply_words (Reply.Refused why) = Plain (why_text why) ∷ []

abbrev pub reply_line : Reply → PrintedLine
reply_line reply = Says (codes "=") (reply_words reply)

-- a call, its checks, what the system's log says of them, by what each is logged as, and its reply
abbrev pub entry_lines : (Verdict → Option Action) → ℕ → Entry → List PrintedLine
entry_lines action place e =
    entry_head place e ∷ map check_line e.checks ++ audit_lines action (call_verb e.call) e.checks ++ reply_line e.reply ∷ []
