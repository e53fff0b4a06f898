use Rattle.std.proofs.Common.{◌≡◌, ℕ, true, drop, length, codes, if◌then◌else◌, List, [], ◌∷◌, refl, sym}
use Rattle.std.specs.List.{AllByRecursion}
use Rattle.rules_spec.specs.Creds.{most_self_rules, most_relabels}
use Rattle.world_spec.specs.declared.Why.{Why}
use Rattle.world_spec.specs.declared.Reply.{Reply}
use Rattle.world_spec.specs.Worlds.{most_tasks, most_nodes}
use Rattle.log_spec.specs.Audits.{is_word}
use Rattle.log_spec.specs.Shown.{spelled, spell_line}
use Rattle.log_spec.proofs.Spelling.{plain_spelled}
use Rattle.record_spec.specs.Entries.{reply_words, reply_line}
use Rattle.replay_spec.specs.Plain.{IsPlainWhy, IsPlainReply}
use Rattle.text_laws.proofs.Clean.{AreClean, plain_clean, name_bytes_clean, word_bytes}
use Rattle.text_laws.proofs.Cut.{cut_line}
use Rattle.text_laws.proofs.Turns.{Tells}
use Rattle.text_laws.proofs.Numbers.{number_in, number_read, numeral_clean}
use Rattle.text_laws.proofs.Told.{told, word_at, begins_with}

-- the refusal that some words are
abbrev why_in : List (List ℕ) → Why
why_in ws =
    if begins_with (codes "exists") ws then Why.Exists
    else (if begins_with (codes "is-root") ws then Why.IsRoot
    else (if begins_with (codes "not-directory") ws then Why.NotDirectory
    else (if begins_with (codes "not-privileged") ws then Why.NotPrivileged
    else (if begins_with (codes "no-such-task") ws then Why.NoSuchTask
    else (if begins_with (codes "no-such-name") ws then Why.NoSuchName
    else (if begins_with (codes "range") ws then Why.Range
    else (if begins_with (codes "again") ws then Why.Again
    else (if begins_with (codes "tasks-full") ws then Why.TasksFull most_tasks
    else (if begins_with (codes "self-full") ws then Why.SelfFull most_self_rules
    else (if begins_with (codes "relabel-full") ws then Why.RelabelFull most_relabels
    else Why.TreeFull most_nodes))))))))))

-- the reply that some words are
abbrev reply_in : List (List ℕ) → Reply
reply_in ws =
    if begins_with (codes "ok") ws then Reply.Ok
    else (if begins_with (codes "child") ws then Reply.Child (number_in (word_at 1 ws))
    else (if begins_with (codes "signal") ws then Reply.Signal (number_in (word_at 1 ws))
    else (if begins_with (codes "names") ws then Reply.Names (number_in (word_at 1 ws)) (drop 3 ws)
    else (if begins_with (codes "denied") ws then Reply.Denied (number_in (word_at 1 ws))
    else Reply.Refused (why_in ws)))))

words_clean : (texts : List (List ℕ)) → AllByRecursion (λ text. is_word text ≡ true) texts → AreClean texts
words_clean [] are = tt
words_clean (t ∷ ts) are = (name_bytes_clean t (word_bytes t are.0), words_clean ts are.1)

module _ (labels names : List (List ℕ)) where
  abbrev words_of_reply : Reply → List (List ℕ)
  words_of_reply reply = spelled labels names (reply_words reply)

  -- a reply is read back from its words, which have no space and no line feed
  record IsToldReply (reply : Reply) : Type 0 where
    again : reply_in (words_of_reply reply) ≡ reply
    words : AreClean (words_of_reply reply)

  -- a row for each refusal, and for each reply
  refused_is_told : (why : Why) → IsPlainWhy why → IsToldReply (Reply.Refused why)
  refused_is_told Why.Exists plain = record { again = refl; words = (refl, tt) }
  refused_is_told Why.IsRoot plain = record { again = refl; words = (refl, tt) }
  refused_is_told Why.NotDirectory plain = record { again = refl; words = (refl, tt) }
  refused_is_told Why.NotPrivileged plain = record { again = refl; words = (refl, tt) }
  refused_is_told Why.NoSuchTask plain = record { again = refl; words = (refl, tt) }
  refused_is_told Why.NoSuchName plain = record { again = refl; words = (refl, tt) }
  refused_is_told Why.Range plain = record { again = refl; words = (refl, tt) }
  refused_is_told Why.Again plain = record { again = refl; words = (refl, tt) }
  refused_is_told (Why.TasksFull limit) plain = record { again = λ i. Reply.Refused (Why.TasksFull (sym plain i)); words = (refl, tt) }
  refused_is_told (Why.SelfFull limit) plain = record { again = λ i. Reply.Refused (Why.SelfFull (sym plain i)); words = (refl, tt) }
  refused_is_told (Why.RelabelFull limit) plain = record { again = λ i. Reply.Refused (Why.RelabelFull (sym plain i)); words = (refl, tt) }
  refused_is_told (Why.TreeFull limit) plain = record { again = λ i. Reply.Refused (Why.TreeFull (sym plain i)); words = (refl, tt) }

  reply_is_told : (reply : Reply) → IsPlainReply reply → IsToldReply reply
  reply_is_told Reply.Ok plain = record { again = refl; words = (refl, tt) }
  reply_is_told (Reply.Child k) plain = record { again = λ i. Reply.Child (number_read k i); words = (refl, (numeral_clean k, tt)) }
  reply_is_told (Reply.Signal sig) plain = record { again = λ i. Reply.Signal (number_read sig i); words = (refl, (numeral_clean sig, tt)) }
  reply_is_told (Reply.Names count listed) plain = record {
    again = λ i. Reply.Names (number_read count i) (plain_spelled labels names listed i);
    words = (refl, (numeral_clean count, (numeral_clean (length listed), plain_clean labels names listed (words_clean listed plain))));
  }
  reply_is_told (Reply.Denied case) plain = record { again = λ i. Reply.Denied (number_read case i); words = (refl, (numeral_clean case, tt)) }
  reply_is_told (Reply.Refused why) plain = refused_is_told why plain

  -- a printed reply tells it
  pub reply_told : Tells IsPlainReply (λ r. Unit {0}) (λ reply. spell_line labels names (reply_line reply))
  reply_told x y r s plain plain' ends ends' same =
      let cut = cut_line (codes "=") (words_of_reply x) (words_of_reply y) r s refl (reply_is_told x plain).words (reply_is_told y plain').words same in
      (told reply_in words_of_reply x y (reply_is_told x plain).again (reply_is_told y plain').again cut.0, cut.1)
