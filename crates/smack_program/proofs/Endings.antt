use Rattle.std.proofs.Common.{◌≡◌, ◌≢◌, ◌≤◌, ◌<◌, ℕ, List, length, refl, sym, ap, ◌∙◌, arith, inl, inr, true, Some, None, Ok, Err}
use Rattle.std.specs.Prelude.{◌⊎◌, Option, Result, IsTrue, IsFalse, IfSome, false}
use Rattle.std.proofs.lemmas.Bool.{lt-ltb}
use Rattle.outside.specs.Faults.{AreTold}
use Rattle.outside.specs.Seen.{Seen}
use Rattle.outside.specs.Source.{Takes, AtEnd}
use Rattle.outside.specs.Reading.{taken_count}
use Rattle.outside.proofs.Taking.{took_all}
use Rattle.script_spec.specs.declared.What.{What}
use Rattle.script_spec.specs.declared.What.TheVariants as What
use Rattle.script_spec.specs.declared.ScriptFault.{ScriptFault}
use Rattle.script_spec.specs.declared.ScriptFault.TheVariants as ScriptFault
use Rattle.script_spec.specs.Grammar.{parse, most_bytes}
use Rattle.script_text.specs.Scripts.{Fails}
use Rattle.smack_program.specs.declared.status.Status.{Status}
use Rattle.smack_program.specs.declared.status.Status.TheVariants as Status
use Rattle.smack_program.specs.Statuses.{status_of, read_status, due_status, is_refusal, may_have_written}
use Rattle.smack_program.specs.Parts.{IsRead, IsUnread, IsTextWritten, IsUnwritten}
use Rattle.smack_program.specs.Scripts.{IsNoScript, ScriptEnds}
use Rattle.smack_program.proofs.FewBytes.{few_bytes}

-- a count that stayed tells no fault
pub quiet : (s s' : ℕ) (P : Type 0) → s' ≡ s → (P → ⊥) → AreTold s s' P
quiet s s' P same never = record {
  never_falls = omega (arith, same);
  cause = λ p. absurd (never p);
  told = λ more. absurd (omega (arith, same, more));
}

same_told : (left left' : Option (List ℕ)) (bytes told : List ℕ) → Takes left left' bytes → AtEnd left' → left ≡ Some told → told ≡ bytes
same_told None left' bytes told took ends is = cc
same_told (Some x) left' bytes told took ends is = let all = took_all x bytes left' took ends in let same : x ≡ told = cc in sym same ∙ all.1

-- the status that is due to the bytes told is due to those read
due_to : (source source' : Seen) (bytes told : List ℕ) (status : Status) → IsRead source source' bytes → source.bytes ≡ Some told
    → due_status bytes ≡ status → status ≡ due_status told
due_to source source' bytes told status read is due =
    sym (ap due_status (same_told source.bytes source'.bytes bytes told read.took read.ends is) ∙ due)

-- too many bytes are no script
due_to_many : (bytes : List ℕ) → most_bytes < length bytes → Status.TooLarge What.Bytes ≡ due_status bytes
due_to_many bytes many = rw (lt-ltb most_bytes (length bytes) many) refl

many_told : (left left' : Option (List ℕ)) (told : List ℕ) → left ≡ Some told → (bytes : List ℕ) × Takes left left' bytes
    → IfSome (taken_count left left') (λ n. most_bytes < n) → most_bytes < length told
many_told None left' told is front more = cc
many_told (Some x) None told is (bytes, (rest, after, cut)) more = cc
many_told (Some x) (Some y) told is front more = let same : x ≡ told = cc in rw (← same) (omega (arith, more))

-- a status that refuses nothing
not_refused : (status other : Status) → status ≡ other → is_refusal other ≡ false → IsTrue (is_refusal status) → ⊥
not_refused status other is none refused =
    let known : is_refusal status ≡ false = ap is_refusal is ∙ none in
    let also : is_refusal status ≡ true = refused in
    cc

-- a status at which something may have been written
not_untouched : (status other : Status) → status ≡ other → may_have_written other ≡ true → IsFalse (may_have_written status) → ⊥
not_untouched status other is may none =
    let known : may_have_written status ≡ true = ap may_have_written is ∙ may in
    let also : may_have_written status ≡ false = none in
    cc

unread_for : (answers : List ℕ → Result (List ℕ) Status → Type 0) (source source' sink : Seen) (status : Status)
    → IsUnread source source' status → (status ≡ Status.ReadFault) ⊎ ((status ≡ Status.TooLarge What.Bytes) ⊎ (status ≡ Status.OutOfMemory))
    → ScriptEnds answers source source' sink sink status
unread_for answers source source' sink status unread (inl is) = record {
  front = unread.front;
  done = λ d. cc;
  refused = λ refused. absurd (not_refused status Status.ReadFault is refl refused);
  large = unread.large;
  exceeded = unread.exceeded;
  read = unread.read;
  write = quiet _ _ _ refl (λ d. cc);
  untouched = λ d. refl;
  cut = λ d. cc;
  spent = λ d. inl refl;
  complete = λ told calm. absurd (calm.read (unread.read.cause is));
  words = λ d. cc;
}
unread_for answers source source' sink status unread (inr (inl is)) = record {
  front = unread.front;
  done = λ d. cc;
  refused = λ refused. absurd (not_refused status (Status.TooLarge What.Bytes) is refl refused);
  large = unread.large;
  exceeded = unread.exceeded;
  read = unread.read;
  write = quiet _ _ _ refl (λ d. cc);
  untouched = λ d. refl;
  cut = λ d. cc;
  spent = λ d. inl refl;
  complete = λ told calm. inl
      (is ∙ due_to_many told (many_told source.bytes source'.bytes told calm.told unread.front (unread.large is)));
  words = λ d. cc;
}
unread_for answers source source' sink status unread (inr (inr is)) = record {
  front = unread.front;
  done = λ d. cc;
  refused = λ refused. absurd (not_refused status Status.OutOfMemory is refl refused);
  large = unread.large;
  exceeded = unread.exceeded;
  read = unread.read;
  write = quiet _ _ _ refl (λ d. cc);
  untouched = λ d. refl;
  cut = λ d. cc;
  spent = λ d. inl refl;
  complete = λ told calm. inr is;
  words = λ d. cc;
}

-- the source was not read to its end
pub unread_ends : (answers : List ℕ → Result (List ℕ) Status → Type 0) (source source' sink : Seen) (status : Status)
    → IsUnread source source' status → ScriptEnds answers source source' sink sink status
unread_ends answers source source' sink status unread = unread_for answers source source' sink status unread unread.reason

-- memory ran out before anything was written
spent_ends : (answers : List ℕ → Result (List ℕ) Status → Type 0) (source source' sink : Seen) (bytes : List ℕ)
    → IsRead source source' bytes → ScriptEnds answers source source' sink sink Status.OutOfMemory
spent_ends answers source source' sink bytes read = record {
  front = (bytes, read.took);
  done = λ is. cc;
  refused = λ is. cc;
  large = λ is. cc;
  exceeded = λ more. inr refl;
  read = quiet _ _ _ read.same (λ is. cc);
  write = quiet _ _ _ refl (λ is. cc);
  untouched = λ is. refl;
  cut = λ is. cc;
  spent = λ is. inl refl;
  complete = λ told calm. inr refl;
  words = λ is. cc;
}

-- the bytes read are refused for a fault of theirs
refused_ends : (answers : List ℕ → Result (List ℕ) Status → Type 0) (source source' sink : Seen) (bytes : List ℕ) (f : ScriptFault)
    → IsRead source source' bytes → parse bytes ≡ Err f → answers bytes (Err (status_of f))
    → status_of f ≢ Status.Done → status_of f ≢ Status.ReadFault → status_of f ≢ Status.WriteFault → status_of f ≢ Status.OutOfMemory → status_of f ≢ Status.Usage
    → status_of f ≢ Status.TooLarge What.Bytes → ScriptEnds answers source source' sink sink (status_of f)
refused_ends answers source source' sink bytes f read e refused not_done not_read not_write not_spent not_usage not_large = record {
  front = (bytes, read.took);
  done = λ is. absurd (not_done is);
  refused = λ is. (bytes, (read.took, read.ends), refused);
  large = λ is. absurd (not_large is);
  exceeded = λ more. absurd (read.no_more more);
  read = quiet _ _ _ read.same not_read;
  write = quiet _ _ _ refl not_write;
  untouched = λ is. refl;
  cut = λ is. absurd (not_write is);
  spent = λ is. absurd (not_spent is);
  complete = λ told calm. inl (due_to source source' bytes told (status_of f) read calm.told (ap read_status e));
  words = not_usage;
}

not_bytes : (what : What) (bytes : List ℕ) → length bytes ≤ most_bytes → parse bytes ≡ Err (ScriptFault.TooLarge what) → Status.TooLarge what ≡ Status.TooLarge What.Bytes → ⊥
not_bytes What.Bytes bytes few e is = few_bytes bytes few e
not_bytes What.Lines bytes few e is = cc
not_bytes What.Tasks bytes few e is = cc
not_bytes What.Labels bytes few e is = cc
not_bytes What.Text bytes few e is = cc
not_bytes What.Rows bytes few e is = cc

-- the bytes read are no script
pub no_script_ends : (answers : List ℕ → Result (List ℕ) Status → Type 0) (source source' sink : Seen) (bytes : List ℕ) (f : ScriptFault)
    → IsRead source source' bytes → Fails f (parse bytes) → ((status : Status) → IsNoScript bytes status → answers bytes (Err status))
    → ScriptEnds answers source source' sink sink (status_of f)
no_script_ends answers source source' sink bytes (ScriptFault.Malformed line cause) read e refuse =
    refused_ends answers source source' sink bytes (ScriptFault.Malformed line cause) read e (refuse _ (ScriptFault.Malformed line cause, e, refl)) (λ x. cc) (λ x. cc)
    (λ x. cc) (λ x. cc) (λ x. cc) (λ x. cc)
no_script_ends answers source source' sink bytes (ScriptFault.TooLarge what) read e refuse =
    refused_ends answers source source' sink bytes (ScriptFault.TooLarge what) read e (refuse _ (ScriptFault.TooLarge what, e, refl)) (λ x. cc) (λ x. cc) (λ x. cc)
    (λ x. cc) (λ x. cc) (not_bytes what bytes read.few e)
no_script_ends answers source source' sink bytes ScriptFault.Memory read e refuse = spent_ends answers source source' sink bytes read

-- an answer was written
pub written_ends : (answers : List ℕ → Result (List ℕ) Status → Type 0) (source source' sink sink' : Seen) (bytes text : List ℕ)
    → IsRead source source' bytes → answers bytes (Ok text) → due_status bytes ≡ Status.Done → IsTextWritten text sink sink'
    → ScriptEnds answers source source' sink sink' Status.Done
written_ends answers source source' sink sink' bytes text read answer due written = record {
  front = (bytes, read.took);
  done = λ is. (bytes, text, (read.took, read.ends), answer, written.all);
  refused = λ is. cc;
  large = λ is. cc;
  exceeded = λ more. absurd (read.no_more more);
  read = quiet _ _ _ read.same (λ is. cc);
  write = quiet _ _ _ written.same (λ is. cc);
  untouched = λ is. cc;
  cut = λ is. cc;
  spent = λ is. cc;
  complete = λ told calm. inl (due_to source source' bytes told Status.Done read calm.told due);
  words = λ is. cc;
}

unwritten_for : (answers : List ℕ → Result (List ℕ) Status → Type 0) (source source' sink sink' : Seen) (bytes text : List ℕ)
    (status : Status) → IsRead source source' bytes → answers bytes (Ok text) → IsUnwritten text sink sink' status
    → (status ≡ Status.WriteFault) ⊎ (status ≡ Status.OutOfMemory) → ScriptEnds answers source source' sink sink' status
unwritten_for answers source source' sink sink' bytes text status read answer unwritten (inl is) = record {
  front = (bytes, read.took);
  done = λ d. cc;
  refused = λ refused. absurd (not_refused status Status.WriteFault is refl refused);
  large = λ d. cc;
  exceeded = λ more. absurd (read.no_more more);
  read = quiet _ _ _ read.same (λ d. cc);
  write = unwritten.write;
  untouched = λ none. absurd (not_untouched status Status.WriteFault is refl none);
  cut = λ d. (bytes, text, (read.took, read.ends), answer, unwritten.front);
  spent = λ d. cc;
  complete = λ told calm. absurd (calm.written (unwritten.write.cause is));
  words = λ d. cc;
}
unwritten_for answers source source' sink sink' bytes text status read answer unwritten (inr is) = record {
  front = (bytes, read.took);
  done = λ d. cc;
  refused = λ refused. absurd (not_refused status Status.OutOfMemory is refl refused);
  large = λ d. cc;
  exceeded = λ more. inr is;
  read = quiet _ _ _ read.same (λ d. cc);
  write = unwritten.write;
  untouched = λ none. absurd (not_untouched status Status.OutOfMemory is refl none);
  cut = λ d. cc;
  spent = λ d. inr (bytes, text, (read.took, read.ends), answer, unwritten.front);
  complete = λ told calm. inr is;
  words = λ d. cc;
}

-- a front of an answer was written
pub unwritten_ends : (answers : List ℕ → Result (List ℕ) Status → Type 0) (source source' sink sink' : Seen) (bytes text : List ℕ)
    (status : Status) → IsRead source source' bytes → answers bytes (Ok text) → IsUnwritten text sink sink' status
    → ScriptEnds answers source source' sink sink' status
unwritten_ends answers source source' sink sink' bytes text status read answer unwritten =
    unwritten_for answers source source' sink sink' bytes text status read answer unwritten unwritten.reason
