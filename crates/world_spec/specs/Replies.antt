use Rattle.std.specs.Prelude.{ℕ, Bool, ◌==◌, false, Option, Some, None}
use Rattle.world_spec.specs.declared.Answer.{Answer}
use Rattle.world_spec.specs.declared.Answer.TheVariants as Answer
use Rattle.world_spec.specs.declared.Reply.{Reply}
use Rattle.world_spec.specs.declared.Reply.TheVariants as Reply

-- the reply that gives an answer
abbrev pub answered : Answer → Reply
answered Answer.Ok = Reply.Ok
answered (Answer.Signal sig) = Reply.Signal sig
answered (Answer.Names count names) = Reply.Names count names

-- the number of the task that a call with this reply made
abbrev pub child_of : Reply → Option ℕ
child_of (Reply.Child n) = Some n
child_of reply = None

abbrev pub is_number : ℕ → Option ℕ → Bool
is_number k None = false
is_number k (Some n) = n == k

-- the reply tells that the call made this task
abbrev pub makes : ℕ → Reply → Bool
makes k reply = is_number k (child_of reply)
