use Rattle.std.proofs.Common.{refl, sym, ap, ◌∙◌}
use Rattle.smack_program.specs.Statuses.{may_have_written}
use Rattle.smack_program.proofs.ExitStatuses.{done_of, usage_of, untouched_of}
use Rattle.smack_program.proofs.running.told_main.Goals as goal

-- the status is that of the command
pub returns-clause-ends : goal.returns-clause-ends
returns-clause-ends g c = (
  c.smack_main-status.result,
  record {
    replays = c.smack_main-status.ensures.replays;
    runs = c.smack_main-status.ensures.runs;
    usage = c.smack_main-status.ensures.usage;
    unread = λ is. (
      rw (c.smack_main-status.ensures.unread is) refl,
      rw (c.smack_main-status.ensures.untouched (ap may_have_written is)) refl,
    );
  },
  c.end.ensures,
)

pub returns-clause-unread : goal.returns-clause-unread
returns-clause-unread g c = λ is. c.smack_main-status.ensures.unread (usage_of c.smack_main-status.result (sym c.end.ensures.code ∙ is))

pub returns-clause-handed_on : goal.returns-clause-handed_on
returns-clause-handed_on g c = λ is. c.smack_main-status.ensures.handed_on (done_of c.smack_main-status.result (sym c.end.ensures.code ∙ is))

pub returns-clause-untouched : goal.returns-clause-untouched
returns-clause-untouched g c = λ done write memory.
    c.smack_main-status.ensures.untouched
    (untouched_of c.smack_main-status.result (λ is. done (c.end.ensures.code ∙ is)) (λ is. write (c.end.ensures.code ∙ is))
    (λ is. memory (c.end.ensures.code ∙ is)))
