use Rattle.std.proofs.Common.{◌≡◌, ℕ, true, false, [], Some, refl, ap}
use Rattle.rules_spec.specs.Rulings.{Ruling}
use Rattle.rules_spec.specs.Creds.{Creds}
use Rattle.world_spec.specs.declared.Call.{Call}
use Rattle.world_spec.specs.declared.Reply.TheVariants as Reply
use Rattle.world_spec.specs.declared.Why.TheVariants as Why
use Rattle.world_spec.specs.Worlds.{World, is_live, creds_of}
use Rattle.world_spec.specs.Steps.{call_asks, asks, Went, went, verdict_of}

abbrev live_asks : World → Ruling → ℕ → Call → Went
live_asks w version task call = went (verdict_of w version) (asks w version task call)

-- the call of a task that is not live is refused
pub of_nobody : (w : World) (version : Ruling) (task : ℕ) (call : Call) → is_live w.tasks task ≡ false
    → record { checks = []; stop = Some (Reply.Refused Why.NoSuchTask) } ≡ went (verdict_of w version) (asks w version task call)
of_nobody w version task call dead = simp dead refl

-- the call of a live task comes to what its own refusals and questions come to
pub of_live : (w : World) (version : Ruling) (task : ℕ) (c : Creds) (call : Call) → is_live w.tasks task ≡ true → c ≡ creds_of w task
    → went (verdict_of w version) (call_asks w version task c call) ≡ went (verdict_of w version) (asks w version task call)
of_live w version task c call live is =
    simp live (ap (λ d. went (verdict_of w version) (call_asks w version task d call)) is)
