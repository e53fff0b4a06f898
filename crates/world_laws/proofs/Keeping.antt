use Rattle.std.proofs.Common.{◌≡◌, ℕ, suc, zero, false, List, [], ◌∷◌, length, Option, Some, None, refl, ap}
use Rattle.std.proofs.lemmas.Bool.{eqb-false}
use Rattle.smack_base.specs.declared.ids.Pid.{Pid}
use Rattle.rules_spec.specs.declared.Verdict.{Verdict}
use Rattle.rules_spec.specs.Rulings.{Ruling}
use Rattle.rules_spec.specs.Creds.{Creds}
use Rattle.world_spec.specs.declared.Call.{Call}
use Rattle.world_spec.specs.declared.Call.TheVariants as Call
use Rattle.world_spec.specs.declared.Answer.{Answer}
use Rattle.world_spec.specs.declared.Reply.{Reply}
use Rattle.world_spec.specs.Replies.{makes}
use Rattle.world_spec.specs.Worlds.{World, TaskRow, creds_in, creds_or_first, creds_of, changed_at, with_child}
use Rattle.world_spec.specs.TaskCalls.{TaskEffect, NoChange, NewCreds, LifeEnds, NewChild, NewSignal, SignalTaken, tasks_after, task_left}
use Rattle.world_spec.specs.Steps.{Effect, task_reply, effect, stepped, went, verdict_of, asks}
use Rattle.world_laws.specs.Laws.{OthersKeepCreds}

-- a change of the row of a number that leaves the credentials of another
pub other_creds : (rows : List TaskRow) (n k : ℕ) (f : TaskRow → TaskRow) → (n ≡ k → ⊥) → creds_in (changed_at rows n f) k ≡ creds_in rows k
other_creds [] n k f apart = refl
other_creds (r ∷ rs) zero zero f apart = absurd (apart refl)
other_creds (r ∷ rs) zero (suc k) f apart = refl
other_creds (r ∷ rs) (suc n) zero f apart = refl
other_creds (r ∷ rs) (suc n) (suc k) f apart = other_creds rs n k f (λ same. apart (ap (λ m. suc m) same))

-- a change of a row that leaves its credentials
pub same_creds : (rows : List TaskRow) (n k : ℕ) (f : TaskRow → TaskRow) → ((r : TaskRow) → (f r).creds ≡ r.creds)
    → creds_in (changed_at rows n f) k ≡ creds_in rows k
same_creds [] n k f keeps = refl
same_creds (r ∷ rs) zero zero f keeps = ap Some (keeps r)
same_creds (r ∷ rs) zero (suc k) f keeps = refl
same_creds (r ∷ rs) (suc n) zero f keeps = refl
same_creds (r ∷ rs) (suc n) (suc k) f keeps = same_creds rs n k f keeps

child_keeps : (rows : List TaskRow) (pid : Pid) (c : Creds) (k : ℕ) → (length rows ≡ k → ⊥) → creds_in (with_child rows pid c) k ≡ creds_in rows k
child_keeps [] pid c zero apart = absurd (apart refl)
child_keeps [] pid c (suc k) apart = refl
child_keeps (r ∷ rs) pid c zero apart = refl
child_keeps (r ∷ rs) pid c (suc k) apart = child_keeps rs pid c k (λ same. apart (ap (λ m. suc m) same))

change_keeps : (rows : List TaskRow) (task k : ℕ) (change : TaskEffect) (answer : Answer) → (task ≡ k → ⊥)
    → makes k (task_reply rows change answer) ≡ false → creds_in (tasks_after rows task change) k ≡ creds_in rows k
change_keeps rows task k NoChange answer apart unmade = refl
change_keeps rows task k (NewCreds creds) answer apart unmade = other_creds rows task k _ apart
change_keeps rows task k LifeEnds answer apart unmade = same_creds rows task k _ (λ r. refl)
change_keeps rows task k (NewChild pid) answer apart unmade = child_keeps rows pid _ k (eqb-false (length rows) k unmade)
change_keeps rows task k (NewSignal n sig) answer apart unmade = same_creds rows n k _ (λ r. refl)
change_keeps rows task k SignalTaken answer apart unmade = same_creds rows task k _ (λ r. refl)

effect_keeps : (w : World) (version : Ruling) (task k : ℕ) (call : Call) → (task ≡ k → ⊥)
    → makes k (effect w version task call).reply ≡ false → creds_of (effect w version task call).world k ≡ creds_of w k
effect_keeps w version task k (Call.Task call) apart unmade =
    let left = task_left w version task call in ap creds_or_first (change_keeps w.tasks task k left.change left.answer apart unmade)
effect_keeps w version task k (Call.Tree call) apart unmade = refl

stepped_keeps : (w : World) (k : ℕ) (e : Effect) (checks : List Verdict) (stop : Option Reply)
    → (makes k e.reply ≡ false → creds_of e.world k ≡ creds_of w k)
    → makes k (stepped w e checks stop).reply ≡ false → creds_of (stepped w e checks stop).world k ≡ creds_of w k
stepped_keeps w k e checks (Some reply) keeps unmade = refl
stepped_keeps w k e checks None keeps unmade = keeps unmade

pub others_keep : OthersKeepCreds
others_keep w version task k call apart unmade =
    let through = went (verdict_of w version) (asks w version task call) in
    stepped_keeps w k (effect w version task call) through.checks through.stop (effect_keeps w version task k call apart) unmade
