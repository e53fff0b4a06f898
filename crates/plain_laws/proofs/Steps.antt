use Rattle.std.proofs.Common.{Bool, true, false, if◌then◌else◌, ℕ, List, [], ◌∷◌, Option, Some, None}
use Rattle.std.specs.List.{AllByRecursion}
use Rattle.std.specs.Option.{IfSome}
use Rattle.rules_spec.specs.declared.Verdict.{Verdict}
use Rattle.rules_spec.specs.Rulings.{Ruling}
use Rattle.world_spec.specs.declared.Why.{Why}
use Rattle.world_spec.specs.declared.Question.{Question}
use Rattle.world_spec.specs.declared.Question.TheVariants as Question
use Rattle.world_spec.specs.declared.Part.{Part}
use Rattle.world_spec.specs.declared.Part.TheVariants as Part
use Rattle.world_spec.specs.declared.Call.{Call}
use Rattle.world_spec.specs.declared.Reply.{Reply}
use Rattle.world_spec.specs.declared.Reply.TheVariants as Reply
use Rattle.world_spec.specs.Worlds.{World}
use Rattle.world_spec.specs.Questions.{if_found}
use Rattle.world_spec.specs.Steps.{asks, Went, asked, went, verdict_of, Effect, effect, Stepped, stepped, step}
use Rattle.replay_spec.specs.Plain.{HasId, IsPlainVerdict, IsPlainReply}
use Rattle.plain_laws.proofs.PlainWorlds.{IsPlainWorld}

-- a question is of and on known labels
abbrev pub IsPlainQuestion : List (List ℕ) → Question → Type 0
IsPlainQuestion table (Question.Full by s o m) = HasId table s × HasId table o
IsPlainQuestion table (Question.Attach by o) = HasId table o

-- a part of a call: a refusal gives a plain reply, a question is plain
abbrev pub IsPlainPart : List (List ℕ) → Part → Type 0
IsPlainPart table (Part.Refuses holds why) = IsPlainReply (Reply.Refused why)
IsPlainPart table (Part.Asks question) = IsPlainQuestion table question

-- parts that go on with what a look-up found are plain, where it finds what serves
pub found_is_plain : (table : List (List ℕ)) {A : Type 0} (P : A → Type 0) (found : Option A) (why : Why) (more : A → List Part)
    → IsPlainReply (Reply.Refused why) → IfSome found P → ((x : A) → P x → AllByRecursion (IsPlainPart table) (more x))
    → AllByRecursion (IsPlainPart table) (if_found found why more)
found_is_plain table P None why more plain found serves = (plain, tt)
found_is_plain table P (Some x) why more plain found serves = serves x found

-- what the parts of a call came to is plain
record IsPlainWent (table : List (List ℕ)) (w : Went) : Type 0 where
  checks : AllByRecursion (IsPlainVerdict table) w.checks
  stop : IfSome w.stop IsPlainReply

-- the call ends after these checks
abbrev ended : List Verdict → Reply → Went
ended checks reply = record { checks = checks; stop = Some reply }

abbrev followed : Verdict → Went → Went
followed v more = record { checks = v ∷ more.checks; stop = more.stop }

-- a question with a plain verdict, before plain parts
asked_is_plain : (table : List (List ℕ)) (v : Verdict) (more : Went) → IsPlainVerdict table v → IsPlainWent table more → IsPlainWent table (asked v more)
asked_is_plain table v more plain rest = by v.allowed
  where
    by : (allowed : Bool) → IsPlainWent table (if allowed then followed v more else ended (v ∷ []) (Reply.Denied v.case))
    by true = record { checks = (plain, rest.checks); stop = rest.stop }
    by false = record { checks = (plain, tt); stop = tt }

-- plain parts, whose questions have plain verdicts, come to what is plain
went_is_plain : (table : List (List ℕ)) (verdict : Question → Verdict) → ((q : Question) → IsPlainQuestion table q → IsPlainVerdict table (verdict q))
    → (parts : List Part) → AllByRecursion (IsPlainPart table) parts → IsPlainWent table (went verdict parts)
went_is_plain table verdict judged [] plain = record { checks = tt; stop = tt }
went_is_plain table verdict judged (Part.Refuses holds why ∷ more) plain = by holds (went_is_plain table verdict judged more plain.1)
  where
    by : (refused : Bool) → IsPlainWent table (went verdict more) → IsPlainWent table (if refused then ended [] (Reply.Refused why) else went verdict more)
    by true rest = record { checks = tt; stop = plain.0 }
    by false rest = rest
went_is_plain table verdict judged (Part.Asks question ∷ more) plain =
    asked_is_plain table (verdict question) (went verdict more) (judged question plain.0) (went_is_plain table verdict judged more plain.1)

-- a call leaves, where nothing stops it, a plain world and a plain reply
pub record IsPlainEffect (table : List (List ℕ)) (e : Effect) : Type 0 where
  pub world : IsPlainWorld table e.world
  pub reply : IsPlainReply e.reply

-- what a step leaves is plain
pub record IsPlainStepped (table : List (List ℕ)) (s : Stepped) : Type 0 where
  pub world : IsPlainWorld table s.world
  pub checks : AllByRecursion (IsPlainVerdict table) s.checks
  pub reply : IsPlainReply s.reply

-- a call that is stopped leaves the plain world as it was
stepped_is_plain : (table : List (List ℕ)) (w : World) (e : Effect) (checks : List Verdict) (stop : Option Reply) → IsPlainWorld table w
    → IsPlainEffect table e → AllByRecursion (IsPlainVerdict table) checks → IfSome stop IsPlainReply → IsPlainStepped table (stepped w e checks stop)
stepped_is_plain table w e checks None plain done checked stopped = record { world = done.world; checks = checked; reply = done.reply }
stepped_is_plain table w e checks (Some reply) plain done checked stopped = record { world = plain; checks = checked; reply = stopped }

-- a call of plain parts with a plain effect has a plain step, where the verdicts of plain questions are plain
pub step_by_parts : (table : List (List ℕ)) (w : World) (version : Ruling) (task : ℕ) (call : Call)
    → ((q : Question) → IsPlainQuestion table q → IsPlainVerdict table (verdict_of w version q))
    → AllByRecursion (IsPlainPart table) (asks w version task call) → IsPlainWorld table w → IsPlainEffect table (effect w version task call)
    → IsPlainStepped table (step w version task call)
step_by_parts table w version task call judged parts plain done =
    let through = went_is_plain table (verdict_of w version) judged (asks w version task call) parts in
    stepped_is_plain table w (effect w version task call) _ _ plain done through.checks through.stop
