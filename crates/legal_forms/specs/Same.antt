use Rattle.std.specs.Prelude.{ℕ, Bool, true, false, ◌&&◌, ◌==◌, List, [], ◌∷◌}
use Rattle.std.specs.Bool.{beq}
use Rattle.std.specs.Str.{bytes_eq}
use Rattle.smack_base.specs.declared.modes.Modes.{Modes}
use Rattle.rules_spec.specs.declared.Verdict.{Verdict}
use Rattle.world_spec.specs.declared.Why.{Why}
use Rattle.world_spec.specs.declared.Reply.{Reply}

-- two lists have the same elements, as a test of two says
abbrev pub same_lists : {X : Type 0} → (X → X → Bool) → List X → List X → Bool
same_lists same [] [] = true
same_lists same (x ∷ xs) (y ∷ ys) = same x y && same_lists same xs ys
same_lists same [] (y ∷ ys) = false
same_lists same (x ∷ xs) [] = false

abbrev pub same_modes : Modes → Modes → Bool
same_modes m n = beq m.read n.read && (beq m.write n.write && (beq m.execute n.execute && (beq m.append n.append
    && (beq m.transmute n.transmute && beq m.bring_up n.bring_up))))

abbrev pub same_verdict : Verdict → Verdict → Bool
same_verdict v w = beq v.allowed w.allowed && ((v.case == w.case) && ((v.over == w.over) && ((v.subject.0 == w.subject.0)
    && ((v.object.0 == w.object.0) && same_modes v.modes w.modes))))

abbrev pub same_checks : List Verdict → List Verdict → Bool
same_checks = same_lists same_verdict

abbrev pub same_names : List (List ℕ) → List (List ℕ) → Bool
same_names = same_lists bytes_eq

-- two refusals are one, with the same limit
abbrev pub same_why : Why → Why → Bool
same_why Why.Exists Why.Exists = true
same_why Why.IsRoot Why.IsRoot = true
same_why Why.NotDirectory Why.NotDirectory = true
same_why Why.NotPrivileged Why.NotPrivileged = true
same_why Why.NoSuchTask Why.NoSuchTask = true
same_why Why.NoSuchName Why.NoSuchName = true
same_why Why.Range Why.Range = true
same_why Why.Again Why.Again = true
same_why (Why.TasksFull n) (Why.TasksFull m) = n == m
same_why (Why.SelfFull n) (Why.SelfFull m) = n == m
same_why (Why.RelabelFull n) (Why.RelabelFull m) = n == m
same_why (Why.TreeFull n) (Why.TreeFull m) = n == m
same_why why other = false

abbrev pub same_reply : Reply → Reply → Bool
same_reply Reply.Ok Reply.Ok = true
same_reply (Reply.Child k) (Reply.Child n) = k == n
same_reply (Reply.Signal k) (Reply.Signal n) = k == n
same_reply (Reply.Names k ks) (Reply.Names n ns) = (k == n) && same_names ks ns
same_reply (Reply.Denied k) (Reply.Denied n) = k == n
same_reply (Reply.Refused why) (Reply.Refused other) = same_why why other
same_reply reply other = false
