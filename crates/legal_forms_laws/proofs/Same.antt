-- The tests of verdicts and replies tell whether two are one.
use Rattle.std.proofs.Common.{◌≡◌, ℕ, Bool, ◌&&◌, ◌==◌, List, [], ◌∷◌, refl, ap}
use Rattle.std.specs.Bool.{Decides}
use Rattle.std.specs.Cmp.{booleans_Decides}
use Rattle.std.specs.Str.{bytes_eq}
use Rattle.std.proofs.lemmas.Bool.Decides.{Decides-and, Decides-like, Decides-eqb}
use Rattle.std.proofs.lemmas.Slice.Eq.{bytes_eq-Decides}
use Rattle.smack_base.specs.declared.modes.Modes.{Modes}
use Rattle.smack_base.specs.declared.ids.LabelId.{LabelId}
use Rattle.rules_spec.specs.declared.Verdict.{Verdict}
use Rattle.world_spec.specs.declared.Why.{Why}
use Rattle.world_spec.specs.declared.Reply.{Reply}
use Rattle.legal_forms.specs.Same.{same_lists, same_modes, same_verdict, same_checks, same_names, same_why, same_reply}

module _ {X : Type 0} (same : X → X → Bool) (each : (x y : X) → Decides (same x y) (x ≡ y)) where
  same_ends : (x y : X) (xs ys : List X) → x ∷ xs ≡ y ∷ ys → (x ≡ y) × (xs ≡ ys)
  same_ends x y xs ys is = (cc, cc)

  pub lists_decide : (xs ys : List X) → Decides (same_lists same xs ys) (xs ≡ ys)
  lists_decide [] [] = ((λ e. refl), (λ is. refl))
  lists_decide (x ∷ xs) (y ∷ ys) =
      Decides-like (same x y && same_lists same xs ys) (λ both i. both.0 i ∷ both.1 i) (same_ends x y xs ys)
      (Decides-and (same x y) (same_lists same xs ys) (each x y) (lists_decide xs ys))
  lists_decide [] (y ∷ ys) = ((λ e. absurd cc), (λ is. absurd cc))
  lists_decide (x ∷ xs) [] = ((λ e. absurd cc), (λ is. absurd cc))

pub modes_decide : (m n : Modes) → Decides (same_modes m n) (m ≡ n)
modes_decide m n =
    Decides-like (same_modes m n) (λ all i. record {
      read = all.0 i;
      write = all.1.0 i;
      execute = all.1.1.0 i;
      append = all.1.1.1.0 i;
      transmute = all.1.1.1.1.0 i;
      bring_up = all.1.1.1.1.1 i;
    }) (λ is. (
      ap (λ (x : Modes). x.read) is,
      (
        ap (λ (x : Modes). x.write) is,
        (
          ap (λ (x : Modes). x.execute) is,
          (ap (λ (x : Modes). x.append) is, (ap (λ (x : Modes). x.transmute) is, ap (λ (x : Modes). x.bring_up) is)),
        ),
      ),
    )) (Decides-and _ _ (booleans_Decides m.read n.read) (Decides-and _ _ (booleans_Decides m.write n.write)
    (Decides-and _ _ (booleans_Decides m.execute n.execute) (Decides-and _ _ (booleans_Decides m.append n.append)
    (Decides-and _ _ (booleans_Decides m.transmute n.transmute) (booleans_Decides m.bring_up n.bring_up))))))

label_decides : (k l : LabelId) → Decides (k.0 == l.0) (k ≡ l)
label_decides k l = Decides-like (k.0 == l.0) (λ is i. record { 0 = is i }) (λ is. ap (λ (x : LabelId). x.0) is) (Decides-eqb k.0 l.0)

pub verdict_decides : (v w : Verdict) → Decides (same_verdict v w) (v ≡ w)
verdict_decides v w =
    Decides-like (same_verdict v w) (λ all i. record {
      allowed = all.0 i;
      case = all.1.0 i;
      over = all.1.1.0 i;
      subject = all.1.1.1.0 i;
      object = all.1.1.1.1.0 i;
      modes = all.1.1.1.1.1 i;
    }) (λ is. (
      ap (λ (x : Verdict). x.allowed) is,
      (
        ap (λ (x : Verdict). x.case) is,
        (
          ap (λ (x : Verdict). x.over) is,
          (ap (λ (x : Verdict). x.subject) is, (ap (λ (x : Verdict). x.object) is, ap (λ (x : Verdict). x.modes) is)),
        ),
      ),
    )) (Decides-and _ _ (booleans_Decides v.allowed w.allowed) (Decides-and _ _ (Decides-eqb v.case w.case)
    (Decides-and _ _ (Decides-eqb v.over w.over) (Decides-and _ _ (label_decides v.subject w.subject)
    (Decides-and _ _ (label_decides v.object w.object) (modes_decide v.modes w.modes))))))

pub checks_decide : (vs ws : List Verdict) → Decides (same_checks vs ws) (vs ≡ ws)
checks_decide = lists_decide same_verdict verdict_decides

pub why_decides : (a b : Why) → Decides (same_why a b) (a ≡ b)
why_decides Why.Exists Why.Exists = ((λ e. refl), (λ is. refl))
why_decides Why.IsRoot Why.IsRoot = ((λ e. refl), (λ is. refl))
why_decides Why.NotDirectory Why.NotDirectory = ((λ e. refl), (λ is. refl))
why_decides Why.NotPrivileged Why.NotPrivileged = ((λ e. refl), (λ is. refl))
why_decides Why.NoSuchTask Why.NoSuchTask = ((λ e. refl), (λ is. refl))
why_decides Why.NoSuchName Why.NoSuchName = ((λ e. refl), (λ is. refl))
why_decides Why.Range Why.Range = ((λ e. refl), (λ is. refl))
why_decides Why.Again Why.Again = ((λ e. refl), (λ is. refl))
why_decides (Why.TasksFull n) (Why.TasksFull m) = Decides-like (n == m) (λ is. ap (λ k. Why.TasksFull k) is) (λ is. cc) (Decides-eqb n m)
why_decides (Why.SelfFull n) (Why.SelfFull m) = Decides-like (n == m) (λ is. ap (λ k. Why.SelfFull k) is) (λ is. cc) (Decides-eqb n m)
why_decides (Why.RelabelFull n) (Why.RelabelFull m) = Decides-like (n == m) (λ is. ap (λ k. Why.RelabelFull k) is) (λ is. cc) (Decides-eqb n m)
why_decides (Why.TreeFull n) (Why.TreeFull m) = Decides-like (n == m) (λ is. ap (λ k. Why.TreeFull k) is) (λ is. cc) (Decides-eqb n m)
why_decides a b = ((λ e. absurd cc), (λ is. absurd cc))

names_of_both : (k n : ℕ) (ks ns : List (List ℕ)) → Reply.Names k ks ≡ Reply.Names n ns → (k ≡ n) × (ks ≡ ns)
names_of_both k n ks ns is = (cc, cc)

pub reply_decides : (a b : Reply) → Decides (same_reply a b) (a ≡ b)
reply_decides Reply.Ok Reply.Ok = ((λ e. refl), (λ is. refl))
reply_decides (Reply.Child k) (Reply.Child n) = Decides-like (k == n) (λ is. ap (λ i. Reply.Child i) is) (λ is. cc) (Decides-eqb k n)
reply_decides (Reply.Signal k) (Reply.Signal n) = Decides-like (k == n) (λ is. ap (λ i. Reply.Signal i) is) (λ is. cc) (Decides-eqb k n)
reply_decides (Reply.Names k ks) (Reply.Names n ns) =
    Decides-like ((k == n) && same_names ks ns) (λ both i. Reply.Names (both.0 i) (both.1 i)) (names_of_both k n ks ns)
    (Decides-and (k == n) (same_names ks ns) (Decides-eqb k n) (lists_decide bytes_eq bytes_eq-Decides ks ns))
reply_decides (Reply.Denied k) (Reply.Denied n) = Decides-like (k == n) (λ is. ap (λ i. Reply.Denied i) is) (λ is. cc) (Decides-eqb k n)
reply_decides (Reply.Refused a) (Reply.Refused b) =
    Decides-like (same_why a b) (λ is. ap (λ w. Reply.Refused w) is) (λ is. cc) (why_decides a b)
reply_decides a b = ((λ e. absurd cc), (λ is. absurd cc))
