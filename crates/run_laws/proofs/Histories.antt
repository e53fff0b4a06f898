-- What a legal history says of its entries.
use Rattle.std.proofs.Common.{◌≡◌, ℕ, zero, suc, ◌+◌, ◌<◌, ◌≤◌, List, [], ◌∷◌, sym, refl, ap, ◌∙◌, subst, arith, Some}
use Rattle.rules_spec.specs.declared.Batch.{Batch}
use Rattle.world_spec.specs.declared.Reply.{Reply}
use Rattle.world_spec.specs.declared.Entry.{Entry}
use Rattle.std.specs.List.{slice_get}
use Rattle.legal_spec.specs.Calls.{Stands}
use Rattle.live_table.specs.Machines.{makes, made, Next, LegalFrom, last_from}
use Rattle.world_spec.specs.Replies.{child_of}
use Rattle.smack_kernel.specs.Histories.{world_means, AreOneHistory}
use Rattle.smack_kernel.specs.Tasks.{TaskValue}
use Rattle.smack_kernel.specs.Answers.{ClosedValue, Closes}
use Rattle.run_laws.proofs.Lists.{same_some}

-- what a task has seen that closed its kernel is one history
pub seen_as_one : {labels : List (List ℕ)} {w : TaskValue} {closed : ClosedValue} → Closes labels w closed
    → AreOneHistory w.journal w.history
seen_as_one c = subst (λ (z : List Batch × List Entry). AreOneHistory z.0 z.1) (λ i. (c.journal i, c.history i)) c.one

-- a reply that names a child
pub child_named : (r : Reply) (k : ℕ) → child_of r ≡ Some k → r ≡ Reply.Child k
child_named (Reply.Child n) k is = cc
child_named reply k is = cc

-- children have rising numbers
pub child_above : (c v n : ℕ) (es : List Entry) (e : Entry) (k : ℕ) → LegalFrom world_means c v es → Stands es n e → child_of e.reply ≡ Some k
    → (c < k) × (k ≤ c + made world_means es)
child_above c v n [] e k l st is = cc
child_above c v zero (x ∷ es) e k l st is =
    let here : child_of x.reply ≡ Some k = ap (λ (y : Entry). child_of y.reply) (same_some x e st) ∙ is in
    let z : k ≡ c + 1 = subst (Next world_means (c + 1)) here l.2 in
    let o = ap (makes world_means) here in (omega arith, omega arith)
child_above c v (suc n) (x ∷ es) e k l st is =
    let i = child_above (c + makes world_means (child_of x.reply)) x.version n es e k l.3 st is in
    let y = i.0 in let z = i.1 in (omega arith, omega arith)

-- and each is made once
pub one_child : (c v n m : ℕ) (es : List Entry) (e f : Entry) (k : ℕ) → LegalFrom world_means c v es → Stands es n e → Stands es m f
    → child_of e.reply ≡ Some k → child_of f.reply ≡ Some k → n ≡ m
one_child c v n m [] e f k l st sf is it = cc
one_child c v zero zero (x ∷ es) e f k l st sf is it = refl
one_child c v zero (suc m) (x ∷ es) e f k l st sf is it =
    let here : child_of x.reply ≡ Some k = ap (λ (y : Entry). child_of y.reply) (same_some x e st) ∙ is in
    let z : k ≡ c + 1 = subst (Next world_means (c + 1)) here l.2 in
    let o = ap (makes world_means) here in
    let i = (child_above (c + makes world_means (child_of x.reply)) x.version m es f k l.3 sf it).0 in absurd (omega arith)
one_child c v (suc n) zero (x ∷ es) e f k l st sf is it =
    let here : child_of x.reply ≡ Some k = ap (λ (y : Entry). child_of y.reply) (same_some x f sf) ∙ it in
    let z : k ≡ c + 1 = subst (Next world_means (c + 1)) here l.2 in
    let o = ap (makes world_means) here in
    let i = (child_above (c + makes world_means (child_of x.reply)) x.version n es e k l.3 st is).0 in absurd (omega arith)
one_child c v (suc n) (suc m) (x ∷ es) e f k l st sf is it =
    ap (λ i. suc i) (one_child (c + makes world_means (child_of x.reply)) x.version n m es e f k l.3 st sf is it)

-- two that stand in one place are one
pub same_stand : {A : Type 0} (xs : List A) (n m : ℕ) (x y : A) → n ≡ m → Stands xs n x → Stands xs m y → x ≡ y
same_stand {A} xs n m x y e s t = same_some x y (sym s ∙ (ap (λ i. slice_get xs i) e ∙ t))

-- versions do not fall
pub version_above : (c v n : ℕ) (es : List Entry) (e : Entry) → LegalFrom world_means c v es → Stands es n e → v ≤ e.version
version_above c v n [] e l st = cc
version_above c v zero (x ∷ es) e l st = subst (λ (y : Entry). v ≤ y.version) (same_some x e st) l.1
version_above c v (suc n) (x ∷ es) e l st =
    let i = version_above (c + makes world_means (child_of x.reply)) x.version n es e l.3 st in let y = l.1 in omega arith

pub versions_rise : (c v n m : ℕ) (es : List Entry) (e f : Entry) → LegalFrom world_means c v es → Stands es n e → Stands es m f → n < m
    → e.version ≤ f.version
versions_rise c v n m [] e f l st sf lt = cc
versions_rise c v n zero (x ∷ es) e f l st sf lt = absurd (omega arith)
versions_rise c v zero (suc m) (x ∷ es) e f l st sf lt =
    subst (λ (y : Entry). y.version ≤ f.version) (same_some x e st)
    (version_above (c + makes world_means (child_of x.reply)) x.version m es f l.3 sf)
versions_rise c v (suc n) (suc m) (x ∷ es) e f l st sf lt =
    versions_rise (c + makes world_means (child_of x.reply)) x.version n m es e f l.3 st sf (omega arith)

last_above : (c v : ℕ) (es : List Entry) → LegalFrom world_means c v es → v ≤ last_from world_means v es
last_above c v [] l = omega arith
last_above c v (x ∷ es) l =
    let i = last_above (c + makes world_means (child_of x.reply)) x.version es l.3 in let y = l.1 in omega arith

pub versions_within : (c v n : ℕ) (es : List Entry) (e : Entry) → LegalFrom world_means c v es → Stands es n e
    → e.version ≤ last_from world_means v es
versions_within c v n [] e l st = cc
versions_within c v zero (x ∷ es) e l st =
    let i = last_above (c + makes world_means (child_of x.reply)) x.version es l.3 in
    subst (λ (y : Entry). y.version ≤ last_from world_means x.version es) (same_some x e st) i
versions_within c v (suc n) (x ∷ es) e l st =
    versions_within (c + makes world_means (child_of x.reply)) x.version n es e l.3 st
