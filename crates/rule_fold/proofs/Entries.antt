use Rattle.std.proofs.Common.{◌≡◌, ℕ, Bool, true, false, cond, List, [], ◌∷◌, refl, ap, sym, ◌∙◌, subst, inl, inr}
use Rattle.std.specs.Prelude.{Option, Some, None, map, unwrap_or, if◌then◌else◌, ◌&&◌, ◌==◌}
use Rattle.std.specs.Map.{lookup}
use Rattle.std.specs.Map.Calls.{RetainsPairs}
use Rattle.std.proofs.lemmas.Bool.{cases_Bool, eqb-true, and_parts}
use Rattle.smack_base.specs.declared.modes.Modes.{Modes}
use Rattle.smack_base.specs.declared.ids.LabelId.{LabelId}
use Rattle.smack_base.specs.Modes.{no_modes, union, without}
use Rattle.rules_spec.specs.Versions.{same_label, same_pair, present, revoked}
use Rattle.rule_fold.specs.Index.{Entry, is_key, look}

-- the same pair has the same rule
look_same : (s o a b : LabelId) (es : List Entry) → same_pair s o a b ≡ true → look es s o ≡ look es a b
look_same s o a b es same =
    let parts = and_parts (same_label s a) (same_label o b) same in
    let subjects : s.0 ≡ a.0 = eqb-true s.0 a.0 parts.0 in
    let objects : o.0 ≡ b.0 = eqb-true o.0 b.0 parts.1 in
    λ i. lookup (λ (k : ℕ × ℕ). (subjects i == k.0) && (objects i == k.1)) es

present_is : (rule : Option Modes) → unwrap_or rule no_modes ≡ present rule
present_is None = refl
present_is (Some m) = refl

-- what a change makes of the pair's own rule is what it makes of the rule that is asked for
pub look_changed : (s o a b : LabelId) (es : List Entry) (allow deny m : Modes)
    → m ≡ without (union (unwrap_or (look es s o) no_modes) allow) deny
    → (if same_pair s o a b then Some m else look es a b)
    ≡ (if same_pair s o a b then Some (without (union (present (look es a b)) allow) deny) else look es a b)
look_changed s o a b es allow deny m is = by (same_pair s o a b) (look_same s o a b es)
  where
    by : (same : Bool) → (same ≡ true → look es s o ≡ look es a b)
        → (if same then Some m else look es a b) ≡ (if same then Some (without (union (present (look es a b)) allow) deny) else look es a b)
    by true there = ap Some is ∙ ap (λ r. Some (without (union r allow) deny)) (present_is (look es s o) ∙ ap present (there refl))
    by false there = refl

-- a closure that always keeps the entry and writes a function of its key and value
pub map_by_key : {F K X : Type 0} (T : F → K → X → Bool → X → F → Type 0) (g : K → X → X) (f : F)
    → ((k : K) (v : X) (b : Bool) (w : X) (f' : F) → T f k v b w f' → (b ≡ true) × (w ≡ g k v) × (f' ≡ f))
    → (es kept : List (K × X)) → RetainsPairs T f es kept → kept ≡ map (λ e. (e.0, g e.0 e.1)) es
map_by_key T g f says [] kept r = r
map_by_key T g f says (e ∷ es) kept r =
    let a = says e.0 e.1 r.0 r.1 r.2 r.4 in
    let rest = map_by_key T g f says es r.3 (subst (λ u. RetainsPairs T u es r.3) a.2 r.5) in
    r.6 ∙ ap (λ b. cond b ((e.0, r.1) ∷ r.3) r.3) a.0 ∙ (λ i. (e.0, a.1 i) ∷ rest i)

-- the modes of an entry after a subject is revoked
abbrev pub emptied : LabelId → ℕ × ℕ → Modes → Modes
emptied s k m = if s.0 == k.0 then no_modes else m

found : (s a b : LabelId) (k : ℕ × ℕ) (m : Modes) → is_key a b k ≡ true
    → Some (emptied s k m) ≡ (if same_label s a then revoked (Some m) else Some m)
found s a b k m is =
    let subject : a.0 ≡ k.0 = eqb-true a.0 k.0 (and_parts (a.0 == k.0) (b.0 == k.1) is).0 in
    ap (λ n. Some (if s.0 == n then no_modes else m)) (sym subject) ∙ by (same_label s a)
  where
    by : (same : Bool) → Some (if same then no_modes else m) ≡ (if same then revoked (Some m) else Some m)
    by true = refl
    by false = refl

no_rule : (same : Bool) → None ≡ (if same then revoked None else None)
no_rule true = refl
no_rule false = refl

pub look_revoked : (s a b : LabelId) (es : List Entry)
    → look (map (λ e. (e.0, emptied s e.0 e.1)) es) a b ≡ (if same_label s a then revoked (look es a b) else look es a b)
look_revoked s a b [] = no_rule (same_label s a)
look_revoked s a b (e ∷ es) =
    elim (cases_Bool (is_key a b e.0)) [
      | inl t ↦ simp t (found s a b e.0 e.1 t)
      | inr t ↦ simp t (look_revoked s a b es)
    ]
