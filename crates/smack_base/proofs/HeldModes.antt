use Rattle.std.proofs.Common.{◌≡◌, Bool, true, false, ◌||◌, ◌&&◌, not, refl}
use Rattle.smack_base.specs.declared.modes.Modes.{Modes}
use Rattle.smack_base.specs.Modes.{holds, union}

parts : (a b : Bool) → (a && b) ≡ true → (a ≡ true) × (b ≡ true)
parts true true is = (refl, refl)
parts true false is = cc
parts false b is = cc

held : (m n : Bool) → (not n || m) ≡ true → (m || n) ≡ m
held true n is = refl
held false true is = cc
held false false is = refl

both : (m n : Bool) → (not n || (m || n)) ≡ true
both true true = refl
both true false = refl
both false true = refl
both false false = refl

all : (a b : Bool) → a ≡ true → b ≡ true → (a && b) ≡ true
all true true a b = refl
all true false a b = cc
all false b a c = cc

-- modes that a set holds add nothing to it
pub held_add_nothing : (m n : Modes) → holds m n ≡ true → union m n ≡ m
held_add_nothing m n is =
    let b = parts _ (not n.bring_up || m.bring_up) is in
    let t = parts _ (not n.transmute || m.transmute) b.0 in
    let a = parts _ (not n.append || m.append) t.0 in
    let x = parts _ (not n.execute || m.execute) a.0 in
    let w = parts (not n.read || m.read) (not n.write || m.write) x.0 in
    λ i. record {
      read = held m.read n.read w.0 i;
      write = held m.write n.write w.1 i;
      execute = held m.execute n.execute x.1 i;
      append = held m.append n.append a.1 i;
      transmute = held m.transmute n.transmute t.1 i;
      bring_up = held m.bring_up n.bring_up b.1 i;
    }

-- a union holds both of its sets
pub union_holds : (m n : Modes) → holds (union m n) n ≡ true
union_holds m n =
    all _ _ (all _ _ (all _ _ (all _ _ (all _ _ (both m.read n.read) (both m.write n.write)) (both m.execute n.execute)) (both m.append n.append))
    (both m.transmute n.transmute)) (both m.bring_up n.bring_up)
