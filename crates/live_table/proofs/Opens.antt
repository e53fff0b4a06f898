-- A new table meets the rule.
use Rattle.std.proofs.Common.{◌≡◌, ℕ, zero, suc, true, false, List, [], ◌∷◌, sym, refl, subst, arith, Option, Some}
use mathlib.Core.Option.{some, some-injective, some-ne-none}
use lib.ListN.{get_elem?}
use Rattle.atomic_table.specs.Table.{Me, opening}
use Rattle.live_table.specs.declared.view.View.{View}
use Rattle.live_table.specs.Lists.{Has, here, there}
use Rattle.live_table.specs.Machines.{Means}
use Rattle.live_table.specs.Core.{Core, Fits, Rule, opening_view}
use Rattle.live_table.specs.Seats.{IsOpening, IsSeat}
use Rattle.live_table.proofs.Lists.{begins_nil}

module _ {S E : Type 0} (m : Means S E) where
  abbrev first_core : Core E
  first_core = record {
    journal = [];
    history = [];
    filled = [];
    penned = false;
    penner = 0;
    turned = false;
    turner = 0;
    noticed = false;
    drawn = false;
    child = 0;
    owner = λ _. 0;
  }

  impossible : {A : Type 0} → false ≡ true → A
  impossible e = cc

  only_zero : (k : ℕ) → Has k (0 ∷ []) → k ≡ 0
  only_zero k here = refl
  only_zero k (there h) = elim h [ ]

  fits_first : (j : ℕ) (d : View E) → get_elem? (opening_view {E = E} ∷ []) j ≡ some d → Fits m first_core j d
  fits_first zero d e = subst (Fits m first_core 0) (some-injective _ d e) record {
    seen = begins_nil [];
    told = begins_nil [];
    met = begins_nil [];
    heard = begins_nil [];
    known = omega arith;
    told_owns = λ k h. elim h [ ];
    apart = λ k h t. elim t [ ];
    owns = λ k h. let z = only_zero k h in record { owner = refl; drawn = omega arith; batches = refl; entries = refl };
    pen = impossible;
    turn = impossible;
    mark = impossible;
    bare = λ e. refl;
  }
  fits_first (suc j) d e = absurd (some-ne-none d (sym e))

  pub opens : (words : List ℕ) (x : S) → IsOpening words → m.history x ≡ [] → m.stands x []
      → Rule m (opening words (Some x ∷ []) opening_view)
  opens words x o blank stands = record {
    core = first_core;
    rows = o.rows;
    words = o.is;
    room = o.long;
    shown = begins_nil o.rows;
    home = (x, refl, blank, stands);
    legal = tt;
    recent = omega arith;
    tasks = λ b h. elim h [ ];
    packed = λ b h. elim h [ ];
    idle = λ _. (refl, refl);
    first = impossible;
    unfilled = λ _. refl;
    penned = tt;
    turned = tt;
    owned = λ k l. (opening_view, refl, subst (λ z. Has z (0 ∷ [])) (let z : 0 ≡ k = omega arith in z) here);
    fits = fits_first;
  }

pub opens_seat : {S E : Type 0} (me : Me (Option S) (View E)) → me ≡ (opening_view, []) → IsSeat me 0 0 0
opens_seat {S} {E} me e = subst (λ (z : Me (Option S) (View E)). IsSeat z 0 0 0) (sym e) record {
  numbered = refl;
  settled = refl;
  counted = refl;
  room = omega arith;
  packed = λ b h. elim h [ ];
  held = refl;
  filled_is = refl;
}
