use Rattle.std.proofs.Common.{inl, inr, arith, sym, subst, ℕ}
use Rattle.live_table.specs.Lists.{Has}
use Rattle.script_run.proofs.WaitPlaces.{taken, left, has_at}
use Rattle.script_run.proofs.waits.least_between.Goals.{then-from-place+then-place-least, else-from-place, else-from-place-via-then-from-place+else-place-least, else-from-place-via-else-from-place}
use Rattle.script_run.proofs.waits.least_between.Goals as goal

pub loop-place-preserved : goal.loop-place-preserved
loop-place-preserved c = let i = c.loop-place.invariant in elim c.if-from-place.branch [
  | then-from-place+then-place-least w ↦ record {
    low = omega (arith, w.least-is, w.if-from-place.true);
    high = omega (arith, w.least-is, w.if-place-least.true, i.high);
    found = λ _. subst (λ (n : ℕ). Has n c.args.places.now) (sym w.least-is)
        (has_at c.args.places.now c.loop-place.place-index _ c.loop-place-test.true);
    outside = taken c.args.from c.args.to c.loop-place.least c.args.places.now c.loop-place.place-index _ c.loop-place-test.true i.outside
        c.if-from-place.least w.least-is w.if-place-least.true;
  }
  | else-from-place w ↦ record {
    low = omega (arith, w.least-is, i.low);
    high = omega (arith, w.least-is, i.high);
    found = λ less. subst (λ (n : ℕ). Has n c.args.places.now) (sym w.least-is) (i.found (omega (arith, w.least-is, less)));
    outside = left c.args.from c.args.to c.loop-place.least c.args.places.now c.loop-place.place-index 0 c.loop-place-test.true i.outside
        c.if-from-place.least w.least-is (elim w.else-from-place.branch [
          | else-from-place-via-then-from-place+else-place-least w' ↦ inr (omega (arith, w'.if-place-least.false))
          | else-from-place-via-else-from-place w' ↦ inl (omega (arith, w'.if-from-place.false))
        ]);
  }
]
