use Rattle.std.proofs.Common.{◌≤◌, ◌+◌, length, refl, ap, subst, arith}
use Rattle.live_table.specs.Lists.{Has}
use Rattle.smack_kernel.specs.Indexes.{version_rows}
use Rattle.run_laws.specs.WorkedLoads.{WorkedLoads}

pub loads : WorkedLoads
loads = record {
  first = λ s ls rest table w x y ran.
      let once : w.loads + 0 ≤ 0 + version_rows w.journal w.version = ran.went.loads refl in omega (arith, once);
  others = λ s ls rest table w x y ran.
      let all = ran.went.others_load refl in (
        omega (arith, ap length all.is, all.each, ap length ran.went.ended),
        λ n h. all.few n (subst (Has n) all.is h),
      );
  child = λ s ls rest u c w x y starts ran.
      let once : w.loads + version_rows c.journal c.version ≤ c.loads + version_rows w.journal w.version = ran.went.loads refl in
      omega (arith, once, starts.loads);
  texts = λ child s o after once. let counted : after + 0 ≤ child.loads + 9 = once in omega (arith, counted);
  again = λ child s o after once. let counted : after + 9 ≤ child.loads + 9 = once in omega (arith, counted);
  empty = λ child s o after once. let counted : after + 9 ≤ child.loads + 10 = once in omega (arith, counted);
}
