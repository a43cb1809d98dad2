-- `passed_at` meets its contract: the loop comes to the one period that the day lies in, so it stays below their number. Assumes
-- nothing.
use Prim.Native.Nat.{◌<◌}
use native.Mathlib.Omega.{arith}
use Rattle.year_walk.proofs.passed.passed_at.Goals as goal
use Rattle.year_walk.proofs.passed.passed_at.Goals.{At-loop-left}
use Rattle.year_walk.proofs.passed.passed_at.Given.{Over}

within : (g : Over) (c : At-loop-left g) → c.loop-left.whole < g.P.Periods.count
within g c = g.met.P.Periods.one c.args.periods c.loop-left.whole c.args.day (omega (arith, c.loop-left.invariant)) c.requires

pub length-length-requires : goal.length-length-requires
length-length-requires g c = within g (goal.at.length-length-requires g c).At-loop-left

pub overflow_add-whole : goal.overflow_add-whole
overflow_add-whole g c = omega (arith, within g (goal.at.overflow_add-whole g c).At-loop-left, g.met.P.Periods.few)

pub loop-left-smaller : goal.loop-left-smaller
loop-left-smaller g c = omega (arith, within g (goal.at.loop-left-smaller g c).At-loop-left)

pub returns-then-left-length : goal.returns-then-left-length
returns-then-left-length g c = record {
  within = within g (goal.at.returns-then-left-length g c).At-loop-left;
  is = c.loop-left.invariant;
  short = omega (arith, c.loop-left.invariant, c.length-length.ensures, c.if-left-length.true);
}
