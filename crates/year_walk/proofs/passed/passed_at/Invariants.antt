-- `passed_at` meets its contract. The loop's invariant: the periods passed and what is left make up the day. Assumes nothing.
use mathlib.Core.Path.{◌≡◌}
use Prim.Native.Nat.{◌+◌, ◌-◌}
use Rattle.year_walk.proofs.passed.passed_at.Given as goal

abbrev pub invariant-loop-left : goal.invariant-loop-left
invariant-loop-left g l = g.P.Periods.days l.periods l.whole + l.left ≡ l.day

abbrev pub decreases-loop-left : goal.decreases-loop-left
decreases-loop-left g l = g.P.Periods.count - l.whole
