-- `days_before` meets its contract. The loop's invariant: `days` is the sum of the first i periods. Assumes nothing.
use mathlib.Core.Path.{◌≡◌}
use Rattle.year_walk.proofs.passed.days_before.Given as goal

abbrev pub invariant-loop-i : goal.invariant-loop-i
invariant-loop-i g l = l.days ≡ g.P.Periods.days l.periods l.i
