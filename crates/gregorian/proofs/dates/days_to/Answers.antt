-- `days_to` meets its contract: what is raised is no longer negative. Assumes nothing.
use native.Mathlib.Omega.{arith}
use Rattle.gregorian.proofs.Days.{raises_day, days_most}
use Rattle.gregorian.proofs.dates.days_to.Goals as goal

pub overflow_add-result : goal.overflow_add-result
overflow_add-result c = (raises_day c.ranges.number c.requires).fits

pub overflow_cast-result : goal.overflow_cast-result
overflow_cast-result c = (raises_day c.ranges.number c.requires).cast

pub returns : goal.returns
returns c =
    let e = (raises_day c.ranges.number c.requires).is in
    (e, omega (arith, e, days_most c.args.number c.requires))
