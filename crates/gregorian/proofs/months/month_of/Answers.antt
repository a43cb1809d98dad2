-- `month_of` meets its contract: the guess is the month, or the one before. Assumes nothing.
use mathlib.Core.Path.{refl}
use Prim.Native.Nat.{◌-◌, ◌/◌, ◌<◌, ◌≤◌}
use lib.ListN.{get_or}
use Rattle.month_lengths.specs.Lengths.{months, days_of_months}
use Rattle.gregorian.proofs.MonthSums.{guess_most, guess_low, guess_right, guess_early}
use native.Mathlib.Omega.{arith}
use Rattle.gregorian.proofs.months.month_of.Goals as goal

pub days_before_month-requires : goal.days_before_month-requires
days_before_month-requires c = omega (arith, guess_most c.args.leap c.args.day _ c.requires refl)

pub overflow_sub-left : goal.overflow_sub-left
overflow_sub-left c =
    let s = c in
    omega (arith, c.days_before_month.ensures, guess_low s.args.leap s.args.day _ s.requires refl)

pub returns-then-left-length : goal.returns-then-left-length
returns-then-left-length c =
    let s = c in
    let e = c.days_before_month.ensures in
    let l : s.args.day - days_of_months s.args.leap (s.args.day / 32) < get_or (months s.args.leap) (s.args.day / 32) 0 = omega (arith, e, c.length_of_month-length.ensures) in
    rw e (guess_right s.args.leap s.args.day _ s.requires refl l)

pub returns-else-left-length : goal.returns-else-left-length
returns-else-left-length c =
    let s = c in
    let e = c.days_before_month.ensures in
    let l : get_or (months s.args.leap) (s.args.day / 32) 0 ≤ s.args.day - days_of_months s.args.leap (s.args.day / 32) = omega (arith, e, c.length_of_month-length.ensures) in
    rw (e, c.length_of_month-length.ensures) (guess_early s.args.leap s.args.day _ s.requires refl l)
