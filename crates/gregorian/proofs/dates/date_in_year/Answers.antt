-- `date_in_year` meets its contract: the month that was found is the one whose whole months have passed. Assumes nothing.
use mathlib.Core.Path.{sym, ap, ◌∙◌, subst}
use mir.Syntax.{w64}
use Rattle.signed.proofs.Differences.{minus}
use Rattle.signed.proofs.Machine.{lowers}
use Rattle.month_lengths.specs.Lengths.{leap, days_of_months, year_days, year_at}
use Rattle.gregorian.specs.Parts.{InMonth}
use Rattle.gregorian.proofs.Days.{date_in_year_lem}
use native.Mathlib.Omega.{arith}
use Rattle.gregorian.proofs.dates.date_in_year.Goals as goal

pub month_of-found-requires : goal.month_of-found-requires
unfolding year_days
month_of-found-requires c = omega (arith, c.requires.1, ap (λ b. days_of_months b 12) c.is_leap.ensures)

pub returns : goal.returns
returns c =
    let s = c.args in
    let found : InMonth (leap (year_at s.years)) s.left c.month_of-found.result.whole c.month_of-found.result.left =
    subst (λ b. InMonth b s.left c.month_of-found.result.whole c.month_of-found.result.left) c.is_leap.ensures c.month_of-found.ensures in
    let y = (lowers w64 s.years 10000 (omega (arith, c.requires.0)) (omega arith)).is ∙ sym (minus s.years 10000) in
    rw y (sym (date_in_year_lem s.years found))
