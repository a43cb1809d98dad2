-- Proofs of what specs/Surprises.antt states: words and instants are computed once, with the sum of the years closed first.
-- The fields of the instant that Gsm refuses are not walked to; they are those of a civil time that has its seconds.
use mathlib.Core.Path.{◌≡◌, refl, sym, ap, ◌∙◌}
use mathlib.Core.Bool.{true}
use lib.IntN.{pos}
use Rattle.month_lengths.specs.Lengths.{leap, days_of_months}
use Rattle.gregorian.specs.Gregorian.{days_to, day_number}
use Rattle.gregorian.proofs.YearSums.{closed_is}
use Rattle.day_time.specs.Times.{good, seconds_of, fields_at}
use Rattle.day_time.specs.declared.times.Civil.{Civil}
use Rattle.day_time.proofs.Promises.{fields_of_their_seconds}
use Rattle.byte_orders.specs.Orders.{ordered}
use Rattle.unpacking.specs.Reading.{value_of, fields_in}
use Rattle.counts.specs.Sql.{sql_word, sql_encode}
use Rattle.registry.specs.Words.{local_decode, less_zone, fields_decode, fields_encode, rule_for}
use Rattle.loss.specs.Surprises.{ZoneLeavesTheYears, RollAtTheEnds}

-- 21:30 on the last day of 1999
abbrev last_evening : Civil
last_evening = record { year = pos 1999; month = 12; day = 31; hour = 21; minute = 30; second = 0 }

its_seconds : seconds_of last_evening ≡ pos 946675800
unfolding leap days_of_months days_to day_number seconds_of
its_seconds = simp closed_is

it_is_good : good last_evening ≡ true
unfolding leap days_of_months days_to day_number seconds_of
it_is_good = simp closed_is

its_fields : fields_at (pos 946675800) ≡ last_evening
its_fields = ap fields_at (sym its_seconds) ∙ (fields_of_their_seconds last_evening it_is_good).1

pub zone_leaves_the_years : ZoneLeavesTheYears
unfolding leap days_of_months days_to day_number seconds_of ordered value_of fields_in local_decode less_zone fields_decode fields_encode rule_for
zone_leaves_the_years = (simp closed_is, rw its_fields)

pub roll_at_the_ends : RollAtTheEnds
unfolding sql_word sql_encode rule_for
roll_at_the_ends = (refl, refl, refl, refl)
