-- The two tables of stamps, each computed once. The sum of the years is closed first: summed year by year it takes long. Assumes
-- nothing.
use mathlib.Core.Path.{◌≡◌, sym, ap, ◌∙◌}
use mathlib.Core.Bool.{true}
use lib.IntN.{pos, neg_ℤ}
use Rattle.month_lengths.specs.Lengths.{leap, days_of_months}
use Rattle.gregorian.specs.Gregorian.{days_to, day_number}
use Rattle.gregorian.proofs.YearSums.{closed_is}
use Rattle.day_time.specs.Times.{good, seconds_of, fields_at}
use Rattle.day_time.specs.declared.times.Civil as civil
use Rattle.day_time.proofs.Promises.{fields_of_their_seconds}
use Rattle.byte_orders.specs.Orders.{reversed, year_swapped, ordered}
use Rattle.unpacking.specs.Reading.{value_of, fields_in}
use Rattle.counts.specs.Nokia.{nokia_decode, nokia_encode}
use Rattle.counts.specs.Sql.{sql_decode, sql_word, sql_encode}
use Rattle.registry.specs.Words.{local_decode, less_zone, fields_decode, fields_encode, rule_for}
use Rattle.registry.specs.Stamps.{Stamps, Edges}

pub stamps_hold : Stamps
unfolding leap days_of_months days_to day_number seconds_of reversed ordered value_of fields_in local_decode less_zone fields_decode nokia_decode sql_decode sql_word sql_encode rule_for
stamps_hold = simp closed_is

-- ---- edges

-- the first second of the window
abbrev first : civil.Civil
first = record { year = neg_ℤ (pos 9999); month = 1; day = 2; hour = 1; minute = 59; second = 59 }

its_seconds : seconds_of first ≡ neg_ℤ (pos 377705023201)
unfolding leap days_of_months days_to day_number seconds_of
its_seconds = simp closed_is

it_is_good : good first ≡ true
unfolding leap days_of_months days_to day_number seconds_of
it_is_good = simp closed_is

its_fields : fields_at (neg_ℤ (pos 377705023201)) ≡ first
its_fields = ap fields_at (sym its_seconds) ∙ (fields_of_their_seconds first it_is_good).1

pub edges_hold : Edges
unfolding leap days_of_months days_to day_number seconds_of reversed year_swapped ordered value_of fields_in local_decode less_zone fields_decode fields_encode nokia_decode nokia_encode sql_decode sql_word sql_encode rule_for
edges_hold = simp (closed_is, its_fields)
