-- What the calls answer: a value, or a number of the list of refusals.
use Rattle.std.specs.Prelude.{if◌then◌else◌, ℕ, ℤ}
use Rattle.refusal.specs.Answers.{Answer, gives, refused}
use Rattle.gregorian.specs.Gregorian.{day_number}
use Rattle.gregorian.specs.Dates.{good_date, good_day_number, date_at}
use Rattle.gregorian.specs.declared.dates.Date.{Date}

-- the day number of a good date; 3 for any other
abbrev pub day_for : ℤ → ℕ → ℕ → Answer ℤ
day_for y m d = if good_date y m d then gives (day_number y m d) else refused 3

-- the date of a day number of the years -9999 to 9999; 6 for any other
abbrev pub date_for : ℤ → Answer Date
date_for z = if good_day_number z then gives (date_at z) else refused 6
