-- Civil times in UTC: which are good, their seconds, and the civil time of some seconds.
use Rattle.std.specs.Prelude.{Bool, ◌&&◌, ℕ, ◌+◌, ◌*◌, ◌/◌, ◌%◌, nat_lt, ℤ, pos, neg_ℤ, ◌+ℤ◌, ◌*ℤ◌, int_le}
use Rattle.signed.specs.Floor.{floor_div, floor_rem}
use Rattle.gregorian.specs.Gregorian.{day_number}
use Rattle.gregorian.specs.Dates.{good_date, date_at}
use Rattle.gregorian.specs.declared.dates.Date.{Date}
use Rattle.day_time.specs.declared.times.Civil.{Civil}

-- the civil window: -377,705,023,201 to 253,402,207,200 seconds
abbrev pub in_window : ℤ → Bool
in_window s = int_le (neg_ℤ (pos 377705023201)) s && int_le s (pos 253402207200)

-- an hour of 0 to 23, a minute and a second of 0 to 59
abbrev pub good_time : ℕ → ℕ → ℕ → Bool
good_time h m s = nat_lt h 24 && nat_lt m 60 && nat_lt s 60

-- the seconds from 1970-01-01 00:00:00 to a time of day on the day of a number
abbrev pub seconds_from : ℤ → ℕ → ℕ → ℕ → ℤ
seconds_from day h m s = day *ℤ pos 86400 +ℤ pos (h * 3600 + m * 60 + s)

-- the seconds of a civil time
unfoldable pub seconds_of : Civil → ℤ
seconds_of c = seconds_from (day_number c.year c.month c.day) c.hour c.minute c.second

-- the fields are good: the date, the time of day, and the seconds, which lie in the window
abbrev pub good : Civil → Bool
good c = good_date c.year c.month c.day && (good_time c.hour c.minute c.second && in_window (seconds_of c))

-- the civil time of a date and the seconds that have passed of its day
abbrev pub on_date : Date → ℕ → Civil
on_date d t = record { year = d.year; month = d.month; day = d.day; hour = t / 3600; minute = t % 3600 / 60; second = t % 60 }

-- the civil time of s seconds: the date of the whole days, cut downwards, and what is left of the day
unfoldable pub fields_at : ℤ → Civil
fields_at s = on_date (date_at (floor_div s 86400)) (floor_rem s 86400)
