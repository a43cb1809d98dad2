-- What the calls answer: a value, or a number of the list of refusals.
use Rattle.std.specs.Prelude.{if◌then◌else◌, ◌&&◌, ℕ, ℤ}
use Rattle.refusal.specs.Answers.{Answer, gives, refused}
use Rattle.day_time.specs.Times.{good, good_time, in_window, seconds_from, seconds_of, fields_at}
use Rattle.day_time.specs.declared.times.Civil.{Civil}

-- the seconds of good fields; 3 for any others
abbrev pub seconds_for : Civil → Answer ℤ
seconds_for c = if good c then gives (seconds_of c) else refused 3

-- the fields of seconds in the window; 6 for any others
abbrev pub fields_for : ℤ → Answer Civil
fields_for s = if in_window s then gives (fields_at s) else refused 6

-- the seconds of a time of day on the day of a number; 3 for a time of day that is none, and for seconds outside the window
abbrev pub seconds_on : ℤ → ℕ → ℕ → ℕ → Answer ℤ
seconds_on day h m s =
    if good_time h m s && in_window (seconds_from day h m s) then gives (seconds_from day h m s) else refused 3
