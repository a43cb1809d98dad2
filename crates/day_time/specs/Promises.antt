-- What holds of civil times and seconds. Each is proved in proofs/Promises.antt.
use Rattle.std.specs.Prelude.{◌≡◌, Result, Bool, true, ℕ, ◌+◌, ◌*◌, ◌/◌, ◌≤◌, ◌<◌, ◌^◌, nat_lt, ℤ, pos, ◌+ℤ◌, ◌*ℤ◌, int_lt}
use Rattle.std.specs.Int.Signed.{mag}
use Rattle.refusal.specs.Answers.{answer_of}
use Rattle.refusal.specs.declared.Refusal.{Refusal}
use Rattle.signed.specs.Floor.{floor_div}
use Rattle.instant.specs.Instants.{decides, epoch1601, epoch1900, epoch2050}
use Rattle.gregorian.specs.Gregorian.{day_number}
use Rattle.day_time.specs.Times.{in_window, good, seconds_of, fields_at}
use Rattle.day_time.specs.Answers.{seconds_for, fields_for}
use Rattle.day_time.specs.declared.times.Civil.{Civil}

-- ---- there and back

-- the fields of a second of the window are good, and have that second
abbrev pub SecondsOfTheirFields : Type 0
SecondsOfTheirFields = (s : ℤ) → in_window s ≡ true → (good (fields_at s) ≡ true) × (seconds_of (fields_at s) ≡ s)

-- the seconds of good fields lie in the window, and have those fields
abbrev pub FieldsOfTheirSeconds : Type 0
FieldsOfTheirSeconds = (c : Civil) → good c ≡ true → (in_window (seconds_of c) ≡ true) × (fields_at (seconds_of c) ≡ c)

-- so a second of the window has one set of good fields
abbrev pub OneTime : Type 0
OneTime = (a b : Civil) → good a ≡ true → good b ≡ true → seconds_of a ≡ seconds_of b → a ≡ b

-- ---- one answer from both engines

-- the two engines agree on every set of fields and on every number of seconds, refusals too. This is uniqueness, and it is
-- enough: the contracts of `civil::seconds_of` and `year_walk::seconds_of` both say `answer_of r ≡ seconds_for c`, those of
-- `civil::fields_of` and `year_walk::fields_of` both say `answer_of r ≡ fields_for s`, and here any two such answers are equal
abbrev pub EnginesAgree : Type 0
EnginesAgree =
    ((c : Civil) (a b : Result ℤ Refusal) → answer_of a ≡ seconds_for c → answer_of b ≡ seconds_for c → a ≡ b)
    × ((s : ℤ) (a b : Result Civil Refusal) → answer_of a ≡ fields_for s → answer_of b ≡ fields_for s → a ≡ b)

-- ---- order

-- a is earlier than b: the first field that differs decides
abbrev pub earlier : Civil → Civil → Bool
earlier a b =
    decides (int_lt a.year b.year) (int_lt b.year a.year)
    (decides (nat_lt a.month b.month) (nat_lt b.month a.month)
    (decides (nat_lt a.day b.day) (nat_lt b.day a.day)
    (decides (nat_lt a.hour b.hour) (nat_lt b.hour a.hour)
    (decides (nat_lt a.minute b.minute) (nat_lt b.minute a.minute)
    (nat_lt a.second b.second)))))

-- seconds and good fields lie in the same order
abbrev pub SameOrder : Type 0
SameOrder = (a b : Civil) → good a ≡ true → good b ≡ true → int_lt (seconds_of a) (seconds_of b) ≡ earlier a b

-- ---- for what reads and writes fields

-- the ranges of the fields of a second of the window. `mag y` is y for a year from 0 on and -1 - y for one before, so the year is
-- from -10000 to 9999
pub record Ranged (c : Civil) : Type 0 where
  pub year : mag c.year < 10000
  pub month_low : 1 ≤ c.month
  pub month_high : c.month ≤ 12
  pub day_low : 1 ≤ c.day
  pub day_high : c.day ≤ 31
  pub hour : c.hour ≤ 23
  pub minute : c.minute ≤ 59
  pub second : c.second ≤ 59

abbrev pub FieldRanges : Type 0
FieldRanges = (s : ℤ) → in_window s ≡ true → Ranged (fields_at s)

-- the seconds of the window are small
abbrev pub WindowSize : Type 0
WindowSize = (s : ℤ) → in_window s ≡ true → mag s < 2 ^ 39

-- the same fields with another second
abbrev pub with_second : Civil → ℕ → Civil
with_second c k = record { year = c.year; month = c.month; day = c.day; hour = c.hour; minute = c.minute; second = k }

-- more seconds are as many seconds more
abbrev pub LinearSecond : Type 0
LinearSecond = (c : Civil) (j k : ℕ) → seconds_of (with_second c (j + k)) ≡ seconds_of (with_second c j) +ℤ pos k

-- cutting the second down to steps of k, where k divides a minute, cuts the seconds down to steps of k
abbrev pub FlooredSeconds : Type 0
FlooredSeconds = (s : ℤ) (k q : ℕ) → in_window s ≡ true → 0 < k → q * k ≡ 60 →
    seconds_of (with_second (fields_at s) ((fields_at s).second / k * k)) ≡ floor_div s k *ℤ pos k

-- ---- the epochs that instants carry

abbrev pub new_year : ℤ → Civil
new_year y = record { year = y; month = 1; day = 1; hour = 0; minute = 0; second = 0 }

-- a year starts at a second: that of its first midnight, and of its first day's number
abbrev pub StartsAt : ℤ → ℤ → Type 0
StartsAt y s = (seconds_of (new_year y) ≡ s) × (day_number y 1 1 *ℤ pos 86400 ≡ s)

abbrev pub Epochs : Type 0
Epochs =
    StartsAt (pos 1601) epoch1601 × StartsAt (pos 1900) epoch1900 × StartsAt (pos 1970) (pos 0) × StartsAt (pos 2050) epoch2050
