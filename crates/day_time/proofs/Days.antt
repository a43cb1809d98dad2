-- What the answer about a date, and about a day number, makes of the answer about a civil time.
use mathlib.Core.Path.{◌≡◌, sym}
use mathlib.Core.Bool.{true}
use Prim.Native.Nat.{ℕ, ◌/◌}
use native.Mathlib.Omega.{arith}
use lib.Dec.{leb→le, le→leb}
use lib.IntN.{ℤ, pos, negsuc}
use lib.Signed.{le_z, ◌≤ℤ◌}
use mir.Syntax.{w32}
use mir.Val.{SFits}
use Rattle.refusal.specs.Answers.{gives, refused}
use Rattle.refusal.proofs.Answers.{clash, held}
use Rattle.signed.specs.Floor.{floor_div, floor_rem}
use Rattle.signed.proofs.Tests.{le_z_le, le_le_z, and_left, and_right}
use Rattle.gregorian.specs.Gregorian.{day_number}
use Rattle.gregorian.specs.Dates.{good_date, good_day_number, date_at}
use Rattle.gregorian.specs.Answers.{day_for, date_for}
use Rattle.gregorian.specs.declared.dates.Date.{Date}
use Rattle.gregorian.proofs.Days.{first_day, last_day, day_low, day_high}
use Rattle.gregorian.proofs.Promises.{date_of_its_day}
use Rattle.day_time.specs.Times.{in_window, seconds_of, on_date, fields_at}
use Rattle.day_time.specs.Answers.{seconds_for, fields_for, seconds_on}
use Rattle.day_time.specs.declared.times.Civil.{Civil}

-- ---- from a date

pub some_day : (c : Civil) {z : ℤ} → gives z ≡ day_for c.year c.month c.day → seconds_for c ≡ seconds_on z c.hour c.minute c.second
unfolding seconds_of
some_day c {z} e =
    let h = held (good_date c.year c.month c.day) z (day_number c.year c.month c.day) 3 e in
    rw (h.0, h.1)

-- a day number of the calendar fits 32 bits
small : (z : ℤ) → negsuc 4371586 ≤ℤ z → z ≤ℤ pos 2932896 → SFits w32 z
small (pos n) l h = record { sfits = omega (arith, leb→le n 2932896 h.le) }
small (negsuc n) l h = record { sfits = omega (arith, leb→le n 4371586 l.le) }

pub day_small : (y : ℤ) (m d : ℕ) {z : ℤ} → gives z ≡ day_for y m d → SFits w32 z
day_small y m d {z} e =
    let h = held (good_date y m d) z (day_number y m d) 3 e in
    let g = (date_of_its_day y m d h.0).0 in
    rw h.1 (small (day_number y m d) (day_low (day_number y m d) g) (day_high (day_number y m d) g))

-- ---- from seconds

day_in_window : (s : ℤ) → negsuc 377705023200 ≤ℤ s → s ≤ℤ pos 253402207200 → good_day_number (floor_div s 86400) ≡ true
day_in_window (pos a) l h =
    rw (first_day, last_day) (le_le_z {a = pos (a / 86400)} {b = pos 2932896} (record { le = le→leb (a / 86400) 2932896 (omega (arith, leb→le a 253402207200 h.le)) }))
day_in_window (negsuc a) l h =
    rw
    (first_day, last_day, le_le_z {a = negsuc 4371586} {b = negsuc (a / 86400)} (record { le = le→leb (a / 86400) 4371586 (omega (arith, leb→le a 377705023200 l.le)) }))

pub window_low : (s : ℤ) → in_window s ≡ true → negsuc 377705023200 ≤ℤ s
window_low s w = le_z_le (negsuc 377705023200) s (and_left (le_z (negsuc 377705023200) s) (le_z s (pos 253402207200)) w)

pub window_high : (s : ℤ) → in_window s ≡ true → s ≤ℤ pos 253402207200
window_high s w = le_z_le s (pos 253402207200) (and_right (le_z (negsuc 377705023200) s) (le_z s (pos 253402207200)) w)

-- a second of the window is one of a day of the calendar
pub window_day : (s : ℤ) → in_window s ≡ true → good_day_number (floor_div s 86400) ≡ true
window_day s w = day_in_window s (window_low s w) (window_high s w)

pub some_date : (s : ℤ) {d : Date} → in_window s ≡ true → gives d ≡ date_for (floor_div s 86400) → gives (on_date d (floor_rem s 86400)) ≡ fields_for s
unfolding fields_at
some_date s {d} w e =
    let h = held (good_day_number (floor_div s 86400)) d (date_at (floor_div s 86400)) 6 e in
    rw (w, h.1)

pub no_date : (s : ℤ) {n : ℕ} → in_window s ≡ true → refused n ≡ date_for (floor_div s 86400) → ⊥
no_date s {n} w e = clash n (date_at (floor_div s 86400)) (date_for (floor_div s 86400)) (sym e) (rw (window_day s w))
