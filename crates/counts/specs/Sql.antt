-- Layout 16: days from 1900-01-01 and ticks of 1/300 second. A word is its 64 bits.
use Rattle.std.specs.Prelude.{if◌then◌else◌, ◌&&◌, ℕ, ◌+◌, ◌*◌, ◌/◌, ◌%◌, ◌^◌, ◌==◌, nat_lt, ℤ, pos, neg_ℤ, nat_abs, ◌+ℤ◌, ◌-ℤ◌, ◌*ℤ◌, int_le, int_lt}
use Rattle.std.specs.Int.{w64, cast_unsigned}
use Rattle.refusal.specs.Answers.{Answer, gives, refused}
use Rattle.signed.specs.Floor.{floor_div, floor_rem}
use Rattle.signed.specs.Extend.{twos}
use Rattle.instant.specs.Answers.{with_nanos}
use Rattle.instant.specs.declared.instants.Instant.{Instant}
use Rattle.instant.specs.Instants.{at, epoch1900}

-- bits 32..63 are signed days from 1900-01-01, which is second -2,208,988,800, and bits 0..31 ticks of 1/300 s, cut
-- down to a whole nanosecond; 5 for ticks of a day or more
abbrev pub sql_day : ℕ → ℤ
sql_day w = twos 32 (w / 2 ^ 32 % 2 ^ 32)

abbrev pub sql_ticks : ℕ → ℕ
sql_ticks w = w % 2 ^ 32

abbrev pub tick_nanos : ℕ → ℕ
tick_nanos k = k * 1000000000 / 300

unfoldable pub sql_decode : ℕ → Answer Instant
sql_decode w =
    if nat_lt (sql_ticks w) 25920000
    then gives (at (sql_day w *ℤ pos 86400 +ℤ pos (tick_nanos (sql_ticks w) / 1000000000) +ℤ epoch1900) (tick_nanos (sql_ticks w) % 1000000000))
    else refused 5

-- the nearest tick of r nanoseconds of a day, a half going up
abbrev pub nearest_tick : ℕ → ℕ
nearest_tick r = (3 * r + 5000000) / 10000000

-- a day above its ticks; 8 where 32 signed bits do not hold the day
abbrev pub day_word : ℤ → ℕ → Answer ℤ
day_word d k = if int_le (neg_ℤ (pos (2 ^ 31))) d && int_lt d (pos (2 ^ 31)) then gives (d *ℤ pos (2 ^ 32) +ℤ pos k) else refused 8

-- a full day's ticks are tick 0 of the next day
abbrev pub rolled : ℤ → ℕ → Answer ℤ
rolled d k = if k == 25920000 then day_word (d +ℤ pos 1) 0 else day_word d k

-- of seconds from 1900-01-01 and nanoseconds
unfoldable pub sql_word : ℤ → ℕ → Answer ℤ
sql_word z n = rolled (floor_div z 86400) (nearest_tick (floor_rem z 86400 * 1000000000 + n))

unfoldable pub sql_encode : Instant → Answer ℤ
sql_encode t = with_nanos t (sql_word (t.seconds -ℤ epoch1900) t.nanos)

-- ---- exact time

-- the exact time of a word: ticks of 1/300 s from 1900-01-01 on
abbrev pub exact_ticks : ℤ → ℤ
exact_ticks w = sql_day (cast_unsigned w64 w) *ℤ pos 25920000 +ℤ pos (sql_ticks (cast_unsigned w64 w))

-- three times the nanoseconds of an instant from 1900-01-01 on; a tick is 10,000,000 of these thirds
abbrev pub thirds : Instant → ℤ
thirds t = ((t.seconds -ℤ epoch1900) *ℤ pos 1000000000 +ℤ pos t.nanos) *ℤ pos 3

-- how far a word is from an instant, in thirds of a nanosecond: 1/600 s are 5,000,000
abbrev pub distance : Instant → ℤ → ℕ
distance t w = nat_abs (thirds t -ℤ exact_ticks w *ℤ pos 10000000)
