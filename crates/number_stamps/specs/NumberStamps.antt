-- What the composites in two numbers say, as document 01 has them.
use Rattle.std.specs.Prelude.{if◌then◌else◌, ℕ, ◌+◌, ◌*◌, ◌/◌, ◌%◌, ◌^◌, nat_lt, ℤ, pos, ◌+ℤ◌, ◌*ℤ◌, int_lt}
use Rattle.std.specs.Int.{w32, cast_unsigned}
use Rattle.refusal.specs.Answers.{Answer, gives, refused}
use Rattle.signed.specs.Floor.{floor_div, floor_rem}
use Rattle.instant.specs.declared.instants.Instant.{Instant}
use Rattle.instant.specs.Instants.{at, epoch1601}

-- filetime_hilo: high * 2^32 + low ticks of 100 ns from 1601-01-01, which is second -11,644,473,600; 2 where the top bit is
-- set
abbrev pub ticks_of : ℕ → ℕ → ℕ
ticks_of low high = high * 2 ^ 32 + low

unfoldable pub filetime_hilo : ℕ → ℕ → Answer Instant
filetime_hilo low high =
    if nat_lt (ticks_of low high) (2 ^ 63)
    then gives (at (pos (ticks_of low high / 10000000) +ℤ epoch1601) (ticks_of low high % 10000000 * 100))
    else refused 2

-- vmsd: high * 2^32 + low microseconds from 1970-01-01, the low half read as unsigned
abbrev pub micros_of : ℤ → ℤ → ℤ
micros_of high low = high *ℤ pos (2 ^ 32) +ℤ pos (cast_unsigned w32 low)

unfoldable pub vmsd_pair : ℤ → ℤ → Answer Instant
vmsd_pair high low = gives (at (floor_div (micros_of high low) 1000000) (floor_rem (micros_of high low) 1000000 * 1000))

-- unix_sec_nsec: what the nanoseconds have above 10^9 is carried; 12 where 64 bits do not hold the seconds
unfoldable pub unix_sec_nsec : ℤ → ℕ → Answer Instant
unix_sec_nsec s n =
    if int_lt (s +ℤ pos (n / 1000000000)) (pos (2 ^ 63))
    then gives (at (s +ℤ pos (n / 1000000000)) (n % 1000000000))
    else refused 12
