-- Instants: seconds since 1970-01-01 UTC and nanoseconds, both counted forwards.
use Rattle.std.specs.Prelude.{Bool, true, false, if◌then◌else◌, ℕ, nat_lt, ℤ, pos, neg_ℤ, int_lt}
use Rattle.instant.specs.declared.instants.Instant.{Instant}

-- the instant of seconds and nanoseconds
abbrev pub at : ℤ → ℕ → Instant
at s n = record { seconds = s; nanos = n }

-- the epochs that clocks count from, 1 January of 1601, 1900 and 2050, in seconds: `Epochs` of crates/day_time/specs/Promises says that
-- the calendar has them there
abbrev pub epoch1601 : ℤ
epoch1601 = neg_ℤ (pos 11644473600)

abbrev pub epoch1900 : ℤ
epoch1900 = neg_ℤ (pos 2208988800)

abbrev pub epoch2050 : ℤ
epoch2050 = pos 2524608000

-- the first part that differs decides; equal parts leave it to the rest
abbrev pub decides : Bool → Bool → Bool → Bool
decides less more later = if less then true else (if more then false else later)

-- a is earlier than b: by the seconds, then by the nanoseconds
abbrev pub is_before : Instant → Instant → Bool
is_before a b = decides (int_lt a.seconds b.seconds) (int_lt b.seconds a.seconds) (nat_lt a.nanos b.nanos)
