-- udf, 12 bytes (ECMA-167 1/7.3): a zone, a signed year, month, day, hour, minute, second, and units of 10 ms, 100 us and 1 us.
use Rattle.std.specs.Prelude.{if◌then◌else◌, List, ℕ, ◌+◌, ◌*◌, ◌/◌, ◌%◌, ◌^◌, ◌==◌, ℤ, pos, ◌+ℤ◌, ◌-ℤ◌, ◌*ℤ◌}
use Rattle.refusal.specs.Answers.{Answer, gives, refused}
use Rattle.signed.specs.Extend.{low_signed}
use Rattle.instant.specs.Answers.{at_nanos}
use Rattle.instant.specs.declared.instants.Instant.{Instant}
use Rattle.day_time.specs.Answers.{seconds_for}
use Rattle.day_time.specs.declared.times.Civil.{Civil}
use Rattle.byte_stamps.specs.Bytes.{byte_at, word_at, of_length}

-- the low 12 bits of a zone are signed minutes; 0x801 is no zone
abbrev pub udf_minutes : ℕ → ℤ
udf_minutes z = if z % 2 ^ 12 == 0x801 then pos 0 else low_signed 12 z

abbrev pub udf_fields : List ℕ → Civil
udf_fields b = record {
  year = low_signed 16 (word_at b 2);
  month = byte_at b 4;
  day = byte_at b 5;
  hour = byte_at b 6;
  minute = byte_at b 7;
  second = byte_at b 8;
}

-- the nanoseconds of the units, each of which may be any byte
abbrev pub udf_parts : List ℕ → ℕ
udf_parts b = byte_at b 9 * 10000000 + byte_at b 10 * 100000 + byte_at b 11 * 1000

-- seconds, which may be refused, with some more that are carried, and less those of a zone
abbrev pub moved : ℕ → ℤ → Answer ℤ → Answer ℤ
moved carry zone (gives s) = gives (s +ℤ pos carry -ℤ zone)
moved carry zone (refused k) = refused k

unfoldable pub udf_stamp : List ℕ → Answer Instant
udf_stamp b =
    of_length 12 b
    (at_nanos (udf_parts b % 1000000000) (moved (udf_parts b / 1000000000) (udf_minutes (word_at b 0) *ℤ pos 60) (seconds_for (udf_fields b))))
