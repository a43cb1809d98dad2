-- oracle_date, 7 bytes: year (b0 - 100) * 100 + (b1 - 100), month, day, and hour, minute and second each stored plus 1.
use Rattle.std.specs.Prelude.{List, ℕ, ◌+◌, ◌%◌, ◌^◌, pos, ◌+ℤ◌, ◌-ℤ◌, ◌*ℤ◌}
use Rattle.refusal.specs.Answers.{Answer}
use Rattle.instant.specs.Answers.{at_nanos}
use Rattle.instant.specs.declared.instants.Instant.{Instant}
use Rattle.day_time.specs.Answers.{seconds_for}
use Rattle.day_time.specs.declared.times.Civil.{Civil}
use Rattle.byte_stamps.specs.Bytes.{byte_at, of_length}

-- a byte less 1; 0 gives 255, which is no hour, minute or second
abbrev pub less_one : ℕ → ℕ
less_one n = (n + 255) % 2 ^ 8

abbrev pub oracle_fields : List ℕ → Civil
oracle_fields b = record {
  year = (pos (byte_at b 0) -ℤ pos 100) *ℤ pos 100 +ℤ (pos (byte_at b 1) -ℤ pos 100);
  month = byte_at b 2;
  day = byte_at b 3;
  hour = less_one (byte_at b 4);
  minute = less_one (byte_at b 5);
  second = less_one (byte_at b 6);
}

unfoldable pub oracle_date : List ℕ → Answer Instant
oracle_date b = of_length 7 b (at_nanos 0 (seconds_for (oracle_fields b)))
