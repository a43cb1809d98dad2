-- cp56time2a, 7 bytes (IEC 60870-5-4): milliseconds of the minute, low byte first, whose thousands are the second; then the low 6
-- bits are the minute, 5 the hour, 5 the day, 4 the month and 7 the year less 2000. Flags are dropped.
use Rattle.std.specs.Prelude.{List, ℕ, ◌+◌, ◌*◌, ◌/◌, ◌%◌, ◌^◌, pos}
use Rattle.refusal.specs.Answers.{Answer}
use Rattle.instant.specs.Answers.{at_nanos}
use Rattle.instant.specs.declared.instants.Instant.{Instant}
use Rattle.day_time.specs.Answers.{seconds_for}
use Rattle.day_time.specs.declared.times.Civil.{Civil}
use Rattle.byte_stamps.specs.Bytes.{byte_at, word_at, of_length}

abbrev pub cp56_fields : List ℕ → Civil
cp56_fields b = record {
  year = pos (2000 + byte_at b 6 % 2 ^ 7);
  month = byte_at b 5 % 2 ^ 4;
  day = byte_at b 4 % 2 ^ 5;
  hour = byte_at b 3 % 2 ^ 5;
  minute = byte_at b 2 % 2 ^ 6;
  second = word_at b 0 / 1000;
}

unfoldable pub cp56 : List ℕ → Answer Instant
cp56 b = of_length 7 b (at_nanos (word_at b 0 % 1000 * 1000000) (seconds_for (cp56_fields b)))
