-- The promise of specs/Promises. Assumes nothing.
use mathlib.Core.Path.{◌≡◌, refl}
use mathlib.Core.Bool.{Bool, true, false}
use mathlib.Core.List.{List}
use Prim.Native.Nat.{ℕ, ◌*◌, ◌/◌, ◌%◌}
use native.Mathlib.Omega.{arith}
use lib.Dec.{eqb}
use lib.IntN.{ℤ, pos, ◌*ℤ◌}
use lib.ListN.{length}
use Rattle.refusal.specs.Answers.{Answer, gives, refused}
use Rattle.refusal.specs.Ranges.{RefusedWithin}
use Rattle.refusal.proofs.Ranges.{by_test}
use Rattle.instant.specs.Answers.{at_nanos}
use Rattle.instant.specs.Ranges.{GoodWithin}
use Rattle.instant.specs.declared.instants.Instant.{Instant}
use Rattle.instant.proofs.Ranges.{at_nanos_lem}
use Rattle.day_time.specs.Times.{good, seconds_of}
use Rattle.day_time.specs.Answers.{seconds_for}
use Rattle.day_time.specs.declared.times.Civil.{Civil}
use Rattle.byte_stamps.specs.Bytes.{word_at, of_length}
use Rattle.byte_stamps.specs.OracleStamp.{oracle_fields, oracle_date}
use Rattle.byte_stamps.specs.Cp56Stamp.{cp56_fields, cp56}
use Rattle.byte_stamps.specs.UdfStamp.{udf_fields, udf_minutes, udf_parts, moved, udf_stamp}
use Rattle.byte_stamps.specs.Promises.{ByteStampAnswers}

seconds_for_lem : (c : Civil) → RefusedWithin 3 10 (seconds_for c)
seconds_for_lem c = by_test (RefusedWithin 3 10) (good c) (gives (seconds_of c)) (refused 3) tt (omega arith, omega arith)

moved_within : (carry : ℕ) (zone : ℤ) (x : Answer ℤ) → RefusedWithin 3 10 x → RefusedWithin 3 10 (moved carry zone x)
moved_within carry zone (gives s) h = tt
moved_within carry zone (refused n) h = h

of_length_lem : (n : ℕ) (b : List ℕ) (x : Answer Instant) → GoodWithin 3 10 x → GoodWithin 3 10 (of_length n b x)
of_length_lem n b x h = go (eqb (length b) n) refl
  where
    go : (t : Bool) → eqb (length b) n ≡ t → GoodWithin 3 10 (of_length n b x)
    go true e = rw e h
    go false e = rw e (omega arith, omega arith)

pub byte_stamp_answers : ByteStampAnswers
unfolding oracle_date cp56 udf_stamp
byte_stamp_answers b =
    let oracle = seconds_for (oracle_fields b) in
    let cp = seconds_for (cp56_fields b) in
    let udf = moved (udf_parts b / 1000000000) (udf_minutes (word_at b 0) *ℤ pos 60) (seconds_for (udf_fields b)) in (
      of_length_lem 7 b (at_nanos 0 oracle) (at_nanos_lem 3 10 0 oracle (omega arith) (seconds_for_lem (oracle_fields b))),
      (
        of_length_lem 7 b (at_nanos (word_at b 0 % 1000 * 1000000) cp) (at_nanos_lem 3 10 _ cp (omega arith) (seconds_for_lem (cp56_fields b))),
        of_length_lem 12 b (at_nanos (udf_parts b % 1000000000) udf) (at_nanos_lem 3 10 _ udf (omega arith) (moved_within _ _ (seconds_for (udf_fields b)) (seconds_for_lem (udf_fields b)))),
      ),
    )
