-- The promise of specs/Promises. Assumes nothing.
use Prim.Native.Nat.{◌/◌, ◌^◌}
use native.Mathlib.Omega.{arith}
use lib.Dec.{ltb}
use lib.IntN.{pos, ◌+ℤ◌}
use lib.Signed.{lt_z}
use Rattle.refusal.specs.Answers.{refused}
use Rattle.refusal.proofs.Ranges.{by_test}
use Rattle.instant.specs.Ranges.{GoodWithin}
use Rattle.signed.proofs.Floor.{floor_law}
use Rattle.number_stamps.specs.NumberStamps.{ticks_of, filetime_hilo, micros_of, vmsd_pair, unix_sec_nsec}
use Rattle.number_stamps.specs.Promises.{NumberStampAnswers}

pub number_stamp_answers : NumberStampAnswers
unfolding filetime_hilo vmsd_pair unix_sec_nsec
number_stamp_answers = (
  λ low high. by_test (GoodWithin 2 2) (ltb (ticks_of low high) (2 ^ 63)) _ (refused 2) (omega arith) (omega arith, omega arith),
  (
    λ high low. omega (arith, (floor_law (micros_of high low) 1000000 (omega arith)).1),
    λ s n. by_test (GoodWithin 12 12) (lt_z (s +ℤ pos (n / 1000000000)) (pos (2 ^ 63))) _ (refused 12) (omega arith) (omega arith, omega arith),
  ),
)
