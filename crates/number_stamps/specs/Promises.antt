-- What the composites in two numbers may answer. It is proved in proofs/Promises.antt.
use Rattle.std.specs.Prelude.{ℕ, ℤ}
use Rattle.instant.specs.Ranges.{GoodWithin}
use Rattle.number_stamps.specs.NumberStamps.{filetime_hilo, vmsd_pair, unix_sec_nsec}

-- a good instant; or refusal 2 for filetime_hilo, 12 for unix_sec_nsec, and none for vmsd, since no number lies from 1 to 0
abbrev pub NumberStampAnswers : Type 0
NumberStampAnswers =
    ((low high : ℕ) → GoodWithin 2 2 (filetime_hilo low high))
    × (((high low : ℤ) → GoodWithin 1 0 (vmsd_pair high low))
    × ((s : ℤ) (n : ℕ) → GoodWithin 12 12 (unix_sec_nsec s n)))
