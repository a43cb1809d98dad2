-- What holds of a number's bits. It is proved in proofs/Promises.antt.
use Rattle.std.specs.Prelude.{ℕ, ◌^◌, ◌≤◌, negsuc, FitsSigned}
use Rattle.std.specs.Int.{w64, cast_unsigned}

-- the 64 bits of a negative number are 2^63 or more: one test against a bound of at most 2^63 refuses them too
abbrev pub NegativeBits : Type 0
NegativeBits = (n : ℕ) → FitsSigned w64 (negsuc n) → 2 ^ 63 ≤ cast_unsigned w64 (negsuc n)
