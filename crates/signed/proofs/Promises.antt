-- The proof of what specs/Promises.antt states. Assumes nothing.
use native.Mathlib.Omega.{arith}
use Rattle.signed.specs.Promises.{NegativeBits}

pub negative_bits : NegativeBits
negative_bits n f = omega (arith, f.sfits)
