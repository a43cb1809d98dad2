-- The promises of specs/Promises. Assumes nothing.
use Prim.Native.Nat.{zero, suc, ◌/◌}
use mathlib.Core.Path.{refl, ap}
use native.Mathlib.Omega.{arith}
use native.Mathlib.Nat.{pow-zero, pow-suc}
use Rattle.octets.specs.Octets.{number_of, bytes_of}
use Rattle.octets.specs.Promises.{Many, ComesBack}

pub many : Many
unfolding bytes_of
many zero n = refl
many (suc k) n = ap suc (many k (n / 256))

pub comes_back : ComesBack
unfolding number_of bytes_of
comes_back zero n h = omega (arith, pow-zero 256)
comes_back (suc k) n h = omega (arith, comes_back k (n / 256) (omega (arith, pow-suc 256 k)))
