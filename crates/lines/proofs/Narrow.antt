-- A number that 32 bits hold, told by its 64 bits: those of a negative number are 2^63 or more. Assumes nothing.
use Prim.Native.Nat.{ℕ, ◌≤◌}
use mathlib.Core.Path.{◌≡◌}
use native.Mathlib.Omega.{arith}
use borrow.Author.Tests.{le-ltb}
use lib.IntN.{ℤ, pos, negsuc}
use mir.Syntax.{w64}
use mir.Val.{SFits, of_z}
use Rattle.lines.specs.Questions.{narrowed}

pub held : (z : ℤ) (other : ℕ) → SFits w64 z → of_z w64 z ≤ 4294967295 → of_z w64 z ≡ narrowed z other
unfolding narrowed
held (pos n) other f h = simp (le-ltb 4294967295 n h)
held (negsuc n) other f h = absurd (omega (arith, f.sfits))
