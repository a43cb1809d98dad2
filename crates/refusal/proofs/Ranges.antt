-- An answer by a test, and a wider range of numbers. Assumes nothing.
use mathlib.Core.Bool.{Bool, true, false, cond}
use Prim.Native.Nat.{ℕ, ◌≤◌}
use native.Mathlib.Omega.{arith}
use Rattle.refusal.specs.Answers.{Answer, gives, refused}
use Rattle.refusal.specs.Ranges.{RefusedWithin}

-- what holds of both answers holds of the one that a test picks
pub by_test : {A : Type 0} (P : Answer A → Type 0) (b : Bool) (x y : Answer A) → P x → P y → P (cond b x y)
by_test P true x y p q = p
by_test P false x y p q = q

pub wider : {A : Type 0} (low high low' high' : ℕ) (x : Answer A) → low' ≤ low → high ≤ high' → RefusedWithin low high x → RefusedWithin low' high' x
wider low high low' high' (gives x) l h k = tt
wider low high low' high' (refused n) l h k = (omega arith, omega arith)
