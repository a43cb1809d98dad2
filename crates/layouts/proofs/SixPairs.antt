-- What a pair counts, where it is one of the six. Assumes nothing.
use mathlib.Core.Path.{◌≡◌}
use Prim.Native.Nat.{ℕ, ◌^◌, ◌<◌}
use native.Mathlib.Nat.{one-le-pow}
use native.Mathlib.Omega.{arith}
use borrow.Author.Tests.{lt-ltb}
use Rattle.layouts.specs.Pairs.{pair_count}

pub counts : (k : ℕ) → k < 6 → pair_count k ≡ 100 ^ k
counts k h = rw (lt-ltb k 6 h)

-- so none of the six counts nothing
pub counts_some : (k : ℕ) → k < 6 → 0 < pair_count k
counts_some k h = rw (counts k h) (one-le-pow k 100 (omega arith))
