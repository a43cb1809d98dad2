-- An instant that is refused for its nanoseconds. Assumes nothing.
use mathlib.Core.Path.{◌≡◌}
use Prim.Native.Nat.{◌<◌}
use borrow.Author.Tests.{lt-leb}
use lib.IntN.{ℤ}
use Rattle.refusal.specs.Answers.{Answer, refused}
use Rattle.instant.specs.Answers.{with_nanos}
use Rattle.instant.specs.declared.instants.Instant.{Instant}

pub no_nanos : (t : Instant) (x : Answer ℤ) → 999999999 < t.nanos → with_nanos t x ≡ refused 9
no_nanos t x h = rw (lt-leb t.nanos 999999999 h)
