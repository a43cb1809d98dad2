-- What an answer about an instant may be: its numbers alone, and an instant of some seconds. Assumes nothing.
use Prim.Native.Nat.{ℕ, ◌≤◌}
use lib.IntN.{ℤ}
use Rattle.refusal.specs.Answers.{Answer, gives, refused}
use Rattle.refusal.specs.Ranges.{RefusedWithin}
use Rattle.instant.specs.Answers.{at_nanos}
use Rattle.instant.specs.Ranges.{GoodWithin}
use Rattle.instant.specs.declared.instants.Instant.{Instant}

pub refused_within : (low high : ℕ) (x : Answer Instant) → GoodWithin low high x → RefusedWithin low high x
refused_within low high (gives t) h = tt
refused_within low high (refused n) h = h

pub at_nanos_lem : (low high n : ℕ) (x : Answer ℤ) → n ≤ 999999999 → RefusedWithin low high x → GoodWithin low high (at_nanos n x)
at_nanos_lem low high n (gives s) l h = l
at_nanos_lem low high n (refused k) l h = h
