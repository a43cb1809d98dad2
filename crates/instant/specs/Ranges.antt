-- What a call may answer about an instant.
use Rattle.std.specs.Prelude.{ℕ, ◌≤◌}
use Rattle.refusal.specs.Answers.{Answer, gives, refused}
use Rattle.instant.specs.declared.instants.Instant.{Instant}

-- a good instant, whose nanoseconds are at most 999,999,999, or a refusal under a number from low to high
abbrev pub GoodWithin : ℕ → ℕ → Answer Instant → Type 0
GoodWithin low high (gives t) = t.nanos ≤ 999999999
GoodWithin low high (refused n) = (low ≤ n) × (n ≤ high)
