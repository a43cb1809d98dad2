-- Which numbers an answer may be refused under.
use Rattle.std.specs.Prelude.{ℕ, ◌≤◌}
use Rattle.refusal.specs.Answers.{Answer, gives, refused}

-- the answer is a value, or is refused under a number from low to high
abbrev pub RefusedWithin : {A : Type 0} → ℕ → ℕ → Answer A → Type 0
RefusedWithin low high (gives x) = Unit {0}
RefusedWithin low high (refused n) = (low ≤ n) × (n ≤ high)
