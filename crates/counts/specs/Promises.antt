-- What holds of the ticks. It is proved in proofs/Promises.antt.
use Rattle.std.specs.Prelude.{ℕ, ◌+◌, ◌*◌, ◌≤◌}
use Rattle.counts.specs.Sql.{nearest_tick}

-- with r nanoseconds in the day and t ticks, 3r and 10^7 t differ by at most 5 * 10^6
abbrev pub NearTick : Type 0
NearTick = (r : ℕ) → (3 * r ≤ 10000000 * nearest_tick r + 5000000) × (10000000 * nearest_tick r ≤ 3 * r + 5000000)
