-- Pairs of decimal digits, counted from 0 at the low end.
use Rattle.std.specs.Prelude.{if◌then◌else◌, ℕ, ◌+◌, ◌*◌, ◌/◌, ◌%◌, ◌^◌, nat_lt}

-- what the k-th of the six pairs counts; there is no other
abbrev pub pair_count : ℕ → ℕ
pair_count k = if nat_lt k 6 then 100 ^ k else 0

-- the two digits of a pair in the other order
abbrev pub swapped : ℕ → ℕ
swapped n = n % 10 * 10 + n / 10
