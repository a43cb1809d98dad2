-- A low part of a word, read as two's complement.
use Rattle.std.specs.Prelude.{if◌then◌else◌, ℕ, ◌*◌, ◌%◌, ◌^◌, nat_lt, ℤ, pos, ◌-ℤ◌}

-- a number of k bits: itself in the lower half, less 2^k in the upper
abbrev pub twos : ℕ → ℕ → ℤ
twos k m = if nat_lt (2 * m) (2 ^ k) then pos m else pos m -ℤ pos (2 ^ k)

-- the low k bits of a word n of 64 bits: all of it from 64 on
abbrev pub low_signed : ℕ → ℕ → ℤ
low_signed k n = if nat_lt k 64 then twos k (n % 2 ^ k) else twos 64 n
