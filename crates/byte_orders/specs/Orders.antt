-- The orders of a word's bytes. Bits are numbered from 0, lowest first.
use Rattle.std.specs.Prelude.{ℕ, ◌+◌, ◌*◌, ◌/◌, ◌%◌, ◌^◌}
use Rattle.byte_orders.specs.declared.Order.{Order}
use Rattle.byte_orders.specs.declared.Order.TheVariants.{Straight, Reversed, YearSwapped}

-- the low four bytes reversed; what lies above stays
unfoldable pub reversed : ℕ → ℕ
reversed p =
    p % 2 ^ 8 * 2 ^ 24 + p / 2 ^ 8 % 2 ^ 8 * 2 ^ 16 + p / 2 ^ 16 % 2 ^ 8 * 2 ^ 8 + p / 2 ^ 24 % 2 ^ 8 + p / 2 ^ 32 * 2 ^ 32

-- the two bytes of a year that starts at bit 40 exchanged; what lies above and below stays
unfoldable pub year_swapped : ℕ → ℕ
year_swapped p = p / 2 ^ 40 % 2 ^ 8 * 2 ^ 48 + p / 2 ^ 48 % 2 ^ 8 * 2 ^ 40 + p % 2 ^ 40 + p / 2 ^ 56 * 2 ^ 56

unfoldable pub ordered : Order → ℕ → ℕ
ordered Straight p = p
ordered Reversed p = reversed p
ordered YearSwapped p = year_swapped p
