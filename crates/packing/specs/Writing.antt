-- What a layout writes: once over the description.
use Rattle.std.specs.Prelude.{Bool, if◌then◌else◌, ◌&&◌, ℕ, ◌+◌, ◌-◌, ◌*◌, ◌/◌, ◌%◌, ◌^◌, ℤ, pos, nat_abs, int_le}
use Rattle.refusal.specs.Answers.{Answer, gives, refused}
use Rattle.day_time.specs.declared.times.Civil.{Civil}
use Rattle.byte_orders.specs.Orders.{ordered}
use Rattle.layouts.specs.Layouts.{base}
use Rattle.layouts.specs.Pairs.{swapped}
use Rattle.layouts.specs.declared.layouts.Field.{Field}
use Rattle.layouts.specs.declared.layouts.Layout.{Layout}
use Rattle.layouts.specs.declared.layouts.Digits.{Digits}
use Rattle.layouts.specs.declared.layouts.Digits.TheVariants.{Bits, Pairs, SwappedPairs, SemiOctets}

-- the steps of a value: what a field can't hold is dropped
abbrev pub steps : Field → ℕ → ℕ
steps f v = (v - f.offset) / f.step

-- the number that is stored for a value
unfoldable pub numeral : Digits → Field → ℕ → ℕ
numeral Bits f v = steps f v
numeral Pairs f v = steps f v
numeral SwappedPairs f v = swapped (steps f v)
numeral SemiOctets f v = steps f v % 10 * 16 + steps f v / 10

-- and what it counts at its place in the word
abbrev pub placed : Digits → Field → ℕ → ℕ
placed d f v = numeral d f v * base d ^ f.place

-- the bits of a year and of civil fields, in order
unfoldable pub packed : Layout → ℕ → Civil → ℕ
packed l y c =
    placed l.digits l.year y + placed l.digits l.month c.month + placed l.digits l.day c.day
    + placed l.digits l.hour c.hour + placed l.digits l.minute c.minute + placed l.digits l.second c.second

-- a year that the layout writes
abbrev pub writes : Layout → ℤ → Bool
writes l y = int_le (pos l.year.offset) y && int_le y (pos l.last)

-- by civil fields: 6 for seconds outside the window, 7 for a year that the layout does not write
abbrev pub write_fields : Layout → Answer Civil → Answer ℤ
write_fields l (gives c) = if writes l c.year then gives (pos (ordered l.order (packed l (nat_abs c.year) c))) else refused 7
write_fields l (refused n) = refused n
