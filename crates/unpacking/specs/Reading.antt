-- What a layout reads in a word: once over the description.
use Rattle.std.specs.Prelude.{if◌then◌else◌, ℕ, ◌+◌, ◌-◌, ◌*◌, ◌/◌, ◌%◌, ◌^◌, ◌==◌, nat_lt, pos}
use Rattle.refusal.specs.Answers.{Answer, gives, refused}
use Rattle.day_time.specs.declared.times.Civil.{Civil}
use Rattle.byte_orders.specs.Orders.{ordered}
use Rattle.layouts.specs.Layouts.{base}
use Rattle.layouts.specs.Pairs.{swapped}
use Rattle.layouts.specs.declared.layouts.Field.{Field}
use Rattle.layouts.specs.declared.layouts.Layout.{Layout}
use Rattle.layouts.specs.declared.layouts.Digits.{Digits}
use Rattle.layouts.specs.declared.layouts.Digits.TheVariants.{Bits, Pairs, SwappedPairs, SemiOctets}

-- the number that is stored in a field
abbrev pub stored : Digits → Field → ℕ → ℕ
stored d f p = p / base d ^ f.place % base d ^ f.width

-- a semi-octet's low nibble times 10 plus its high nibble
abbrev pub semi : ℕ → ℕ
semi n = n % 16 * 10 + n / 16

-- -1 in a field that is stored less k: k - 1, as in the year; where k is 0 it is 255, which is no month, day, hour,
-- minute or second
abbrev pub minus_one : ℕ → ℕ
minus_one k = if k == 0 then 255 else k - 1

-- a field's value, of the number that is stored; a semi-octet above 127 counts as -1
unfoldable pub value_of : Digits → Field → ℕ → ℕ
value_of Bits f n = f.offset + n * f.step
value_of Pairs f n = f.offset + n * f.step
value_of SwappedPairs f n = f.offset + swapped n * f.step
value_of SemiOctets f n = if nat_lt 127 (semi n) then minus_one f.offset else f.offset + semi n * f.step

abbrev pub value_in : Layout → Field → ℕ → ℕ
value_in l f p = value_of l.digits f (stored l.digits f p)

-- the civil time in a word's bits, which are in order
unfoldable pub fields_in : Layout → ℕ → Civil
fields_in l p = record {
  year = pos (value_in l l.year p);
  month = value_in l l.month p;
  day = value_in l l.day p;
  hour = value_in l l.hour p;
  minute = value_in l l.minute p;
  second = value_in l l.second p;
}

-- the fields in a word's bits, which are in order; 2 where the bits are out of range
abbrev pub in_range : Layout → ℕ → Answer Civil
in_range l p = if nat_lt p l.words then gives (fields_in l p) else refused 2

-- the fields in a word's 64 bits
abbrev pub read_by : Layout → ℕ → Answer Civil
read_by l w = in_range l (ordered l.order w)
