-- What the functions inside ask of a description, and promise each other.
use Rattle.std.specs.Prelude.{◌≡◌, Bool, if◌then◌else◌, ◌&&◌, ℕ, ◌+◌, ◌-◌, ◌*◌, ◌/◌, ◌^◌, ◌≤◌, ◌<◌, nat_le, nat_abs}
use Rattle.refusal.specs.Answers.{Answer, gives, refused}
use Rattle.day_time.specs.Promises.{Ranged}
use Rattle.day_time.specs.declared.times.Civil.{Civil}
use Rattle.byte_orders.specs.Orders.{ordered}
use Rattle.layouts.specs.Layouts.{base}
use Rattle.layouts.specs.declared.layouts.Field.{Field}
use Rattle.layouts.specs.declared.layouts.Layout.{Layout}
use Rattle.layouts.specs.declared.layouts.Digits.{Digits}
use Rattle.layouts.specs.declared.layouts.Digits.TheVariants.{Bits, Pairs, SwappedPairs, SemiOctets}
use Rattle.packing.specs.Writing.{numeral, placed, packed, writes}

-- a year that the layout writes, by its 64 bits
abbrev pub in_years : Layout → ℕ → Bool
in_years l y = nat_le l.year.offset y && nat_le y l.last

-- the bits of a civil time in order, and in the order of the word's bytes
unfoldable pub write_bits : Layout → Civil → Answer ℕ
write_bits l c = if writes l c.year then gives (packed l (nat_abs c.year) c) else refused 7

abbrev pub reordered : (ℕ → ℕ) → Answer ℕ → Answer ℕ
reordered order (gives p) = gives (order p)
reordered order (refused n) = refused n

abbrev pub write_by : Layout → Civil → Answer ℕ
write_by l c = reordered (ordered l.order) (write_bits l c)

-- a number that a field holds
abbrev pub Fitting : Digits → Field → ℕ → Type 0
Fitting Bits f n = (f.place < 64) × (f.place + f.width ≤ 64) × (n < 2 ^ f.width)
Fitting Pairs f n = (f.place < 6) × (n < 100)
Fitting SwappedPairs f n = (f.place < 6) × (n < 100)
Fitting SemiOctets f n = (f.place < 64) × (f.place + f.width ≤ 64) × (n < 2 ^ f.width)

-- the largest number that is stored for k steps or fewer, and what k has to be for the digits
abbrev pub largest : Digits → ℕ → ℕ
largest Bits k = k
largest Pairs k = k
largest SwappedPairs k = 99
largest SemiOctets k = 153

abbrev pub TwoDigits : Digits → ℕ → Type 0
TwoDigits Bits k = 0 ≤ k
TwoDigits Pairs k = k ≤ 99
TwoDigits SwappedPairs k = k ≤ 99
TwoDigits SemiOctets k = k ≤ 99

-- a field that holds every value from `low` to `high`
pub record Holds (d : Digits) (f : Field) (low high : ℕ) : Type 0 where
  pub offset : f.offset ≤ low
  pub step : 0 < f.step
  pub two : TwoDigits d ((high - f.offset) / f.step)
  pub fits : Fitting d f (largest d ((high - f.offset) / f.step))

-- the most that a field adds to a word
abbrev pub top : Digits → Field → ℕ → ℕ
top d f high = largest d ((high - f.offset) / f.step) * base d ^ f.place

pub record Writable (l : Layout) : Type 0 where
  pub words : l.words ≤ 2 ^ 63
  pub last : l.last ≤ 9999
  pub year : Holds l.digits l.year l.year.offset l.last
  pub month : Holds l.digits l.month 1 12
  pub day : Holds l.digits l.day 1 31
  pub hour : Holds l.digits l.hour 0 23
  pub minute : Holds l.digits l.minute 0 59
  pub second : Holds l.digits l.second 0 59
  pub sum :
      top l.digits l.year l.last + top l.digits l.month 12 + top l.digits l.day 31 + top l.digits l.hour 23
      + top l.digits l.minute 59 + top l.digits l.second 59 < l.words

-- what writing a value into a field asks
pub record Ready (d : Digits) (f : Field) (v : ℕ) : Type 0 where
  pub offset : f.offset ≤ v
  pub step : 0 < f.step
  pub fits : Fitting d f (numeral d f v)

-- the bits of a year and of civil fields, as digits of a kind
abbrev pub packed_as : Digits → Layout → ℕ → Civil → ℕ
packed_as d l y c =
    placed d l.year y + placed d l.month c.month + placed d l.day c.day + placed d l.hour c.hour
    + placed d l.minute c.minute + placed d l.second c.second

-- and what writing a year and civil fields asks
pub record Packs (d : Digits) (l : Layout) (y : ℕ) (c : Civil) : Type 0 where
  pub digits : l.digits ≡ d
  pub year : Ready d l.year y
  pub month : Ready d l.month c.month
  pub day : Ready d l.day c.day
  pub hour : Ready d l.hour c.hour
  pub minute : Ready d l.minute c.minute
  pub second : Ready d l.second c.second
  pub small : packed_as d l y c < 2 ^ 63

-- which holds within these limits
pub record Packing (d : Digits) (l : Layout) (y : ℕ) (c : Civil) : Type 0 where
  pub digits : l.digits ≡ d
  pub writable : Writable l
  pub ranged : Ranged c
  pub first : l.year.offset ≤ y
  pub last : y ≤ l.last
