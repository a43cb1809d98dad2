-- What the functions inside ask of a description, and promise each other.
use Rattle.std.specs.Prelude.{◌≡◌, ◌≤◌, ◌<◌}
use Rattle.layouts.specs.declared.layouts.Field.{Field}
use Rattle.layouts.specs.declared.layouts.Layout.{Layout}
use Rattle.layouts.specs.declared.layouts.Digits.{Digits}
use Rattle.layouts.specs.declared.layouts.Digits.TheVariants.{Bits, Pairs, SwappedPairs, SemiOctets}

-- a field's places lie in the word, and its values are small
abbrev pub InWord : Digits → Field → Type 0
InWord Bits f = (f.place < 64) × (f.width ≤ 16)
InWord Pairs f = (f.place < 6) × (f.width ≡ 1)
InWord SwappedPairs f = (f.place < 6) × (f.width ≡ 1)
InWord SemiOctets f = (f.place < 64) × (f.width ≤ 16)

pub record Readable (d : Digits) (f : Field) : Type 0 where
  pub places : InWord d f
  pub offset : f.offset < 10000
  pub step : f.step ≤ 60

-- a layout whose fields can be read as digits of a kind
pub record Sound (d : Digits) (l : Layout) : Type 0 where
  pub year : Readable d l.year
  pub month : Readable d l.month
  pub day : Readable d l.day
  pub hour : Readable d l.hour
  pub minute : Readable d l.minute
  pub second : Readable d l.second
