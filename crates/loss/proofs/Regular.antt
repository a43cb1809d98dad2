-- What the laws of loss ask of a description, and that the fourteen keep it: its fields stand right above each other, all
-- but the second in steps of one, and its year reaches no further than the encoder writes.
use mathlib.Core.Path.{◌≡◌, refl}
use mathlib.Core.Logic.{◌⊎◌, inl, inr}
use Prim.Native.Nat.{ℕ, ◌+◌, ◌-◌, ◌^◌, ◌≤◌}
use native.Mathlib.Omega.{arith}
use Rattle.layouts.specs.Layouts.{layout_for}
use Rattle.unpacking.specs.Parts.{Sound}
use Rattle.layouts.specs.declared.layouts.Layout.{Layout}
use Rattle.layouts.specs.declared.layouts.Digits.{Digits}
use Rattle.layouts.specs.declared.layouts.Digits.TheVariants.{Bits, Pairs, SwappedPairs, SemiOctets}
use Rattle.layouts.specs.declared.kinds.Kind.{Kind}
use Rattle.layouts.specs.declared.kinds.Kind.TheVariants.{FatDos, ExFat, Dttm, BitDate, BitDec, Bcd, Moto, Symantec, Dvr, Ns40, Ns40Le, LogTime, SemiOctet, Gsm}
use Rattle.unpacking.proofs.Sound.{sound}
use Rattle.packing.specs.Parts.{Writable}
use Rattle.packing.proofs.Writable.{writable}

-- from the second up to the year, or from the year up to the second
pub record Down (l : Layout) : Type 0 where
  pub minute : l.minute.place ≡ l.second.place + l.second.width
  pub hour : l.hour.place ≡ l.minute.place + l.minute.width
  pub day : l.day.place ≡ l.hour.place + l.hour.width
  pub month : l.month.place ≡ l.day.place + l.day.width
  pub year : l.year.place ≡ l.month.place + l.month.width

pub record Up (l : Layout) : Type 0 where
  pub month : l.month.place ≡ l.year.place + l.year.width
  pub day : l.day.place ≡ l.month.place + l.month.width
  pub hour : l.hour.place ≡ l.day.place + l.day.width
  pub minute : l.minute.place ≡ l.hour.place + l.hour.width
  pub second : l.second.place ≡ l.minute.place + l.minute.width

pub record Stepped (l : Layout) : Type 0 where
  pub year : l.year.step ≡ 1
  pub month : l.month.step ≡ 1
  pub month_offset : l.month.offset ≤ 1
  pub day : l.day.step ≡ 1
  pub day_offset : l.day.offset ≡ 0
  pub hour : l.hour.step ≡ 1
  pub hour_offset : l.hour.offset ≡ 0
  pub minute : l.minute.step ≡ 1
  pub minute_offset : l.minute.offset ≡ 0
  pub second_offset : l.second.offset ≡ 0

-- the most steps that digits in a field of a width count
abbrev pub reaches : Digits → ℕ → ℕ
reaches Bits w = 2 ^ w - 1
reaches Pairs w = 100 ^ w - 1
reaches SwappedPairs w = 99
reaches SemiOctets w = 99

-- semi-octets have steps of one, since what counts as -1 is no multiple of more
abbrev pub StepOf : Digits → ℕ → Type 0
StepOf Bits k = Unit {0}
StepOf Pairs k = Unit {0}
StepOf SwappedPairs k = Unit {0}
StepOf SemiOctets k = k ≡ 1

pub record Regular (l : Layout) : Type 0 where
  pub readable : Sound l.digits l
  pub writes : Writable l
  pub stepped : Stepped l
  pub whole : StepOf l.digits l.second.step
  pub order : Down l ⊎ Up l
  pub reach : (l.last ≡ 9999) ⊎ (l.year.offset + reaches l.digits l.year.width ≤ l.last)

pub regular : (k : Kind) → Regular (layout_for k)
regular FatDos = record { readable = sound FatDos; writes = writable FatDos; stepped = omega arith; whole = tt; order = inl (omega arith); reach = inr (omega arith) }
regular ExFat = record { readable = sound ExFat; writes = writable ExFat; stepped = omega arith; whole = tt; order = inl (omega arith); reach = inr (omega arith) }
regular Dttm = record { readable = sound Dttm; writes = writable Dttm; stepped = omega arith; whole = tt; order = inl (omega arith); reach = inr (omega arith) }
regular BitDate = record { readable = sound BitDate; writes = writable BitDate; stepped = omega arith; whole = tt; order = inl (omega arith); reach = inr (omega arith) }
regular BitDec = record { readable = sound BitDec; writes = writable BitDec; stepped = omega arith; whole = tt; order = inl (omega arith); reach = inl refl }
regular Bcd = record { readable = sound Bcd; writes = writable Bcd; stepped = omega arith; whole = tt; order = inl (omega arith); reach = inr (omega arith) }
regular Moto = record { readable = sound Moto; writes = writable Moto; stepped = omega arith; whole = tt; order = inl (omega arith); reach = inr (omega arith) }
regular Symantec = record { readable = sound Symantec; writes = writable Symantec; stepped = omega arith; whole = tt; order = inl (omega arith); reach = inr (omega arith) }
regular Dvr = record { readable = sound Dvr; writes = writable Dvr; stepped = omega arith; whole = tt; order = inl (omega arith); reach = inr (omega arith) }
regular Ns40 = record { readable = sound Ns40; writes = writable Ns40; stepped = omega arith; whole = tt; order = inl (omega arith); reach = inl refl }
regular Ns40Le = record { readable = sound Ns40Le; writes = writable Ns40Le; stepped = omega arith; whole = tt; order = inl (omega arith); reach = inl refl }
regular LogTime = record { readable = sound LogTime; writes = writable LogTime; stepped = omega arith; whole = tt; order = inr (omega arith); reach = inr (omega arith) }
regular SemiOctet = record { readable = sound SemiOctet; writes = writable SemiOctet; stepped = omega arith; whole = tt; order = inl (omega arith); reach = inr (omega arith) }
regular Gsm = record { readable = sound Gsm; writes = writable Gsm; stepped = omega arith; whole = refl; order = inl (omega arith); reach = inr (omega arith) }
