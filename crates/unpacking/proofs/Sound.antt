-- The fourteen descriptions keep what reading asks.
use native.Mathlib.Omega.{arith}
use Rattle.layouts.specs.Layouts.{layout_for}
use Rattle.unpacking.specs.Parts.{Sound}
use Rattle.layouts.specs.declared.kinds.Kind.{Kind}
use Rattle.layouts.specs.declared.kinds.Kind.TheVariants.{FatDos, ExFat, Dttm, BitDate, BitDec, Bcd, Moto, Symantec, Dvr, Ns40, Ns40Le, LogTime, SemiOctet, Gsm}

pub sound : (k : Kind) → Sound (layout_for k).digits (layout_for k)
sound FatDos = omega arith
sound ExFat = omega arith
sound Dttm = omega arith
sound BitDate = omega arith
sound BitDec = omega arith
sound Bcd = omega arith
sound Moto = omega arith
sound Symantec = omega arith
sound Dvr = omega arith
sound Ns40 = omega arith
sound Ns40Le = omega arith
sound LogTime = omega arith
sound SemiOctet = omega arith
sound Gsm = omega arith
