-- The fourteen descriptions keep what writing asks.
use native.Mathlib.Omega.{arith}
use Rattle.layouts.specs.Layouts.{layout_for}
use Rattle.layouts.specs.declared.kinds.Kind.{Kind}
use Rattle.layouts.specs.declared.kinds.Kind.TheVariants.{FatDos, ExFat, Dttm, BitDate, BitDec, Bcd, Moto, Symantec, Dvr, Ns40, Ns40Le, LogTime, SemiOctet, Gsm}
use Rattle.packing.specs.Parts.{Writable}

pub writable : (k : Kind) → Writable (layout_for k)
writable FatDos = omega arith
writable ExFat = omega arith
writable Dttm = omega arith
writable BitDate = omega arith
writable BitDec = omega arith
writable Bcd = omega arith
writable Moto = omega arith
writable Symantec = omega arith
writable Dvr = omega arith
writable Ns40 = omega arith
writable Ns40Le = omega arith
writable LogTime = omega arith
writable SemiOctet = omega arith
writable Gsm = omega arith
