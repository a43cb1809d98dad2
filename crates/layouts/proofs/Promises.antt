-- Proofs of what specs/Promises.antt states. Assumes nothing.
use mathlib.Core.Path.{◌≡◌, refl, sym, subst}
use mathlib.Core.Bool.{false}
use mathlib.Core.Logic.{◌⊎◌, inl, inr, ⊎_elim}
use native.Mathlib.Omega.{arith}
use Rattle.layouts.specs.Layouts.{layout_for}
use Rattle.layouts.specs.Promises.{YearBounds, OneZone}
use Rattle.layouts.specs.declared.kinds.Kind.{Kind}
use Rattle.layouts.specs.declared.kinds.Kind.TheVariants.{FatDos, ExFat, Dttm, BitDate, BitDec, Bcd, Moto, Symantec, Dvr, Ns40, Ns40Le, LogTime, SemiOctet, Gsm}

pub year_bounds : YearBounds
year_bounds = (λ p. (λ h. omega arith, λ h. omega arith), λ p. (λ h. omega arith, λ h. omega arith))

no_other : (k : Kind) → (k ≡ Gsm) ⊎ ((layout_for k).zoned ≡ false)
no_other FatDos = inr refl
no_other ExFat = inr refl
no_other Dttm = inr refl
no_other BitDate = inr refl
no_other BitDec = inr refl
no_other Bcd = inr refl
no_other Moto = inr refl
no_other Symantec = inr refl
no_other Dvr = inr refl
no_other Ns40 = inr refl
no_other Ns40Le = inr refl
no_other LogTime = inr refl
no_other SemiOctet = inr refl
no_other Gsm = inl refl

pub one_zone : OneZone
one_zone = (refl, no_other)

-- so what holds of 14, and of every kind without a zone, holds of every kind
pub by_zone : (P : Kind → Type 0) → P Gsm → ((k : Kind) → (layout_for k).zoned ≡ false → P k) → (k : Kind) → P k
by_zone P g u k = ⊎_elim (λ e. subst P (sym e) g) (λ z. u k z) (no_other k)
