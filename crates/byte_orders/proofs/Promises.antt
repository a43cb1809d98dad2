-- Proofs of what specs/Promises.antt states. Assumes nothing.
use mathlib.Core.Path.{refl}
use Prim.Native.Nat.{◌/◌, ◌^◌, ◌<◌}
use native.Mathlib.Omega.{arith}
use Rattle.byte_orders.specs.Orders.{reversed, year_swapped, ordered}
use Rattle.byte_orders.specs.Promises.{UndoesItself, SameRange, StaysBelow}
use Rattle.byte_orders.specs.declared.Order.TheVariants.{Straight, Reversed, YearSwapped}
use Rattle.byte_orders.proofs.Bytes.{reversed_back, swapped_back}

pub undoes_itself : UndoesItself
unfolding ordered
undoes_itself Straight p = refl
undoes_itself Reversed p = reversed_back p
undoes_itself YearSwapped p = swapped_back p

pub same_range : SameRange
unfolding reversed year_swapped
same_range = (λ p. (λ h. omega arith, λ h. omega arith), λ p. (λ h. omega arith, λ h. omega arith))

pub stays_below : StaysBelow
unfolding ordered reversed year_swapped
stays_below Straight p h = h
stays_below Reversed p h = let k : p / 2 ^ 32 < 2 ^ 31 = omega arith in omega arith
stays_below YearSwapped p h = let k : p / 2 ^ 56 < 2 ^ 7 = omega arith in omega arith
