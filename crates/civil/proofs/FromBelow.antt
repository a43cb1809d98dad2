-- Seconds of the window from 1 January -10000 on: their day, and what has passed of it, are those of the seconds.
use mathlib.Core.Path.{◌≡◌, sym, ap, ◌∙◌}
use mathlib.Core.Bool.{true}
use Prim.Native.Nat.{ℕ, ◌/◌, ◌%◌, ◌<◌, ◌^◌, ◌*◌}
use native.Mathlib.Omega.{arith}
use lib.IntN.{ℤ, pos, sub_ℕ, nat_abs, ◌+ℤ◌}
use Rattle.signed.specs.Floor.{quotient, rest, floor_div, floor_rem}
use Rattle.signed.proofs.Differences.{raise, lower, raised, raised_high}
use Rattle.signed.proofs.Floor.{shifted}
use Rattle.gregorian.proofs.Days.{day_low}
use Rattle.day_time.specs.Times.{in_window}
use Rattle.day_time.proofs.Days.{window_low, window_high, window_day}
use Rattle.gregorian.specs.Gregorian.{epoch_day}

module _ (z : ℤ) (w : in_window z ≡ true) where
  abbrev pub above : ℕ
  above = raised (epoch_day * 86400) z

  above_is : z +ℤ pos (epoch_day * 86400) ≡ pos above
  above_is = raise (epoch_day * 86400) z (window_low z w) (omega arith)

  pub above_small : above < 2 ^ 40
  above_small = omega (arith, raised_high (epoch_day * 86400) z (window_low z w) (omega arith) (window_high z w))

  pub above_day : sub_ℕ (above / 86400) epoch_day ≡ floor_div z 86400
  above_day =
      let days = ap (λ y. nat_abs (quotient y 86400)) (sym above_is) ∙ ap nat_abs (shifted z epoch_day 86400 (omega arith)).0 in
      ap (λ k. sub_ℕ k epoch_day) days ∙ lower epoch_day (floor_div z 86400) (day_low (floor_div z 86400) (window_day z w)) (omega arith)

  pub above_rest : above % 86400 ≡ floor_rem z 86400
  above_rest = ap (λ y. rest y 86400) (sym above_is) ∙ (shifted z epoch_day 86400 (omega arith)).1
