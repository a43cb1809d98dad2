-- The year of an Oracle DATE in one signed step. Assumes nothing.
use mathlib.Core.Path.{◌≡◌, sym, ap, ◌∙◌}
use Prim.Native.Nat.{ℕ, ◌+◌, ◌*◌}
use lib.IntN.{pos, negsuc, ◌+ℤ◌, ◌-ℤ◌, ◌*ℤ◌, +ℤ_assoc}
use Rattle.signed.proofs.Differences.{minus, times_plus}

pub oracle_year : (a b : ℕ) → pos (a * 100 + b) -ℤ pos 10100 ≡ (pos a -ℤ pos 100) *ℤ pos 100 +ℤ (pos b -ℤ pos 100)
oracle_year a b =
    sym (+ℤ_assoc (pos (a * 100 + b)) (negsuc 9999) (negsuc 99))
    ∙ ap (λ z. z +ℤ negsuc 99) (minus (a * 100 + b) 10000 ∙ sym (ap (λ z. z *ℤ pos 100 +ℤ pos b) (minus a 100) ∙ times_plus a 100 100 b))
    ∙ +ℤ_assoc ((pos a -ℤ pos 100) *ℤ pos 100) (pos b) (negsuc 99)
