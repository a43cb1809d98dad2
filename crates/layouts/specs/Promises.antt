-- What holds of the descriptions. Each is proved in proofs/Promises.antt.
use Rattle.std.specs.Prelude.{◌≡◌, true, false, ◌↔◌, ◌⊎◌, ℕ, ◌/◌, ◌^◌, ◌≤◌, ◌<◌}
use Rattle.layouts.specs.Layouts.{layout_for}
use Rattle.layouts.specs.declared.kinds.Kind.{Kind}
use Rattle.layouts.specs.declared.kinds.Kind.TheVariants.{Gsm}

-- one bound for two rules of the document's range column: the year of 5, and that of 10 and 11, is at most 32,767 just where
-- the word is below 2^35, and 2^55
abbrev pub YearBounds : Type 0
YearBounds = ((p : ℕ) → (p / 2 ^ 20 ≤ 32767) ↔ (p < 2 ^ 35)) × ((p : ℕ) → (p / 2 ^ 40 ≤ 32767) ↔ (p < 2 ^ 55))

-- 14 alone has a zone
abbrev pub OneZone : Type 0
OneZone = ((layout_for Gsm).zoned ≡ true) × ((k : Kind) → (k ≡ Gsm) ⊎ ((layout_for k).zoned ≡ false))
