-- An instant less the offset of a zone byte, by the zone's units and sign.
use mathlib.Core.Path.{◌≡◌}
use Prim.Native.Nat.{ℕ, ◌/◌, ◌%◌, ◌<◌, ◌≤◌}
use lib.IntN.{pos, neg_ℤ-neg_ℤ, ◌+ℤ◌, ◌-ℤ◌}
use borrow.Author.Tests.{le-leb, lt-leb, eq-eqb, ne_eqb}
use Rattle.refusal.specs.Answers.{gives, refused}
use Rattle.instant.specs.declared.instants.Instant.{Instant}
use Rattle.registry.specs.Words.{zone_size, less_zone}
use Rattle.instant.specs.Instants.{at}

pub no_zone : (z : ℕ) (t : Instant) → 9 < z / 16 → less_zone z t ≡ refused 4
unfolding less_zone
no_zone z t h = rw (lt-leb (z / 16) 9 h)

pub east : (z : ℕ) (t : Instant) → z / 16 ≤ 9 → z / 8 % 2 ≡ 0 → less_zone z t ≡ gives (at (t.seconds -ℤ pos (zone_size z)) t.nanos)
unfolding less_zone
east z t h e = rw (le-leb (z / 16) 9 h, eq-eqb (z / 8 % 2) 0 e)

pub west : (z : ℕ) (t : Instant) → z / 16 ≤ 9 → (z / 8 % 2 ≡ 0 → ⊥) → less_zone z t ≡ gives (at (t.seconds +ℤ pos (zone_size z)) t.nanos)
unfolding less_zone
west z t h e = rw (le-leb (z / 16) 9 h, ne_eqb (z / 8 % 2) 0 e, neg_ℤ-neg_ℤ (pos (zone_size z)))
