-- Division rounded down. A signed number is `pos n`, which is n, or `negsuc n`, which is -(n + 1).
use Rattle.std.specs.Prelude.{if◌then◌else◌, ℕ, suc, ◌-◌, ◌/◌, ◌%◌, ◌==◌, ℤ, pos, negsuc}

-- -1 - z: n and -(n + 1) change places
abbrev pub flipped : ℤ → ℤ
flipped (pos n) = negsuc n
flipped (negsuc n) = pos n

-- the greatest whole number that is at most z / d: of -(a + 1) it is -(a / d + 1)
abbrev pub quotient : ℤ → ℕ → ℤ
quotient (pos a) d = pos (a / d)
quotient (negsuc a) d = negsuc (a / d)

-- what that leaves of z, from 0 to d - 1
abbrev pub rest : ℤ → ℕ → ℕ
rest (pos a) d = a % d
rest (negsuc a) d = d - suc (a % d)

-- the two, with 0 for a division by zero
abbrev pub floor_div : ℤ → ℕ → ℤ
floor_div z d = if d == 0 then pos 0 else quotient z d

abbrev pub floor_rem : ℤ → ℕ → ℕ
floor_rem z d = if d == 0 then 0 else rest z d
