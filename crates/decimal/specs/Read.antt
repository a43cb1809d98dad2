-- A number read from text. A text is a list of bytes: the digits 0 to 9 are the bytes 48 to 57, and a minus is 45.
use Rattle.std.specs.Prelude.{ℕ, ◌+◌, ◌-◌, ◌*◌, if◌then◌else◌, List, [], ◌∷◌, length, ℤ, pos, neg_ℤ, ◌==◌, nat_lt, Option, None, Some, option_and_then}

-- the number that digits make where those before them make v; None where a byte is no digit
unfoldable pub behind : ℕ → List ℕ → Option ℕ
behind v [] = Some v
behind v (b ∷ bs) = if nat_lt b 48 then None else (if nat_lt 57 b then None else behind (v * 10 + (b - 48)) bs)

-- 1 to 19 digits
unfoldable pub natural_of : List ℕ → Option ℕ
natural_of s = if nat_lt (length s) 1 then None else (if nat_lt 19 (length s) then None else behind 0 s)

-- digits without a minus: n, where it is at most 2^63 - 1
unfoldable pub positive : ℕ → Option ℤ
positive n = if nat_lt 9223372036854775807 n then None else Some (pos n)

-- digits behind a minus: -n, where n is at most 2^63
unfoldable pub negative : ℕ → Option ℤ
negative n = if nat_lt 9223372036854775808 n then None else Some (neg_ℤ (pos n))

-- an optional minus, then 1 to 19 digits, and nothing else
unfoldable pub number_in : List ℕ → Option ℤ
number_in [] = None
number_in (b ∷ bs) = if b == 45 then option_and_then negative (natural_of bs) else option_and_then positive (natural_of (b ∷ bs))
