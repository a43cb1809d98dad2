-- A number written as text. A text is a list of bytes: the digit d is the byte 48 + d.
use Rattle.std.specs.Prelude.{ℕ, zero, suc, ◌+◌, ◌-◌, ◌/◌, ◌%◌, if◌then◌else◌, List, [], ◌∷◌, ◌++◌, length, replicate, ℤ, pos, negsuc, nat_lt}
use Rattle.decimal.specs.declared.write.Text.{Text}

-- n in decimal, in at most k digits
unfoldable pub decimal_digits : ℕ → ℕ → List ℕ
decimal_digits zero n = []
decimal_digits (suc k) n = if nat_lt n 10 then (48 + n) ∷ [] else decimal_digits k (n / 10) ++ ((48 + n % 10) ∷ [])

-- n in decimal, where it is below 10^19, as the size of every signed 64-bit number is
unfoldable pub show_nat : ℕ → List ℕ
show_nat n = decimal_digits 19 n

-- z in decimal: `pos n` is n, and `negsuc n` is -(n + 1), written with a minus, the byte 45
unfoldable pub show_int : ℤ → List ℕ
show_int (pos n) = show_nat n
show_int (negsuc n) = 45 ∷ show_nat (suc n)

-- text at the end of 20 bytes, with zeros in front, and where it begins
unfoldable pub at_end : List ℕ → Text
at_end text = record { bytes = replicate (20 - length text) 0 ++ text; from = 20 - length text }
