-- One row of a column: an instant in 12 bytes, a word in 8, low byte first.
use Rattle.std.specs.Prelude.{ℕ, if◌then◌else◌, List, ◌++◌, ◌==◌, ℤ, length, take, drop}
use Rattle.std.specs.Int.{w64, cast_signed, cast_unsigned}
use Rattle.octets.specs.Octets.{number_of, bytes_of}
use Rattle.instant.specs.Instants.{at}
use Rattle.instant.specs.declared.instants.Instant.{Instant}

-- an instant in 12 bytes: seconds in 8, two's complement, then nanoseconds in 4
abbrev pub instant_of : List ℕ → Instant
instant_of bytes = at (cast_signed w64 (number_of (take 8 bytes))) (number_of (take 4 (drop 8 bytes)))

abbrev pub instant_bytes : Instant → List ℕ
instant_bytes t = bytes_of 8 (cast_unsigned w64 t.seconds) ++ bytes_of 4 t.nanos

-- a word in 8 bytes, two's complement: its 64 bits, and the bytes of a word
abbrev pub bits_of : List ℕ → ℕ
bits_of bytes = number_of (take 8 bytes)

abbrev pub word_bytes : ℤ → List ℕ
word_bytes z = bytes_of 8 (cast_unsigned w64 z)

-- bytes in place of a row that has as many; a row that has not stays
abbrev pub over : List ℕ → List ℕ → List ℕ
over old bytes = if length old == length bytes then bytes else old
