-- Layout 15: seconds, counted towards 2050, in four bytes. A word is its 64 bits.
use Rattle.std.specs.Prelude.{if◌then◌else◌, ℕ, ◌^◌, nat_lt, ℤ, pos, negsuc, ◌+ℤ◌, ◌-ℤ◌}
use Rattle.refusal.specs.Answers.{Answer, gives, refused}
use Rattle.instant.specs.Answers.{with_nanos}
use Rattle.instant.specs.declared.instants.Instant.{Instant}
use Rattle.byte_orders.specs.Orders.{reversed}
use Rattle.instant.specs.Instants.{at, epoch2050}

-- bytes reversed to p; p - 4,294,967,295 + 2,524,608,000 seconds, the latter being 2050-01-01
unfoldable pub nokia_decode : ℕ → Answer Instant
nokia_decode w =
    if nat_lt w (2 ^ 32) then gives (at (pos (reversed w) -ℤ pos 4294967295 +ℤ epoch2050) 0) else refused 2

-- p is seconds + 4,294,967,295 - 2,524,608,000; 8 where 32 bits do not hold it
abbrev pub nokia_word : ℤ → Answer ℤ
nokia_word (pos p) = if nat_lt p (2 ^ 32) then gives (pos (reversed p)) else refused 8
nokia_word (negsuc n) = refused 8

unfoldable pub nokia_encode : Instant → Answer ℤ
nokia_encode t = with_nanos t (nokia_word (t.seconds +ℤ pos 4294967295 -ℤ epoch2050))
