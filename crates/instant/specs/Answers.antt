-- Answers about an instant: a value, or a number of the list of refusals.
use Rattle.std.specs.Prelude.{if◌then◌else◌, ℕ, nat_le, ℤ}
use Rattle.refusal.specs.Answers.{Answer, gives, refused}
use Rattle.instant.specs.Instants.{at}
use Rattle.instant.specs.declared.instants.Instant.{Instant}

-- the instant of seconds, which may be refused, and n nanoseconds
abbrev pub at_nanos : ℕ → Answer ℤ → Answer Instant
at_nanos n (gives s) = gives (at s n)
at_nanos n (refused k) = refused k

-- 9 for nanoseconds above 999,999,999, before anything else of the instant is looked at
abbrev pub with_nanos : Instant → Answer ℤ → Answer ℤ
with_nanos t answer = if nat_le t.nanos 999999999 then answer else refused 9
