-- What holds of rows. Each is proved in proofs/Promises.antt.
use Rattle.std.specs.Prelude.{ℕ, ◌*◌, ◌≤◌, ◌<◌, ◌^◌, ◌≡◌, ℤ, length, FitsSigned}
use Rattle.std.specs.Int.{w64}
use Rattle.refusal.specs.Answers.{gives}
use Rattle.refusal.specs.Ranges.{RefusedWithin}
use Rattle.instant.specs.declared.instants.Instant.{Instant}
use Rattle.rows.specs.Cells.{instant_of, instant_bytes, word_bytes}
use Rattle.rows.specs.Counted.{rows_in}

-- an instant has 12 bytes, and a word 8
abbrev pub RowLengths : Type 0
RowLengths = ((t : Instant) → length (instant_bytes t) ≡ 12) × ((z : ℤ) → length (word_bytes z) ≡ 8)

-- an instant comes back from its bytes
abbrev pub InstantComesBack : Type 0
InstantComesBack = (t : Instant) → FitsSigned w64 t.seconds → t.nanos < 2 ^ 32 → instant_of (instant_bytes t) ≡ t

-- rows that are taken are whole: as many words as instants, and not too many
pub record Whole (n m rows : ℕ) : Type 0 where
  pub words : n ≡ 8 * rows
  pub instants : m ≡ 12 * rows
  pub few : rows ≤ 1048576

abbrev pub RowsAreWhole : Type 0
RowsAreWhole = (n m rows : ℕ) → rows_in n m ≡ gives rows → Whole n m rows

-- columns are refused under 11 to 13
abbrev pub RowRefusals : Type 0
RowRefusals = (n m : ℕ) → RefusedWithin 11 13 (rows_in n m)
