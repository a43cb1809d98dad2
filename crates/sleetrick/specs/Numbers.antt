-- The one number that a call answers, but for the two column calls, whose number is `answer` of crates/columns/specs/Columns.antt.
use Rattle.std.specs.Prelude.{ℕ, ◌+◌, ◌*◌}

-- the refusal in the low 8 bits, 0 for none; in the next 8 the field that was wrong, 0 where none is told; and in the 48 above them a
-- length or a count, 0 where there is nothing to count. The calls on one value have nothing to count, and 0 says that their result is
-- written. Today no call tells a field or a count: the room is there for those that will
abbrev pub tells : ℕ → ℕ → ℕ → ℕ
tells count field refusal = count * 65536 + field * 256 + refusal
