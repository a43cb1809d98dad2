-- A text put into a buffer. A text is a list of bytes.
use Rattle.std.specs.Prelude.{ℕ, ◌+◌, if◌then◌else◌, List, ◌++◌, nat_le, length, take, drop}

-- a buffer after a text was put into it, and the index at which the next may stand
pub record Written : Type 0 where
  pub bytes : List ℕ
  pub next : ℕ

-- text in place of out's bytes from index at on, where it fits; else out as it is
unfoldable pub written : List ℕ → ℕ → List ℕ → Written
written out at text =
    if nat_le (at + length text) (length out)
    then record { bytes = take at out ++ text ++ drop (at + length text) out; next = at + length text }
    else record { bytes = out; next = at }
