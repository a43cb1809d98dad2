-- The line that is held while its input comes in blocks. An LF is the byte 10.
use Rattle.std.specs.Prelude.{ℕ, ◌+◌, ◌≡◌, Bool, true, false, if◌then◌else◌, List, [], ◌∷◌, ◌==◌, nat_lt, length, take, set}
use Rattle.line_input.specs.declared.held.Taken.{Taken}

-- bytes that are held, and how many of them count
pub record Kept : Type 0 where
  pub bytes : List ℕ
  pub count : ℕ

-- the first n of some bytes are held
abbrev pub holds : List ℕ → ℕ → Kept
holds bytes n = record { bytes = bytes; count = n }

-- what is held is the line that is not finished
abbrev pub line_in : Kept → List ℕ
line_in h = take h.count h.bytes

-- a byte behind them where there is room; else all as it was
unfoldable pub kept : Kept → ℕ → Kept
kept h b =
    if nat_lt h.count (length h.bytes) then holds (set h.bytes h.count b) (h.count + 1) else h

-- some bytes, one after the other
unfoldable pub kept_all : Kept → List ℕ → Kept
kept_all h [] = h
kept_all h (b ∷ bs) = kept_all (kept h b) bs

-- what stands before the first LF: all of it where there is none
unfoldable pub before_lf : List ℕ → List ℕ
before_lf [] = []
before_lf (b ∷ bs) = if b == 10 then [] else b ∷ before_lf bs

-- whether there is an LF
unfoldable pub has_lf : List ℕ → Bool
has_lf [] = false
has_lf (b ∷ bs) = if b == 10 then true else has_lf bs

-- how many bytes that are, with the LF
unfoldable pub up_to_lf : List ℕ → ℕ
up_to_lf input = length (before_lf input) + (if has_lf input then 1 else 0)

-- what a call leaves that was lent input from index `from` on, with h held before: all before the first LF is held, and the
-- LF is taken too
pub record Takes (h : Kept) (input : List ℕ) (from : ℕ) (r : Taken) (bytes : List ℕ) : Type 0 where
  pub keeps : holds bytes r.held ≡ kept_all h (before_lf input)
  pub next : r.next ≡ from + up_to_lf input
  pub whole : r.whole ≡ has_lf input
