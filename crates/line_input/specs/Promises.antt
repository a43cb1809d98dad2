-- What holds of the definitions. Each is proved in proofs/Promises.antt.
use Rattle.std.specs.Prelude.{ℕ, ◌≤◌, ◌≡◌, List, ◌++◌, length, take}
use Rattle.line_input.specs.Held.{Kept, line_in, kept_all, Takes}
use Rattle.line_input.specs.declared.held.Taken.{Taken}

-- what is held of a line is its first bytes, as many as there is room for: all of a line that fits, and where a line has more
-- bytes, as many as there is room for
abbrev pub FirstBytes : Type 0
FirstBytes =
    (h : Kept) (line : List ℕ) → h.count ≤ length h.bytes
    → line_in (kept_all h line) ≡ take (length h.bytes) (line_in h ++ line)

-- one answer: all that the contract of `take_line` allows, of its answer and of the bytes that it was lent, is equal. The
-- other contracts say `≡` themselves
abbrev pub OneAnswer : Type 0
OneAnswer =
    (h : Kept) (input : List ℕ) (from : ℕ) (r s : Taken) (bytes others : List ℕ) → Takes h input from r bytes
    → Takes h input from s others → (r ≡ s) × (bytes ≡ others)
