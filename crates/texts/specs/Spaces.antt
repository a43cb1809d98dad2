-- The two sides of a text's first space, which is the byte 32.
use Rattle.std.specs.Prelude.{ℕ, if◌then◌else◌, List, [], ◌∷◌, ◌==◌}

-- what stands before the first space: all of it where there is none
unfoldable pub before_space : List ℕ → List ℕ
before_space [] = []
before_space (b ∷ bs) = if b == 32 then [] else b ∷ before_space bs

-- what stands after the first space: nothing where there is none
unfoldable pub after_space : List ℕ → List ℕ
after_space [] = []
after_space (b ∷ bs) = if b == 32 then bs else after_space bs
