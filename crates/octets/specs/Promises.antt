-- What holds of the definitions. Each is proved in proofs/Promises.antt.
use Rattle.std.specs.Prelude.{ℕ, ◌^◌, ◌<◌, ◌≡◌, length}
use Rattle.octets.specs.Octets.{number_of, bytes_of}

-- as many bytes as are asked for
abbrev pub Many : Type 0
Many = (k n : ℕ) → length (bytes_of k n) ≡ k

-- a number that fits k bytes comes back from them
abbrev pub ComesBack : Type 0
ComesBack = (k n : ℕ) → n < 256 ^ k → number_of (bytes_of k n) ≡ n
