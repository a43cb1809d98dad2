-- Bytes one by one: read by their places, written in order, and zeros behind them. Assumes nothing.
use Rattle.std.proofs.Common.{◌≡◌, ℕ, zero, suc, ◌+◌, ◌*◌, ◌/◌, ◌%◌, ◌^◌, ◌<◌, ◌≤◌, List, [], ◌∷◌, ◌++◌, length, get_or, take, drop, set, replicate, refl, sym, ap, ◌∙◌, append-nil, pow-suc, add-one, arith}
use Rattle.std.specs.Array.{IsFirstChunk}
use Rattle.std.specs.Int.{byte_worth, sum_through}
use lib.Seq.{take-suc-set, append_snoc, take_all, length-take-le}
use Rattle.octets.specs.Octets.{number_of, bytes_of}

-- byte k counts 256 ^ k, and past the end there are zeros
one_byte : (s : List ℕ) (k : ℕ) → number_of (take (suc k) s) ≡ number_of (take k s) + get_or s k 0 * 256 ^ k
unfolding number_of
one_byte [] zero = omega arith
one_byte [] (suc k) = omega arith
one_byte (b ∷ s) zero = omega arith
one_byte (b ∷ s) (suc k) = rw (pow-suc 256 k, one_byte s k) (grind arith)

-- the library's sum of the first k + 1 bytes of s
abbrev pub sum_of : List ℕ → ℕ → ℕ
sum_of s k = sum_through (λ i. byte_worth i (get_or s i 0)) k

by_places : (s : List ℕ) (k : ℕ) → sum_of s k ≡ number_of (take (suc k) s)
unfolding number_of
by_places s zero = omega (arith, one_byte s 0)
by_places s (suc k) = omega (arith, one_byte s (suc k), by_places s k)

all_bytes : (s : List ℕ) (k : ℕ) → length s ≡ suc k → sum_of s k ≡ number_of s
all_bytes s k h = by_places s k ∙ ap number_of (take_all (suc k) s (omega arith))

-- what the library reads of the first k + 1 bytes of s, and of as many that are a shorter s with zeros behind it
pub first_number : (k : ℕ) {s bytes : List ℕ} {n : ℕ} → IsFirstChunk s bytes (suc k) → n ≡ sum_of bytes k → n ≡ number_of (take (suc k) s)
first_number k {s} {bytes} h e = e ∙ all_bytes bytes k (rw h.same (length-take-le (suc k) s h.enough)) ∙ ap number_of h.same

pub whole_number : (k : ℕ) (s bytes : List ℕ) {n : ℕ} → length s < suc k → length bytes ≡ suc k → number_of bytes ≡ number_of s → n ≡ sum_of bytes k
    → n ≡ number_of (take (suc k) s)
whole_number k s bytes h l v e = e ∙ all_bytes bytes k l ∙ v ∙ ap number_of (sym (take_all (suc k) s (omega arith)))

-- zeros count nothing
zeros : (n k : ℕ) → number_of (drop k (replicate n 0)) ≡ 0
unfolding number_of
zeros zero zero = refl
zeros zero (suc k) = refl
zeros (suc n) zero = omega (arith, zeros n 0)
zeros (suc n) (suc k) = zeros n k

pub zeros_behind : (s : List ℕ) (n k : ℕ) → number_of (s ++ drop k (replicate n 0)) ≡ number_of s
unfolding number_of
zeros_behind [] n k = zeros n k
zeros_behind (b ∷ s) n k = rw (zeros_behind s n k) refl

-- a loop that writes them: one more, and after the last
pub one_more : (dst : List ℕ) (left i k j : ℕ) {all : List ℕ} →
    i < length dst → k ≡ suc j → all ≡ take i dst ++ bytes_of k left → all ≡ take (i + 1) (set dst i (left % 256)) ++ bytes_of j (left / 256)
unfolding bytes_of
one_more dst left i k j h p e =
    (rw p at e)
    ∙ rw (add-one i, take-suc-set dst i (left % 256) h) (sym (append_snoc (take i dst) (left % 256) (bytes_of j (left / 256))))

pub no_more : (dst : List ℕ) (left i k : ℕ) {all : List ℕ} → length dst ≤ i → k ≡ 0 → all ≡ take i dst ++ bytes_of k left → dst ≡ all
unfolding bytes_of
no_more dst left i k h p e = sym ((rw p at e) ∙ append-nil (take i dst) ∙ take_all i dst h)
