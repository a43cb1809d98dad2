-- A word is taken apart into its bytes, which change places twice and stand where they stood. Assumes nothing.
use mathlib.Core.Path.{◌≡◌, sym, ◌∙◌, ap}
use Prim.Native.Nat.{ℕ, ◌+◌, ◌*◌, ◌/◌, ◌%◌, ◌^◌, ◌<◌}
use native.Mathlib.Omega.{arith}
use lib.Pow.{shr-shr}
use Rattle.byte_orders.specs.Orders.{reversed, year_swapped}

-- ---- four bytes

of_bytes : ℕ → ℕ → ℕ → ℕ → ℕ → ℕ
of_bytes e d c b a = d * 2 ^ 24 + c * 2 ^ 16 + b * 2 ^ 8 + a + e * 2 ^ 32

reversed_of : (e d c b a : ℕ) → d < 256 → c < 256 → b < 256 → a < 256 → reversed (of_bytes e d c b a) ≡ of_bytes e a b c d
unfolding of_bytes reversed
reversed_of e d c b a hd hc hb ha =
    let n = d * 2 ^ 24 + c * 2 ^ 16 + b * 2 ^ 8 + a + e * 2 ^ 32 in
    let q0 : n / 2 ^ 32 ≡ e = omega arith in
    let q1 : n % 2 ^ 8 ≡ a = omega arith in
    let r2 : n / 2 ^ 8 ≡ e * 2 ^ 24 + d * 2 ^ 16 + c * 2 ^ 8 + b = omega arith in
    let r3 : n / 2 ^ 16 ≡ e * 2 ^ 16 + d * 2 ^ 8 + c = omega arith in
    let r4 : n / 2 ^ 24 ≡ e * 2 ^ 8 + d = omega arith in
    let q2 : n / 2 ^ 8 % 2 ^ 8 ≡ b = rw r2 (omega arith) in
    let q3 : n / 2 ^ 16 % 2 ^ 8 ≡ c = rw r3 (omega arith) in
    let q4 : n / 2 ^ 24 % 2 ^ 8 ≡ d = rw r4 (omega arith) in
    rw (q0, q1, q2, q3, q4)

bytes_of : (p : ℕ) → p ≡ of_bytes (p / 2 ^ 32) (p / 2 ^ 24 % 2 ^ 8) (p / 2 ^ 16 % 2 ^ 8) (p / 2 ^ 8 % 2 ^ 8) (p % 2 ^ 8)
unfolding of_bytes
bytes_of p = omega (arith, shr-shr p 8 8, shr-shr p 16 8, shr-shr p 24 8)

pub reversed_back : (p : ℕ) → reversed (reversed p) ≡ p
reversed_back p =
    let e = p / 2 ^ 32 in
    let d = p / 2 ^ 24 % 2 ^ 8 in
    let c = p / 2 ^ 16 % 2 ^ 8 in
    let b = p / 2 ^ 8 % 2 ^ 8 in
    let a = p % 2 ^ 8 in
    let hd : d < 256 = omega arith in
    let hc : c < 256 = omega arith in
    let hb : b < 256 = omega arith in
    let ha : a < 256 = omega arith in
    ap (λ x. reversed (reversed x)) (bytes_of p) ∙ ap reversed (reversed_of e d c b a hd hc hb ha)
    ∙ reversed_of e a b c d ha hb hc hd ∙ sym (bytes_of p)

-- ---- the two bytes of a year

of_year : ℕ → ℕ → ℕ → ℕ → ℕ
of_year e h l r = h * 2 ^ 48 + l * 2 ^ 40 + r + e * 2 ^ 56

swapped_of : (e h l r : ℕ) → h < 256 → l < 256 → r < 2 ^ 40 → year_swapped (of_year e h l r) ≡ of_year e l h r
unfolding of_year year_swapped
swapped_of e h l r hh hl hr =
    let n = h * 2 ^ 48 + l * 2 ^ 40 + r + e * 2 ^ 56 in
    let q0 : n / 2 ^ 56 ≡ e = omega arith in
    let q1 : n % 2 ^ 40 ≡ r = omega arith in
    let r2 : n / 2 ^ 40 ≡ e * 2 ^ 16 + h * 2 ^ 8 + l = omega arith in
    let r3 : n / 2 ^ 48 ≡ e * 2 ^ 8 + h = omega arith in
    let q2 : n / 2 ^ 40 % 2 ^ 8 ≡ l = rw r2 (omega arith) in
    let q3 : n / 2 ^ 48 % 2 ^ 8 ≡ h = rw r3 (omega arith) in
    rw (q0, q1, q2, q3)

year_of : (p : ℕ) → p ≡ of_year (p / 2 ^ 56) (p / 2 ^ 48 % 2 ^ 8) (p / 2 ^ 40 % 2 ^ 8) (p % 2 ^ 40)
unfolding of_year
year_of p = omega (arith, shr-shr p 40 8, shr-shr p 48 8)

pub swapped_back : (p : ℕ) → year_swapped (year_swapped p) ≡ p
swapped_back p =
    let e = p / 2 ^ 56 in
    let h = p / 2 ^ 48 % 2 ^ 8 in
    let l = p / 2 ^ 40 % 2 ^ 8 in
    let r = p % 2 ^ 40 in
    let hh : h < 256 = omega arith in
    let hl : l < 256 = omega arith in
    let hr : r < 2 ^ 40 = omega arith in
    ap (λ x. year_swapped (year_swapped x)) (year_of p) ∙ ap year_swapped (swapped_of e h l r hh hl hr)
    ∙ swapped_of e l h r hl hh hr ∙ sym (year_of p)
