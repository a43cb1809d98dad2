-- What a word loses, for every layout under its number. `encode_for n t` is what the encoder of layout n answers to the
-- instant t, and `decode_for n w` what its decoder answers to the word with the bits w. Each statement is proved in
-- proofs/Loss.antt.
use Rattle.std.specs.Prelude.{◌≡◌, Bool, true, false, if◌then◌else◌, ◌&&◌, ℕ, zero, suc, ◌-◌, ◌/◌, ◌%◌, ◌^◌, ◌≤◌, ◌==◌, nat_le, ℤ, ◌≤ℤ◌, FitsSigned}
use Rattle.std.specs.Int.{w64, cast_unsigned}
use Rattle.refusal.specs.Answers.{gives}
use Rattle.instant.specs.Instants.{is_before}
use Rattle.instant.specs.declared.instants.Instant.{Instant}
use Rattle.counts.specs.Sql.{exact_ticks, distance}
use Rattle.registry.specs.Words.{decode_for, encode_for}

-- what the word w of layout n says
abbrev pub says : ℕ → ℤ → Instant → Type 0
says n w u = decode_for n (cast_unsigned w64 w) ≡ gives u

-- u is not after t
abbrev pub NotAfter : Instant → Instant → Type 0
NotAfter u t = is_before t u ≡ false

-- ---- 1. the word of an instant that is accepted decodes, in all sixteen

pub record Decodes (n : ℕ) (w : ℤ) : Type 0 where
  pub instant : Instant
  pub said : says n w instant

abbrev pub EveryWordDecodes : Type 0
EveryWordDecodes = (n : ℕ) (t : Instant) (w : ℤ) → encode_for n t ≡ gives w → Decodes n w

-- ---- 2. in 1 to 15 it decodes to the latest instant, not after the given one, that any word of the layout decodes to

-- u is the latest of the instants, not after t, that words say
abbrev pub Latest : (ℤ → Instant → Type 0) → Instant → Instant → Type 0
Latest saying t u = NotAfter u t × ((v : ℤ) (x : Instant) → FitsSigned w64 v → saying v x → NotAfter x t → NotAfter x u)

abbrev pub LatestOfAll : Type 0
LatestOfAll = (n : ℕ) (t u : Instant) (w : ℤ) → n ≤ 15 → encode_for n t ≡ gives w → says n w u → Latest (says n) t u

-- ---- 3. in 16 no acceptable word is nearer, in exact time, and of two equally near the later is taken

-- w is at most half a tick away, no word that is accepted is nearer, and none that is as near is later
abbrev pub Nearest : Instant → ℤ → Type 0
Nearest t w =
    (distance t w ≤ 5000000)
    × ((v : ℤ) (x : Instant) → FitsSigned w64 v → says 16 v x →
    (distance t w ≤ distance t v) × (distance t v ≡ distance t w → exact_ticks v ≤ℤ exact_ticks w))

abbrev pub NearestTick : Type 0
NearestTick = (t : Instant) (w : ℤ) → encode_for 16 t ≡ gives w → Nearest t w

-- ---- 4. plain words come back: every accepted word, except that 3 needs bits 29..31 zero, 12 bits 0..15 zero, and 14
-- zone byte 0 and every nibble at most 9

-- bits a to b, both included, are zero
abbrev pub zero_bits : ℕ → ℕ → ℕ → Bool
zero_bits a b w = w / 2 ^ a % 2 ^ (suc b - a) == 0

-- each of the k nibbles from the low end on is at most 9
unfoldable pub digits : ℕ → ℕ → Bool
digits zero w = true
digits (suc k) w = nat_le (w % 16) 9 && digits k (w / 16)

abbrev pub plain : ℕ → ℕ → Bool
plain n w =
    if n == 3 then zero_bits 29 31 w
    else (if n == 12 then zero_bits 0 15 w
    else (if n == 14 then zero_bits 0 7 w && digits 14 w
    else true))

abbrev pub PlainWordsComeBack : Type 0
PlainWordsComeBack = (n : ℕ) (w : ℤ) (t : Instant) → FitsSigned w64 w → plain n (cast_unsigned w64 w) ≡ true → says n w t → encode_for n t ≡ gives w
