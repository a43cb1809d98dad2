-- The starred stamps of document 01 as one table, and a second one at edges that a symmetric stamp would not tell apart.
use Rattle.std.specs.Prelude.{◌≡◌, List, [], ◌∷◌, map, ℕ, ℤ, pos, neg_ℤ}
use Rattle.std.specs.Int.{w64, cast_unsigned}
use Rattle.refusal.specs.Answers.{Answer, gives, refused}
use Rattle.instant.specs.Instants.{at}
use Rattle.instant.specs.declared.instants.Instant.{Instant}
use Rattle.registry.specs.Words.{decode_for, encode_for}

-- a word of a layout to decode, or an instant to encode
pub data Trial : Type 0 where
  decode : ℕ → ℤ → Trial
  encode : ℕ → Instant → Trial

pub data Reply : Type 0 where
  instant : Answer Instant → Reply
  word : Answer ℤ → Reply

abbrev pub reply_to : Trial → Reply
reply_to (decode n w) = instant (decode_for n (cast_unsigned w64 w))
reply_to (encode n t) = word (encode_for n t)

pub record Stamp : Type 0 where
  pub trial : Trial
  pub reply : Reply

abbrev pub stamp : Trial → Reply → Stamp
stamp q r = record { trial = q; reply = r }

abbrev pub stamps : List Stamp
stamps =
    stamp (decode 1 (pos 2162688)) (instant (gives (at (pos 315532800) 0)))
    ∷ stamp (decode 1 (pos 2162717)) (instant (gives (at (pos 315532858) 0)))
    ∷ stamp (decode 1 (pos 2162718)) (instant (refused 3))
    ∷ stamp (decode 3 (pos 67584)) (instant (gives (at (neg_ℤ (pos 2208988800)) 0)))
    ∷ stamp (decode 3 (pos 2147551232)) (instant (gives (at (neg_ℤ (pos 2208988800)) 0)))
    ∷ stamp (decode 3 (pos 190464)) (instant (refused 3))
    ∷ stamp (decode 14 (pos 0x00101000000040)) (instant (gives (at (pos 946681200) 0)))
    ∷ stamp (decode 14 (pos 0x00101000000048)) (instant (gives (at (pos 946688400) 0)))
    ∷ stamp (decode 14 (pos 0x001010000000A0)) (instant (refused 4))
    ∷ stamp (decode 15 (pos 4294967295)) (instant (gives (at (pos 2524608000) 0)))
    ∷ stamp (decode 16 (pos 25919999)) (instant (gives (at (neg_ℤ (pos 2208902401)) 996666666)))
    ∷ stamp (decode 16 (neg_ℤ (pos 4294967296))) (instant (gives (at (neg_ℤ (pos 2209075200)) 0)))
    ∷ stamp (encode 16 (at (neg_ℤ (pos 2208902401)) 998333333)) (word (gives (pos 25919999)))
    ∷ stamp (encode 16 (at (neg_ℤ (pos 2208902401)) 998333334)) (word (gives (pos 4294967296)))
    ∷ []

-- each trial of a table has its reply
abbrev pub Stamps : Type 0
Stamps = map (λ s. reply_to s.trial) stamps ≡ map (λ s. s.reply) stamps

-- ---- edges

-- a word of 4, 11 and 15 whose bytes differ from each other; the last word of 5 and 10 whose year is small enough, and the one behind
-- it; a zone of seventy quarter hours; both ends of the window; and each refusal of a word or an instant
abbrev pub edges : List Stamp
edges =
    stamp (decode 4 (pos 585859710)) (instant (gives (at (pos 1709210040) 0)))
    ∷ stamp (decode 11 (pos 0xE807021D0C2238)) (instant (gives (at (pos 1709210096) 0)))
    ∷ stamp (decode 15 (pos 0x78563412)) (instant (gives (at (neg_ℤ (pos 1464939399)) 0)))
    ∷ stamp (decode 5 (pos 34359738367)) (instant (refused 3))
    ∷ stamp (decode 5 (pos 34359738368)) (instant (refused 2))
    ∷ stamp (decode 10 (pos 36028797018963967)) (instant (refused 3))
    ∷ stamp (decode 10 (pos 36028797018963968)) (instant (refused 2))
    ∷ stamp (decode 14 (pos 0x42209221430007)) (instant (gives (at (pos 1709147040) 0)))
    ∷ stamp (decode 10 (pos 10994068810498048)) (instant (gives (at (pos 253402207200) 0)))
    ∷ stamp (decode 10 (pos 10994068810498049)) (instant (refused 3))
    ∷ stamp (encode 10 (at (pos 253402207201) 0)) (word (refused 6))
    ∷ stamp (encode 10 (at (neg_ℤ (pos 377705023201)) 0)) (word (refused 7))
    ∷ stamp (encode 10 (at (neg_ℤ (pos 377705023202)) 0)) (word (refused 6))
    ∷ stamp (decode 17 (pos 0)) (instant (refused 1))
    ∷ stamp (decode 14 (pos 0x422092214300A0)) (instant (refused 4))
    ∷ stamp (decode 16 (pos 25920000)) (instant (refused 5))
    ∷ stamp (encode 15 (at (pos 2524608001) 0)) (word (refused 8))
    ∷ stamp (encode 16 (at (pos 0) 1000000000)) (word (refused 9))
    ∷ []

abbrev pub Edges : Type 0
Edges = map (λ s. reply_to s.trial) edges ≡ map (λ s. s.reply) edges
