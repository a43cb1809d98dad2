-- What may surprise a reader of specs/Loss.antt. Each is proved in proofs/Surprises.antt.
use Rattle.std.specs.Prelude.{◌≡◌, pos, neg_ℤ}
use Rattle.refusal.specs.Answers.{gives, refused}
use Rattle.instant.specs.Instants.{at}
use Rattle.registry.specs.Words.{decode_for, encode_for}

-- a Gsm word can say an instant that the Gsm encoder refuses: 00 10 10 00 00 00 01 is 2000-01-01 00:00:00 at ten quarter
-- hours east, which is 21:30 on the last day of 1999 in UTC
abbrev pub ZoneLeavesTheYears : Type 0
ZoneLeavesTheYears =
    (decode_for 14 0x00101000000001 ≡ gives (at (pos 946675800) 0)) × (encode_for 14 (at (pos 946675800) 0) ≡ refused 7)

-- the last half tick before the first day of layout 16 rolls into that day and is written; the last half tick of its last
-- day rolls out of the days and is refused
abbrev pub RollAtTheEnds : Type 0
RollAtTheEnds =
    (encode_for 16 (at (neg_ℤ (pos 185544796176001)) 999000000) ≡ gives (neg_ℤ (pos 9223372036854775808)))
    × (encode_for 16 (at (neg_ℤ (pos 185544796176001)) 998000000) ≡ refused 8)
    × (encode_for 16 (at (pos 185540378198399) 998000000) ≡ gives (pos 9223372032585728511))
    × (encode_for 16 (at (pos 185540378198399) 999000000) ≡ refused 8)
