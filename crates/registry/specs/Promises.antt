-- What holds of the definitions. Each is proved in proofs/RuleNumbers or Refusals.
use Rattle.std.specs.Prelude.{◌≡◌, ◌⊎◌, ℕ, ◌<◌}
use Rattle.refusal.specs.Answers.{Answer, gives, refused}
use Rattle.refusal.specs.Ranges.{RefusedWithin}
use Rattle.instant.specs.Ranges.{GoodWithin}
use Rattle.instant.specs.declared.instants.Instant.{Instant}
use Rattle.layouts.specs.declared.kinds.Kind.{Kind}
use Rattle.layouts.specs.declared.kinds.Kind.TheVariants.{FatDos, ExFat, Dttm, BitDate, BitDec, Bcd, Moto, Symantec, Dvr, Ns40, Ns40Le, LogTime, SemiOctet, Gsm}
use Rattle.registry.specs.Words.{rule_for, decode_by, encode_by}
use Rattle.registry.specs.declared.rules.Rule.{Rule}
use Rattle.registry.specs.declared.rules.Rule.TheVariants.{Civil, NokiaLe, SqlServer}

-- ---- the layout number

-- the number of each rule
abbrev pub kind_number : Kind → ℕ
kind_number FatDos = 1
kind_number ExFat = 2
kind_number Dttm = 3
kind_number BitDate = 4
kind_number BitDec = 5
kind_number Bcd = 6
kind_number Moto = 7
kind_number Symantec = 8
kind_number Dvr = 9
kind_number Ns40 = 10
kind_number Ns40Le = 11
kind_number LogTime = 12
kind_number SemiOctet = 13
kind_number Gsm = 14

abbrev pub rule_number : Rule → ℕ
rule_number (Civil k) = kind_number k
rule_number NokiaLe = 15
rule_number SqlServer = 16

-- what a number may pick: the rule that has it, or nothing, where it is outside 1 to 16, under refusal 1
abbrev pub PickedBy : ℕ → Answer Rule → Type 0
PickedBy n (gives r) = n ≡ rule_number r
PickedBy n (refused k) = (k ≡ 1) × ((n ≡ 0) ⊎ (16 < n))

abbrev pub EveryNumber : Type 0
EveryNumber = (n : ℕ) → PickedBy n (rule_for n)

-- ---- which refusals there are

-- a decoder gives a good instant or refuses under 2 to 5, and an encoder refuses under 6 to 9
abbrev pub DecoderAnswers : Type 0
DecoderAnswers = (r : Rule) (w : ℕ) → GoodWithin 2 5 (decode_by r w)

abbrev pub EncoderRefusals : Type 0
EncoderRefusals = (r : Rule) (t : Instant) → RefusedWithin 6 9 (encode_by r t)

-- nanoseconds above 999,999,999 are refused under 9, whatever else is wrong
abbrev pub NanosFirst : Type 0
NanosFirst = (r : Rule) (t : Instant) → 999999999 < t.nanos → encode_by r t ≡ refused 9
