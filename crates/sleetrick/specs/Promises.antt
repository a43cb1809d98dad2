-- What holds of the numbers and of the calls. Each is proved in proofs/Promises.antt.
use Rattle.std.specs.Prelude.{ℕ, ◌/◌, ◌%◌, ◌^◌, ◌<◌, ◌≡◌, List, ℤ}
use Rattle.refusal.specs.Answers.{Answer, gives}
use Rattle.refusal.specs.Ranges.{RefusedWithin}
use Rattle.instant.specs.declared.instants.Instant.{Instant}
use Rattle.registry.specs.Words.{decode_for, encode_for}
use Rattle.number_stamps.specs.NumberStamps.{filetime_hilo, vmsd_pair, unix_sec_nsec}
use Rattle.byte_stamps.specs.OracleStamp.{oracle_date}
use Rattle.byte_stamps.specs.Cp56Stamp.{cp56}
use Rattle.byte_stamps.specs.UdfStamp.{udf_stamp}
use Rattle.rows.specs.Cells.{instant_bytes, word_bytes}
use Rattle.sleetrick.specs.Numbers.{tells}
use Rattle.sleetrick.specs.Calls.{Left, instant_call, word_call}

-- a number fits 64 bits and reads back: the refusal, the field, and the length or count
pub record NumberReads (number count field refusal : ℕ) : Type 0 where
  pub fits : number < 2 ^ 64
  pub refusals : number % 256 ≡ refusal
  pub fields : number / 256 % 256 ≡ field
  pub counts : number / 65536 ≡ count

abbrev pub NumbersReadBack : Type 0
NumbersReadBack = (count field refusal : ℕ) → count < 2 ^ 48 → field < 256 → refusal < 256 → NumberReads (tells count field refusal) count field refusal

-- the calls on one value refuse under 1 to 13: no refusal is told as 0, and each fits its bits
abbrev pub Numbered : {A : Type 0} → Answer A → Type 0
Numbered answer = RefusedWithin 1 13 answer

abbrev pub CallRefusals : Type 0
CallRefusals =
    ((layout word : ℕ) → Numbered (decode_for layout word))
    × (((layout : ℕ) (t : Instant) → Numbered (encode_for layout t))
    × (((low high : ℕ) → Numbered (filetime_hilo low high))
    × (((high low : ℤ) → Numbered (vmsd_pair high low))
    × (((s : ℤ) (n : ℕ) → Numbered (unix_sec_nsec s n))
    × (((stamp : List ℕ) → Numbered (oracle_date stamp))
    × (((stamp : List ℕ) → Numbered (cp56 stamp))
    × ((stamp : List ℕ) → Numbered (udf_stamp stamp))))))))

-- so 0 is told only where there is a value, and then its bytes stand in the row; and any other number leaves the row as it was
pub record Settled {A : Type 0} (bytes : A → List ℕ) (old : List ℕ) (answer : Answer A) (left : Left) : Type 0 where
  pub told : left.number ≡ 0 → (x : A) × ((answer ≡ gives x) × (left.bytes ≡ bytes x))
  pub kept : (left.number ≡ 0 → ⊥) → left.bytes ≡ old

abbrev pub EachSettled : Type 0
EachSettled =
    ((answer : Answer Instant) (old : List ℕ) → Numbered answer → Settled instant_bytes old answer (instant_call answer old))
    × ((answer : Answer ℤ) (old : List ℕ) → Numbered answer → Settled word_bytes old answer (word_call answer old))

-- one answer: all that the contract of a call allows, of its number and of the bytes that it was lent, is equal
abbrev pub LeavesRow : Left → ℕ → List ℕ → Type 0
LeavesRow left r bytes = (r ≡ left.number) × (bytes ≡ left.bytes)

abbrev pub OneAnswer : Type 0
OneAnswer = (left : Left) (r s : ℕ) (x y : List ℕ) → LeavesRow left r x → LeavesRow left s y → (r ≡ s) × (x ≡ y)
