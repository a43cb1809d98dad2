-- The promises of specs/Promises. Assumes nothing.
use Prim.Native.Nat.{ℕ, ◌≤◌}
use mathlib.Core.Path.{refl, sym, ◌∙◌}
use mathlib.Core.Bool.{Bool, true, false, cond}
use mathlib.Core.List.{List}
use native.Mathlib.Omega.{arith}
use lib.Dec.{eqb}
use lib.ListN.{length}
use Rattle.refusal.specs.Answers.{Answer, gives, refused}
use Rattle.refusal.proofs.Ranges.{wider}
use Rattle.instant.specs.Ranges.{GoodWithin}
use Rattle.instant.specs.declared.instants.Instant.{Instant}
use Rattle.instant.proofs.Ranges.{refused_within}
use Rattle.registry.specs.Words.{rule_for, decode_by, encode_by, decode_with, encode_with}
use Rattle.registry.specs.Promises.{PickedBy}
use Rattle.registry.specs.declared.rules.Rule.{Rule}
use Rattle.registry.proofs.RuleNumbers.{every_number}
use Rattle.registry.proofs.Refusals.{decoder_answers, encoder_refusals}
use Rattle.number_stamps.specs.NumberStamps.{filetime_hilo, vmsd_pair, unix_sec_nsec}
use Rattle.number_stamps.proofs.Promises.{number_stamp_answers}
use Rattle.byte_stamps.specs.OracleStamp.{oracle_date}
use Rattle.byte_stamps.specs.Cp56Stamp.{cp56}
use Rattle.byte_stamps.specs.UdfStamp.{udf_stamp}
use Rattle.byte_stamps.proofs.Promises.{byte_stamp_answers}
use Rattle.rows.specs.Cells.{instant_bytes, word_bytes}
use Rattle.sleetrick.specs.Calls.{handed, instant_call, word_call}
use Rattle.sleetrick.specs.Promises.{NumbersReadBack, Numbered, CallRefusals, Settled, EachSettled, OneAnswer}

pub numbers_read_back : NumbersReadBack
numbers_read_back count field refusal l h k = record { fits = omega arith; refusals = omega arith; fields = omega arith; counts = omega arith }

numbered : (low high : ℕ) (x : Answer Instant) → 1 ≤ low → high ≤ 13 → GoodWithin low high x → Numbered x
numbered low high x l h g = wider low high 1 13 x l h (refused_within low high x g)

-- with the layout's number, which may be refused under 1
decoded : (n : ℕ) (x : Answer Rule) → PickedBy n x → (w : ℕ) → Numbered (decode_with x w)
decoded n (gives r) p w = numbered 2 5 (decode_by r w) (omega arith) (omega arith) (decoder_answers r w)
decoded n (refused k) p w = (omega (arith, p.0), omega (arith, p.0))

encoded : (n : ℕ) (x : Answer Rule) → PickedBy n x → (t : Instant) → Numbered (encode_with x t)
encoded n (gives r) p t = wider 6 9 1 13 (encode_by r t) (omega arith) (omega arith) (encoder_refusals r t)
encoded n (refused k) p t = (omega (arith, p.0), omega (arith, p.0))

pub call_refusals : CallRefusals
call_refusals = (
  λ layout word. decoded layout (rule_for layout) (every_number layout) word,
  (
    λ layout t. encoded layout (rule_for layout) (every_number layout) t,
    (
      λ low high. numbered 2 2 (filetime_hilo low high) (omega arith) (omega arith) (number_stamp_answers.0 low high),
      (
        λ high low. numbered 1 0 (vmsd_pair high low) (omega arith) (omega arith) (number_stamp_answers.1.0 high low),
        (
          λ s n. numbered 12 12 (unix_sec_nsec s n) (omega arith) (omega arith) (number_stamp_answers.1.1 s n),
          (
            λ stamp. numbered 3 10 (oracle_date stamp) (omega arith) (omega arith) (byte_stamp_answers stamp).0,
            (
              λ stamp. numbered 3 10 (cp56 stamp) (omega arith) (omega arith) (byte_stamp_answers stamp).1.0,
              λ stamp. numbered 3 10 (udf_stamp stamp) (omega arith) (omega arith) (byte_stamp_answers stamp).1.1,
            ),
          ),
        ),
      ),
    ),
  ),
)

module _ {A : Type 0} (bytes : A → List ℕ) (old : List ℕ) where
  settled : (row : Bool) (answer : Answer A) → Numbered answer → Settled bytes old answer (handed bytes old (cond row answer (refused 11)))
  settled true (gives x) h = record { told = λ e. (x, (refl, refl)); kept = λ no. absurd (no refl) }
  settled true (refused n) h = record { told = λ e. absurd (omega (arith, h.0)); kept = λ no. refl }
  settled false answer h = record { told = λ e. absurd (omega arith); kept = λ no. refl }

pub each_settled : EachSettled
unfolding instant_call word_call
each_settled = (λ answer old h. settled instant_bytes old (eqb (length old) 12) answer h, λ answer old h. settled word_bytes old (eqb (length old) 8) answer h)

pub one_answer : OneAnswer
one_answer left r s x y p q = (p.0 ∙ sym q.0, p.1 ∙ sym q.1)
