-- What holds of the definitions. Each is proved in proofs/Promises.antt.
use Rattle.std.specs.Prelude.{ℕ, ◌≡◌, Bool, true, false, ◌||◌, nat_lt, ℤ, pos, negsuc}
use Rattle.lines.specs.Answers.{refused_text, answer_text}
use Rattle.lines.specs.declared.questions.Question.TheVariants as question

-- a number that is not one from low to high
abbrev pub outside : ℕ → ℕ → ℤ → Bool
outside low high (pos n) = nat_lt n low || nat_lt high n
outside low high (negsuc n) = true

-- a LAYOUT outside 1 to 16 is refused under 1, whatever else the line says, and then NANOS outside 0 to 999,999,999 under 9
abbrev pub OneThenNine : Type 0
OneThenNine =
    ((layout word : ℤ) → outside 1 16 layout ≡ true → answer_text (question.Decode layout word) ≡ refused_text 1)
    × ((layout seconds nanos : ℤ) → outside 1 16 layout ≡ true
    → answer_text (question.Encode layout seconds nanos) ≡ refused_text 1)
    × ((layout seconds nanos : ℤ) → outside 1 16 layout ≡ false → outside 0 999999999 nanos ≡ true
    → answer_text (question.Encode layout seconds nanos) ≡ refused_text 9)
