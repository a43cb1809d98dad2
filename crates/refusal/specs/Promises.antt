-- What holds of every call's answer. It is proved in proofs/Promises.antt.
use Rattle.std.specs.Prelude.{◌≡◌, Result}
use Rattle.refusal.specs.Answers.{Answer, answer_of}
use Rattle.refusal.specs.declared.Refusal.{Refusal}

-- one answer: whatever a definition says, all that a contract allows as its reading is equal
abbrev pub OneAnswer : Type 1
OneAnswer = (A : Type 0) (x : Answer A) (a b : Result A Refusal) → answer_of a ≡ x → answer_of b ≡ x → a ≡ b
