-- Proof of what specs/Promises.antt states: a refusal is told by its number, so an answer is told by its reading.
use mathlib.Core.Path.{◌≡◌, refl, sym, ap, ◌∙◌}
use Prim.Native.Nat.{ℕ, ◌-◌}
use Rattle.std.specs.Prelude.{Result, Ok, Err, [], ◌∷◌}
use lib.ListN.{get_or}
use Rattle.refusal.specs.Answers.{Answer, gives, refused, refusal_number, answer_of}
use Rattle.refusal.proofs.Answers.{only}
use Rattle.refusal.specs.Promises.{OneAnswer}
use Rattle.refusal.specs.declared.Refusal.{Refusal}
use Rattle.refusal.specs.declared.Refusal.TheVariants as refusal

-- the refusals in the order of their numbers, which count from 1
abbrev refusal_at : ℕ → Refusal
refusal_at n =
    get_or (refusal.Layout ∷ refusal.Range ∷ refusal.Fields ∷ refusal.Zone ∷ refusal.Ticks ∷ refusal.Window ∷ refusal.Year ∷ refusal.Count ∷ refusal.Nanos ∷ refusal.Length ∷ refusal.Rows ∷ refusal.Carry ∷ refusal.Column ∷ []) (n - 1) refusal.Layout

back : (why : Refusal) → refusal_at (refusal_number why) ≡ why
back refusal.Layout = refl
back refusal.Range = refl
back refusal.Fields = refl
back refusal.Zone = refl
back refusal.Ticks = refl
back refusal.Window = refl
back refusal.Year = refl
back refusal.Count = refl
back refusal.Nanos = refl
back refusal.Length = refl
back refusal.Rows = refl
back refusal.Carry = refl
back refusal.Column = refl

-- the result of an answer
abbrev read_back : {A : Type 0} → Answer A → Result A Refusal
read_back (gives x) = Ok x
read_back (refused n) = Err (refusal_at n)

result_back : {A : Type 0} (r : Result A Refusal) → read_back (answer_of r) ≡ r
result_back (Ok x) = refl
result_back (Err why) = ap Err (back why)

told : {A : Type 0} (a b : Result A Refusal) → answer_of a ≡ answer_of b → a ≡ b
told a b e = sym (result_back a) ∙ ap read_back e ∙ result_back b

pub one_answer : OneAnswer
one_answer A x a b p q = only answer_of told x a b p q
