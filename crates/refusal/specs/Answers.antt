-- What a call answers, in the words of the list of refusal numbers: a value, or a number and nothing else.
use Rattle.std.specs.Prelude.{ℕ, Result, Ok, Err}
use Rattle.refusal.specs.declared.Refusal.{Refusal}
use Rattle.refusal.specs.declared.Refusal.TheVariants as refusal

pub data Answer (A : Type 0) : Type 0 where
  gives : A → Answer A
  refused : ℕ → Answer A

-- the number of a refusal on the list
abbrev pub refusal_number : Refusal → ℕ
refusal_number refusal.Layout = 1
refusal_number refusal.Range = 2
refusal_number refusal.Fields = 3
refusal_number refusal.Zone = 4
refusal_number refusal.Ticks = 5
refusal_number refusal.Window = 6
refusal_number refusal.Year = 7
refusal_number refusal.Count = 8
refusal_number refusal.Nanos = 9
refusal_number refusal.Length = 10
refusal_number refusal.Rows = 11
refusal_number refusal.Carry = 12
refusal_number refusal.Column = 13

-- how a call's result is read
abbrev pub answer_of : {A : Type 0} → Result A Refusal → Answer A
answer_of (Ok x) = gives x
answer_of (Err why) = refused (refusal_number why)
