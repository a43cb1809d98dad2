-- What an answer says of the test behind it, how it is handed on, and why a contract allows one answer only.
use mathlib.Core.Path.{◌≡◌, refl, sym, ap, ◌∙◌}
use mathlib.Core.Bool.{Bool, true, false, cond}
use Prim.Native.Nat.{ℕ}
use native.Mathlib.Omega.{arith}
use Rattle.std.specs.Prelude.{Err}
use Rattle.refusal.specs.Answers.{Answer, gives, refused, refusal_number, answer_of}
use Rattle.refusal.specs.declared.Refusal.{Refusal}

-- a refusal is no value
pub clash : {A : Type 0} (n : ℕ) (a : A) (x : Answer A) → x ≡ refused n → x ≡ gives a → ⊥
clash n a x p q = let z : ◌≡◌ {A = ℕ} 0 1 = cc in omega arith

-- an answer by a test: refused where it failed, the value where it held
pub failed : {A : Type 0} (b : Bool) (v : A) (k n : ℕ) → refused n ≡ cond b (gives v) (refused k) → b ≡ false
failed true v k n e = absurd (clash n v (refused n) refl e)
failed false v k n e = refl

pub held : {A : Type 0} (b : Bool) (a v : A) (k : ℕ) → gives a ≡ cond b (gives v) (refused k) → (b ≡ true) × (a ≡ v)
held true a v k e = (refl, cc)
held false a v k e = absurd (clash k a (gives a) e refl)

-- an answer that is given under a test: the test held
pub given_under : {A : Type 0} (b : Bool) (x : Answer A) (k : ℕ) (v : A) → cond b x (refused k) ≡ gives v → (b ≡ true) × (x ≡ gives v)
given_under true x k v e = (refl, e)
given_under false x k v e = absurd (clash k v (refused k) refl e)

-- an answer that is made of another hands its refusal on, and so does the code that makes it
pub handed_on : {A B : Type 0} (f : Answer A → Answer B) → ((n : ℕ) → f (refused n) ≡ refused n) → (why : Refusal) {x : Answer A} → answer_of {A = A} (Err why) ≡ x → answer_of {A = B} (Err why) ≡ f x
handed_on f h why e = sym (h (refusal_number why)) ∙ ap f e

-- where an answer can be told by its reading, a contract `read r ≡ x` allows one answer
pub only : {R A : Type 0} (read : R → Answer A) → ((a b : R) → read a ≡ read b → a ≡ b) → (x : Answer A) (a b : R) → read a ≡ x → read b ≡ x → a ≡ b
only read told x a b p q = told a b (p ∙ sym q)
