-- What holds of the orders. Each is proved in proofs/Promises.antt.
use Rattle.std.specs.Prelude.{◌≡◌, ◌↔◌, ℕ, ◌^◌, ◌<◌}
use Rattle.byte_orders.specs.Orders.{reversed, year_swapped, ordered}
use Rattle.byte_orders.specs.declared.Order.{Order}

-- each order undoes itself
abbrev pub UndoesItself : Type 0
UndoesItself = (o : Order) (p : ℕ) → ordered o (ordered o p) ≡ p

-- four bytes reversed are within 32 bits just where they were, and a year's bytes exchanged within 56
abbrev pub SameRange : Type 0
SameRange = ((p : ℕ) → (reversed p < 2 ^ 32) ↔ (p < 2 ^ 32)) × ((p : ℕ) → (year_swapped p < 2 ^ 56) ↔ (p < 2 ^ 56))

-- a word of 63 bits is one of 63 bits in every order
abbrev pub StaysBelow : Type 0
StaysBelow = (o : Order) (p : ℕ) → p < 2 ^ 63 → ordered o p < 2 ^ 63
