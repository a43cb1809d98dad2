-- `decimal::write::text_of` meets its contract: by the sign of z. Its size has at most 19 digits, so that a minus has
-- room in front of them. Assumes nothing.
use Rattle.std.proofs.Common.{◌≡◌, ℕ, nat_abs, sym, ap, ◌∙◌, arith, to_z-of_z}
use Rattle.decimal.specs.Write.{show_nat, show_int, at_end}
use Rattle.decimal.proofs.Writing.{length_show, length_int, show_negative, show_natural}
use Rattle.decimal.proofs.AtEnd.{from_at, lent, one_more}
use Rattle.decimal.proofs.write.text_of.Goals as goal
use Rattle.decimal.proofs.write.text_of.Goals.{After-digits_of-digits}

-- the digits
shown : (c : After-digits_of-digits) → c.digits_of-digits.result ≡ at_end (show_nat (nat_abs c.args.z))
shown c = c.digits_of-digits.ensures ∙ ap (λ (n : ℕ). at_end (show_nat n)) (rw (to_z-of_z c.ranges.z) at c.unsigned_abs.ensures.value)

pub overflow_sub-from : goal.overflow_sub-from
overflow_sub-from c =
    let e = shown (goal.at.overflow_sub-from c).After-digits_of-digits in omega (arith, from_at _ e, length_show (nat_abs c.args.z))

pub bounds-bytes-from : goal.bounds-bytes-from
bounds-bytes-from c =
    let e = shown (goal.at.bounds-bytes-from c).After-digits_of-digits in omega (arith, from_at _ e, length_show (nat_abs c.args.z))

pub returns-then-z-lt0 : goal.returns-then-z-lt0
returns-then-z-lt0 c =
    let z = c.args.z in
    let e = show_negative z (rw (to_z-of_z c.ranges.z) at c.if-z-lt0.true) in
    let h = lent (show_int z) (length_int z) (one_more 45 _ (shown (goal.at.returns-then-z-lt0 c).After-digits_of-digits) (length_show (nat_abs z)) ∙ ap at_end (sym e)) in
    record { value = h.0; text = h.1.0; start = h.1.1.0; room = h.1.1.1 }

pub returns : goal.returns
returns c =
    let z = c.args.z in
    let e = show_natural z (rw (to_z-of_z c.ranges.z) at c.if-z-lt0.false) in
    let h = lent (show_int z) (length_int z) (shown (goal.at.returns c).After-digits_of-digits ∙ ap at_end (sym e)) in
    record { value = h.0; text = h.1.0; start = h.1.1.0; room = h.1.1.1 }
