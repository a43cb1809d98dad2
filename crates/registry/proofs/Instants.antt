-- What is decoded by civil fields, where the layout has no zone. Assumes nothing.
use mathlib.Core.Path.{◌≡◌, refl, ap, ◌∙◌}
use mathlib.Core.Bool.{Bool, true, false, cond}
use Prim.Native.Nat.{ℕ, ◌%◌, ◌^◌}
use lib.Dec.{ltb}
use Rattle.refusal.specs.Answers.{Answer, gives, refused}
use Rattle.instant.specs.Answers.{at_nanos}
use Rattle.instant.specs.declared.instants.Instant.{Instant}
use Rattle.day_time.specs.Answers.{seconds_for}
use Rattle.day_time.specs.declared.times.Civil.{Civil}
use Rattle.byte_orders.specs.Orders.{ordered}
use Rattle.layouts.specs.declared.layouts.Layout.{Layout}
use Rattle.unpacking.specs.Reading.{fields_in}
use Rattle.registry.specs.Words.{seconds_in, local_decode, then_zone, fields_decode}

-- the range, tested once
in_range_lem : (b : Bool) (c : Civil) → at_nanos 0 (seconds_in (cond b (gives c) (refused 2))) ≡ cond b (at_nanos 0 (seconds_for c)) (refused 2)
in_range_lem true c = refl
in_range_lem false c = refl

pub local_is : (l : Layout) (w : ℕ) → let p = ordered l.order w in local_decode l w ≡ cond (ltb p l.words) (at_nanos 0 (seconds_for (fields_in l p))) (refused 2)
unfolding local_decode
local_is l w = let p = ordered l.order w in in_range_lem (ltb p l.words) (fields_in l p)

-- a layout without a zone says its local instant
no_zone_then : (z : ℕ) (x : Answer Instant) → then_zone false z x ≡ x
no_zone_then z (gives t) = refl
no_zone_then z (refused n) = refl

pub unzoned : (l : Layout) (w : ℕ) → l.zoned ≡ false → fields_decode l w ≡ local_decode l w
unfolding fields_decode
unzoned l w e = ap (λ b. then_zone b (w % 2 ^ 8) (local_decode l w)) e ∙ no_zone_then (w % 2 ^ 8) (local_decode l w)
