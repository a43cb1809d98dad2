-- Which refusals a decoder and an encoder give, rule by rule. Assumes nothing.
use Prim.Native.Nat.{ℕ, ◌*◌, ◌/◌, ◌%◌, ◌+◌, ◌^◌, ◌≤◌}
use mathlib.Core.Bool.{Bool, true, false, ◌&&◌}
use native.Mathlib.Omega.{arith}
use borrow.Author.Tests.{lt-leb}
use lib.Dec.{eqb, ltb, leb}
use lib.IntN.{ℤ, pos, negsuc, neg_ℤ, ◌+ℤ◌, ◌-ℤ◌}
use lib.Signed.{le_z, lt_z}
use Rattle.refusal.specs.Answers.{Answer, gives, refused}
use Rattle.refusal.specs.Ranges.{RefusedWithin}
use Rattle.refusal.proofs.Ranges.{by_test}
use Rattle.signed.specs.Floor.{floor_div, floor_rem}
use Rattle.instant.specs.Answers.{at_nanos, with_nanos}
use Rattle.instant.specs.Ranges.{GoodWithin}
use Rattle.instant.proofs.Ranges.{at_nanos_lem}
use Rattle.instant.specs.declared.instants.Instant.{Instant}
use Rattle.day_time.specs.declared.times.Civil as civil
use Rattle.day_time.specs.Times.{good, in_window, seconds_of, fields_at}
use Rattle.day_time.specs.Answers.{fields_for}
use Rattle.byte_orders.specs.Orders.{ordered}
use Rattle.layouts.specs.Layouts.{layout_for}
use Rattle.layouts.specs.declared.layouts.Layout.{Layout}
use Rattle.unpacking.specs.Reading.{fields_in, read_by}
use Rattle.packing.specs.Writing.{writes, write_fields}
use Rattle.counts.specs.Nokia.{nokia_decode, nokia_word, nokia_encode}
use Rattle.counts.specs.Sql.{sql_ticks, sql_decode, day_word, nearest_tick, sql_word, sql_encode}
use Rattle.registry.specs.Words.{seconds_in, local_decode, less_zone, in_zone, then_zone, fields_decode, fields_encode}
use Rattle.registry.specs.Promises.{DecoderAnswers, EncoderRefusals, NanosFirst}
use Rattle.registry.specs.declared.rules.Rule.TheVariants.{Civil, NokiaLe, SqlServer}

-- ---- decoding

seconds_in_lem : (x : Answer civil.Civil) → RefusedWithin 2 5 x → RefusedWithin 2 5 (seconds_in x)
seconds_in_lem (gives c) h = by_test (RefusedWithin 2 5) (good c) (gives (seconds_of c)) (refused 3) tt (omega arith, omega arith)
seconds_in_lem (refused n) h = h

read_by_lem : (l : Layout) (w : ℕ) → RefusedWithin 2 5 (read_by l w)
read_by_lem l w = let p = ordered l.order w in by_test (RefusedWithin 2 5) (ltb p l.words) (gives (fields_in l p)) (refused 2) tt (omega arith, omega arith)

in_zone_lem : (b : Bool) (z : ℕ) (t : Instant) → t.nanos ≤ 999999999 → GoodWithin 2 5 (in_zone b z t)
unfolding less_zone
in_zone_lem true z t h = by_test (GoodWithin 2 5) (leb (z / 16) 9) _ (refused 4) h (omega arith, omega arith)
in_zone_lem false z t h = h

then_zone_lem : (b : Bool) (z : ℕ) (x : Answer Instant) → GoodWithin 2 5 x → GoodWithin 2 5 (then_zone b z x)
then_zone_lem b z (gives t) h = in_zone_lem b z t h
then_zone_lem b z (refused n) h = h

pub decoder_answers : DecoderAnswers
unfolding fields_decode local_decode nokia_decode sql_decode
decoder_answers (Civil k) w =
    let l = layout_for k in
    let x = seconds_in (read_by l w) in
    then_zone_lem l.zoned (w % 2 ^ 8) (at_nanos 0 x) (at_nanos_lem 2 5 0 x (omega arith) (seconds_in_lem (read_by l w) (read_by_lem l w)))
decoder_answers NokiaLe w = by_test (GoodWithin 2 5) (ltb w (2 ^ 32)) _ (refused 2) (omega arith) (omega arith, omega arith)
decoder_answers SqlServer w = by_test (GoodWithin 2 5) (ltb (sql_ticks w) 25920000) _ (refused 5) (omega arith) (omega arith, omega arith)

-- ---- encoding

writing : (l : Layout) (x : Answer civil.Civil) → RefusedWithin 6 9 x → RefusedWithin 6 9 (write_fields l x)
writing l (gives c) h = by_test (RefusedWithin 6 9) (writes l c.year) _ (refused 7) tt (omega arith, omega arith)
writing l (refused n) h = h

with_nanos_lem : (t : Instant) (x : Answer ℤ) → RefusedWithin 6 9 x → RefusedWithin 6 9 (with_nanos t x)
with_nanos_lem t x h = by_test (RefusedWithin 6 9) (leb t.nanos 999999999) x (refused 9) h (omega arith, omega arith)

nokia : (z : ℤ) → RefusedWithin 6 9 (nokia_word z)
nokia (pos p) = by_test (RefusedWithin 6 9) (ltb p (2 ^ 32)) _ (refused 8) tt (omega arith, omega arith)
nokia (negsuc n) = (omega arith, omega arith)

day : (d : ℤ) (k : ℕ) → RefusedWithin 6 9 (day_word d k)
day d k = by_test (RefusedWithin 6 9) (le_z (neg_ℤ (pos (2 ^ 31))) d && lt_z d (pos (2 ^ 31))) _ (refused 8) tt (omega arith, omega arith)

sql : (z : ℤ) (n : ℕ) → RefusedWithin 6 9 (sql_word z n)
unfolding sql_word
sql z n =
    let d = floor_div z 86400 in
    let k = nearest_tick (floor_rem z 86400 * 1000000000 + n) in
    by_test (RefusedWithin 6 9) (eqb k 25920000) (day_word (d +ℤ pos 1) 0) (day_word d k) (day (d +ℤ pos 1) 0) (day d k)

pub encoder_refusals : EncoderRefusals
unfolding fields_encode nokia_encode sql_encode
encoder_refusals (Civil k) t =
    let l = layout_for k in
    with_nanos_lem t (write_fields l (fields_for t.seconds))
    (writing l (fields_for t.seconds) (by_test (RefusedWithin 6 9) (in_window t.seconds) (gives (fields_at t.seconds)) (refused 6) tt (omega arith, omega arith)))
encoder_refusals NokiaLe t = with_nanos_lem t _ (nokia (t.seconds +ℤ pos 4294967295 -ℤ pos 2524608000))
encoder_refusals SqlServer t = with_nanos_lem t _ (sql (t.seconds +ℤ pos 2208988800) t.nanos)

pub nanos_first : NanosFirst
unfolding fields_encode nokia_encode sql_encode
nanos_first (Civil k) t h = simp (lt-leb t.nanos 999999999 h)
nanos_first NokiaLe t h = simp (lt-leb t.nanos 999999999 h)
nanos_first SqlServer t h = simp (lt-leb t.nanos 999999999 h)
