-- How large the values are that an answer of the calendar gives. Assumes nothing.
use mathlib.Core.Path.{◌≡◌}
use Prim.Native.Nat.{◌<◌, ◌^◌}
use lib.IntN.{ℤ}
use lib.Signed.{mag}
use Rattle.refusal.specs.Answers.{gives}
use Rattle.refusal.proofs.Answers.{held}
use Rattle.day_time.specs.Answers.{seconds_for, fields_for}
use Rattle.day_time.specs.Times.{in_window, good, seconds_of, fields_at}
use Rattle.day_time.specs.Promises.{Ranged}
use Rattle.day_time.specs.declared.times.Civil.{Civil}
use Rattle.day_time.proofs.Promises.{its_window, window_size, field_ranges}

-- seconds that are given are small
pub small_seconds : (c : Civil) {s : ℤ} → gives s ≡ seconds_for c → mag s < 2 ^ 39
small_seconds c {s} e =
    let h = held (good c) s (seconds_of c) 3 e in
    rw h.1 (window_size (seconds_of c) (its_window c h.0))

-- fields that are given are in their ranges
pub ranged_fields : (s : ℤ) {c : Civil} → gives c ≡ fields_for s → Ranged c
ranged_fields s {c} e =
    let h = held (in_window s) c (fields_at s) 6 e in
    rw h.1 (field_ranges s h.0)
