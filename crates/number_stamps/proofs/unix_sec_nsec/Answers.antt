-- `unix_sec_nsec` meets its contract: the test leaves room for what is carried. Assumes nothing.
use mathlib.Core.Path.{◌≡◌, sym, ◌∙◌, ap}
use mathlib.Core.Bool.{false}
use Prim.Native.Nat.{ℕ, ◌/◌, ◌<◌, ◌^◌}
use lib.IntN.{pos, ◌-ℤ◌}
use lib.Signed.{lt_z}
use mir.Syntax.{w64}
use mir.Val.{to_z}
use mir.Facts.{to_z-of_z, to_z_pos}
use Rattle.number_stamps.proofs.NumberStamps.{room_fits, no_room, carry_fits, carries}
use native.Mathlib.Omega.{arith}
use Rattle.refusal.specs.Answers.{gives}
use Rattle.number_stamps.proofs.unix_sec_nsec.Goals as goal

-- what is carried, as the machine reads it back
carry : (n : ℕ) → n < 2 ^ 32 → to_z w64 (n / 1000000000) ≡ pos (n / 1000000000)
carry n h = to_z_pos w64 (omega arith)

pub returns-then-carry-seconds : goal.returns-then-carry-seconds
returns-then-carry-seconds c =
    let s = c.args in
    sym (no_room s.seconds s.nanos (omega arith) (rw (carry s.nanos (omega arith), to_z-of_z (room_fits s.nanos (omega arith)), to_z-of_z c.ranges.seconds) at c.if-carry-seconds.true))

pub returns : goal.returns
returns c =
    let s = c.args in
    let left : lt_z (pos 9223372036854775807 -ℤ pos (s.nanos / 1000000000)) s.seconds ≡ false =
    rw (carry s.nanos (omega arith), to_z-of_z (room_fits s.nanos (omega arith)), to_z-of_z c.ranges.seconds) at c.if-carry-seconds.false in
    let f = carry_fits s.seconds s.nanos (omega arith) c.ranges.seconds left in
    ap gives (rw (carry s.nanos (omega arith), to_z-of_z c.ranges.seconds, to_z-of_z f) at c.new.ensures)
    ∙ sym (carries s.seconds s.nanos (omega arith) c.ranges.seconds left)
