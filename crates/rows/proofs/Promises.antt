-- Proofs of what specs/Promises.antt states. Assumes nothing.
use Prim.Native.Nat.{ℕ, ◌/◌, ◌%◌}
use mathlib.Core.Path.{◌≡◌, refl}
use mathlib.Core.Bool.{cond, ◌&&◌}
use native.Mathlib.Omega.{arith}
use borrow.Author.Tests.{eqb-true, leb-true}
use lib.Dec.{eqb, leb}
use lib.ListN.{length-append}
use lib.Seq.{take_at, drop_at, take_all}
use mir.Syntax.{w64}
use mir.Val.{of_z}
use mir.Facts.{to_z-of_z, Fits-of_z}
use Rattle.refusal.specs.Answers.{gives, refused}
use Rattle.refusal.proofs.Answers.{given_under}
use Rattle.refusal.specs.Ranges.{RefusedWithin}
use Rattle.refusal.proofs.Ranges.{by_test}
use Rattle.signed.proofs.Tests.{and_left, and_right}
use Rattle.octets.specs.Octets.{bytes_of}
use Rattle.octets.proofs.Promises.{many, comes_back}
use Rattle.rows.specs.Counted.{rows_in}
use Rattle.rows.specs.Promises.{RowLengths, InstantComesBack, RowsAreWhole, RowRefusals}

pub row_lengths : RowLengths
row_lengths = (
  λ t. rw (length-append (bytes_of 8 (of_z w64 t.seconds)) (bytes_of 4 t.nanos), many 8 (of_z w64 t.seconds), many 4 t.nanos) refl,
  λ z. many 8 (of_z w64 z),
)

pub instant_comes_back : InstantComesBack
instant_comes_back t f h =
    let s = bytes_of 8 (of_z w64 t.seconds) in
    let n = bytes_of 4 t.nanos in
    let l = many 8 (of_z w64 t.seconds) in
    rw (take_at s n 8 l, drop_at s n 8 l, take_all 4 n (omega (arith, many 4 t.nanos)), comes_back 8 (of_z w64 t.seconds) (omega (arith, Fits-of_z f)), comes_back 4 t.nanos (omega arith), to_z-of_z f)

pub rows_are_whole : RowsAreWhole
unfolding rows_in
rows_are_whole n m k e =
    let g = given_under (eqb (n % 8) 0 && (eqb (m % 12) 0 && eqb (m / 12) (n / 8))) (cond (leb (n / 8) 1048576) (gives (n / 8)) (refused 13)) 11 k e in
    let f = given_under (leb (n / 8) 1048576) (gives (n / 8)) 13 k g.1 in
    let is : n / 8 ≡ k = same f.1 in
    let w = eqb-true (n % 8) 0 (and_left (eqb (n % 8) 0) (eqb (m % 12) 0 && eqb (m / 12) (n / 8)) g.0) in
    let r = and_right (eqb (n % 8) 0) (eqb (m % 12) 0 && eqb (m / 12) (n / 8)) g.0 in
    let i = eqb-true (m % 12) 0 (and_left (eqb (m % 12) 0) (eqb (m / 12) (n / 8)) r) in
    let q = eqb-true (m / 12) (n / 8) (and_right (eqb (m % 12) 0) (eqb (m / 12) (n / 8)) r) in
    record { words = omega (arith, w, is); instants = omega (arith, i, q, is); few = omega (arith, leb-true (n / 8) 1048576 f.0, is) }
  where
    same : {a b : ℕ} → gives a ≡ gives b → a ≡ b
    same e = cc

pub row_refusals : RowRefusals
unfolding rows_in
row_refusals n m =
    by_test (RefusedWithin 11 13) (eqb (n % 8) 0 && (eqb (m % 12) 0 && eqb (m / 12) (n / 8))) _ (refused 11)
    (by_test (RefusedWithin 11 13) (leb (n / 8) 1048576) (gives (n / 8)) (refused 13) tt (omega arith, omega arith))
    (omega arith, omega arith)
