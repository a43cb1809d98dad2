-- What is lent and written behind the first k bytes of a row. Assumes nothing.
use Prim.Native.Nat.{ℕ, ◌-◌, ◌≤◌}
use mathlib.Core.Path.{◌≡◌}
use mathlib.Core.List.{List, ◌++◌, append-nil}
use native.Mathlib.Omega.{arith}
use lib.ListN.{length, take, drop, drop_of_length-le, length-append}
use lib.Seq.{take_all, take_at, drop_at}
use borrow.Rule.Slice.PartMut.{put_mid}

-- behind the first k bytes: what is written through `&mut s[k..]`, and what is lent so
pub put_tail : (p r q : List ℕ) (k : ℕ) → length p ≡ k → length q ≡ length r → put_mid k (length (p ++ r) - k) (p ++ r) q ≡ p ++ q
put_tail p r q k h l =
    let e : length r ≤ length (p ++ r) - k = omega (arith, length-append p r) in
    rw (take_at p r k h, drop_at p r k h, drop_of_length-le r e, append-nil q)

pub lent_tail : (p r : List ℕ) (k : ℕ) → length p ≡ k → take (length (p ++ r) - k) (drop k (p ++ r)) ≡ r
lent_tail p r k h =
    let e : length r ≤ length (p ++ r) - k = omega (arith, length-append p r) in
    rw (drop_at p r k h, take_all (length (p ++ r) - k) r e)
