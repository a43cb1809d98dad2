-- `put` meets its contract: before each turn the bytes that are written stand in front of those that are to come. Assumes
-- nothing.
use Rattle.std.proofs.Common.{◌≡◌, ◌-◌, ◌++◌, length, take}
use Rattle.octets.specs.Octets.{bytes_of}
use Rattle.octets.proofs.put.Given as goal

abbrev pub invariant-loop-byte : goal.invariant-loop-byte
invariant-loop-byte l = bytes_of (length l.initial.dst) l.n ≡ take l.byte-index l.dst ++ bytes_of (length l.initial.dst - l.byte-index) l.left
