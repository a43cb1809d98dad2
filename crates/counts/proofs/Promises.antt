-- The proof of what specs/Promises.antt states. Assumes nothing.
use native.Mathlib.Omega.{arith}
use Rattle.counts.specs.Promises.{NearTick}

pub near_tick : NearTick
near_tick r = (omega arith, omega arith)
