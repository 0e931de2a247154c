-- `floats::store` meets its contract: six stores.
use native.Mathlib.Omega.{arith}
use lib.ListN.{length-set}
use Rattle.floats.proofs.store.Goals as goal

pub bounds-floats-at-2 : goal.bounds-floats-at-2
bounds-floats-at-2 c = simp length-set (omega arith)

pub bounds-floats-at-3 : goal.bounds-floats-at-3
bounds-floats-at-3 c = simp length-set (omega arith)

pub bounds-floats-at-4 : goal.bounds-floats-at-4
bounds-floats-at-4 c = simp length-set (omega arith)

pub bounds-floats-at-5 : goal.bounds-floats-at-5
bounds-floats-at-5 c = simp length-set (omega arith)

pub bounds-floats-at-6 : goal.bounds-floats-at-6
bounds-floats-at-6 c = simp length-set (omega arith)
