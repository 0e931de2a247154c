-- `walk::read` meets its contract: a number of 16 bits fits a wider type.
use Prim.Native.Nat.{◌+◌, ◌*◌}
use native.Mathlib.Omega.{arith}
use Rattle.walk.specs.Table.{row_length}
use Rattle.walk.proofs.read.Goals as goal

pub overflow_cast-result : goal.overflow_cast-result
overflow_cast-result c = omega (arith, c.type_inv.table (row_length * c.args.corner + c.args.column))
