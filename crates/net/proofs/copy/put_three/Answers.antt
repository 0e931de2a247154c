-- `net::copy::put_three` meets its contract.
use native.Mathlib.Omega.{arith}
use lib.ListN.{length-set}
use mir.Facts.{to_z-of_z}
use Rattle.net.proofs.copy.Copies.{three_put}
use Rattle.net.proofs.copy.put_three.Goals as goal

pub returns : goal.returns
returns c =
    rw (to_z-of_z c.ranges.x, to_z-of_z c.ranges.y, to_z-of_z c.ranges.z) (three_put c.args.x c.args.y c.args.z c.args.to c.args.out.now c.requires)

pub bounds-out-to-2 : goal.bounds-out-to-2
bounds-out-to-2 c = simp length-set (omega (arith, c.requires))

pub bounds-out-to-3 : goal.bounds-out-to-3
bounds-out-to-3 c = simp length-set (omega (arith, c.requires))
