-- `net::copy::put_four` meets its contract.
use mathlib.Core.Path.{◌∙◌}
use Prim.Native.Nat.{◌+◌}
use native.Mathlib.Omega.{arith}
use lib.Seq.{get_or-set_same}
use mir.Facts.{to_z-of_z}
use Rattle.net.proofs.copy.Copies.{four_put}
use Rattle.net.proofs.copy.put_four.Goals as goal
use Rattle.net.proofs.copy.put_four.Goals.{Start}

pub returns : goal.returns
returns c =
    let s = c in
    let p = rw (to_z-of_z s.ranges.x, to_z-of_z s.ranges.y, to_z-of_z s.ranges.z) at c.put_three.ensures in
    (four_put _ _ _ _ _ _ _ p, get_or-set_same c.put_three.new.out (s.args.to + 3) _ _ (omega (arith, s.requires, p.same)) ∙ to_z-of_z s.ranges.w)
