-- After i turns the first i values stand in the space and the others are as they were.
use mathlib.Core.Path.{◌∙◌}
use native.Mathlib.Omega.{arith}
use lib.IntN.{pos}
use mir.Syntax.{w32}
use mir.ValLaws.{to_z-of_z}
use Rattle.paper.specs.File.{coordinate_in}
use Rattle.mesh.proofs.Fills.{filled_none, filled_step}
use Rattle.dms_lists.proofs.lists.read_coordinates.Goals as goal

pub loop-i-init : goal.loop-i-init
loop-i-init c = filled_none (coordinate_in c.args.file.now) c.args.out.now

pub loop-i-preserved : goal.loop-i-preserved
loop-i-preserved c =
    let l = c.loop-i in
    filled_step (coordinate_in c.args.file.now) c.args.out.now l.i l.out _ (pos 0) (omega arith) l.invariant
    (to_z-of_z w32 c.coordinate.result (record { sfits = c.coordinate.type_inv }) ∙ c.coordinate.ensures)
