-- `net::lanes::ring_face` meets its contract: three numbers are read.
use mathlib.Core.Path.{◌∙◌}
use borrow.Author.Rules.{rules}
use mir.Syntax.{w32}
use mir.Val.{SFits}
use mir.Facts.{to_z-of_z}
use Rattle.net.proofs.lanes.ring_face.Goals as goal
use Rattle.net.proofs.lanes.ring_face.Goals.{After-point, After-point-2}

pub returns : goal.returns
returns c =
    let p = c in
    let q = c in
    let fp : SFits w32 p.point.result = search rules in
    let fq : SFits w32 q.point-2.result = search rules in
    let fr : SFits w32 c.point-3.result = search rules in
    cc (to_z-of_z fp ∙ p.point.ensures, to_z-of_z fq ∙ q.point-2.ensures, to_z-of_z fr ∙ c.point-3.ensures)
