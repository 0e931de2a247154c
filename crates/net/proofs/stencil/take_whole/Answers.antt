-- `net::stencil::take_whole` meets its contract: four numbers are read and put.
use mathlib.Core.Path.{◌∙◌}
use borrow.Author.Rules.{rules}
use mir.Syntax.{w32}
use mir.Val.{SFits}
use mir.Facts.{to_z-of_z}
use Rattle.net.proofs.stencil.Taken.{whole_taken}
use Rattle.net.proofs.stencil.take_whole.Goals as goal
use Rattle.net.proofs.stencil.take_whole.Goals.{After-point-w, After-point-x, After-point-y, After-point-z}

pub returns : goal.returns
returns c =
    let w = c in
    let z = c in
    let y = c in
    let x = c in
    let fx : SFits w32 x.point-x.result = search rules in
    let fy : SFits w32 y.point-y.result = search rules in
    let fz : SFits w32 z.point-z.result = search rules in
    let fw : SFits w32 w.point-w.result = search rules in
    let p = c.put_four.ensures in
    whole_taken _ _ _ _ _ _ _ _ _ (to_z-of_z fx ∙ x.point-x.ensures) (to_z-of_z fy ∙ y.point-y.ensures) (to_z-of_z fz ∙ z.point-z.ensures)
    (to_z-of_z fw ∙ w.point-w.ensures) p.0 p.1
