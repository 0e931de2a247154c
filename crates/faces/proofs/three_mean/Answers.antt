-- `faces::three_mean` meets its contract: the points are read, and the formula answers for every ring of them.
use borrow.Author.Rules.{rules}
use mir.Syntax.{w32}
use mir.Val.{SFits}
use mir.Facts.{to_z-of_z}
use Rattle.faces.proofs.Few.{read, three_centre}
use Rattle.faces.proofs.three_mean.Goals as goal

pub returns : goal.returns
returns c =
    let k = c.requires in
    let v = (read _ _ c.point.ensures k.0.1).0 in
    let w = (read _ _ c.point-2.ensures k.1.1).0 in
    let x = (read _ _ c.point-3.ensures k.2.1).0 in
    let f : SFits w32 c.mean_of_three.result = search rules in
    rw (to_z-of_z f) (three_centre _ _ _ _ (rw (v, w, x) at c.mean_of_three.ensures))
