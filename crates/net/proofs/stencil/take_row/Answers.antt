-- `net::stencil::take_row` meets its contract.
use borrow.Author.Rules.{rules}
use mir.Syntax.{w32}
use mir.Val.{SFits}
use mir.Facts.{to_z-of_z}
use Rattle.net.proofs.stencil.take_row.Goals as goal
use Rattle.net.proofs.stencil.take_row.Goals.{Start}

pub returns : goal.returns
returns c =
    let s = c in
    let fx : SFits w32 s.args.p.x = search rules in
    let fy : SFits w32 s.args.p.y = search rules in
    let fz : SFits w32 s.args.p.z = search rules in
    rw (to_z-of_z fx, to_z-of_z fy, to_z-of_z fz) at c.put_three.ensures
