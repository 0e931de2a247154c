-- `net::stencil::take_face` meets its contract, by cases on the sides.
use mathlib.Core.Path.{sym, ◌∙◌}
use lib.Dec.{lit<}
use Rattle.net.proofs.stencil.Rings.{row_in}
use Rattle.net.proofs.stencil.take_face.Goals as goal
use Rattle.net.proofs.stencil.take_face.Goals.{After-sides-n, Start}

pub sides-n-requires : goal.sides-n-requires
sides-n-requires c = let p = c.requires.mesh in row_in _ _ _ p.0 _ _ (lit< tt) p.1

pub take_quad-requires : goal.take_quad-requires
take_quad-requires c =
    let n = c in
    let s = c in
    record { mesh = (s.requires.mesh.0, s.requires.mesh.1, sym n.sides-n.ensures.read ∙ c.if-n-eq4.true); room = s.requires.room }

pub take_ring-requires : goal.take_ring-requires
take_ring-requires c =
    let n = c in
    let s = c in
    record { mesh = (s.requires.mesh.0, s.requires.mesh.1, sym n.sides-n.ensures.read, s.requires.mesh.2); room = s.requires.room }

pub returns-then-n-eq4 : goal.returns-then-n-eq4
returns-then-n-eq4 c = c.take_quad.ensures

pub returns-else-n-eq4 : goal.returns-else-n-eq4
returns-else-n-eq4 c = c.take_ring.ensures
