-- `net::lanes::lane_sides` meets its contract: the rings' faces from their rows, and the sides made from them.
use mathlib.Core.Path.{refl}
use native.Mathlib.Omega.{arith}
use Rattle.net_rows.proofs.rows.Laws.{row, row_is}
use Rattle.net.proofs.lanes.lane_sides.Goals as goal
use Rattle.net.proofs.lanes.lane_sides.Goals.{After-ring_face-face, After-ring_face-vertex, Start}

pub sides_of-requires : goal.sides_of-requires
sides_of-requires c =
    let s = c in
    let v = c in
    let f = c in record { rows = λ i h. (omega (arith, s.requires.long, s.requires.lane), s.requires.points i h); rings = rw (v.ring_face-vertex.ensures, f.ring_face-face.ensures) (s.requires.vertex, s.requires.face, row _ s.requires.cosines.0, row _ s.requires.cosines.1) }

pub returns : goal.returns
returns c =
    let s = c in
    let v = c in
    let f = c in
    let z = s.requires.cosines in
    record {
      four = λ K d h.
          c.sides_of.ensures.four K d h.around (rw (v.ring_face-vertex.ensures, row_is _ _ z.0 refl) h.vertex)
          (rw (f.ring_face-face.ensures, row_is _ _ z.1 refl) h.face);
      sized = c.sides_of.ensures.sized;
    }

pub ring_face-vertex-requires : goal.ring_face-vertex-requires
ring_face-vertex-requires c = let s = c in (omega (arith, s.requires.long, s.requires.lane), omega (arith, s.requires.long, s.requires.lane))

pub ring_face-face-requires : goal.ring_face-face-requires
ring_face-face-requires c = let s = c in (omega (arith, s.requires.long, s.requires.lane), omega (arith, s.requires.long, s.requires.lane, s.requires.place))
