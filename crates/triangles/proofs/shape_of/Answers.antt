-- `shape_of` meets its contract, field by field.
use native.Mathlib.Omega.{arith}
use Rattle.numbering.proofs.Lent.{place_of_lem, wide_of, given_corner, here_of, level_some, level_few}
use Rattle.triangles.proofs.Own.{vertex_size, edge_size, face_size}
use Rattle.triangles.proofs.shape_of.Goals as goal

pub own_vertex-vertex-requires : goal.own_vertex-vertex-requires
own_vertex-vertex-requires c = (c.requires.0.is.lows, given_corner c.requires.0 c.args.c c.requires.1)

pub own_edge-edge-requires : goal.own_edge-edge-requires
own_edge-edge-requires c = place_of_lem c.requires.0 c.args.c c.requires.1

pub own_face-face-requires : goal.own_face-face-requires
own_face-face-requires c = place_of_lem c.requires.0 c.args.c c.requires.1

pub segments_at-first-requires : goal.segments_at-first-requires
segments_at-first-requires c = (wide_of c.requires.0 c.args.c c.requires.1, omega arith)

pub segments_at-second-requires : goal.segments_at-second-requires
segments_at-second-requires c = (wide_of c.requires.0 c.args.c c.requires.1, omega arith)

pub returns : goal.returns
returns c = (
  record {
    vertex = c.own_vertex-vertex.ensures.0;
    edge = c.own_edge-edge.ensures.0;
    face = c.own_face-face.ensures.0;
    some_first = c.segments_at-first.ensures.0;
    few_first = c.segments_at-first.ensures.1;
    some_second = c.segments_at-second.ensures.0;
    few_second = c.segments_at-second.ensures.1;
    some_level = omega (arith, c.level_at-level.ensures, level_some c.requires.0 c.args.c c.requires.1);
    few_level = omega (arith, c.level_at-level.ensures, level_few c.requires.0 c.args.c c.requires.1);
  },
  λ M o. record {
    vertex = vertex_size M c.args.tables.levels.now c.args.tables.corners.now c.args.c _ o.corners_are c.own_vertex-vertex.ensures.1;
    edge = edge_size M c.args.tables.levels.now c.args.c _ (c.own_edge-edge.ensures.1 M (here_of M o c.args.c c.requires.1));
    face = face_size M c.args.tables.levels.now c.args.c _ (c.own_face-face.ensures.1 M (here_of M o c.args.c c.requires.1));
    first = c.segments_at-first.ensures.2 M (here_of M o c.args.c c.requires.1);
    second = c.segments_at-second.ensures.2 M (here_of M o c.args.c c.requires.1);
    levelled = c.level_at-level.ensures;
  },
)
