-- The corner list's tally holds the corners of each vertex, and the tally of its first entries the counts for each m.
use mathlib.Core.Path.{refl}
use Prim.Native.Nat.{◌/◌}
use native.Mathlib.Omega.{arith}
use lib.ListN.{length}
use Rattle.paper.specs.Mesh.{most_vertices, mesh_of, vertex_count}
use Rattle.surveying.proofs.Each.{prefix_length, cornered_is, sided_is}
use Rattle.surveying.proofs.Tallies.{counted}
use Rattle.surveying.proofs.counting.count.Goals as goal

pub slice_bounds-tally-end-2 : goal.slice_bounds-tally-end-2
slice_bounds-tally-end-2 c =
    prefix_length _ _ most_vertices _ (counted most_vertices c.args.corners.now c.tally.ensures) c.requires.0

pub tally-requires-2 : goal.tally-requires-2
tally-requires-2 c =
    (omega (arith, prefix_length _ _ most_vertices (length c.args.coordinates.now / 3) (counted most_vertices c.args.corners.now c.tally.ensures) c.requires.0), refl)

pub returns : goal.returns
returns c =
    λ sharpness.
    let M = mesh_of c.args.coordinates.now c.args.sides.now c.args.corners.now sharpness in
    record {
      vertices = refl;
      faces = refl;
      corners = refl;
      cornered = cornered_is M (vertex_count M) _ (counted most_vertices c.args.corners.now c.tally.ensures) c.requires.0 _ refl (counted _ _ c.tally-2.ensures);
      sided = sided_is M _ (counted _ c.args.sides.now c.tally-3.ensures);
    }
