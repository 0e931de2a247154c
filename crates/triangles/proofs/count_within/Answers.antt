-- `count_within` meets its contract.
use native.Mathlib.Omega.{arith}
use Prim.Native.Nat.{◌≤◌}
use lib.ListN.{length}
use Rattle.paper.specs.Mesh.{most_corners}
use Rattle.numbering.proofs.Lent.{levels_few}
use Rattle.triangles.proofs.count_within.Goals as goal
use Rattle.triangles.proofs.count_within.Goals.{Start}

few : (s : Start) → length s.args.tables.levels.now ≤ most_corners
few s = let g = s.requires.0 in levels_few g.mesh g.is

pub points_in-points-requires : goal.points_in-points-requires
points_in-points-requires c = (c.requires.0, c.requires.1, few (search))

pub triangles_in-triangles-requires : goal.triangles_in-triangles-requires
triangles_in-triangles-requires c = (c.requires.0, c.requires.1, few (search))

pub overflow_mul-result : goal.overflow_mul-result
overflow_mul-result c = omega (arith, c.points_in-points.ensures.1, c.requires.1, few (search))

pub overflow_mul-result-2 : goal.overflow_mul-result-2
overflow_mul-result-2 c = omega (arith, c.triangles_in-triangles.ensures.1, c.requires.1, few (search))
