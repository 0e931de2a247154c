-- `building::writing::fill_range` meets its contract: with the refined points of the corners at the vertices of the range's faces the tables
-- draw the mesh as far as the nets look.
use mathlib.Core.Path.{◌≡◌}
use mathlib.Core.List.{List}
use Prim.Native.Nat.{ℕ, ◌+◌, ◌-◌, ◌≤◌, ◌<◌}
use native.Mathlib.Omega.{arith}
use lib.ListN.{length}
use Rattle.paper.specs.Mesh.{Mesh, most_vertices, of_lists}
use Rattle.paper.specs.Corners.{sum_of, first_of, sides_of}
use Rattle.mesh.specs.Tables.{Named}
use Rattle.mesh.proofs.Faces.{first_from_lem, first_to, first_ends}
use Rattle.refine.proofs.Accepted.{refinable_of}
use Rattle.building.specs.writing.Written.{WalksFaces}
use Rattle.building.proofs.writing.Laws.{zeros, named_in, asked_of, rounds_of, nets_drawn}
use Rattle.building.proofs.writing.fill_range.Goals as goal
use Rattle.building.proofs.writing.fill_range.Goals.{After-face_end-end, Start}

module _ (s : Start) where
  abbrev mesh : Mesh
  mesh = of_lists s.args.lists

  sums : sum_of s.args.lists.sides.now ≡ length s.args.lists.corners.now
  sums = (refinable_of mesh s.requires.mesh).sums

  rounds : WalksFaces s.args.lists.sides.now s.args.table.now
  rounds = rounds_of mesh s.requires.mesh s.args.table.now s.requires.table

  -- the first and the last corner of the range
  ends : (s.args.first < sum_of s.args.lists.sides.now) × (s.args.first + s.args.count - 1 < sum_of s.args.lists.sides.now)
  ends = let r = s.requires.range in (omega (arith, r.0, r.1, sums), omega (arith, r.0, r.1, sums))

-- the corners of the range's faces
module _ (c : After-face_end-end) where
  abbrev t : Start
  t = search

  -- where they start and end
  at_first : c.face_start-start.result ≡ first_of t.args.lists.sides.now t.args.first
  at_first = c.face_start-start.ensures t.args.lists.sides.now (rounds t).previouses (ends t).0

  at_end : let last = t.args.first + t.args.count - 1 in
      c.face_end-end.result ≡ first_of t.args.lists.sides.now last + sides_of t.args.lists.sides.now last
  at_end = c.face_end-end.ensures t.args.lists.sides.now (rounds t) (ends t).1

  whole : (c.face_start-start.result ≤ c.face_end-end.result) × (c.face_end-end.result ≤ length t.args.lists.corners.now)
  whole =
      let e = ends t in
      let sides = t.args.lists.sides.now in
      let last = t.args.first + t.args.count - 1 in (
        omega (arith, at_first, at_end, first_from_lem sides t.args.first e.0, first_to sides last e.1, t.requires.range.0),
        omega (arith, at_end, first_ends sides last e.1, sums t),
      )

  at_last : let last = t.args.first + t.args.count - 1 in
      c.face_start-start.result + (c.face_end-end.result - c.face_start-start.result)
      ≡ first_of t.args.lists.sides.now last + sides_of t.args.lists.sides.now last
  at_last = omega (arith, at_end, whole.0)

pub face_end-end-requires : goal.face_end-end-requires
face_end-end-requires c = let s = (goal.at.face_end-end-requires c).Start in record { sides = s.args.lists.sides.now; rounds = rounds s; here = (ends s).1 }

pub overflow_sub-end : goal.overflow_sub-end
overflow_sub-end c = let b = (goal.at.overflow_sub-end c).After-face_end-end in (whole b).0

pub mark_vertices-requires : goal.mark_vertices-requires
mark_vertices-requires c =
    let b = (goal.at.mark_vertices-requires c).After-face_end-end in
    let s = t b in
    record { named = (named_in (mesh s) s.requires.mesh, zeros most_vertices); range = omega (arith, whole b) }

-- their vertices are marked, and the marks have a place for each vertex
named : (s : Start) (marked : List ℕ) → most_vertices ≤ length marked → Named s.args.lists.corners.now (length marked)
named s marked e d h = omega (arith, named_in (mesh s) s.requires.mesh d h, e)

pub fill_points-requires : goal.fill_points-requires
fill_points-requires c =
    let s = (goal.at.fill_points-requires c).Start in record {
      mesh = refinable_of (mesh s) s.requires.mesh;
      table = s.requires.table;
      marked = named s c.mark_vertices.new.marked (omega arith);
      points = s.requires.points;
    }

pub returns : goal.returns
returns c =
    let b = (goal.at.returns c).After-face_end-end in
    let s = (goal.at.returns c).Start in
    let marked = c.mark_vertices.new.marked in
    let r = s.requires.range in
    nets_drawn (mesh s) s.requires.mesh s.args.table.now s.args.points.now _ s.args.first s.args.count _ _ s.requires.table
    r.0 r.1 (at_first b) (at_last b) s.requires.points.0
    (asked_of (mesh s) marked _ _ _ _ (named s marked (omega arith)) c.mark_vertices.ensures c.fill_points.ensures)

pub face_start-start-requires : goal.face_start-start-requires
face_start-start-requires c = let s = (goal.at.face_start-start-requires c).Start in omega (arith, (ends s).0, (rounds s).long)
