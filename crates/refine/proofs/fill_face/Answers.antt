-- `refine::fill_face` meets its contract: those of the corners below `c` are put in.
use mathlib.Core.Path.{◌≡◌}
use mathlib.Core.List.{List}
use lib.IntN.{ℤ}
use Prim.Native.Nat.{ℕ, ◌+◌, ◌≤◌, ◌<◌}
use native.Mathlib.Omega.{arith}
use lib.Dec.{lit<}
use lib.ListN.{length, get_or}
use Rattle.corner_points.specs.Mean.{Known, total_on, CornerPointed}
use Rattle.refine.specs.Pointed.{FacePointed}
use Rattle.refine.proofs.Points.{put_none, put_more, put_marked, put_passed}
use Rattle.refine.proofs.fill_face.Goals as goal
use Rattle.refine.proofs.fill_face.Goals.{At-loop-points, Start, then-marked-u-ne0, else-marked-u-ne0}

-- the face has few corners, all of them among the mesh's
sized : (s : Start) → Known (total_on s.args.face 0) s.args.face
sized s = s.requires.face.1 0 (lit< tt)

-- at a corner of the loop
module _ (a : At-loop-points) where
  abbrev s : Start
  s = search

  here : (a.loop-points.c < length s.args.corners.now) × (length s.args.corners.now ≤ 8192)
  here = (omega (arith, a.loop-points.invariant.1, s.requires.face.0), s.requires.lists.few)

  -- the points of the corners from one to before another
  abbrev Put : ℕ → ℕ → List ℤ → List ℤ → Type 0
  Put = FacePointed s.args.coordinates.now s.args.corners.now s.args.sharpness.now s.args.table.now s.args.marked.now s.args.face

  -- one corner more: it is filled, or not marked
  turn : (new : List ℤ) → Put a.loop-points.c (a.loop-points.c + 1) a.loop-points.points new → Put s.args.start (a.loop-points.c + 1) s.args.points.now new
  turn new one =
      let l = a.loop-points in
      put_more s.args.corners.now s.args.marked.now s.args.start l.c (l.c + 1) l.invariant.0 (omega arith) l.invariant.2 one

  filled : (new : List ℤ) → 0 < get_or s.args.marked.now (get_or s.args.corners.now a.loop-points.c 0) 0
      → CornerPointed s.args.coordinates.now s.args.corners.now s.args.sharpness.now s.args.table.now s.args.face a.loop-points.c a.loop-points.points new
      → Put a.loop-points.c (a.loop-points.c + 1) a.loop-points.points new
  filled new m = put_marked s.args.corners.now s.args.marked.now a.loop-points.c m

  passed : (get_or s.args.marked.now (get_or s.args.corners.now a.loop-points.c 0) 0 ≡ 0) → Put a.loop-points.c (a.loop-points.c + 1) a.loop-points.points a.loop-points.points
  passed z = put_passed s.args.corners.now s.args.marked.now a.loop-points.c _ (λ m. omega (arith, m, z)) a.loop-points.invariant.2.small

pub loop-points-init : goal.loop-points-init
loop-points-init c =
    let s = (goal.at.loop-points-init c).Start in
    (omega arith, omega (arith, (sized s).least), put_none _ (λ d m. omega (arith, m.0, m.1)) s.requires.points.1)

pub fill_corner-requires : goal.fill_corner-requires
fill_corner-requires c =
    let a = (goal.at.fill_corner-requires c).At-loop-points in let k = a.loop-points.invariant.2 in
    record { lists = c.requires.lists; face = ((here a).0, c.requires.face.1); points = (omega (arith, c.requires.points.0, k.same), k.small) }

pub loop-points-preserved : goal.loop-points-preserved
loop-points-preserved c = (
  omega (arith, c.loop-points.invariant.0),
  omega (arith, c.if-end-c.false),
  turn (goal.at.loop-points-preserved c).At-loop-points _
      (elim c.if-marked-u-ne0.branch [
        | then-marked-u-ne0 w ↦ rw w.points-is (filled (goal.at.loop-points-preserved c).At-loop-points _ (omega (arith, w.if-marked-u-ne0.true)) w.fill_corner.ensures)
        | else-marked-u-ne0 w ↦ rw w.points-is (passed (goal.at.loop-points-preserved c).At-loop-points (omega (arith, w.if-marked-u-ne0.false)))
      ]),
)

pub returns : goal.returns
returns c =
    let a = (goal.at.returns c).At-loop-points in
    let e : a.loop-points.c + 1 ≡ (s a).args.start + (s a).args.face.sides = omega (arith, a.loop-points.invariant.1, c.if-end-c.true) in
    rw (← e) (turn (goal.at.returns c).At-loop-points _
    (elim c.if-marked-u-ne0.branch [
      | then-marked-u-ne0 w ↦ rw w.points-is (filled (goal.at.returns c).At-loop-points _ (omega (arith, w.if-marked-u-ne0.true)) w.fill_corner.ensures)
      | else-marked-u-ne0 w ↦ rw w.points-is (passed (goal.at.returns c).At-loop-points (omega (arith, w.if-marked-u-ne0.false)))
    ]))

pub overflow_cast-end : goal.overflow_cast-end
overflow_cast-end c = omega (arith, (sized (goal.at.overflow_cast-end c).Start).most)

pub overflow_add-end : goal.overflow_add-end
overflow_add-end c = omega (arith, (sized (goal.at.overflow_add-end c).Start).most, c.requires.face.0)

pub offset_bounds-corners-c : goal.offset_bounds-corners-c
offset_bounds-corners-c c = omega (arith, here (goal.at.offset_bounds-corners-c c).At-loop-points)

pub bounds-corners-c : goal.bounds-corners-c
bounds-corners-c c = omega (arith, here (goal.at.bounds-corners-c c).At-loop-points)

pub overflow_cast-u : goal.overflow_cast-u
overflow_cast-u c = omega (arith, c.type_inv.corners c.loop-points.c)

pub bounds-marked-u : goal.bounds-marked-u
bounds-marked-u c = (s (goal.at.bounds-marked-u c).At-loop-points).requires.marked _ (here (goal.at.bounds-marked-u c).At-loop-points).0

pub overflow_add-c : goal.overflow_add-c
overflow_add-c c = omega (arith, here (goal.at.overflow_add-c c).At-loop-points)

pub shape_of-points : goal.shape_of-points
shape_of-points c = (turn (goal.at.shape_of-points c).At-loop-points _
    (elim c.if-marked-u-ne0.branch [
      | then-marked-u-ne0 w ↦ rw w.points-is (filled (goal.at.shape_of-points c).At-loop-points _ (omega (arith, w.if-marked-u-ne0.true)) w.fill_corner.ensures)
      | else-marked-u-ne0 w ↦ rw w.points-is (passed (goal.at.shape_of-points c).At-loop-points (omega (arith, w.if-marked-u-ne0.false)))
    ])).same
