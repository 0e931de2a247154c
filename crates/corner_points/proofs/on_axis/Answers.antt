-- V on one axis meets its contract: the three coordinates are small, as a refined point asks.
use mathlib.Core.Path.{◌∙◌}
use Prim.Native.Nat.{ℕ, ◌≤◌, ◌<◌}
use borrow.Author.Rules.{rules}
use lib.ListN.{length}
use lib.IntN.{nat_abs}
use mir.Syntax.{w32}
use mir.Val.{SFits}
use mir.Facts.{to_z-of_z}
use Rattle.paper.specs.Mesh.{most_coordinate}
use Rattle.face_sums.specs.Sums.{vertex_steps}
use Rattle.face_sums.proofs.Laws.{steps_size}
use Rattle.corner_points.proofs.on_axis.Goals as goal
use Rattle.corner_points.proofs.on_axis.Goals.{After-coordinate-before, Start}

size-at : (s : Start) (d : ℕ) → d < length s.args.corners.now
    → nat_abs (vertex_steps s.args.coordinates.now s.args.corners.now s.args.axis d) ≤ most_coordinate
size-at s d h = steps_size s.args.coordinates.now s.args.corners.now s.requires.placed s.args.axis d s.requires.corners.0 h

pub refined-requires : goal.refined-requires
refined-requires c =
    let s = (goal.at.refined-requires c).Start in
    let i = s.requires.corners in
    let fB : SFits w32 c.coordinate-before.result = search rules in
    let fH : SFits w32 c.coordinate-here.result = search rules in
    let fA : SFits w32 c.coordinate-after.result = search rules in (
      record {
        known = rw (to_z-of_z s.ranges.total) s.requires.face.0;
        before_size = rw (to_z-of_z fB, c.coordinate-before.ensures) (size-at s _ i.1);
        here_size = rw (to_z-of_z fH, c.coordinate-here.ensures) (size-at s _ i.2);
        after_size = rw (to_z-of_z fA, c.coordinate-after.ensures) (size-at s _ i.3);
      },
      s.requires.face.1,
    )

pub returns : goal.returns
returns c =
    let s = c in let a = c in
    let f : SFits w32 c.refined.result = search rules in
    let fB : SFits w32 a.coordinate-before.result = search rules in
    let fH : SFits w32 c.coordinate-here.result = search rules in
    let fA : SFits w32 c.coordinate-after.result = search rules in
    let eB = to_z-of_z fB ∙ a.coordinate-before.ensures in
    let eH = to_z-of_z fH ∙ c.coordinate-here.ensures in
    let eA = to_z-of_z fA ∙ c.coordinate-after.ensures in
    to_z-of_z f ∙ c.refined.ensures ∙ rw (to_z-of_z s.ranges.total, eB, eH, eA)
