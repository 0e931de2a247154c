-- Going back stays in the face, and stops at its first corner.
use mathlib.Core.Path.{◌≡◌, refl, ap, ◌∙◌}
use mathlib.Core.List.{List}
use Prim.Native.Nat.{ℕ, ◌≤◌, ◌<◌}
use native.Mathlib.Omega.{arith}
use Rattle.paper.specs.Corners.{sum_of, first_of, previous}
use Rattle.mesh.proofs.Faces.{first_previous, first_here}
use Rattle.walk.specs.Table.{to_previous, Column}
use Rattle.walk.proofs.face_start.Goals as goal
use Rattle.walk.proofs.face_start.Goals.{After-previous-back, Start}

-- a step back, by any list of sides that the table is of
module _ (p : After-previous-back) (sides : List ℕ) where
  abbrev s : Start
  s = search

  abbrev d : ℕ
  d = p.loop-d.d

  module _ (column : Column s.args.table.now to_previous (previous sides) (sum_of sides)) (h : s.args.c < sum_of sides) where
    below : d < sum_of sides
    below = omega (arith, p.loop-d.invariant.0)

    is_previous : p.previous-back.result.corner ≡ previous sides d
    is_previous = p.previous-back.ensures.read ∙ column d below

    stays : first_of sides p.previous-back.result.corner ≡ first_of sides s.args.c
    stays = ap (first_of sides) is_previous ∙ first_previous sides d below ∙ p.loop-d.invariant.1 sides column h

    stops : d ≤ p.previous-back.result.corner → d ≡ first_of sides s.args.c
    stops l = first_here sides d below (omega (arith, is_previous)) ∙ p.loop-d.invariant.1 sides column h

pub loop-d-preserved : goal.loop-d-preserved
loop-d-preserved c = let p : After-previous-back = (goal.at.loop-d-preserved c).After-previous-back in (omega arith, λ sides column h. stays p sides column h)

pub returns-then-d-e : goal.returns-then-d-e
returns-then-d-e c = let p : After-previous-back = (goal.at.returns-then-d-e c).After-previous-back in λ sides column h. stops p sides column h c.if-d-e.true

pub loop-d-init : goal.loop-d-init
loop-d-init c = (omega arith, λ sides column h. refl)
