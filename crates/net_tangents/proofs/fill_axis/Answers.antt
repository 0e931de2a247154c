-- `fill_axis` meets its contract: both derivatives are of degree three and taper, so their differences fit.
use mathlib.Core.Path.{◌≡◌, ap, ◌∙◌}
use mathlib.Core.List.{List}
use Prim.Native.Nat.{ℕ, ◌/◌, ◌%◌, ◌^◌}
use native.Mathlib.Omega.{arith}
use lib.IntN.{ℤ, pos}
use Rattle.bernstein.specs.declared.Matrix5.{Matrix5}
use Rattle.bernstein.specs.Sums.{AllSized, AllTapered, polynomial_of, states_of}
use Rattle.net_points.specs.writing.Laid.{turned_of}
use Rattle.net_points.proofs.writing.Laws.{turned_size}
use Rattle.net_tangents.specs.Lanes.{tailward_of, centreward_of, forward_of, CubicTapered}
use Rattle.net_tangents.proofs.Cubic.{polynomial_tapering, tailward_smooth, centreward_smooth}
use Rattle.net_tangents.proofs.Laws.{axis_filled}
use Rattle.net_tangents.proofs.fill_axis.Goals as goal
use Rattle.net_tangents.proofs.fill_axis.Goals.{After-lane_numbers-a, After-lane_numbers-b, After-polynomial-c, Start}

-- the control points in turn
abbrev points : List ℤ → ℕ → Matrix5
points numbers axis = turned_of numbers (axis / 3) (axis % 3)

sized : (s : Start) → AllSized (2 ^ 27) (points s.args.numbers.now s.args.axis)
sized s = turned_size s.args.numbers.now s.requires.0 (s.args.axis / 3) (s.args.axis % 3) (omega arith)

-- their polynomial
module _ (q : After-polynomial-c) where
  is_c : q.polynomial-c.result ≡ polynomial_of (points q.args.numbers.now q.args.axis) (pos q.args.n)
  is_c = q.polynomial-c.ensures ∙ ap (λ (p : Matrix5). polynomial_of p (pos q.args.n)) q.turn_points.ensures.points

  tail : CubicTapered (tailward_of (q.args.axis / 3) q.polynomial-c.result)
  tail = tailward_smooth (points q.args.numbers.now q.args.axis) q.polynomial-c.result q.args.n (q.args.axis / 3) (sized (search)) q.requires.1 is_c

  centre : CubicTapered (centreward_of (q.args.axis / 3) q.polynomial-c.result)
  centre = centreward_smooth (points q.args.numbers.now q.args.axis) q.polynomial-c.result q.args.n (q.args.axis / 3) (sized (search)) q.requires.1 is_c

  tapers : AllTapered q.polynomial-c.result
  tapers = polynomial_tapering (points q.args.numbers.now q.args.axis) q.polynomial-c.result q.args.n 0 (sized (search)) q.requires.1 is_c

-- the first lane
is_first : (l : After-lane_numbers-a) → l.lane_numbers-a.result ≡ states_of (forward_of (tailward_of (l.args.axis / 3) l.polynomial-c.result)) 0
is_first l = l.lane_numbers-a.ensures.0 ∙ ap (λ (m : Matrix5). states_of (forward_of m) 0) l.tailward.ensures

-- the second
is_second : (l : After-lane_numbers-b) → l.lane_numbers-b.result ≡ states_of (forward_of (centreward_of (l.args.axis / 3) l.polynomial-c.result)) 0
is_second l = l.lane_numbers-b.ensures.0 ∙ ap (λ (m : Matrix5). states_of (forward_of m) 0) l.centreward.ensures

pub polynomial-c-requires : goal.polynomial-c-requires
polynomial-c-requires c = (rw c.turn_points.ensures.points (sized (search)), c.requires.1)

pub tailward-requires : goal.tailward-requires
tailward-requires c = tapers (search)

pub lane_numbers-a-requires : goal.lane_numbers-a-requires
lane_numbers-a-requires c = rw c.tailward.ensures (tail (search)).tapers

pub centreward-requires : goal.centreward-requires
centreward-requires c = tapers (search)

pub lane_numbers-b-requires : goal.lane_numbers-b-requires
lane_numbers-b-requires c = rw c.centreward.ensures (centre (search)).tapers

pub returns : goal.returns
returns c =
    axis_filled c.args.numbers.now c.args.n c.args.axis c.requires.2 c.args.table.now _ _ _ _ _ (is_c (search)) (is_first (search)) (is_second (search)) c.put_lane.ensures
    c.put_lane-2.ensures
