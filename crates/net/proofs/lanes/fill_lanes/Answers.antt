-- `net::lanes::fill_lanes` meets its contract. The invariant: the first k lanes have their points.
use mathlib.Core.Path.{◌≡◌, ◌∙◌}
use native.Mathlib.Omega.{arith}
use borrow.Author.Count.{below_more}
use Rattle.net.proofs.lanes.fill_lanes.Goals as goal
use Rattle.net.proofs.lanes.fill_lanes.Goals.{After-lane_sides-four, In-loop-k}

pub loop-k-init : goal.loop-k-init
loop-k-init c = (c.requires.1, λ j h. absurd (omega arith))

pub put_lane-requires : goal.put_lane-requires
put_lane-requires c =
    (c.lane_sides-four.ensures.sized, c.loop-k-test.true, c.loop-k.invariant.0)

pub loop-k-preserved : goal.loop-k-preserved
loop-k-preserved c =
    let d = c.put_lane.ensures in (
      d.same ∙ c.loop-k.invariant.0,
      below_more _ _ (λ j h K e r p q. d.others j p (omega (arith, c.loop-k-test.true)) (λ u. omega arith) ∙ c.loop-k.invariant.1 j h K e r p q)
          (λ K e r p q. d.laid K e (c.lane_sides-four.ensures.four K e r) p q),
    )

pub returns : goal.returns
returns c =
    let l = c.loop-k in
    let e : l.k ≡ 4 = omega arith in
    λ k h. l.invariant.1 k (omega arith)

pub lane_sides-four-requires : goal.lane_sides-four-requires
lane_sides-four-requires c = c.requires.0 c.loop-k.k c.loop-k-test.true
