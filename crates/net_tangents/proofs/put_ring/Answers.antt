-- `put_ring` meets its contract: before each turn the sides before are written.
use mathlib.Core.Path.{◌≡◌, ap, ◌∙◌, subst}
use Prim.Native.Nat.{ℕ, ◌+◌, ◌*◌, ◌<◌}
use native.Mathlib.Omega.{arith}
use Rattle.strips.specs.PointRows.{FilledTo}
use Rattle.net_tangents.specs.Lanes.{lane_of}
use Rattle.net_tangents.proofs.Lanes.{lanes_part}
use Rattle.net_tangents.proofs.Laws.{side_step, values_fill}
use Rattle.net_tangents.proofs.put_ring.Goals as goal

pub loop-side-preserved : goal.loop-side-preserved
loop-side-preserved c =
    let l = c.loop-side in
    let b : l.side < 4 = omega arith in
    let table = c.args.table.now in (
      omega (arith, l.invariant.0),
      λ numbers n k h few f old q aim.
          side_step numbers n k c.args.w c.args.at l.side l.to f old l.out _ b l.invariant.0 aim (l.invariant.1 numbers n k h few f old q aim)
          (values_fill numbers n k l.side 0 c.args.w l.to l.out _ (omega arith) (omega arith)
          (c.put_places.ensures (lane_of numbers n) k (lanes_part (lane_of numbers n) 0 24 (6 * l.side) (6 * l.side + 6) k table (omega arith) (omega arith) h))),
    )

pub returns : goal.returns
returns c =
    let four : c.loop-side.side ≡ 4 = omega arith in
    let ends : c.loop-side.to ≡ c.args.at + 24 * c.args.w = c.loop-side.invariant.0 ∙ ap (λ (x : ℕ). c.args.at + 6 * (x * c.args.w)) four ∙ omega arith in
    λ numbers n k l h f old q aim. subst (λ (i : ℕ). FilledTo f old i c.loop-side.out) ends (c.loop-side.invariant.1 numbers n k l h f old q aim)
