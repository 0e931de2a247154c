-- `control_points::Triangle::a_point` meets its contract.
use mathlib.Core.Path.{ap, ◌∙◌}
use Prim.Native.Nat.{ℕ}
use lib.Dec.{lit≤}
use Rattle.paper.specs.Sampling.{on_axis}
use Rattle.bernstein.proofs.Laws.{sized_bits}
use Rattle.control_points.proofs.Triangle.a_point.Goals as goal

pub returns : goal.returns
returns c =
    let b = sized_bits c.number.result _ c.number.ensures.1 (lit≤ tt) in (
      b ∙ c.number.ensures.0 ∙ ap (λ (t : ℕ). on_axis c.args.self.now.numbers.now c.args.self.now.axis t) c.a_place.ensures.0,
      rw b c.number.ensures.1,
    )
