-- `floats::put_net` meets its contract: before each turn the floats of the points before are written.
use mathlib.Core.Path.{◌≡◌, refl, ◌∙◌, subst}
use Prim.Native.Nat.{ℕ, ◌+◌, ◌*◌, ◌≤◌}
use native.Mathlib.Omega.{arith}
use lib.Dec.{lit<}
use lib.ListN.{length}
use Rattle.paper.specs.Faults.{sound}
use Rattle.paper.specs.Floats.{point_verdict}
use Rattle.floats.specs.Exact.{FloatsFilled}
use Rattle.floats.proofs.Laws.{d_bits, point_sound}
use Rattle.floats.proofs.All.{bits_size, net_step}
use Rattle.floats.proofs.put_net.Goals as goal

pub loop-point-init : goal.loop-point-init
loop-point-init c = (
  refl,
  λ f old room aim q. subst (λ (i : ℕ). FloatsFilled f old i c.args.floats.now) (let z : c.args.at ≡ c.args.at + 6 * 0 = omega arith in z) q,
)

-- In the loop: the point is one of the net, and its floats have room.
inside : (t : goal.In-loop-point) → (t.loop-point.point ≤ 40) × (t.args.at + 246 ≤ length t.args.floats.now)
inside t = (omega (arith, t.loop-point-test.true), t.requires.1)

passes : (t : goal.In-loop-point) → point_verdict t.args.net.now t.loop-point.point ≡ sound
passes t = point_sound _ t.requires.0 _ (inside t).0

pub put_six-requires : goal.put_six-requires
put_six-requires c = (
  bits_size c.difference-x.result c.difference-x.ensures.1,
  bits_size c.difference-y.result c.difference-y.ensures.1,
  bits_size c.difference-z.result c.difference-z.ensures.1,
  omega (arith, inside (search), c.loop-point.invariant.0),
)

pub loop-point-preserved : goal.loop-point-preserved
loop-point-preserved c = (
  omega (arith, c.loop-point.invariant.0),
  net_step c.args.net.now c.requires.0 c.args.at c.loop-point.point c.args.floats.now c.loop-point.floats _ (inside (search)).0
      (d_bits c.difference-x.result c.difference-x.ensures.1 ∙ c.difference-x.ensures.0)
      (d_bits c.difference-y.result c.difference-y.ensures.1 ∙ c.difference-y.ensures.0)
      (d_bits c.difference-z.result c.difference-z.ensures.1 ∙ c.difference-z.ensures.0) c.loop-point.invariant.1 c.put_six.ensures,
)

pub returns : goal.returns
returns c =
    λ f old room aim q.
    subst (λ (i : ℕ). FloatsFilled f old i c.loop-point.floats) (let e : c.loop-point.point ≡ 41 = omega arith in let z : c.args.at + 6 * c.loop-point.point ≡ c.args.at + 246 = omega arith in z)
    (c.loop-point.invariant.1 f old room aim q)

pub difference-x-requires : goal.difference-x-requires
difference-x-requires c = (passes (search), lit< tt)

pub difference-y-requires : goal.difference-y-requires
difference-y-requires c = (passes (search), lit< tt)

pub difference-z-requires : goal.difference-z-requires
difference-z-requires c = (passes (search), lit< tt)

pub overflow_mul-point : goal.overflow_mul-point
overflow_mul-point c = record { fits = omega (arith, inside (search)) }

pub overflow_add-at : goal.overflow_add-at
overflow_add-at c = record { fits = omega (arith, inside (search)) }

pub shape_of-floats : goal.shape_of-floats
shape_of-floats c = c.loop-point.invariant.0
