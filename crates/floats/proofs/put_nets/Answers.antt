-- `floats::put_nets` meets its contract: before each turn the floats of the quad-nets before are written.
use mathlib.Core.Path.{◌≡◌, refl, ap, subst}
use Prim.Native.Nat.{ℕ, ◌+◌, ◌-◌, ◌*◌, ◌/◌, ◌≤◌, ◌<◌}
use native.Mathlib.Omega.{arith}
use lib.ListN.{length, take, drop}
use Rattle.paper.specs.Calls.{per_corner}
use Rattle.paper.specs.Faults.{sound}
use Rattle.paper.specs.Floats.{net_verdict}
use Rattle.mesh.proofs.Fills.{filled_none}
use Rattle.floats.proofs.All.{nets_few, nets_room, net_passes, nets_step, nets_all}
use Rattle.floats.proofs.put_nets.Goals as goal

-- In the loop: the quad-net is one of the list's, and its floats have room.
module _ (t : goal.In-loop-t) where
  inside : (t.loop-t.t < length t.args.numbers.now / 123)
      × (t.loop-t.t < 8192)
      × (123 * t.loop-t.t + 123 ≤ length t.args.numbers.now)
      × (246 * t.loop-t.t + 246 ≤ length t.args.floats.now)
  inside =
      let below = t.loop-t-test.true in (
        below,
        omega (arith, below, nets_few t.args.numbers.now _ t.requires),
        omega (arith, below),
        omega (arith, below, nets_room t.args.numbers.now _ t.requires),
      )

pub put_net-requires : goal.put_net-requires
put_net-requires c = (
  subst (λ (x : ℕ). net_verdict (take x (drop (per_corner * c.loop-t.t) c.args.numbers.now)) ≡ sound)
      (let z : per_corner ≡ per_corner * c.loop-t.t + per_corner - per_corner * c.loop-t.t = omega arith in z) (net_passes c.args.numbers.now _ c.requires c.loop-t.t (inside (search)).0),
  omega (arith, inside (search), c.loop-t.invariant.0),
)

pub loop-t-preserved : goal.loop-t-preserved
loop-t-preserved c = (
  omega (arith, c.loop-t.invariant.0),
  nets_step c.args.numbers.now _ c.requires c.loop-t.t c.args.floats.now c.loop-t.floats _ refl (inside (search)).0 _
      (ap (λ (x : ℕ). take x (drop (per_corner * c.loop-t.t) c.args.numbers.now)) (let z : per_corner * c.loop-t.t + per_corner - per_corner * c.loop-t.t ≡ per_corner = omega arith in z))
      (2 * (per_corner * c.loop-t.t)) (omega arith) c.loop-t.invariant.1 c.put_net.ensures,
)

pub returns : goal.returns
returns c =
    nets_all c.args.numbers.now _ c.requires c.loop-t.t c.args.floats.now c.loop-t.floats (omega arith) c.loop-t.invariant.1

pub loop-t-init : goal.loop-t-init
loop-t-init c = (refl, filled_none _ _)

pub overflow_mul-at : goal.overflow_mul-at
overflow_mul-at c = record { fits = omega (arith, inside (search)) }

pub overflow_add-at : goal.overflow_add-at
overflow_add-at c = record { fits = omega (arith, inside (search)) }

pub offset_bounds-numbers-at : goal.offset_bounds-numbers-at
offset_bounds-numbers-at c = record { fits = omega (arith, inside (search)) }

pub slice_bounds-put_net-end : goal.slice_bounds-put_net-end
slice_bounds-put_net-end c = omega (arith, inside (search))

pub overflow_mul-at-in-loop-t : goal.overflow_mul-at-in-loop-t
overflow_mul-at-in-loop-t c = record { fits = omega (arith, inside (search)) }

pub shape_of-floats : goal.shape_of-floats
shape_of-floats c = c.loop-t.invariant.0
