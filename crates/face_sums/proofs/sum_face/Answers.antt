-- `face_sums::sum_face` meets its contract: `x`, `y` and `z` are the sums of the vertices passed, and small; then they are put at their places.
use mathlib.Core.Path.{◌≡◌, sym, ap, ◌∙◌}
use Prim.Native.Nat.{ℕ, ◌<◌}
use native.Mathlib.Omega.{arith}
use borrow.Author.Rules.{rules}
use lib.Dec.{lit<}
use lib.IntN.{ℤ}
use mir.Syntax.{w32}
use mir.Val.{SFits, to_z}
use Rattle.numbers.proofs.Sum.{sum_zero}
use Rattle.std.proofs.Common.{zero-add}
use Rattle.face_sums.specs.Sums.{vertex_steps, step_sum}
use Rattle.face_sums.proofs.Laws.{SumMore, sum_turn}
use Rattle.face_sums.proofs.sum_face.Goals as goal
use Rattle.face_sums.proofs.sum_face.Goals.{In-loop-c, Start}

-- one more vertex r to the sum t on an axis
module _ (i : In-loop-c) where
  abbrev s : Start
  s = search

  abbrev More : ℕ → ℕ → ℤ → Type 0
  More = SumMore s.args.coordinates.now s.args.face.now 0 i.loop-c.c

  more : (axis t : ℕ) (r : ℤ) → axis < 3 → SFits w32 r → to_z w32 t ≡ step_sum s.args.coordinates.now s.args.face.now 0 i.loop-c.c axis
      → r ≡ vertex_steps s.args.coordinates.now s.args.face.now axis i.loop-c.c → More axis t r
  more axis t r a f e q =
      sum_turn s.args.coordinates.now s.args.face.now s.requires.placed 0 i.loop-c.c axis a
      (omega (arith, i.loop-c-test.true)) (omega (arith, i.loop-c-test.true, s.requires.face)) t r f e
      (q ∙ ap (vertex_steps s.args.coordinates.now s.args.face.now axis) (sym (zero-add i.loop-c.c)))

pub loop-c-init : goal.loop-c-init
loop-c-init c = (sym (sum_zero _), sym (sum_zero _), sym (sum_zero _))

pub loop-c-preserved : goal.loop-c-preserved
loop-c-preserved c = (
  (more (goal.at.loop-c-preserved c).In-loop-c 0 c.loop-c.x-bits c.coordinate-x.result (lit< tt) (search rules) c.loop-c.invariant.0 c.coordinate-x.ensures).is,
  (more (goal.at.loop-c-preserved c).In-loop-c 1 c.loop-c.y-bits c.coordinate-y.result (lit< tt) (search rules) c.loop-c.invariant.1 c.coordinate-y.ensures).is,
  (more (goal.at.loop-c-preserved c).In-loop-c 2 c.loop-c.z-bits c.coordinate-z.result (lit< tt) (search rules) c.loop-c.invariant.2 c.coordinate-z.ensures).is,
)

pub overflow_add-x : goal.overflow_add-x
overflow_add-x c = (more (goal.at.overflow_add-x c).In-loop-c 0 c.loop-c.x-bits c.coordinate-x.result (lit< tt) (search rules) c.loop-c.invariant.0 c.coordinate-x.ensures).fits

pub overflow_add-y : goal.overflow_add-y
overflow_add-y c = (more (goal.at.overflow_add-y c).In-loop-c 1 c.loop-c.y-bits c.coordinate-y.result (lit< tt) (search rules) c.loop-c.invariant.1 c.coordinate-y.ensures).fits

pub overflow_add-z : goal.overflow_add-z
overflow_add-z c = (more (goal.at.overflow_add-z c).In-loop-c 2 c.loop-c.z-bits c.coordinate-z.result (lit< tt) (search rules) c.loop-c.invariant.2 c.coordinate-z.ensures).fits
