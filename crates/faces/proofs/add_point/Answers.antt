-- `faces::add_point` meets its contract: the product and the sum fit.
use mathlib.Core.Path.{◌≡◌}
use Prim.Native.Nat.{◌+◌, ◌*◌, ◌^◌}
use lib.Dec.{lit<}
use lib.IntN.{ℤ, ◌+ℤ◌, ◌*ℤ◌}
use mir.Syntax.{w32, w64}
use mir.Val.{SFits, to_z, of_z}
use mir.Facts.{to_z-of_z}
use Rattle.paper.specs.Cosines.{unit}
use Rattle.numbers.proofs.Laws.{abs_mul_le, abs_add_le}
use Rattle.numbers.proofs.Machine.{abs_fits}
use Rattle.surface.specs.Points.{point_at}
use Rattle.faces.proofs.Few.{read}
use Rattle.faces.proofs.add_point.Goals as goal
use Rattle.faces.proofs.add_point.Goals.{Start, After-point}

module _ (s : Start) where
  abbrev v : ℤ
  v = point_at s.args.points.now s.args.axis s.args.c

  point_fits : SFits w64 v
  point_fits = abs_fits w64 v (2 ^ 24) s.requires.point.1 (lit< tt)

  product : SFits w64 (s.args.w *ℤ v)
  product = abs_fits w64 _ (7 * unit * 2 ^ 24) (abs_mul_le s.args.w v (7 * unit) (2 ^ 24) s.requires.sizes.1 s.requires.point.1) (lit< tt)

  total : SFits w64 (s.args.sum +ℤ s.args.w *ℤ v)
  total =
      abs_fits w64 _ (2 ^ 61 + 7 * unit * 2 ^ 24)
      (abs_add_le s.args.sum (s.args.w *ℤ v) _ _ s.requires.sizes.0 (abs_mul_le s.args.w v (7 * unit) (2 ^ 24) s.requires.sizes.1 s.requires.point.1))
      (lit< tt)

is : (c : After-point) → to_z w32 (of_z w32 c.point.result) ≡ point_at c.args.points.now c.args.axis c.args.c
is c = (read _ _ c.point.ensures c.requires.point.1).0

pub overflow_mul-result : goal.overflow_mul-result
overflow_mul-result c = rw (is c, to_z-of_z c.ranges.w, to_z-of_z (point_fits (search))) (product (search))

pub overflow_add-result : goal.overflow_add-result
overflow_add-result c = rw (is c, to_z-of_z c.ranges.sum, to_z-of_z c.ranges.w, to_z-of_z (point_fits (search)), to_z-of_z (product (search))) (total (search))

pub returns : goal.returns
returns c =
    rw (is c, to_z-of_z c.ranges.sum, to_z-of_z c.ranges.w, to_z-of_z (point_fits (search)), to_z-of_z (product (search))) (to_z-of_z (total (search)))
