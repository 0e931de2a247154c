-- `border_report::border_misses::row` meets its contract, point by point.
use mathlib.Core.Path.{◌≡◌}
use mathlib.Core.List.{[], ◌∷◌}
use Prim.Native.Nat.{ℕ, zero, suc, ◌^◌, ◌<◌}
use lib.ListN.{get_or}
use lib.IntN.{ℤ, pos}
use native.Mathlib.Omega.{arith}
use lib.Dec.{lit<}
use mir.Syntax.{w64}
use mir.Val.{to_z, of_z}
use mir.Facts.{to_z-of_z}
use Rattle.numbers.proofs.Machine.{abs_fits}
use Rattle.paper.specs.Report.{conditions}
use Rattle.surface.specs.Sizes.{WrittenSize}
use Rattle.border_report.specs.misses.Row.{SmallRow}
use Rattle.border_report.specs.border_misses.Held.{point_in, four_of}
use Rattle.border_report.proofs.border_misses.row.Goals as goal

-- a written number is as it was after it is copied
plain : (z : ℤ) → WrittenSize z → to_z w64 (of_z w64 z) ≡ z
plain z h = to_z-of_z (abs_fits w64 z (2 ^ 26) (omega arith) (lit< tt))

copied : (z y : ℤ) → (z ≡ y) × WrittenSize z → (to_z w64 (of_z w64 z) ≡ y) × WrittenSize (to_z w64 (of_z w64 z))
copied z y h = rw (plain z h.1) h

module _ (f : ℕ → ℤ) (p q r s : ℕ) (w x y z : ℤ) (ew : (w ≡ f p) × WrittenSize w) (ex : (x ≡ f q) × WrittenSize x) (ey : (y ≡ f r) × WrittenSize y)
    (ez : (z ≡ f s) × WrittenSize z) where
  four_is : (j : ℕ) → j < conditions → (get_or (w ∷ x ∷ y ∷ z ∷ []) j (pos 0) ≡ four_of f p q r s j) × WrittenSize (get_or (w ∷ x ∷ y ∷ z ∷ []) j (pos 0))
  four_is zero few = ew
  four_is (suc zero) few = ex
  four_is (suc (suc zero)) few = ey
  four_is (suc (suc (suc zero))) few = ez
  four_is (suc (suc (suc (suc j)))) few = absurd (omega arith)

  row_is : ((j : ℕ) → j < conditions → get_or (w ∷ x ∷ y ∷ z ∷ []) j (pos 0) ≡ four_of f p q r s j) × SmallRow (w ∷ x ∷ y ∷ z ∷ [])
  row_is = ((λ j few. (four_is j few).0), record { small = λ j few. (four_is j few).1 })

pub returns : goal.returns
returns c =
    let a = c.args in
    row_is (point_in a.net.now a.at a.axis) a.p a.q a.r a.s _ _ _ _ (copied c.point.result _ c.point.ensures) (copied c.point-2.result _ c.point-2.ensures)
    (copied c.point-3.result _ c.point-3.ensures) (copied c.point-4.result _ c.point-4.ensures)
