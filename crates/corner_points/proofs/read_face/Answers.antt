-- `corner_points::read_face` meets its contract: the numbers are those of the row.
use mathlib.Core.Path.{◌≡◌, refl}
use mathlib.Core.List.{List}
use Prim.Native.Nat.{ℕ, ◌+◌, ◌*◌}
use native.Mathlib.Omega.{arith}
use borrow.Author.Rules.{rules}
use lib.ListN.{get_or}
use lib.IntN.{ℤ, pos, ◌*ℤ◌}
use lib.Signed.{◌≤ℤ◌}
use mir.Syntax.{w32}
use mir.Val.{SFits, to_z, of_z}
use mir.Facts.{to_z-of_z, to_z_pos}
use Rattle.numbers.proofs.Diff.{diff}
use Rattle.face_sums.specs.Sums.{sum_row}
use Rattle.corner_points.proofs.read_face.Goals as goal
use Rattle.corner_points.proofs.read_face.Goals.{After-reciprocal, Start}

read : (sums : List ℤ) (i j : ℕ) → i ≡ j → SFits w32 (get_or sums i (pos 0)) → to_z w32 (of_z w32 (get_or sums i (pos 0))) ≡ get_or sums j (pos 0)
read sums i j e f = rw (← e) (to_z-of_z f)

at_first : (n : ℕ) → n ≡ n + 0
at_first n = omega arith

-- twice the sides, in the machine's numbers
module _ (s : Start) where
  abbrev n : ℕ
  n = get_or s.args.sides.now s.args.f 0

  count : to_z w32 n ≡ pos n
  count = to_z_pos w32 {n = n} (omega arith)

  divisor : SFits w32 (pos 2 *ℤ pos n)
  divisor = record { sfits = omega arith }

  range : (pos 1 ≤ℤ (pos 2 *ℤ pos n)) × ((pos 2 *ℤ pos n) ≤ℤ pos 48)
  range = simp diff (omega arith, omega arith)

pub overflow_mul-n : goal.overflow_mul-n
overflow_mul-n c = let s = (goal.at.overflow_mul-n c).Start in rw (count s) (divisor s)

pub reciprocal-requires : goal.reciprocal-requires
reciprocal-requires c = let s = (goal.at.reciprocal-requires c).Start in rw (count s, to_z-of_z (divisor s)) (range s)

pub returns : goal.returns
returns c =
    let s = (goal.at.returns c).Start in
    let a = c in
    let at = sum_row * s.args.f in
    record {
      sides_are = refl;
      reciprocal_is = rw (count s, to_z-of_z (divisor s)) at a.reciprocal.ensures;
      xs = read s.args.sums.now at _ (at_first at) (search rules);
      ys = read s.args.sums.now (at + 1) _ refl (search rules);
      zs = read s.args.sums.now (at + 2) _ refl (search rules);
    }
