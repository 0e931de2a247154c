-- `bernstein::weights` meets its contract: the powers of a number up to 16 fit.
use mathlib.Core.Path.{◌≡◌}
use Prim.Native.Nat.{ℕ, ◌*◌, ◌≤◌}
use native.Mathlib.Omega.{arith}
use lib.IntN.{pos}
use mir.Syntax.{w64}
use mir.Val.{SFits, to_z}
use mir.Facts.{to_z-of_z}
use mir.ValLaws.{to_z_pos}
use Rattle.bernstein.specs.Sums.{weights_of}
use Rattle.bernstein.proofs.Laws.{powers, size_fits}
use Rattle.bernstein.proofs.weights.Goals as goal

module _ (n : ℕ) (h : n ≤ 16) where
  plain : to_z w64 n ≡ pos n
  plain = to_z_pos w64 n (omega (arith, h))

  abbrev Fine : Type 0
  Fine =
      SFits w64 (pos (n * n)) × SFits w64 (pos (n * n * n)) × SFits w64 (pos (n * n * n * n)) × SFits w64 (pos (4 * (n * n * n)))
      × SFits w64 (pos (6 * (n * n))) × SFits w64 (pos (4 * n)) × SFits w64 (pos (12 * (n * n))) × SFits w64 (pos (12 * n))

  fine : Fine
  fine =
      let k = powers n h in (
        size_fits _ (omega (arith, k.0, k.1, k.2)),
        size_fits _ (omega (arith, k.0, k.1, k.2)),
        size_fits _ (omega (arith, k.0, k.1, k.2)),
        size_fits _ (omega (arith, k.0, k.1, k.2)),
        size_fits _ (omega (arith, k.0, k.1, k.2)),
        size_fits _ (omega (arith, k.0, k.1, k.2)),
        size_fits _ (omega (arith, k.0, k.1, k.2)),
        size_fits _ (omega (arith, k.0, k.1, k.2)),
      )

pub returns : goal.returns
unfolding weights_of
returns c = let k = fine c.args.n c.requires in simp (plain c.args.n c.requires, to_z-of_z, k.0, k.1, k.2, k.3, k.4, k.5, k.6, k.7)

pub overflow_mul-m2 : goal.overflow_mul-m2
overflow_mul-m2 c = let k = fine c.args.n c.requires in simp (plain c.args.n c.requires, to_z-of_z) k.0

pub overflow_mul-m3 : goal.overflow_mul-m3
overflow_mul-m3 c = let k = fine c.args.n c.requires in simp (plain c.args.n c.requires, to_z-of_z, k.0) k.1

pub overflow_mul-m4 : goal.overflow_mul-m4
overflow_mul-m4 c = let k = fine c.args.n c.requires in simp (plain c.args.n c.requires, to_z-of_z, k.0, k.1) k.2

pub overflow_mul-result : goal.overflow_mul-result
overflow_mul-result c = let k = fine c.args.n c.requires in simp (plain c.args.n c.requires, to_z-of_z, k.0, k.1) k.3

pub overflow_mul-result-2 : goal.overflow_mul-result-2
overflow_mul-result-2 c = let k = fine c.args.n c.requires in simp (plain c.args.n c.requires, to_z-of_z, k.0) k.4

pub overflow_mul-result-3 : goal.overflow_mul-result-3
overflow_mul-result-3 c = let k = fine c.args.n c.requires in simp (plain c.args.n c.requires, to_z-of_z) k.5

pub overflow_mul-result-4 : goal.overflow_mul-result-4
overflow_mul-result-4 c = let k = fine c.args.n c.requires in simp (plain c.args.n c.requires, to_z-of_z, k.0, k.1) k.3

pub overflow_mul-result-5 : goal.overflow_mul-result-5
overflow_mul-result-5 c = let k = fine c.args.n c.requires in simp (plain c.args.n c.requires, to_z-of_z, k.0) k.6

pub overflow_mul-result-6 : goal.overflow_mul-result-6
overflow_mul-result-6 c = let k = fine c.args.n c.requires in simp (plain c.args.n c.requires, to_z-of_z) k.7

pub overflow_mul-result-7 : goal.overflow_mul-result-7
overflow_mul-result-7 c = let k = fine c.args.n c.requires in simp (plain c.args.n c.requires, to_z-of_z, k.0) k.4

pub overflow_mul-result-8 : goal.overflow_mul-result-8
overflow_mul-result-8 c = let k = fine c.args.n c.requires in simp (plain c.args.n c.requires, to_z-of_z) k.7

pub overflow_mul-result-9 : goal.overflow_mul-result-9
overflow_mul-result-9 c = let k = fine c.args.n c.requires in simp (plain c.args.n c.requires, to_z-of_z) k.5
