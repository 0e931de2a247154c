-- `bernstein::derivatives::times` meets its contract: the products fit.
use Prim.Native.Nat.{◌^◌, ◌≤◌}
use lib.Dec.{lit<, lit≤}
use lib.IntN.{ℤ, nat_abs, ◌*ℤ◌}
use mir.Syntax.{w64}
use mir.Val.{SFits}
use mir.Facts.{to_z-of_z}
use Rattle.numbers.proofs.Laws.{abs_mul_le}
use Rattle.numbers.proofs.Machine.{abs_fits}
use Rattle.bernstein.specs.declared.Vector5.{Vector5}
use Rattle.bernstein.specs.Sums.{Sized}
use Rattle.bernstein.specs.Tangents.{times_of}
use Rattle.bernstein.proofs.Laws.{fits}
use Rattle.bernstein.proofs.derivatives.times.Goals as goal

product : (m v : ℤ) → nat_abs m ≤ 4 → nat_abs v ≤ 2 ^ 54 → SFits w64 (m *ℤ v)
product m v f g = abs_fits w64 (m *ℤ v) (2 ^ 56) (abs_mul_le m v 4 (2 ^ 54) f g) (lit< tt)

module _ (m : ℤ) (v : Vector5) (h : Sized (2 ^ 54) v) (l : nat_abs m ≤ 4) where
  abbrev Fine : Type 0
  Fine =
      SFits w64 m × SFits w64 v.a × SFits w64 v.b × SFits w64 v.c × SFits w64 v.d
      × SFits w64 v.e × SFits w64 (m *ℤ v.a) × SFits w64 (m *ℤ v.b)
      × SFits w64 (m *ℤ v.c) × SFits w64 (m *ℤ v.d) × SFits w64 (m *ℤ v.e)

  facts : Fine
  facts =
      let k = fits v (2 ^ 54) h (lit≤ tt) in (
        abs_fits w64 m 4 l (lit< tt),
        k.0,
        k.1,
        k.2,
        k.3,
        k.4,
        product m v.a l h.0,
        product m v.b l h.1,
        product m v.c l h.2,
        product m v.d l h.3,
        product m v.e l h.4,
      )

pub returns : goal.returns
unfolding times_of
returns c =
    let k = facts c.args.m c.args.v c.requires.0 c.requires.1 in
    simp (to_z-of_z, k.0, k.1, k.2, k.3, k.4, k.5, k.6, k.7, k.8, k.9, k.10)

pub overflow_mul-result : goal.overflow_mul-result
overflow_mul-result c = let k = facts c.args.m c.args.v c.requires.0 c.requires.1 in simp (to_z-of_z, k.0, k.1) k.6

pub overflow_mul-result-2 : goal.overflow_mul-result-2
overflow_mul-result-2 c = let k = facts c.args.m c.args.v c.requires.0 c.requires.1 in simp (to_z-of_z, k.0, k.2) k.7

pub overflow_mul-result-3 : goal.overflow_mul-result-3
overflow_mul-result-3 c = let k = facts c.args.m c.args.v c.requires.0 c.requires.1 in simp (to_z-of_z, k.0, k.3) k.8

pub overflow_mul-result-4 : goal.overflow_mul-result-4
overflow_mul-result-4 c = let k = facts c.args.m c.args.v c.requires.0 c.requires.1 in simp (to_z-of_z, k.0, k.4) k.9

pub overflow_mul-result-5 : goal.overflow_mul-result-5
overflow_mul-result-5 c = let k = facts c.args.m c.args.v c.requires.0 c.requires.1 in simp (to_z-of_z, k.0, k.5) k.10
