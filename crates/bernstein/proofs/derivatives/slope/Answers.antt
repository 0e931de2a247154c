-- `bernstein::derivatives::slope` meets its contract: the products fit.
use Prim.Native.Nat.{◌^◌, ◌≤◌}
use native.Mathlib.Omega.{arith}
use lib.IntN.{ℤ, pos, nat_abs, ◌*ℤ◌}
use mir.Syntax.{w64}
use mir.Val.{SFits}
use mir.Facts.{to_z-of_z}
use Rattle.bernstein.specs.declared.Vector5.{Vector5}
use Rattle.bernstein.specs.Sums.{Sized}
use Rattle.numbers.proofs.Poly.{over, poly}
use Rattle.bernstein.specs.Tangents.{slope_of}
use Rattle.bernstein.proofs.derivatives.slope.Goals as goal

abbrev Fine : ℤ → ℤ → ℤ → ℤ → Type 0
Fine b c d e = SFits w64 b × SFits w64 c × SFits w64 d × SFits w64 e × SFits w64 (pos 2 *ℤ c) × SFits w64 (pos 3 *ℤ d) × SFits w64 (pos 4 *ℤ e)

fits : (b c d e : ℤ) → nat_abs b ≤ 2 ^ 54 → nat_abs c ≤ 2 ^ 54 → nat_abs d ≤ 2 ^ 54 → nat_abs e ≤ 2 ^ 54 → Fine b c d e
fits = over 4 _ λ ρ. simp (poly, ρ) (omega arith)

facts : (v : Vector5) → Sized (2 ^ 54) v → Fine v.b v.c v.d v.e
facts v h = fits v.b v.c v.d v.e h.1 h.2 h.3 h.4

pub returns : goal.returns
unfolding slope_of
returns c =
    let k = facts c.args.f c.requires in
    simp (to_z-of_z, k.0, k.1, k.2, k.3, k.4, k.5, k.6)

pub overflow_mul-result : goal.overflow_mul-result
overflow_mul-result c = search (to_z-of_z, facts c.args.f c.requires)

pub overflow_mul-result-2 : goal.overflow_mul-result-2
overflow_mul-result-2 c = search (to_z-of_z, facts c.args.f c.requires)

pub overflow_mul-result-3 : goal.overflow_mul-result-3
overflow_mul-result-3 c = search (to_z-of_z, facts c.args.f c.requires)
