-- `bernstein::ahead` meets its contract: the sums fit.
use Prim.Native.Nat.{◌^◌, ◌≤◌}
use native.Mathlib.Omega.{arith}
use lib.IntN.{ℤ, pos, nat_abs, ◌+ℤ◌, ◌*ℤ◌}
use mir.Syntax.{w64}
use mir.Val.{SFits}
use mir.Facts.{to_z-of_z}
use Rattle.bernstein.specs.declared.Vector5.{Vector5}
use Rattle.bernstein.specs.Sums.{Sized}
use Rattle.numbers.proofs.Poly.{over, poly}
use Rattle.bernstein.proofs.Identity.{state_start}
use Rattle.bernstein.proofs.ahead.Goals as goal

abbrev Fine : ℤ → ℤ → ℤ → ℤ → ℤ → Type 0
Fine a b c d e =
    SFits w64 a × SFits w64 b × SFits w64 c × SFits w64 d × SFits w64 e × SFits w64 (b +ℤ c) × SFits w64 (b +ℤ c +ℤ d) × SFits w64 (b +ℤ c +ℤ d +ℤ e)
    × SFits w64 (pos 2 *ℤ c) × SFits w64 (pos 6 *ℤ d) × SFits w64 (pos 2 *ℤ c +ℤ pos 6 *ℤ d) × SFits w64 (pos 14 *ℤ e)
    × SFits w64 (pos 2 *ℤ c +ℤ pos 6 *ℤ d +ℤ pos 14 *ℤ e) × SFits w64 (pos 6 *ℤ d) × SFits w64 (pos 36 *ℤ e) × SFits w64 (pos 6 *ℤ d +ℤ pos 36 *ℤ e)
    × SFits w64 (pos 24 *ℤ e)

fits : (a b c d e : ℤ) → nat_abs a ≤ 2 ^ 54 → nat_abs b ≤ 2 ^ 54 → nat_abs c ≤ 2 ^ 54 → nat_abs d ≤ 2 ^ 54 → nat_abs e ≤ 2 ^ 54 → Fine a b c d e
fits = over 5 _ λ ρ. simp (poly, ρ) (omega arith)

facts : (v : Vector5) → Sized (2 ^ 54) v → Fine v.a v.b v.c v.d v.e
facts v h = fits v.a v.b v.c v.d v.e h.0 h.1 h.2 h.3 h.4

pub overflow_mul-result-5 : goal.overflow_mul-result-5
overflow_mul-result-5 c = search (to_z-of_z, facts c.args.f c.requires)

pub overflow_add-result-6 : goal.overflow_add-result-6
overflow_add-result-6 c = search (to_z-of_z, facts c.args.f c.requires)

pub overflow_mul-result-6 : goal.overflow_mul-result-6
overflow_mul-result-6 c = search (to_z-of_z, facts c.args.f c.requires)

pub returns : goal.returns
returns c =
    let k = facts c.args.f c.requires in
    simp (to_z-of_z, k.0, k.1, k.2, k.3, k.4, k.5, k.6, k.7, k.8, k.9, k.10, k.11, k.12, k.14, k.15, k.16)
    (state_start c.args.f)

pub overflow_add-result : goal.overflow_add-result
overflow_add-result c = search (to_z-of_z, facts c.args.f c.requires)

pub overflow_add-result-2 : goal.overflow_add-result-2
overflow_add-result-2 c = search (to_z-of_z, facts c.args.f c.requires)

pub overflow_add-result-3 : goal.overflow_add-result-3
overflow_add-result-3 c = search (to_z-of_z, facts c.args.f c.requires)

pub overflow_mul-result : goal.overflow_mul-result
overflow_mul-result c = search (to_z-of_z, facts c.args.f c.requires)

pub overflow_mul-result-2 : goal.overflow_mul-result-2
overflow_mul-result-2 c = search (to_z-of_z, facts c.args.f c.requires)

pub overflow_add-result-4 : goal.overflow_add-result-4
overflow_add-result-4 c = search (to_z-of_z, facts c.args.f c.requires)

pub overflow_mul-result-3 : goal.overflow_mul-result-3
overflow_mul-result-3 c = search (to_z-of_z, facts c.args.f c.requires)

pub overflow_add-result-5 : goal.overflow_add-result-5
overflow_add-result-5 c = search (to_z-of_z, facts c.args.f c.requires)

pub overflow_mul-result-4 : goal.overflow_mul-result-4
overflow_mul-result-4 c = search (to_z-of_z, facts c.args.f c.requires)
