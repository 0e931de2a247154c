-- `bernstein::step` meets its contract: the sums fit.
use Prim.Native.Nat.{◌^◌, ◌≤◌}
use native.Mathlib.Omega.{arith}
use lib.IntN.{ℤ, nat_abs, ◌+ℤ◌}
use mir.Syntax.{w64}
use mir.Val.{SFits}
use mir.Facts.{to_z-of_z}
use Rattle.bernstein.specs.declared.Vector5.{Vector5}
use Rattle.numbers.proofs.Poly.{over, poly}
use Rattle.bernstein.specs.Sums.{Sized, step_of}
use Rattle.bernstein.proofs.step.Goals as goal

abbrev Fine : ℤ → ℤ → ℤ → ℤ → ℤ → Type 0
Fine a b c d e =
    SFits w64 a × SFits w64 b × SFits w64 c × SFits w64 d × SFits w64 e × SFits w64 (a +ℤ b) × SFits w64 (b +ℤ c) × SFits w64 (c +ℤ d) × SFits w64 (d +ℤ e)

fits : (a b c d e : ℤ) → nat_abs a ≤ 2 ^ 60 → nat_abs b ≤ 2 ^ 60 → nat_abs c ≤ 2 ^ 60 → nat_abs d ≤ 2 ^ 60 → nat_abs e ≤ 2 ^ 60 → Fine a b c d e
fits = over 5 _ λ ρ. simp poly (omega arith)

facts : (v : Vector5) → Sized (2 ^ 60) v → Fine v.a v.b v.c v.d v.e
facts v h = fits v.a v.b v.c v.d v.e h.0 h.1 h.2 h.3 h.4

pub returns : goal.returns
unfolding step_of
returns c =
    let k = facts c.args.g c.requires in
    simp (to_z-of_z, k.0, k.1, k.2, k.3, k.4, k.5, k.6, k.7, k.8)

pub overflow_add-result : goal.overflow_add-result
overflow_add-result c = search (to_z-of_z, facts c.args.g c.requires)

pub overflow_add-result-2 : goal.overflow_add-result-2
overflow_add-result-2 c = search (to_z-of_z, facts c.args.g c.requires)

pub overflow_add-result-3 : goal.overflow_add-result-3
overflow_add-result-3 c = search (to_z-of_z, facts c.args.g c.requires)

pub overflow_add-result-4 : goal.overflow_add-result-4
overflow_add-result-4 c = search (to_z-of_z, facts c.args.g c.requires)
