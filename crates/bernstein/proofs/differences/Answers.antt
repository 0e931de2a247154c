-- `bernstein::differences` meets its contract: the differences fit.
use Prim.Native.Nat.{◌^◌, ◌≤◌}
use native.Mathlib.Omega.{arith}
use lib.IntN.{ℤ, nat_abs, ◌-ℤ◌}
use mir.Syntax.{w64}
use mir.Val.{SFits}
use mir.Facts.{to_z-of_z}
use Rattle.bernstein.specs.declared.Vector5.{Vector5}
use Rattle.numbers.proofs.Poly.{over, poly}
use Rattle.bernstein.specs.Sums.{Sized, differences_of}
use Rattle.bernstein.proofs.differences.Goals as goal

abbrev Fine : ℤ → ℤ → ℤ → ℤ → ℤ → Type 0
Fine a b c d e =
    SFits w64 a × SFits w64 b × SFits w64 c × SFits w64 d × SFits w64 e × SFits w64 (b -ℤ a) × SFits w64 (c -ℤ b) × SFits w64 (d -ℤ c) × SFits w64 (e -ℤ d)
    × SFits w64 (c -ℤ b -ℤ (b -ℤ a)) × SFits w64 (d -ℤ c -ℤ (c -ℤ b)) × SFits w64 (e -ℤ d -ℤ (d -ℤ c))
    × SFits w64 (d -ℤ c -ℤ (c -ℤ b) -ℤ (c -ℤ b -ℤ (b -ℤ a))) × SFits w64 (e -ℤ d -ℤ (d -ℤ c) -ℤ (d -ℤ c -ℤ (c -ℤ b)))
    × SFits w64 (e -ℤ d -ℤ (d -ℤ c) -ℤ (d -ℤ c -ℤ (c -ℤ b)) -ℤ (d -ℤ c -ℤ (c -ℤ b) -ℤ (c -ℤ b -ℤ (b -ℤ a))))

fits : (a b c d e : ℤ) → nat_abs a ≤ 2 ^ 31 → nat_abs b ≤ 2 ^ 31 → nat_abs c ≤ 2 ^ 31 → nat_abs d ≤ 2 ^ 31 → nat_abs e ≤ 2 ^ 31 → Fine a b c d e
fits = over 5 _ λ ρ. simp poly (omega arith)

facts : (v : Vector5) → Sized (2 ^ 31) v → Fine v.a v.b v.c v.d v.e
facts v h = fits v.a v.b v.c v.d v.e h.0 h.1 h.2 h.3 h.4

pub returns : goal.returns
unfolding differences_of
returns c =
    let k = facts c.args.v c.requires in
    simp (to_z-of_z, k.0, k.1, k.2, k.3, k.4, k.5, k.6, k.7, k.8, k.9, k.10, k.11, k.12, k.13, k.14)

pub overflow_sub-ab : goal.overflow_sub-ab
overflow_sub-ab c = search (to_z-of_z, facts c.args.v c.requires)

pub overflow_sub-bc : goal.overflow_sub-bc
overflow_sub-bc c = search (to_z-of_z, facts c.args.v c.requires)

pub overflow_sub-cd : goal.overflow_sub-cd
overflow_sub-cd c = search (to_z-of_z, facts c.args.v c.requires)

pub overflow_sub-de : goal.overflow_sub-de
overflow_sub-de c = search (to_z-of_z, facts c.args.v c.requires)

pub overflow_sub-ac : goal.overflow_sub-ac
overflow_sub-ac c = search (to_z-of_z, facts c.args.v c.requires)

pub overflow_sub-bd : goal.overflow_sub-bd
overflow_sub-bd c = search (to_z-of_z, facts c.args.v c.requires)

pub overflow_sub-ce : goal.overflow_sub-ce
overflow_sub-ce c = search (to_z-of_z, facts c.args.v c.requires)

pub overflow_sub-ad : goal.overflow_sub-ad
overflow_sub-ad c = search (to_z-of_z, facts c.args.v c.requires)

pub overflow_sub-be : goal.overflow_sub-be
overflow_sub-be c = search (to_z-of_z, facts c.args.v c.requires)

pub overflow_sub-result : goal.overflow_sub-result
overflow_sub-result c = search (to_z-of_z, facts c.args.v c.requires)
