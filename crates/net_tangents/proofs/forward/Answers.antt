-- `forward` meets its contract: the sums fit.
use Prim.Native.Nat.{◌^◌, ◌≤◌}
use native.Mathlib.Omega.{arith}
use lib.Dec.{lit≤}
use lib.IntN.{ℤ, pos, nat_abs, ◌+ℤ◌, ◌*ℤ◌}
use mir.Syntax.{w64}
use mir.Val.{SFits}
use mir.Facts.{to_z-of_z}
use Rattle.numbers.proofs.Poly.{over, poly}
use Rattle.bernstein.specs.declared.Matrix5.{Matrix5}
use Rattle.bernstein.specs.declared.Vector5.{Vector5}
use Rattle.bernstein.specs.Sums.{AllSized}
use Rattle.bernstein.proofs.Laws.{fits}
use Rattle.bernstein.proofs.Tapering.{tapered_sized}
use Rattle.net_tangents.specs.Lanes.{forward_of}
use Rattle.net_tangents.proofs.forward.Goals as goal
use Rattle.net_tangents.proofs.forward.Goals.{Start}

abbrev FitsRow : Vector5 → Type 0
FitsRow v = SFits w64 v.a × SFits w64 v.b × SFits w64 v.c × SFits w64 v.d × SFits w64 v.e

abbrev Fine : ℤ → ℤ → ℤ → ℤ → ℤ → Type 0
Fine a b c d e =
    SFits w64 (pos 6 *ℤ c) × SFits w64 (a +ℤ b) × SFits w64 (a +ℤ b +ℤ c) × SFits w64 (d +ℤ e) × SFits w64 (pos 2 *ℤ b) × SFits w64 (pos 2 *ℤ b +ℤ pos 6 *ℤ c)
    × SFits w64 (pos 2 *ℤ e)

sums_fit : (a b c d e : ℤ) → nat_abs a ≤ 2 ^ 54 → nat_abs b ≤ 2 ^ 54 → nat_abs c ≤ 2 ^ 54 → nat_abs d ≤ 2 ^ 54 → nat_abs e ≤ 2 ^ 54 → Fine a b c d e
sums_fit = over 5 _ λ ρ. simp (poly, ρ) (omega arith)

-- the sums fit, and so do the rows that they are made from
module _ (s : Start) where
  abbrev m : Matrix5
  m = s.args.c

  sizes : AllSized (2 ^ 54) m
  sizes = tapered_sized m s.requires

  fine : Fine m.r1.a m.r2.a m.r3.a m.r1.b m.r2.b
  fine = sums_fit m.r1.a m.r2.a m.r3.a m.r1.b m.r2.b sizes.1.0 sizes.2.0 sizes.3.0 sizes.1.1 sizes.2.1

  row1 : FitsRow m.r1
  row1 = fits m.r1 (2 ^ 54) sizes.1 (lit≤ tt)

  row2 : FitsRow m.r2
  row2 = fits m.r2 (2 ^ 54) sizes.2 (lit≤ tt)

  row3 : FitsRow m.r3
  row3 = fits m.r3 (2 ^ 54) sizes.3 (lit≤ tt)

pub returns : goal.returns
unfolding forward_of
returns c =
    let f = fine (search) in
    let k0 = fits c.args.c.r0 (2 ^ 54) (sizes (search)).0 (lit≤ tt) in
    let k1 = row1 (search) in
    let k2 = row2 (search) in
    simp (to_z-of_z, k0.0, k0.1, k0.2, k0.3, k1.0, k1.1, k1.2, k2.0, k2.1, (row3 (search)).0, f.0, f.1, f.2, f.3, f.4, f.5, f.6)

pub overflow_add-result : goal.overflow_add-result
overflow_add-result c = simp (to_z-of_z, (row1 (search)).0, (row2 (search)).0) (fine (search)).1

pub overflow_add-result-2 : goal.overflow_add-result-2
overflow_add-result-2 c = simp (to_z-of_z, (row1 (search)).0, (row2 (search)).0, (row3 (search)).0, (fine (search)).1) (fine (search)).2

pub overflow_add-result-3 : goal.overflow_add-result-3
overflow_add-result-3 c = simp (to_z-of_z, (row1 (search)).1, (row2 (search)).1) (fine (search)).3

pub overflow_mul-result : goal.overflow_mul-result
overflow_mul-result c = simp (to_z-of_z, (row2 (search)).0) (fine (search)).4

pub overflow_add-result-4 : goal.overflow_add-result-4
overflow_add-result-4 c = simp (to_z-of_z, (row2 (search)).0, (row3 (search)).0, (fine (search)).4, (fine (search)).0) (fine (search)).5

pub overflow_mul-result-2 : goal.overflow_mul-result-2
overflow_mul-result-2 c = simp (to_z-of_z, (row2 (search)).1) (fine (search)).6
