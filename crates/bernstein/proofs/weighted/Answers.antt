-- `bernstein::weighted` meets its contract: the products fit.
use Prim.Native.Nat.{◌^◌, ◌≤◌}
use lib.Dec.{lit<, lit≤}
use lib.IntN.{ℤ, nat_abs, ◌*ℤ◌}
use mir.Syntax.{w64}
use mir.Val.{SFits}
use mir.Facts.{to_z-of_z}
use Rattle.numbers.proofs.Laws.{abs_mul_le}
use Rattle.numbers.proofs.Machine.{abs_fits}
use Rattle.bernstein.specs.declared.Vector5.{Vector5}
use Rattle.bernstein.specs.Sums.{Sized, weighted_of}
use Rattle.bernstein.proofs.Laws.{fits}
use Rattle.bernstein.proofs.weighted.Goals as goal

product : (v w : ℤ) → nat_abs v ≤ 2 ^ 35 → nat_abs w ≤ 2 ^ 16 → SFits w64 (v *ℤ w)
product v w f g = abs_fits w64 (v *ℤ w) (2 ^ 51) (abs_mul_le v w (2 ^ 35) (2 ^ 16) f g) (lit< tt)

module _ (v w : Vector5) (h : Sized (2 ^ 35) v) (l : Sized (2 ^ 16) w) where
  abbrev Products : Type 0
  Products =
      SFits w64 (v.a *ℤ w.a) × SFits w64 (v.b *ℤ w.b) × SFits w64 (v.c *ℤ w.c)
      × SFits w64 (v.d *ℤ w.d) × SFits w64 (v.e *ℤ w.e)

  products : Products
  products = (
    product v.a w.a h.0 l.0,
    product v.b w.b h.1 l.1,
    product v.c w.c h.2 l.2,
    product v.d w.d h.3 l.3,
    product v.e w.e h.4 l.4,
  )

pub overflow_mul-result : goal.overflow_mul-result
overflow_mul-result c =
    let k = fits c.args.v (2 ^ 35) c.requires.0 (lit≤ tt) in
    let m = fits c.args.w (2 ^ 16) c.requires.1 (lit≤ tt) in
    let p = products c.args.v c.args.w c.requires.0 c.requires.1 in
    simp (to_z-of_z, k.0, m.0) p.0

pub overflow_mul-result-2 : goal.overflow_mul-result-2
overflow_mul-result-2 c =
    let k = fits c.args.v (2 ^ 35) c.requires.0 (lit≤ tt) in
    let m = fits c.args.w (2 ^ 16) c.requires.1 (lit≤ tt) in
    let p = products c.args.v c.args.w c.requires.0 c.requires.1 in
    simp (to_z-of_z, k.1, m.1) p.1

pub overflow_mul-result-3 : goal.overflow_mul-result-3
overflow_mul-result-3 c =
    let k = fits c.args.v (2 ^ 35) c.requires.0 (lit≤ tt) in
    let m = fits c.args.w (2 ^ 16) c.requires.1 (lit≤ tt) in
    let p = products c.args.v c.args.w c.requires.0 c.requires.1 in
    simp (to_z-of_z, k.2, m.2) p.2

pub overflow_mul-result-4 : goal.overflow_mul-result-4
overflow_mul-result-4 c =
    let k = fits c.args.v (2 ^ 35) c.requires.0 (lit≤ tt) in
    let m = fits c.args.w (2 ^ 16) c.requires.1 (lit≤ tt) in
    let p = products c.args.v c.args.w c.requires.0 c.requires.1 in
    simp (to_z-of_z, k.3, m.3) p.3

pub overflow_mul-result-5 : goal.overflow_mul-result-5
overflow_mul-result-5 c =
    let k = fits c.args.v (2 ^ 35) c.requires.0 (lit≤ tt) in
    let m = fits c.args.w (2 ^ 16) c.requires.1 (lit≤ tt) in
    let p = products c.args.v c.args.w c.requires.0 c.requires.1 in
    simp (to_z-of_z, k.4, m.4) p.4

pub returns : goal.returns
unfolding weighted_of
returns c =
    let k = fits c.args.v (2 ^ 35) c.requires.0 (lit≤ tt) in
    let m = fits c.args.w (2 ^ 16) c.requires.1 (lit≤ tt) in
    let p = products c.args.v c.args.w c.requires.0 c.requires.1 in
    simp (to_z-of_z, k.0, k.1, k.2, k.3, k.4, m.0, m.1, m.2, m.3, m.4, p.0, p.1, p.2, p.3, p.4)
