-- `sampling::put_triangle` meets its contract: three axes make the list of samples.
use mathlib.Core.Path.{◌≡◌, sym, subst}
use mathlib.Core.List.{List}
use Prim.Native.Nat.{ℕ}
use lib.IntN.{ℤ}
use native.Mathlib.Omega.{arith}
use lib.Dec.{lit<}
use Rattle.bernstein.specs.declared.Matrix5.{Matrix5}
use Rattle.sampling.specs.Grid.{Sampleable, RowsPut}
use Rattle.sampling.proofs.Laws.{points_sampleable}
use Rattle.sampling.proofs.Lists.{count_is, triangle_put}
use Rattle.sampling.proofs.put_triangle.Goals as goal

moved : {p q : Matrix5} {n axis rows : ℕ} {old new : List ℤ} → p ≡ q → RowsPut p n axis rows old new → RowsPut q n axis rows old new
moved {p} {q} {n} {axis} {rows} {old} {new} e r = subst (λ (x : Matrix5). RowsPut x n axis rows old new) e r

pub put_axis-requires : goal.put_axis-requires
put_axis-requires c =
    let s = c in (
      subst (λ (p : Matrix5). Sampleable p s.args.n) (sym c.control_points.ensures)
          (points_sampleable s.args.numbers.now s.requires.net.0 s.args.side 0 (lit< tt) s.args.n s.requires.parts.0 s.requires.parts.1),
      lit< tt,
      omega (arith, count_is s.args.n, s.requires.parts.2),
    )

pub put_axis-requires-2 : goal.put_axis-requires-2
put_axis-requires-2 c =
    let s = c in let a = c in (
      subst (λ (p : Matrix5). Sampleable p s.args.n) (sym c.control_points-2.ensures)
          (points_sampleable s.args.numbers.now s.requires.net.0 s.args.side 1 (lit< tt) s.args.n s.requires.parts.0 s.requires.parts.1),
      lit< tt,
      omega (arith, count_is s.args.n, s.requires.parts.2, a.put_axis.ensures.same),
    )

pub put_axis-requires-3 : goal.put_axis-requires-3
put_axis-requires-3 c =
    let s = c in let a = c in let b = c in (
      subst (λ (p : Matrix5). Sampleable p s.args.n) (sym c.control_points-3.ensures)
          (points_sampleable s.args.numbers.now s.requires.net.0 s.args.side 2 (lit< tt) s.args.n s.requires.parts.0 s.requires.parts.1),
      lit< tt,
      omega (arith, count_is s.args.n, s.requires.parts.2, b.put_axis-2.ensures.same, a.put_axis.ensures.same),
    )

pub returns : goal.returns
returns c =
    let x = c in let y = c in let z = c in
    let a = c in let b = c in let s = c in
    triangle_put s.args.numbers.now s.requires.net.0 s.args.side s.args.n s.requires.parts.0 s.requires.parts.1 s.args.points.now _ _ _
    (moved x.control_points.ensures a.put_axis.ensures) (moved y.control_points-2.ensures b.put_axis-2.ensures)
    (moved z.control_points-3.ensures c.put_axis-3.ensures) s.requires.parts.2
