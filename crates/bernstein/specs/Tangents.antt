-- The tangents as the code has them: the derivatives of the polynomial, by the powers of the second and of the third weight.
use Rattle.std.specs.Prelude.{ℤ, pos, ◌+ℤ◌, ◌-ℤ◌, ◌*ℤ◌}
use Rattle.bernstein.specs.declared.Vector5.{Vector5}
use Rattle.bernstein.specs.declared.Matrix5.{Matrix5}
use Rattle.bernstein.specs.Sums.{vector5, each_row, linear, quadratic, cubic}

-- ---- the differences of control points, along the rows and from row to row
abbrev pub steps_along : Vector5 → Vector5
steps_along v = vector5 (v.b -ℤ v.a) (v.c -ℤ v.b) (v.d -ℤ v.c) (v.e -ℤ v.d) (pos 0)

unfoldable pub along_rows : Matrix5 → Matrix5
along_rows = each_row steps_along

abbrev pub steps_between : Vector5 → Vector5 → Vector5
steps_between v w = vector5 (w.a -ℤ v.a) (w.b -ℤ v.b) (w.c -ℤ v.c) (w.d -ℤ v.d) (pos 0)

unfoldable pub inward_rows : Matrix5 → Matrix5
inward_rows p = record {
  r0 = steps_between p.r0 p.r1;
  r1 = steps_between p.r1 p.r2;
  r2 = steps_between p.r2 p.r3;
  r3 = steps_between p.r3 p.r4;
  r4 = vector5 (pos 0) (pos 0) (pos 0) (pos 0) (pos 0);
}

-- their cubic sum over three weights, of the first four rows
unfoldable pub cubic_sum : Matrix5 → ℤ → ℤ → ℤ → ℤ
cubic_sum d i j k =
    cubic d.r0.a d.r0.b d.r0.c d.r0.d i j
    +ℤ pos 3 *ℤ k *ℤ quadratic d.r1.a d.r1.b d.r1.c i j
    +ℤ pos 3 *ℤ k *ℤ k *ℤ linear d.r2.a d.r2.b i j
    +ℤ k *ℤ k *ℤ k *ℤ d.r3.a

-- ---- the polynomial's derivatives: by the second weight, row p + 1 times p + 1; by the third, in each row the coefficient of power q + 1 times q + 1
unfoldable pub times_of : ℤ → Vector5 → Vector5
times_of z v = vector5 (z *ℤ v.a) (z *ℤ v.b) (z *ℤ v.c) (z *ℤ v.d) (z *ℤ v.e)

unfoldable pub along_of : Matrix5 → Matrix5
along_of c = record {
  r0 = c.r1;
  r1 = times_of (pos 2) c.r2;
  r2 = times_of (pos 3) c.r3;
  r3 = times_of (pos 4) c.r4;
  r4 = vector5 (pos 0) (pos 0) (pos 0) (pos 0) (pos 0);
}

unfoldable pub slope_of : Vector5 → Vector5
slope_of f = vector5 f.b (pos 2 *ℤ f.c) (pos 3 *ℤ f.d) (pos 4 *ℤ f.e) (pos 0)

unfoldable pub inward_of : Matrix5 → Matrix5
inward_of = each_row slope_of
