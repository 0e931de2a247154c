-- The lanes' polynomials are of degree three and taper, and so do their rows.
use mathlib.Core.Path.{◌≡◌, refl, subst}
use mathlib.Core.Bool.{Bool, true, false}
use Prim.Native.Nat.{ℕ, ◌%◌, ◌*◌, ◌^◌, ◌≤◌}
use native.Mathlib.Omega.{arith}
use lib.Dec.{eqb, lit≤}
use lib.IntN.{ℤ, pos, nat_abs, ◌+ℤ◌, ◌-ℤ◌, ◌*ℤ◌}
use Rattle.numbers.proofs.Diff.{as_diff, diff}
use Rattle.numbers.proofs.Poly.{over, poly}
use Rattle.bernstein.specs.declared.Matrix5.{Matrix5}
use Rattle.bernstein.specs.declared.Vector5.{Vector5}
use Rattle.bernstein.specs.Sums.{Tapered, AllTapered, AllSized, slopes_of, columns_of, weighted_of, weights_of, scaled_of, polynomial_of, row_of, polynomial_at}
use Rattle.bernstein.specs.Tangents.{times_of, along_of, slope_of, inward_of}
use Rattle.bernstein.proofs.Identity.{vector5_same}
use Rattle.bernstein.proofs.Laws.{polynomial_tapers, row_tapers}
use Rattle.bernstein.proofs.Tapering.{HalfTapered, along_halves, inward_halves, along_tapers, inward_tapers}
use Rattle.net_points.specs.writing.Laid.{pick_matrix}
use Rattle.net_tangents.specs.Lanes.{less_of, minus_of, zero_matrix, tailward_of, centreward_of, truncated_of, CubicTapered, CubicRow}

pub matrix_same : {p q r s t p' q' r' s' t' : Vector5} → p ≡ p' → q ≡ q' → r ≡ r' → s ≡ s' → t ≡ t'
    → (let z : Matrix5 = record { r0 = p; r1 = q; r2 = r; r3 = s; r4 = t } in z) ≡ record { r0 = p'; r1 = q'; r2 = r'; r3 = s'; r4 = t' }
matrix_same a b c d e = λ z. record { r0 = a z; r1 = b z; r2 = c z; r3 = d z; r4 = e z }

none : (x : ℤ) → pos 0 ≡ x *ℤ pos 0
none = over 1 _ λ ρ. simp (poly, ρ) (omega arith)

none_of : (m x : ℤ) → pos 0 ≡ m *ℤ (x *ℤ pos 0)
none_of = over 2 _ λ ρ. simp (poly, ρ) (omega arith)

module _ (p : Matrix5) (n : ℤ) where
  abbrev g : Matrix5
  g = slopes_of (columns_of (slopes_of p))

  along_cubic : truncated_of (along_of (polynomial_of p n)) ≡ along_of (polynomial_of p n)
  unfolding truncated_of along_of times_of polynomial_of scaled_of weighted_of weights_of
  along_cubic =
      matrix_same (vector5_same refl refl refl refl (none g.r1.e)) (vector5_same refl refl refl (none_of (pos 2) g.r2.d) (none_of (pos 2) g.r2.e))
      (vector5_same refl refl (none_of (pos 3) g.r3.c) (none_of (pos 3) g.r3.d) (none_of (pos 3) g.r3.e))
      (vector5_same refl (none_of (pos 4) g.r4.b) (none_of (pos 4) g.r4.c) (none_of (pos 4) g.r4.d) (none_of (pos 4) g.r4.e)) refl

  inward_cubic : truncated_of (inward_of (polynomial_of p n)) ≡ inward_of (polynomial_of p n)
  unfolding truncated_of inward_of slope_of polynomial_of scaled_of weighted_of weights_of
  inward_cubic =
      matrix_same refl (vector5_same refl refl refl (none_of (pos 4) g.r1.e) refl)
      (vector5_same refl refl (none_of (pos 3) g.r2.d) (none_of (pos 4) g.r2.e) refl)
      (vector5_same refl (none_of (pos 2) g.r3.c) (none_of (pos 3) g.r3.d) (none_of (pos 4) g.r3.e) refl)
      (vector5_same (none g.r4.b) (none_of (pos 2) g.r4.c) (none_of (pos 3) g.r4.d) (none_of (pos 4) g.r4.e) refl)

-- ---- a matrix less another
minus_cubic : (p q : Matrix5) → truncated_of p ≡ p → truncated_of q ≡ q → truncated_of (minus_of p q) ≡ minus_of p q
unfolding truncated_of minus_of less_of
minus_cubic p q e f = λ z. minus_of (e z) (f z)

zero_cubic : truncated_of zero_matrix ≡ zero_matrix
unfolding truncated_of
zero_cubic = refl

pub less_size : (x y : ℤ) (m r : ℕ) → 2 * m ≤ r → nat_abs x ≤ m → nat_abs y ≤ m → nat_abs (x -ℤ y) ≤ r
less_size x y m r = as_diff x λ p n e. as_diff y λ q o f. simp (diff, e, f) (λ l g h. omega arith)

less_tapers : (u v : Vector5) (A B : ℕ) → 2 * A ≤ B → Tapered A u → Tapered A v → Tapered B (less_of u v)
unfolding less_of
less_tapers u v A B l h k = (
  less_size u.a v.a (65536 * A) (65536 * B) (omega arith) h.0 k.0,
  less_size u.b v.b (4096 * A) (4096 * B) (omega arith) h.1 k.1,
  less_size u.c v.c (256 * A) (256 * B) (omega arith) h.2 k.2,
  less_size u.d v.d (16 * A) (16 * B) (omega arith) h.3 k.3,
  less_size u.e v.e A B (omega arith) h.4 k.4,
)

minus_tapers : (p q : Matrix5) → HalfTapered p → HalfTapered q → AllTapered (minus_of p q)
unfolding minus_of
minus_tapers p q h k = record {
  t0 = less_tapers p.r0 q.r0 (2 ^ 33) (2 ^ 34) (lit≤ tt) h.0 k.0;
  t1 = less_tapers p.r1 q.r1 (2 ^ 29) (2 ^ 30) (lit≤ tt) h.1 k.1;
  t2 = less_tapers p.r2 q.r2 (2 ^ 25) (2 ^ 26) (lit≤ tt) h.2 k.2;
  t3 = less_tapers p.r3 q.r3 (2 ^ 21) (2 ^ 22) (lit≤ tt) h.3 k.3;
  t4 = less_tapers p.r4 q.r4 (2 ^ 17) (2 ^ 18) (lit≤ tt) h.4 k.4;
}

zero_halves : HalfTapered zero_matrix
zero_halves = (
  (lit≤ tt, lit≤ tt, lit≤ tt, lit≤ tt, lit≤ tt),
  (lit≤ tt, lit≤ tt, lit≤ tt, lit≤ tt, lit≤ tt),
  (lit≤ tt, lit≤ tt, lit≤ tt, lit≤ tt, lit≤ tt),
  (lit≤ tt, lit≤ tt, lit≤ tt, lit≤ tt, lit≤ tt),
  (lit≤ tt, lit≤ tt, lit≤ tt, lit≤ tt, lit≤ tt),
)

-- ---- the derivatives in turn
pick_smooth : (b : Bool) (p q : Matrix5) → CubicTapered p → CubicTapered q → CubicTapered (pick_matrix b p q)
pick_smooth true p q h k = h
pick_smooth false p q h k = k

module _ (p c : Matrix5) (n side : ℕ) (h : AllSized (2 ^ 27) p) (l : n ≤ 16) (e : c ≡ polynomial_of p (pos n)) where
  pub polynomial_tapering : AllTapered c
  polynomial_tapering = rw e (polynomial_tapers p n h l)

  along_is_cubic : truncated_of (along_of c) ≡ along_of c
  along_is_cubic = rw e (along_cubic p (pos n))

  inward_is_cubic : truncated_of (inward_of c) ≡ inward_of c
  inward_is_cubic = rw e (inward_cubic p (pos n))

  pub tailward_smooth : CubicTapered (tailward_of side c)
  unfolding tailward_of
  tailward_smooth =
      pick_smooth (eqb (side % 2) 1) (minus_of zero_matrix (along_of c)) (along_of c) (record {
        tapers = minus_tapers zero_matrix (along_of c) zero_halves (along_halves c polynomial_tapering);
        cubic = minus_cubic zero_matrix (along_of c) zero_cubic along_is_cubic;
      }) (record { tapers = along_tapers c polynomial_tapering; cubic = along_is_cubic })

  pub centreward_smooth : CubicTapered (centreward_of side c)
  unfolding centreward_of
  centreward_smooth =
      pick_smooth (eqb (side % 2) 1) (minus_of (inward_of c) (along_of c)) (inward_of c) (record {
        tapers = minus_tapers (inward_of c) (along_of c) (inward_halves c polynomial_tapering) (along_halves c polynomial_tapering);
        cubic = minus_cubic (inward_of c) (along_of c) inward_is_cubic along_is_cubic;
      }) (record { tapers = inward_tapers c polynomial_tapering; cubic = inward_is_cubic })

-- ---- a row of them
abbrev pub value : ℤ → ℤ → ℤ → ℤ → ℤ → ℤ → ℤ
value a b c d e x = a +ℤ x *ℤ (b +ℤ x *ℤ (c +ℤ x *ℤ (d +ℤ x *ℤ e)))

zero_at : (x : ℤ) → value (pos 0) (pos 0) (pos 0) (pos 0) (pos 0) x ≡ pos 0
zero_at = over 1 _ λ ρ. simp (poly, ρ) (omega arith)

truncated_row : (c : Matrix5) (k : ℕ) → (row_of (truncated_of c) k).e ≡ pos 0
unfolding row_of truncated_of polynomial_at
truncated_row c k = zero_at (pos k)

pub row_cubic : (c : Matrix5) (k : ℕ) → k ≤ 16 → CubicTapered c → CubicRow (row_of c k)
row_cubic c k l h = record {
  tapers = row_tapers c k l h.tapers;
  cubic = subst (λ (m : Matrix5). (row_of m k).e ≡ pos 0) h.cubic (truncated_row c k);
}
