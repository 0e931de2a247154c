-- Rings of three and of four: their rows of the cosine table are exact, so the weights are 4, 4, 1 and 5, 5, 1, 1 times 2^30, and what the formulas
-- answer is the centre, or the point towards a side, of every ring that has the points in turn.
use mathlib.Core.Path.{◌≡◌, sym, ap, ◌∙◌}
use Prim.Native.Nat.{ℕ, ◌+◌, ◌*◌, ◌^◌}
use native.Mathlib.Omega.{arith}
use lib.IntN.{ℤ, pos, ◌+ℤ◌, ◌*ℤ◌}
use lib.Signed.{lt_z_yes}
use mir.Syntax.{w32}
use mir.Val.{to_z, of_z}
use mir.Facts.{to_z-of_z}
use lib.Dec.{lit<}
use Rattle.paper.specs.Numbers.{sum, sum_by, rounded, round}
use Rattle.paper.specs.Cosines.{unit, table, cosine}
use Rattle.paper.specs.Face.{centre, weight, toward}
use Rattle.numbers.proofs.Poly.{over, poly}
use Rattle.numbers.proofs.Laws.{zero_add}
use Rattle.numbers.proofs.Machine.{abs_fits}
use Rattle.numbers.proofs.Nearest.{round_scale}
use Rattle.numbers.proofs.Sum.{Cyclic, cycle}
use Rattle.surface.specs.Sizes.{RefinedSize, FaceSize}
use Rattle.surface.proofs.Faces.{toward_is}
use Rattle.faces.specs.Ring.{ThreeCentre, ThreeToward, FourCentre, FourToward}

-- ---- a refined point that was read, in the machine's numbers
pub read : (z y : ℤ) → z ≡ y → RefinedSize y → (to_z w32 (of_z w32 z) ≡ y) × RefinedSize (to_z w32 (of_z w32 z))
read z y e h = let f : to_z w32 (of_z w32 z) ≡ y = rw e (to_z-of_z (abs_fits w32 y (2 ^ 24) h (lit< tt))) in (f, rw f h)

-- ---- places
swap : (j i : ℕ) → j + i ≡ i + j
swap j i = omega arith

none : (i : ℕ) → i + 0 ≡ i
none i = omega arith

wider : (z : ℤ) → RefinedSize z → FaceSize z
wider z h = omega arith

-- ---- three
three : (f : ℕ → ℤ) → sum f 3 ≡ f 0 +ℤ f 1 +ℤ f 2
unfolding sum_by
three f = ap (λ (z : ℤ). z +ℤ f 1 +ℤ f 2) (zero_add (f 0))

ninths : (a b c : ℤ) → a *ℤ pos (4 * unit) +ℤ b *ℤ pos (4 * unit) +ℤ c *ℤ pos unit ≡ pos unit *ℤ (pos 4 *ℤ a +ℤ pos 4 *ℤ b +ℤ c)
ninths = over 3 _ λ ρ. simp (poly, ρ) (omega arith)

toward_three : (p : ℕ → ℤ) (i : ℕ) → toward rounded p 3 i ≡ round (pos 4 *ℤ p (i + 0) +ℤ pos 4 *ℤ p (i + 1) +ℤ p (i + 2)) (pos 9)
unfolding weight cosine table
toward_three p i =
    toward_is p 3 i
    ∙ ap (λ (z : ℤ). round z (pos (9 * unit))) (three (λ k. p (i + k) *ℤ weight 3 k) ∙ ninths (p (i + 0)) (p (i + 1)) (p (i + 2)))
    ∙ round_scale (pos unit) (pos 4 *ℤ p (i + 0) +ℤ pos 4 *ℤ p (i + 1) +ℤ p (i + 2)) (pos 9) (lt_z_yes tt) (lt_z_yes tt)

centre_three : (p : ℕ → ℤ) → Cyclic p 3 → (i : ℕ) → centre rounded p 3 ≡ round (p (0 + i) +ℤ p (1 + i) +ℤ p (2 + i)) (pos 3)
unfolding centre
centre_three p cyc i = ap (λ (z : ℤ). round z (pos 3)) (sym (cycle p 3 cyc i) ∙ three (λ j. p (j + i)))

pub three_centre : (v w x r : ℤ) → (r ≡ round (v +ℤ w +ℤ x) (pos 3)) × RefinedSize r → ThreeCentre v w x r
three_centre v w x r h = record {
  of = λ p i t. record {
    is = cc (h.0, centre_three p t.cyclic i, ap p (swap 0 i), ap p (swap 1 i), ap p (swap 2 i), ap p (none i), t.first, t.second, t.third);
    size = h.1;
  };
}

pub three_toward : (v w x r : ℤ) → (r ≡ round (pos 4 *ℤ v +ℤ pos 4 *ℤ w +ℤ x) (pos 9)) × RefinedSize r → ThreeToward v w x r
three_toward v w x r h = record {
  of = λ p i t. record { is = cc (h.0, toward_three p i, ap p (none i), t.first, t.second, t.third); size = wider r h.1 };
}

-- ---- four
four : (f : ℕ → ℤ) → sum f 4 ≡ f 0 +ℤ f 1 +ℤ f 2 +ℤ f 3
unfolding sum_by
four f = ap (λ (z : ℤ). z +ℤ f 1 +ℤ f 2 +ℤ f 3) (zero_add (f 0))

twelfths : (a b c d : ℤ)
    → a *ℤ pos (5 * unit) +ℤ b *ℤ pos (5 * unit) +ℤ c *ℤ pos unit +ℤ d *ℤ pos unit ≡ pos unit *ℤ (pos 5 *ℤ a +ℤ pos 5 *ℤ b +ℤ c +ℤ d)
twelfths = over 4 _ λ ρ. simp (poly, ρ) (omega arith)

toward_four : (p : ℕ → ℤ) (i : ℕ) → toward rounded p 4 i ≡ round (pos 5 *ℤ p (i + 0) +ℤ pos 5 *ℤ p (i + 1) +ℤ p (i + 2) +ℤ p (i + 3)) (pos 12)
unfolding weight cosine table
toward_four p i =
    toward_is p 4 i
    ∙ ap (λ (z : ℤ). round z (pos (12 * unit))) (four (λ k. p (i + k) *ℤ weight 4 k) ∙ twelfths (p (i + 0)) (p (i + 1)) (p (i + 2)) (p (i + 3)))
    ∙ round_scale (pos unit) (pos 5 *ℤ p (i + 0) +ℤ pos 5 *ℤ p (i + 1) +ℤ p (i + 2) +ℤ p (i + 3)) (pos 12) (lt_z_yes tt) (lt_z_yes tt)

centre_four : (p : ℕ → ℤ) → Cyclic p 4 → (i : ℕ) → centre rounded p 4 ≡ round (p (0 + i) +ℤ p (1 + i) +ℤ p (2 + i) +ℤ p (3 + i)) (pos 4)
unfolding centre
centre_four p cyc i = ap (λ (z : ℤ). round z (pos 4)) (sym (cycle p 4 cyc i) ∙ four (λ j. p (j + i)))

pub four_centre : (v w x y r : ℤ) → (r ≡ round (v +ℤ w +ℤ x +ℤ y) (pos 4)) × RefinedSize r → FourCentre v w x y r
four_centre v w x y r h = record {
  of = λ p i t. record {
    is = cc (
      h.0,
      centre_four p t.cyclic i,
      ap p (swap 0 i),
      ap p (swap 1 i),
      ap p (swap 2 i),
      ap p (swap 3 i),
      ap p (none i),
      t.first,
      t.second,
      t.third,
      t.fourth,
    );
    size = h.1;
  };
}

pub four_toward : (v w x y r : ℤ) → (r ≡ round (pos 5 *ℤ v +ℤ pos 5 *ℤ w +ℤ x +ℤ y) (pos 12)) × RefinedSize r → FourToward v w x y r
four_toward v w x y r h = record {
  of = λ p i t. record { is = cc (h.0, toward_four p i, ap p (none i), t.first, t.second, t.third, t.fourth); size = wider r h.1 };
}
