-- What the calls of the formulas give is what the definitions of rows and grids have, number by number.
use mathlib.Core.Path.{◌≡◌, refl, ap, ◌∙◌}
use mathlib.Core.List.{List, [], ◌∷◌}
use Prim.Native.Nat.{ℕ, zero, suc, ◌*◌, ◌-◌, ◌^◌, ◌<◌}
use native.Mathlib.Omega.{arith}
use lib.Dec.{lit<}
use lib.ListN.{length, get_or}
use lib.IntN.{ℤ, pos, ◌+ℤ◌, ◌-ℤ◌, ◌*ℤ◌}
use mir.Syntax.{w32, w64}
use mir.Val.{SFits, of_z, to_z}
use mir.Facts.{to_z-of_z}
use Rattle.numbers.proofs.Poly.{over, poly}
use Rattle.numbers.proofs.Laws.{add_comm}
use Rattle.numbers.proofs.Machine.{abs_fits}
use Rattle.paper.specs.Numbers.{round, rounded}
use Rattle.paper.specs.Refined.{RefinedMesh}
use Rattle.paper.specs.Cosines.{unit}
use Rattle.paper.specs.Net.{Side, side0, side1, side2, side3, T, Y, outer1, outer2, outer3, a0, a1, a2, a3, middle, a_head, a_tail, b_head, b_tail, b22, b_grid, a_grid}
use Rattle.surface.specs.Sizes.{RefinedSize, ValueSize, WrittenSize, CosineSize}
use Rattle.net_rows.specs.declared.sides.SideValues.{SideValues}
use Rattle.net_rows.specs.sides.Values.{SideSized}
use Rattle.net_rows.specs.declared.rows.RowValues.{RowValues}
use Rattle.net_rows.specs.rows.SideRows.{a12, a21, IsRows, RowsSized, RowsOf, FourRowsSized, IsAGrid, IsBGrid}

-- ---- the machine's number of a value is the value
abbrev pub plain : ℤ → ℤ
plain z = to_z w32 (of_z w32 z)

-- a refined point y that is read as z
abbrev pub ReadAs : ℤ → ℤ → Type 0
ReadAs z y = (plain z ≡ y) × RefinedSize (plain z)

abbrev pub wide : ℤ → ℤ
wide z = to_z w64 (of_z w64 z)

value_fits : (z : ℤ) → ValueSize z → SFits w32 z
value_fits z h = abs_fits w32 z (2 ^ 25) h (lit< tt)

written_fits : (z : ℤ) → WrittenSize z → SFits w32 z
written_fits z h = abs_fits w32 z (2 ^ 26 - 1) h (lit< tt)

row_fits : (z : ℤ) → CosineSize z → SFits w64 z
row_fits = over 1 _ λ ρ. simp (poly, ρ) (omega arith)

pub value : (z : ℤ) → ValueSize z → ValueSize (plain z)
value z h = rw (to_z-of_z (value_fits z h)) h

pub written : (z : ℤ) → WrittenSize z → WrittenSize (plain z)
written z h = rw (to_z-of_z (written_fits z h)) h

pub value_written : (z : ℤ) → ValueSize z → WrittenSize (plain z)
value_written z h = written z (omega arith)

pub row : (z : ℤ) → CosineSize z → CosineSize (wide z)
row z h = rw (to_z-of_z (row_fits z h)) h

pub value_is : (z y : ℤ) → ValueSize z → z ≡ y → plain z ≡ y
value_is z y h e = to_z-of_z (value_fits z h) ∙ e

written_is : (z y : ℤ) → WrittenSize z → z ≡ y → plain z ≡ y
written_is z y h e = to_z-of_z (written_fits z h) ∙ e

pub row_is : (z y : ℤ) → CosineSize z → z ≡ y → wide z ≡ y
row_is z y h e = to_z-of_z (row_fits z h) ∙ e

-- what a call gives: q is r of n / d
abbrev pub Rounds : ℤ → ℤ → ℤ → Type 0
Rounds n d q = (q ≡ round n d) × WrittenSize q

-- ---- the rows of a side
module _ (f g l o : SideValues) (z : SideSized f × SideSized g × SideSized l × SideSized o) (q1 q2 q3 q4 q5 q6 : ℤ)
    (e1 : Rounds (plain f.head +ℤ pos 3 *ℤ plain f.x) (pos 4) q1)
    (e2 : Rounds (plain f.x +ℤ plain f.y) (pos 2) q2)
    (e3 : Rounds (plain f.tail +ℤ pos 3 *ℤ plain f.y) (pos 4) q3)
    (e4 : Rounds (wide f.cosine *ℤ plain f.head +ℤ pos 3 *ℤ (pos unit -ℤ wide f.cosine) *ℤ plain f.x +ℤ pos 2 *ℤ wide
    f.cosine *ℤ plain f.y +ℤ pos unit *ℤ plain g.x +ℤ pos (4 * unit) *ℤ plain f.inner) (pos (8 * unit)) q4)
    (e5 : Rounds ((pos (3 * unit) -ℤ wide f.cosine) *ℤ plain f.y +ℤ wide f.cosine *ℤ plain f.tail +ℤ pos (4 * unit) *ℤ plain
    f.inner +ℤ pos unit *ℤ plain l.y) (pos (8 * unit)) q5)
    (e6 : Rounds (pos 14 *ℤ plain f.inner +ℤ pos 2 *ℤ (plain o.inner -ℤ plain g.inner -ℤ plain l.inner) +ℤ pos 3 *ℤ (plain
    g.x +ℤ plain l.y) -ℤ plain f.head -ℤ plain f.tail) (pos 16) q6)
  where
    pub rows_of_lem : RowsOf f g l o (record { outer1 = plain q1; outer2 = plain q2; outer3 = plain q3; a1 = plain q4; a2 = plain q5; middle = plain q6 })
    unfolding outer1 outer2 outer3 a1 a2 middle
    rows_of_lem = record {
      rows = λ K c s i ig il io.
          let h = value_is f.head _ z.0.head i.head in
          let t = value_is f.tail _ z.0.tail i.tail in
          let x = value_is f.x _ z.0.x i.x in
          let y = value_is f.y _ z.0.y i.y in
          let n = value_is f.inner _ z.0.inner i.inner in
          let k = row_is f.cosine _ z.0.cosine i.cosine in
          let gx = value_is g.x _ z.1.x ig.x in
          let gn = value_is g.inner _ z.1.inner ig.inner in
          let ly = value_is l.y _ z.2.y il.y in
          let ln = value_is l.inner _ z.2.inner il.inner in
          let on = value_is o.inner _ z.3.inner io.inner in
          record {
            outer1 = written_is q1 _ e1.1 (e1.0 ∙ cc (h, x));
            outer2 = written_is q2 _ e2.1 (e2.0 ∙ cc (x, y));
            outer3 = written_is q3 _ e3.1 (e3.0 ∙ cc (t, y, add_comm (T K c s) (pos 3 *ℤ Y K c s)));
            a1 = written_is q4 _ e4.1 (e4.0 ∙ cc (k, h, x, y, gx, n));
            a2 = written_is q5 _ e5.1 (e5.0 ∙ cc (k, t, y, ly, n));
            middle = written_is q6 _ e6.1 (e6.0 ∙ cc (n, on, gn, ln, gx, ly, h, t));
          };
      sized = record {
        outer1 = written q1 e1.1;
        outer2 = written q2 e2.1;
        outer3 = written q3 e3.1;
        a1 = written q4 e4.1;
        a2 = written q5 e5.1;
        middle = written q6 e6.1;
      };
    }

-- ---- the shape of a grid: what holds of each of four, and of each of five
each_of_four : {A : Type 0} (P : A → Type 0) (z a b c d : A) → P a → P b → P c → P d → (i : ℕ) → i < 4 → P (get_or (a ∷ b ∷ c ∷ d ∷ []) i z)
each_of_four P z a b c d pa pb pc pd zero h = pa
each_of_four P z a b c d pa pb pc pd (suc zero) h = pb
each_of_four P z a b c d pa pb pc pd (suc (suc zero)) h = pc
each_of_four P z a b c d pa pb pc pd (suc (suc (suc zero))) h = pd
each_of_four P z a b c d pa pb pc pd (suc (suc (suc (suc i)))) h = absurd (omega arith)

each_of_five : {A : Type 0} (P : A → Type 0) (z a b c d e : A) → P a → P b → P c → P d → P e → (i : ℕ) → i < 5
    → P (get_or (a ∷ b ∷ c ∷ d ∷ e ∷ []) i z)
each_of_five P z a b c d e pa pb pc pd pe zero h = pa
each_of_five P z a b c d e pa pb pc pd pe (suc zero) h = pb
each_of_five P z a b c d e pa pb pc pd pe (suc (suc zero)) h = pc
each_of_five P z a b c d e pa pb pc pd pe (suc (suc (suc zero))) h = pd
each_of_five P z a b c d e pa pb pc pd pe (suc (suc (suc (suc zero)))) h = pe
each_of_five P z a b c d e pa pb pc pd pe (suc (suc (suc (suc (suc i))))) h = absurd (omega arith)

-- ---- the grids
abbrev pub Half : ℤ → ℤ → ℤ → Type 0
Half p q r = Rounds (plain p +ℤ plain q) (pos 2) r

-- the rows of a side, as they are read again
record Again (K : RefinedMesh rounded) (c : ℕ) (s : Side) (r : RowValues) : Type 0 where
  outer1 : plain r.outer1 ≡ outer1 K c s
  outer2 : plain r.outer2 ≡ outer2 K c s
  outer3 : plain r.outer3 ≡ outer3 K c s
  a1 : plain r.a1 ≡ a1 K c s
  a2 : plain r.a2 ≡ a2 K c s
  middle : plain r.middle ≡ middle K c s

again : (K : RefinedMesh rounded) (c : ℕ) (s : Side) (r : RowValues) → RowsSized r → IsRows K c s r → Again K c s r
again K c s r z i = record {
  outer1 = written_is r.outer1 _ z.outer1 i.outer1;
  outer2 = written_is r.outer2 _ z.outer2 i.outer2;
  outer3 = written_is r.outer3 _ z.outer3 i.outer3;
  a1 = written_is r.a1 _ z.a1 i.a1;
  a2 = written_is r.a2 _ z.a2 i.a2;
  middle = written_is r.middle _ z.middle i.middle;
}

half_is : (p q r : ℤ) → Half p q r → plain r ≡ round (plain p +ℤ plain q) (pos 2)
half_is p q r e = written_is r _ e.1 e.0

module _ (r0 r1 r2 r3 : RowValues) (z : FourRowsSized r0 r1 r2 r3) (h00 h03 h30 h33 h11 h12 h21 h22 : ℤ)
    (e00 : Half r0.outer1 r3.outer1 h00) (e03 : Half r0.outer3 r1.outer3 h03)
    (e30 : Half r3.outer3 r2.outer3 h30) (e33 : Half r2.outer1 r1.outer1 h33)
    (e11 : Half r0.middle r3.middle h11) (e12 : Half r0.middle r1.middle h12)
    (e21 : Half r3.middle r2.middle h21) (e22 : Half r1.middle r2.middle h22) where
  pub a_grid_is : IsAGrid r0 r1 r2 r3
      ((plain h00 ∷ plain r0.a1 ∷ plain r0.a2 ∷ plain h03 ∷ [])
      ∷ (plain r3.a1 ∷ plain h11 ∷ plain h12 ∷ plain r1.a2 ∷ [])
      ∷ (plain r3.a2 ∷ plain h21 ∷ plain h22 ∷ plain r1.a1 ∷ [])
      ∷ (plain h30 ∷ plain r2.a2 ∷ plain r2.a1 ∷ plain h33 ∷ [])
      ∷ [])
  unfolding a_grid a0 a3 a_head a_tail
  a_grid_is = record {
    grid = λ K c i.
        let s0 = again K c side0 r0 z.rows0 i.rows0 in
        let s1 = again K c side1 r1 z.rows1 i.rows1 in
        let s2 = again K c side2 r2 z.rows2 i.rows2 in
        let s3 = again K c side3 r3 z.rows3 i.rows3 in
        cc (
          half_is r0.outer1 r3.outer1 h00 e00,
          half_is r0.outer3 r1.outer3 h03 e03,
          half_is r3.outer3 r2.outer3 h30 e30,
          half_is r2.outer1 r1.outer1 h33 e33,
          half_is r0.middle r3.middle h11 e11,
          half_is r0.middle r1.middle h12 e12,
          half_is r3.middle r2.middle h21 e21,
          half_is r1.middle r2.middle h22 e22,
        );
    square = each_of_four (λ (l : List ℤ). length l ≡ 4) [] _ _ _ _ refl refl refl refl;
    sized = (written h12 e12.1, written h21 e21.1);
  }

module _ (c0 c1 c2 c3 : ℤ) (f0 : SFits w32 c0) (f1 : SFits w32 c1) (f2 : SFits w32 c2) (f3 : SFits w32 c3)
    (r0 r1 r2 r3 : RowValues) (z : FourRowsSized r0 r1 r2 r3) (a : List (List ℤ))
    (za : WrittenSize (a12 a)) (zb : WrittenSize (a21 a)) (h11 h13 h31 h33 h22 : ℤ)
    (e11 : Half r3.a1 r0.a1 h11) (e13 : Half r0.a2 r1.a2 h13) (e31 : Half r3.a2 r2.a2 h31) (e33 : Half r2.a1 r1.a1 h33)
    (e22 : Half (a12 a) (a21 a) h22) where
  pub b_grid_is : IsBGrid c0 c1 c2 c3 r0 r1 r2 r3 a
      ((plain c0 ∷ plain r0.outer1 ∷ plain r0.outer2 ∷ plain r0.outer3 ∷ plain c1 ∷ [])
      ∷ (plain r3.outer1 ∷ plain h11 ∷ plain r0.middle ∷ plain h13 ∷ plain r1.outer3 ∷ [])
      ∷ (plain r3.outer2 ∷ plain r3.middle ∷ plain h22 ∷ plain r1.middle ∷ plain r1.outer2 ∷ [])
      ∷ (plain r3.outer3 ∷ plain h31 ∷ plain r2.middle ∷ plain h33 ∷ plain r1.outer1 ∷ [])
      ∷ (plain c3 ∷ plain r2.outer3 ∷ plain r2.outer2 ∷ plain r2.outer1 ∷ plain c2 ∷ [])
      ∷ [])
  unfolding a_grid b_grid b_head b_tail b22
  b_grid_is = record {
    grid = λ K c ends i ea.
        let s0 = again K c side0 r0 z.rows0 i.rows0 in
        let s1 = again K c side1 r1 z.rows1 i.rows1 in
        let s2 = again K c side2 r2 z.rows2 i.rows2 in
        let s3 = again K c side3 r3 z.rows3 i.rows3 in
        cc (
          to_z-of_z f0,
          to_z-of_z f1,
          to_z-of_z f2,
          to_z-of_z f3,
          half_is r3.a1 r0.a1 h11 e11,
          half_is r0.a2 r1.a2 h13 e13,
          half_is r3.a2 r2.a2 h31 e31,
          half_is r2.a1 r1.a1 h33 e33,
          half_is (a12 a) (a21 a) h22 e22,
          written_is (a12 a) (a_tail K c side0) za (ap a12 ea),
          written_is (a21 a) (a_tail K c side3) zb (ap a21 ea),
        );
    square = each_of_five (λ (l : List ℤ). length l ≡ 5) [] _ _ _ _ _ refl refl refl refl refl;
  }
