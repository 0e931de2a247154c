-- Laws of plain strips: their numbers without divisions and without a row's cases.
use mathlib.Core.Path.{◌≡◌, sym, ap, ◌∙◌}
use Prim.Native.Nat.{ℕ, zero, suc, ◌+◌, ◌-◌, ◌*◌, ◌^◌, ◌≤◌, ◌<◌}
use native.Mathlib.Omega.{arith}
use Rattle.paper.specs.Net.{Side}
use Rattle.paper.specs.Triangles.{apex, foot}
use Rattle.strips.specs.declared.NumberedRow.{NumberedRow}
use Rattle.strips.specs.PointRows.{row_number, Strip, RisingRow, PlainStrip, strip_number, three}
use Rattle.strips.proofs.Strips.{plain_strips}
use Rattle.strips.proofs.Rowed.{number_first, number_last, number_up, over_three, under_three}

rising_number : (r : NumberedRow) → RisingRow r → (j : ℕ) → j < r.parts → r.first + j ≡ row_number r j
rising_number r h zero l = (let z : r.first + 0 ≡ r.first = omega arith in z) ∙ number_first r 0 (omega arith)
rising_number r h (suc j) l =
    (let z : r.first + suc j ≡ r.base + (suc j - 1) = omega (arith, h.base) in z) ∙ number_up r (suc j) (λ e. omega (arith, e)) (λ e. omega (arith, e)) h.up

pub plain_small : (side : ℕ) (L U : NumberedRow) → Strip side L U → PlainStrip L U
    → (U.parts ≤ 15) × (L.first + U.parts + 1 < 2 ^ 32) × (U.first + U.parts < 2 ^ 32)
plain_small side L U s p =
    let a = s.lower.parts in let b = s.lower.base in let d = s.upper.base in
    (omega (arith, p.as_many), omega (arith, p.as_many, p.lower.base), omega (arith, p.upper.base))

module _ (s : Side) (L U : NumberedRow) (plain : PlainStrip L U) where
  apex_here : (t : ℕ) → t < L.parts → t ≡ apex s L.parts (U.parts + 1) t
  apex_here t h = sym (ap (λ (x : ℕ). apex s L.parts x t) (sym plain.as_many) ∙ (plain_strips s L.parts).0 t h)

  foot_here : (i : ℕ) → i + 1 < L.parts → i + 1 ≡ foot s L.parts (U.parts + 1) i
  foot_here i h = sym (ap (λ (x : ℕ). foot s L.parts x i) (sym plain.as_many) ∙ (plain_strips s L.parts).1 i h)

  pub plain_over : (t : ℕ) → t < U.parts → (x : ℕ) → x < 3 → three (L.first + t) (L.first + t + 1) (U.first + t) x ≡ strip_number s L U (3 * t + x)
  plain_over t h =
      let e = plain.as_many in
      over_three s L U t _ _ _ (omega arith) (rising_number L plain.lower t (omega arith))
      ((let z : L.first + t + 1 ≡ L.first + (t + 1) = omega arith in z) ∙ rising_number L plain.lower (t + 1) (omega arith))
      (rising_number U plain.upper t h ∙ ap (row_number U) (apex_here t (omega arith)))

  pub plain_over_last : (c : ℕ) → c ≡ row_number U U.parts
      → (x : ℕ) → x < 3 → three (L.first + U.parts) L.last c x ≡ strip_number s L U (3 * U.parts + x)
  plain_over_last c q =
      let e = plain.as_many in
      over_three s L U U.parts _ _ _ (omega arith) (rising_number L plain.lower U.parts (omega arith))
      (number_last L (U.parts + 1) (λ z. omega (arith, z)) (omega arith))
      (q ∙ ap (row_number U) (apex_here U.parts (omega arith)))

  foot_number : (i : ℕ) → i < U.parts → L.base + i ≡ row_number L (foot s L.parts (U.parts + 1) i)
  foot_number i h =
      let e = plain.as_many in
      (let z : L.base + i ≡ L.first + (i + 1) = omega (arith, plain.lower.base) in z) ∙ rising_number L plain.lower (i + 1) (omega arith)
      ∙ ap (row_number L) (foot_here i (omega arith))

  pub plain_under : (i : ℕ) → i + 1 < U.parts
      → (x : ℕ) → x < 3 → three (U.first + i + 1) (U.first + i) (L.base + i) x ≡ strip_number s L U (3 * L.parts + (3 * i + x))
  plain_under i h =
      under_three s L U i _ _ _
      ((let z : U.first + i + 1 ≡ U.first + (i + 1) = omega arith in z) ∙ rising_number U plain.upper (i + 1) h)
      (rising_number U plain.upper i (omega arith)) (foot_number i (omega arith))

  pub plain_under_last : (i : ℕ) → i + 1 ≡ U.parts
      → (x : ℕ) → x < 3 → three U.last (U.first + i) (L.base + i) x ≡ strip_number s L U (3 * L.parts + (3 * i + x))
  plain_under_last i h =
      under_three s L U i _ _ _ (number_last U (i + 1) (λ z. omega (arith, z)) h) (rising_number U plain.upper i (omega arith)) (foot_number i (omega arith))
