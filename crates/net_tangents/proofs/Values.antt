-- The values of the lanes' polynomials are the numbers of the tangents, side by side and place by place.
use mathlib.Core.Path.{◌≡◌, refl, sym, ap, ◌∙◌, subst}
use mathlib.Core.Bool.{Bool, true, false}
use mathlib.Core.List.{List}
use Prim.Native.Nat.{ℕ, zero, suc, ◌+◌, ◌-◌, ◌*◌, ◌/◌, ◌%◌, ◌^◌, ◌≤◌, ◌<◌}
use native.Mathlib.Omega.{arith}
use lib.Dec.{ltb, eqb}
use borrow.Author.Tests.{eqb-true, eqb-false}
use lib.ListN.{get_or}
use lib.IntN.{ℤ, pos, ◌+ℤ◌, ◌-ℤ◌, ◌*ℤ◌}
use Rattle.paper.specs.Faults.{sound}
use Rattle.paper.specs.Floats.{net_verdict}
use Rattle.paper.specs.Sampling.{control, on_axis, side_at}
use Rattle.paper.specs.Triangles.{turn_weights}
use Rattle.paper.specs.Tangents.{tangent_along, tangent_inward, tangent_pair}
use Rattle.numbers.proofs.Poly.{over, poly}
use Rattle.bernstein.specs.declared.Vector5.{Vector5}
use Rattle.bernstein.specs.declared.Matrix5.{Matrix5}
use Rattle.bernstein.specs.Sums.{AllSized, linear, quadratic, cubic, rows_of, polynomial_of, row_of, polynomial_at}
use Rattle.bernstein.specs.Tangents.{along_rows, inward_rows, cubic_sum, along_of, inward_of}
use Rattle.bernstein.proofs.Identity.{vector5_same}
use Rattle.bernstein.proofs.Derivative.{along_is, inward_is, along_sum, inward_sum}
use Rattle.sampling.proofs.TangentLaws.{along_value, inward_value}
use Rattle.net_points.specs.writing.Laid.{pick_matrix, reversed_of, turned_of}
use Rattle.net_points.proofs.writing.Laws.{even_weights, odd_weights, turned_size}
use Rattle.net_tangents.specs.Lanes.{less_of, minus_of, zero_matrix, tailward_of, centreward_of, lane_of, CubicTapered, rows_at, value_number}
use Rattle.net_tangents.specs.Paired.{part_number}
use Rattle.net_tangents.proofs.Cubic.{value, tailward_smooth, centreward_smooth}

-- ---- rows from their other ends: the sums of their differences
along_back : (a b c d e f g h i l m n o p i' j k : ℤ)
    → cubic (d -ℤ e) (c -ℤ d) (b -ℤ c) (a -ℤ b) i' j +ℤ pos 3 *ℤ k *ℤ quadratic (h -ℤ i) (g -ℤ h) (f -ℤ g) i' j +ℤ pos 3 *ℤ k *ℤ k *ℤ linear (m -ℤ n) (l -ℤ m) i' j
    +ℤ k *ℤ k *ℤ k *ℤ (o -ℤ p)
    ≡ pos 0 -ℤ (cubic (b -ℤ a) (c -ℤ b) (d -ℤ c) (e -ℤ d) j i' +ℤ pos 3 *ℤ k *ℤ quadratic (g -ℤ f) (h -ℤ g) (i -ℤ h) j i'
    +ℤ pos 3 *ℤ k *ℤ k *ℤ linear (m -ℤ l) (n -ℤ m) j i' +ℤ k *ℤ k *ℤ k *ℤ (p -ℤ o))
along_back = over 17 _ λ ρ. simp (poly, ρ) (omega arith)

along_reversed : (p : Matrix5) (i j k : ℤ) → cubic_sum (along_rows (reversed_of p)) i j k ≡ pos 0 -ℤ cubic_sum (along_rows p) j i k
unfolding cubic_sum along_rows reversed_of
along_reversed p i j k =
    along_back p.r0.a p.r0.b p.r0.c p.r0.d p.r0.e p.r1.a p.r1.b p.r1.c p.r1.d p.r2.a p.r2.b p.r2.c p.r3.a p.r3.b i j k

inward_back : (a b c d e f g h i l m n o p q i' j k : ℤ)
    → (cubic (i -ℤ e) (h -ℤ d) (g -ℤ c) (f -ℤ b) i' j +ℤ pos 3 *ℤ k *ℤ quadratic (n -ℤ i) (m -ℤ h) (l -ℤ g) i' j +ℤ pos 3 *ℤ k *ℤ k *ℤ linear (p -ℤ n) (o -ℤ m) i' j
    +ℤ k *ℤ k *ℤ k *ℤ (q -ℤ p))
    -ℤ (cubic (d -ℤ e) (c -ℤ d) (b -ℤ c) (a -ℤ b) i' j +ℤ pos 3 *ℤ k *ℤ quadratic (h -ℤ i) (g -ℤ h) (f -ℤ g) i' j +ℤ pos 3 *ℤ k *ℤ k *ℤ linear (m -ℤ n) (l -ℤ m) i' j
    +ℤ k *ℤ k *ℤ k *ℤ (o -ℤ p))
    ≡ cubic (f -ℤ a) (g -ℤ b) (h -ℤ c) (i -ℤ d) j i' +ℤ pos 3 *ℤ k *ℤ quadratic (l -ℤ f) (m -ℤ g) (n -ℤ h) j i' +ℤ pos 3 *ℤ k *ℤ k *ℤ linear (o -ℤ l) (p -ℤ m) j i'
    +ℤ k *ℤ k *ℤ k *ℤ (q -ℤ o)
inward_back = over 18 _ λ ρ. simp (poly, ρ) (omega arith)

inward_reversed : (p : Matrix5) (i j k : ℤ) → cubic_sum (inward_rows (reversed_of p)) i j k -ℤ cubic_sum (along_rows (reversed_of p)) i j k ≡ cubic_sum (inward_rows p) j i k
unfolding cubic_sum along_rows inward_rows reversed_of
inward_reversed p i j k =
    inward_back p.r0.a p.r0.b p.r0.c p.r0.d p.r0.e p.r1.a p.r1.b p.r1.c p.r1.d p.r2.a p.r2.b p.r2.c p.r3.a p.r3.b p.r4.a i j k

-- ---- the value of a polynomial less another
less_at : (a b c d e f g h i l x : ℤ) → value (a -ℤ f) (b -ℤ g) (c -ℤ h) (d -ℤ i) (e -ℤ l) x ≡ value a b c d e x -ℤ value f g h i l x
less_at = over 11 _ λ ρ. simp poly (omega arith)

less_value : (u v : Vector5) (x : ℕ) → polynomial_at (less_of u v) x ≡ polynomial_at u x -ℤ polynomial_at v x
unfolding less_of polynomial_at
less_value u v x = less_at u.a u.b u.c u.d u.e v.a v.b v.c v.d v.e (pos x)

minus_row : (p q : Matrix5) (k : ℕ) → row_of (minus_of p q) k ≡ less_of (row_of p k) (row_of q k)
unfolding row_of minus_of less_of
minus_row p q k =
    vector5_same (less_value p.r0 q.r0 k) (less_value p.r1 q.r1 k) (less_value p.r2 q.r2 k) (less_value p.r3 q.r3 k) (less_value p.r4 q.r4 k)

minus_value : (p q : Matrix5) (k j : ℕ) → polynomial_at (row_of (minus_of p q) k) j ≡ polynomial_at (row_of p k) j -ℤ polynomial_at (row_of q k) j
minus_value p q k j = ap (λ (v : Vector5). polynomial_at v j) (minus_row p q k) ∙ less_value (row_of p k) (row_of q k) j

void_at : (x y : ℤ) → (let z : ℤ = value (pos 0) (pos 0) (pos 0) (pos 0) (pos 0) x in value z z z z z y) ≡ pos 0
void_at = over 2 _ λ ρ. simp (poly, ρ) (omega arith)

zero_value : (k j : ℕ) → polynomial_at (row_of zero_matrix k) j ≡ pos 0
unfolding polynomial_at row_of
zero_value k j = void_at (pos k) (pos j)

turned_about : (z : ℤ) → pos 0 -ℤ pos 4 *ℤ (pos 0 -ℤ z) ≡ pos 4 *ℤ z
turned_about = over 1 _ λ ρ. simp (poly, ρ) (omega arith)

taken_out : (x y : ℤ) → pos 4 *ℤ x -ℤ pos 4 *ℤ y ≡ pos 4 *ℤ (x -ℤ y)
taken_out = over 2 _ λ ρ. simp (poly, ρ) (omega arith)

-- ---- the derivatives in turn, at place j of row k
module _ (numbers : List ℤ) (side axis n k j : ℕ) (h : side ≤ 3) (l : k + j ≤ n) where
  abbrev points : Matrix5
  points = rows_of (control (on_axis numbers axis) (side_at side))

  abbrev i : ℕ
  i = n - k - j

  sum : i + j + k ≡ n
  sum = omega arith

  abbrev At : Matrix5 → ℤ
  At m = polynomial_at (row_of m k) j

  abbrev in_parts : Matrix5 → Matrix5
  in_parts p = polynomial_of p (pos n)

  along_at : (p : Matrix5) → At (along_of (in_parts p)) ≡ pos 4 *ℤ cubic_sum (along_rows p) (pos i) (pos j) (pos k)
  along_at p = subst (λ (m : ℕ). At (along_of (polynomial_of p (pos m))) ≡ pos 4 *ℤ cubic_sum (along_rows p) (pos i) (pos j) (pos k)) sum (along_is p i j k)

  inward_at : (p : Matrix5) → At (inward_of (in_parts p)) ≡ pos 4 *ℤ cubic_sum (inward_rows p) (pos i) (pos j) (pos k)
  inward_at p = subst (λ (m : ℕ). At (inward_of (polynomial_of p (pos m))) ≡ pos 4 *ℤ cubic_sum (inward_rows p) (pos i) (pos j) (pos k)) sum (inward_is p i j k)

  tail_even : (side % 2 ≡ 1 → ⊥) → At (along_of (in_parts points)) ≡ tangent_along numbers (side_at side) (turn_weights (side_at side) n k j) axis
  tail_even o = along_value numbers side axis i j k n sum ∙ ap (λ w. tangent_along numbers (side_at side) w axis) (sym (even_weights side n k j h o))

  centre_even : (side % 2 ≡ 1 → ⊥) → At (inward_of (in_parts points)) ≡ tangent_inward numbers (side_at side) (turn_weights (side_at side) n k j) axis
  centre_even o = inward_value numbers side axis i j k n sum ∙ ap (λ w. tangent_inward numbers (side_at side) w axis) (sym (even_weights side n k j h o))

  tail_odd : side % 2 ≡ 1 → At (minus_of zero_matrix (along_of (in_parts (reversed_of points)))) ≡ tangent_along numbers (side_at side) (turn_weights (side_at side) n k j) axis
  unfolding tangent_along
  tail_odd o =
      minus_value zero_matrix (along_of (in_parts (reversed_of points))) k j
      ∙ (λ z. zero_value k j z -ℤ (along_at (reversed_of points) ∙ ap (λ (x : ℤ). pos 4 *ℤ x) (along_reversed points (pos i) (pos j) (pos k))) z)
      ∙ turned_about (cubic_sum (along_rows points) (pos j) (pos i) (pos k))
      ∙ ap (λ (x : ℤ). pos 4 *ℤ x) (sym (along_sum (on_axis numbers axis) (side_at side) j i k))
      ∙ ap (λ w. tangent_along numbers (side_at side) w axis) (sym (odd_weights side n k j h o))

  centre_odd : side % 2 ≡ 1
      → At (minus_of (inward_of (in_parts (reversed_of points))) (along_of (in_parts (reversed_of points)))) ≡ tangent_inward numbers (side_at side) (turn_weights (side_at side) n k j) axis
  unfolding tangent_inward
  centre_odd o =
      minus_value (inward_of (in_parts (reversed_of points))) (along_of (in_parts (reversed_of points))) k j
      ∙ (λ z. inward_at (reversed_of points) z -ℤ along_at (reversed_of points) z)
      ∙ taken_out (cubic_sum (inward_rows (reversed_of points)) (pos i) (pos j) (pos k)) (cubic_sum (along_rows (reversed_of points)) (pos i) (pos j) (pos k))
      ∙ ap (λ (x : ℤ). pos 4 *ℤ x) (inward_reversed points (pos i) (pos j) (pos k) ∙ sym (inward_sum (on_axis numbers axis) (side_at side) j i k))
      ∙ ap (λ w. tangent_inward numbers (side_at side) w axis) (sym (odd_weights side n k j h o))

  tail_picked : (b : Bool) → (b ≡ true → side % 2 ≡ 1) → (b ≡ false → side % 2 ≡ 1 → ⊥)
      → At (pick_matrix b (minus_of zero_matrix (along_of (in_parts (pick_matrix b (reversed_of points) points)))) (along_of (in_parts (pick_matrix b (reversed_of points) points))))
      ≡ tangent_along numbers (side_at side) (turn_weights (side_at side) n k j) axis
  tail_picked true f g = tail_odd (f refl)
  tail_picked false f g = tail_even (g refl)

  centre_picked : (b : Bool) → (b ≡ true → side % 2 ≡ 1) → (b ≡ false → side % 2 ≡ 1 → ⊥)
      → (let c = in_parts (pick_matrix b (reversed_of points) points) in At (pick_matrix b (minus_of (inward_of c) (along_of c)) (inward_of c)))
      ≡ tangent_inward numbers (side_at side) (turn_weights (side_at side) n k j) axis
  centre_picked true f g = centre_odd (f refl)
  centre_picked false f g = centre_even (g refl)

  tail_value : At (tailward_of side (in_parts (turned_of numbers side axis))) ≡ tangent_along numbers (side_at side) (turn_weights (side_at side) n k j) axis
  unfolding tailward_of turned_of
  tail_value = tail_picked (eqb (side % 2) 1) (eqb-true (side % 2) 1) (eqb-false (side % 2) 1)

  centre_value : At (centreward_of side (in_parts (turned_of numbers side axis))) ≡ tangent_inward numbers (side_at side) (turn_weights (side_at side) n k j) axis
  unfolding centreward_of turned_of
  centre_value = centre_picked (eqb (side % 2) 1) (eqb-true (side % 2) 1) (eqb-false (side % 2) 1)

-- ---- the lanes
abbrev side_lane : List ℤ → ℕ → ℕ → ℕ → ℕ → Matrix5
side_lane numbers n side axis e =
    let c = polynomial_of (turned_of numbers side axis) (pos n) in pick_matrix (ltb e 3) (tailward_of side c) (centreward_of side c)

pub lane_is : (numbers : List ℤ) (n y side axis e : ℕ) → y / 6 ≡ side → y % 3 ≡ axis → y % 6 ≡ e → lane_of numbers n y ≡ side_lane numbers n side axis e
unfolding lane_of
lane_is numbers n y side axis e a b d = λ z. side_lane numbers n (a z) (b z) (d z)

module _ (numbers : List ℤ) (n k j side : ℕ) (h : side ≤ 3) (l : k + j ≤ n) where
  abbrev Pair : ℕ → ℤ
  Pair e = get_or (tangent_pair numbers (side_at side) (turn_weights (side_at side) n k j)) e (pos 0)

  by : (e axis : ℕ) → (6 * side + e) / 6 ≡ side → (6 * side + e) % 3 ≡ axis → (6 * side + e) % 6 ≡ e
      → polynomial_at (row_of (lane_of numbers n (6 * side + e)) k) j ≡ polynomial_at (row_of (side_lane numbers n side axis e) k) j
  by e axis a b d = ap (λ (m : Matrix5). polynomial_at (row_of m k) j) (lane_is numbers n (6 * side + e) side axis e a b d)

  pub lane_value : (e : ℕ) → e < 6 → polynomial_at (row_of (lane_of numbers n (6 * side + e)) k) j ≡ Pair e
  unfolding tangent_pair
  lane_value zero b = by 0 0 (omega arith) (omega arith) (omega arith) ∙ tail_value numbers side 0 n k j h l
  lane_value (suc zero) b = by 1 1 (omega arith) (omega arith) (omega arith) ∙ tail_value numbers side 1 n k j h l
  lane_value (suc (suc zero)) b = by 2 2 (omega arith) (omega arith) (omega arith) ∙ tail_value numbers side 2 n k j h l
  lane_value (suc (suc (suc zero))) b = by 3 0 (omega arith) (omega arith) (omega arith) ∙ centre_value numbers side 0 n k j h l
  lane_value (suc (suc (suc (suc zero)))) b = by 4 1 (omega arith) (omega arith) (omega arith) ∙ centre_value numbers side 1 n k j h l
  lane_value (suc (suc (suc (suc (suc zero))))) b = by 5 2 (omega arith) (omega arith) (omega arith) ∙ centre_value numbers side 2 n k j h l
  lane_value (suc (suc (suc (suc (suc (suc e)))))) b = absurd (omega arith)

-- at the places of a row
pub values_part : (numbers : List ℤ) (n k side first count : ℕ) → side ≤ 3 → k + first + count ≤ n + 1 → (x : ℕ) → x < 6 * count
    → value_number (rows_at (lane_of numbers n) (6 * side) k) first x ≡ part_number numbers side n k first x
unfolding part_number
values_part numbers n k side first count h l x b = lane_value numbers n k (first + x / 6) side h (omega arith) (x % 6) (omega arith)

-- of degree three, and tapering
module _ (numbers : List ℤ) (e : net_verdict numbers ≡ sound) (n : ℕ) (few : n ≤ 16) (y : ℕ) (h : y < 24) where
  sized : AllSized (2 ^ 27) (turned_of numbers (y / 6) (y % 3))
  sized = turned_size numbers e (y / 6) (y % 3) (omega arith)

  picked : (b : Bool) → CubicTapered (let c = polynomial_of (turned_of numbers (y / 6) (y % 3)) (pos n) in pick_matrix b (tailward_of (y / 6) c) (centreward_of (y / 6) c))
  picked true = tailward_smooth (turned_of numbers (y / 6) (y % 3)) _ n (y / 6) sized few refl
  picked false = centreward_smooth (turned_of numbers (y / 6) (y % 3)) _ n (y / 6) sized few refl

  pub lane_smooth : CubicTapered (lane_of numbers n y)
  unfolding lane_of
  lane_smooth = picked (ltb (y % 6) 3)
