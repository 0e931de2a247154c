-- The 41 points of a corner, over refined points that are off by at most half a tick: each value is one term in the shape of its formula.
use mathlib.Core.List.{List, [], ◌∷◌}
use Prim.Native.Nat.{ℕ, zero, suc, ◌*◌, ◌^◌, ◌<◌, ◌≤◌}
use native.Mathlib.Omega.{arith}
use lib.ListN.{get_or}
use lib.IntN.{ℤ, pos, neg_ℤ, ◌-ℤ◌, ◌*ℤ◌, nat_abs}
use lib.Signed.{◌≤ℤ◌}
use Rattle.paper.specs.Numbers.{rounded, Fraction, exact}
use Rattle.paper.specs.Cosines.{unit, cosine}
use Rattle.paper.specs.Refined.{Corners, RefinedMesh}
use Rattle.paper.specs.Face.{centre, toward}
use Rattle.paper.specs.Net.{End, Side, side0, side1, side2, side3, head, tail, neighbour, at_head, at_tail, opposite, size, head_place, tail_place, ring, points}
use Rattle.paper.specs.Net.{H, T, X, Y, N, C, outer1, outer2, outer3, a0, a1, a2, a3, middle, b_head, b_tail, a_head, a_tail, b22, b_grid, a_grid, net}
use Rattle.numbers.proofs.Poly.{over, poly}
use Rattle.numbers.proofs.Laws.{abs_mul_le}
use Rattle.numbers.proofs.Rules.{bottom, cosine_size}
use Rattle.surface.specs.Sound.{Sound}
use Rattle.surface.proofs.Rings.{neighbour_in, ring_in, size_least, size_most}
use Rattle.accuracy.specs.Bounds.{bounds}
use Rattle.accuracy.proofs.Close.{Close, close_whole, close_plus, close_minus, close_times, close_over}
use Rattle.accuracy.proofs.Face.{centre_close, toward_close}

-- ---- what c from -1/2 to 1 leaves of a weight
one_less : (C : ℤ) → neg_ℤ (pos (2 ^ 29)) ≤ℤ C → nat_abs C ≤ unit → nat_abs (pos 3 *ℤ (pos unit -ℤ C)) ≤ 9 * 2 ^ 29
one_less = over 1 _ λ ρ. simp (poly, ρ) (omega arith)

three_less : (C : ℤ) → neg_ℤ (pos (2 ^ 29)) ≤ℤ C → nat_abs C ≤ unit → nat_abs (pos (3 * unit) -ℤ C) ≤ 7 * 2 ^ 29
three_less = over 1 _ λ ρ. simp (poly, ρ) (omega arith)

-- ---- the numbers of two lists, each off by as much as a third list says
infixr 25 ◌then◌
pub data AllClose : List ℕ → List ℤ → List Fraction → Type 0 where
  none : AllClose [] [] []
  ◌then◌ : {e : ℕ} {z : ℤ} {q : Fraction} {d : List ℕ} {l : List ℤ} {r : List Fraction} → Close e z q → AllClose d l r → AllClose (e ∷ d) (z ∷ l) (q ∷ r)

pub all_at : (d : List ℕ) (l : List ℤ) (r : List Fraction) → AllClose d l r → (j : ℕ)
    → Close (get_or d j 0) (get_or l j (pos 0)) (get_or r j (exact.whole (pos 0)))
all_at [] [] [] none j = close_whole (pos 0)
all_at (e ∷ d) (z ∷ l) (q ∷ r) (h then t) zero = h
all_at (e ∷ d) (z ∷ l) (q ∷ r) (h then t) (suc j) = all_at d l r t j
all_at [] [] (q ∷ r) x3 j = elim x3 [ ]
all_at [] (z ∷ l) r x3 j = elim x3 [ ]
all_at (e ∷ d) [] r x3 j = elim x3 [ ]
all_at (e ∷ d) (z ∷ l) [] x5 j = elim x5 [ ]

-- ---- a corner's net, over refined points off by 50
module _ (G : Corners) (ok : Sound G) (v : ℕ → ℤ) (q : ℕ → Fraction) (close : (c : ℕ) → c < G.count → Close 50 (v c) (q c)) (c : ℕ) (here : c < G.count) where
  abbrev K : RefinedMesh rounded
  K = record { corners = G; point = v }

  abbrev L : RefinedMesh exact
  L = record { corners = G; point = q }

  points_close : (e : End) (j : ℕ) → Close 50 (points K c e j) (points L c e j)
  points_close e j = close (ring G c e j) (ring_in G ok c here e j)

  end_close : (e : End) → Close 100 (centre rounded (points K c e) (size G c e)) (centre exact (points L c e) (size G c e))
  end_close e = centre_close (points K c e) (points L c e) (size G c e) (size_least G ok c here e) (size_most G ok c here e) (points_close e)

  face_close : (e : End) (i : ℕ) → Close 106 (toward rounded (points K c e) (size G c e) i) (toward exact (points L c e) (size G c e) i)
  face_close e = toward_close (points K c e) (points L c e) (size G c e) (size_least G ok c here e) (size_most G ok c here e) (points_close e)

  H-close : (s : Side) → Close 100 (H K c s) (H L c s)
  unfolding H
  H-close s = end_close (head s)

  T-close : (s : Side) → Close 100 (T K c s) (T L c s)
  unfolding T
  T-close s = end_close (tail s)

  X-close : (s : Side) → Close 106 (X K c s) (X L c s)
  unfolding X
  X-close s = face_close (head s) (head_place G c s)

  Y-close : (s : Side) → Close 106 (Y K c s) (Y L c s)
  unfolding Y
  Y-close s = face_close (tail s) (tail_place s)

  N-close : (s : Side) → Close 173 (N K c s) (N L c s)
  unfolding N
  N-close s =
      close_over 6 173 (omega arith) (omega arith)
      (close_minus (close_plus (close_plus (close_times (pos 3) 3 (omega arith) (X-close s)) (close_times (pos 3) 3 (omega arith) (Y-close s))) (close c here))
      (close (neighbour G c s) (neighbour_in G ok c here s)))

  outer1_close : (s : Side) → Close 155 (outer1 K c s) (outer1 L c s)
  unfolding outer1
  outer1_close s = close_over 4 155 (omega arith) (omega arith) (close_plus (H-close s) (close_times (pos 3) 3 (omega arith) (X-close s)))

  outer2_close : (s : Side) → Close 156 (outer2 K c s) (outer2 L c s)
  unfolding outer2
  outer2_close s = close_over 2 156 (omega arith) (omega arith) (close_plus (X-close s) (Y-close s))

  outer3_close : (s : Side) → Close 155 (outer3 K c s) (outer3 L c s)
  unfolding outer3
  outer3_close s = close_over 4 155 (omega arith) (omega arith) (close_plus (close_times (pos 3) 3 (omega arith) (Y-close s)) (T-close s))

  a0_close : (s : Side) → Close 206 (a0 K c s) (a0 L c s)
  unfolding a0
  a0_close s = close_over 2 206 (omega arith) (omega arith) (close_plus (outer1_close s) (outer1_close (at_head s)))

  a3_close : (s : Side) → Close 206 (a3 K c s) (a3 L c s)
  unfolding a3
  a3_close s = close_over 2 206 (omega arith) (omega arith) (close_plus (outer3_close s) (outer3_close (at_tail s)))

  -- C is the same in both: from -1/2 to 1
  row_size : (s : Side) → nat_abs (cosine (size G c (head s)) 1) ≤ unit
  row_size s = cosine_size (size G c (head s)) (size_least G ok c here (head s)) (size_most G ok c here (head s)) 1

  lowest : (s : Side) → neg_ℤ (pos (2 ^ 29)) ≤ℤ cosine (size G c (head s)) 1
  lowest s = bottom (size G c (head s)) (size_least G ok c here (head s)) (size_most G ok c here (head s))

  a1_close : (s : Side) → Close 249 (a1 K c s) (a1 L c s)
  unfolding a1 C
  a1_close s =
      let k : ℤ = cosine (size G c (head s)) 1 in
      close_over (8 * unit) 249 (omega arith) (omega arith)
      (close_plus (close_plus (close_plus (close_plus
      (close_times k unit (row_size s) (H-close s))
      (close_times (pos 3 *ℤ (pos unit -ℤ k)) (9 * 2 ^ 29) (one_less k (lowest s) (row_size s)) (X-close s)))
      (close_times (pos 2 *ℤ k) (2 * unit) (abs_mul_le (pos 2) k 2 unit (omega arith) (row_size s)) (Y-close s)))
      (close_times (pos unit) unit (omega arith) (X-close (at_head s))))
      (close_times (pos (4 * unit)) (4 * unit) (omega arith) (N-close s)))

  a2_close : (s : Side) → Close 209 (a2 K c s) (a2 L c s)
  unfolding a2 C
  a2_close s =
      let k : ℤ = cosine (size G c (head s)) 1 in
      close_over (8 * unit) 209 (omega arith) (omega arith)
      (close_plus (close_plus (close_plus
      (close_times (pos (3 * unit) -ℤ k) (7 * 2 ^ 29) (three_less k (lowest s) (row_size s)) (Y-close s))
      (close_times k unit (row_size s) (T-close s)))
      (close_times (pos (4 * unit)) (4 * unit) (omega arith) (N-close s)))
      (close_times (pos unit) unit (omega arith) (Y-close (at_tail s))))

  middle_close : (s : Side) → Close 319 (middle K c s) (middle L c s)
  unfolding middle
  middle_close s =
      close_over 16 319 (omega arith) (omega arith)
      (close_minus (close_minus (close_plus (close_plus
      (close_times (pos 14) 14 (omega arith) (N-close s))
      (close_times (pos 2) 2 (omega arith) (close_minus (close_minus (N-close (opposite s)) (N-close (at_head s))) (N-close (at_tail s)))))
      (close_times (pos 3) 3 (omega arith) (close_plus (X-close (at_head s)) (Y-close (at_tail s)))))
      (H-close s)) (T-close s))

  b_head_close : (s : Side) → Close 299 (b_head K c s) (b_head L c s)
  unfolding b_head
  b_head_close s = close_over 2 299 (omega arith) (omega arith) (close_plus (a1_close (at_head s)) (a1_close s))

  b_tail_close : (s : Side) → Close 259 (b_tail K c s) (b_tail L c s)
  unfolding b_tail
  b_tail_close s = close_over 2 259 (omega arith) (omega arith) (close_plus (a2_close s) (a2_close (at_tail s)))

  a_head_close : (s : Side) → Close 369 (a_head K c s) (a_head L c s)
  unfolding a_head
  a_head_close s = close_over 2 369 (omega arith) (omega arith) (close_plus (middle_close s) (middle_close (at_head s)))

  a_tail_close : (s : Side) → Close 369 (a_tail K c s) (a_tail L c s)
  unfolding a_tail
  a_tail_close s = close_over 2 369 (omega arith) (omega arith) (close_plus (middle_close s) (middle_close (at_tail s)))

  b22_close : Close 419 (b22 K c) (b22 L c)
  unfolding b22
  b22_close = close_over 2 419 (omega arith) (omega arith) (close_plus (a_tail_close side0) (a_tail_close side3))

  -- all 41
  pub all_close : AllClose bounds (net K c) (net L c)
  unfolding net b_grid a_grid bounds
  all_close =
      H-close side0 then outer1_close side0 then outer2_close side0 then outer3_close side0 then T-close side0
      then outer1_close side3 then b_head_close side0 then middle_close side0 then b_tail_close side0 then outer3_close side1
      then outer2_close side3 then middle_close side3 then b22_close then middle_close side1 then outer2_close side1
      then outer3_close side3 then b_tail_close side3 then middle_close side2 then b_head_close side1 then outer1_close side1
      then T-close side3 then outer3_close side2 then outer2_close side2 then outer1_close side2 then H-close side2
      then a0_close side0 then a1_close side0 then a2_close side0 then a3_close side0
      then a1_close side3 then a_head_close side0 then a_tail_close side0 then a2_close side1
      then a2_close side3 then a_tail_close side3 then a_head_close side1 then a1_close side1
      then a3_close side3 then a2_close side2 then a1_close side2 then a0_close side2
      then none
