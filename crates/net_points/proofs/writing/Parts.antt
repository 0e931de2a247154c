-- The parts of a corner's points join: rings side by side, a border axis by axis, and all groups.
use mathlib.Core.Path.{◌≡◌, sym, ap, ◌∙◌, subst}
use mathlib.Core.Logic.{◌⊎◌, inl, inr}
use mathlib.Core.List.{List}
use Prim.Native.Nat.{ℕ, zero, suc, ◌+◌, ◌-◌, ◌*◌, ◌^◌, ◌≤◌, ◌<◌}
use native.Mathlib.Omega.{arith}
use lib.IntN.{ℤ, pos}
use Rattle.paper.specs.Numbers.{round}
use Rattle.bernstein.specs.declared.Vector5.{Vector5}
use Rattle.bernstein.specs.declared.Matrix5.{Matrix5}
use Rattle.bernstein.specs.Sums.{polynomial_of, row_of, polynomial_at, quartic_sum}
use Rattle.sampling.specs.Grid.{RowPut}
use Rattle.sampling.proofs.Lists.{row_value, from_none, below_or_last}
use Rattle.net_points.specs.writing.Laid.{Reaches, InTurn, CurveAim, CurvePlace, ring_at, SpokeAim, SpokePlace, RingsAim, RingsPlace}
use Rattle.net_points.proofs.writing.Laws.{reaches_part, reaches_more, row_reaches}

-- ---- a side's row on one more ring
module _ (p : Matrix5) (n side at k : ℕ) (old mid new : List ℤ) (h : k + 1 < n) (e : Vector5) (is : e ≡ row_of (polynomial_of p (pos n)) (suc k)) (ring w from : ℕ)
    (ring_is : ring ≡ 2 * (k * (2 * n - k - 1))) (w-is : w ≡ n - suc k) (place : from ≡ at + 3 * (ring + side * w))
    (r : RowPut e n 0 w from mid new) where
  spot : (j : ℕ) → from + 3 * j ≡ at + 3 * ring_at n side k j
  spot j = (let q : from + 3 * j ≡ at + 3 * (ring + side * w + j) = omega arith in q) ∙ (λ z. at + 3 * (ring_is z + side * w-is z + j))

  value_is : (j : ℕ) → j < w → polynomial_at e (0 + j) ≡ quartic_sum p (pos (n - suc k - j)) (pos j) (pos (suc k))
  value_is j l = ap (polynomial_at e) (from_none j) ∙ ap (λ (f : Vector5). polynomial_at f j) is ∙ row_value p n (suc k) j (omega arith)

  pub spokes_step : (f : ℕ → ℤ) → SpokeAim p side n at f → Reaches f (SpokePlace side n at k) old mid → Reaches f (SpokePlace side n at (k + 1)) old new
  spokes_step f aim m =
      reaches_part
      (reaches_more m (row_reaches r f (λ j l. ap f (spot j) ∙ aim k j (omega arith) ∙ ap (λ (z : ℤ). round z (pos (n ^ 4))) (sym (value_is j l)))))
      (λ t s.
      below_or_last s.0 k s.2 (λ l. inl (s.0, s.1, l, s.3, s.4))
      (λ q. inr (s.1, (let b = s.3 in let z : s.1 < w = omega arith in z), s.4 ∙ ap (λ (x : ℕ). at + 3 * ring_at n side x s.1) q ∙ sym (spot s.1))))

-- all rings that have such a row
pub spokes_all : (f : ℕ → ℤ) (side n at k : ℕ) (old new : List ℤ) → n ≤ k + 1 → Reaches f (SpokePlace side n at k) old new → Reaches f (SpokePlace side n at n) old new
spokes_all f side n at k old new h r = reaches_part r (λ t s. (s.0, s.1, (let b = s.3 in omega arith), s.3, s.4))

-- ---- one more side, axis by axis
module _ (numbers : List ℤ) (n at side : ℕ) (l : side < 4) (f : ℕ → ℤ) (aim : RingsAim numbers n at f) where
  pub spoke_aim : (axis x : ℕ) → axis < 3 → x ≡ at + axis → (p : Matrix5) → InTurn numbers side axis p → SpokeAim p side n x f
  spoke_aim axis x a q p t k j h =
      ap f (let z : x + 3 * ring_at n side k j ≡ at + 3 * ring_at n side k j + axis = moved (ring_at n side k j) in z)
      ∙ aim side k j axis l h a ∙ sym (t.samples n (suc k) j (omega arith))
    where
      moved : (r : ℕ) → x + 3 * r ≡ at + 3 * r + axis
      moved r = omega arith

  module _ (old a b c d : List ℤ) (m : Reaches f (RingsPlace n at side) old a) (x : Reaches f (SpokePlace side n at n) a b)
      (y : Reaches f (SpokePlace side n (at + 1) n) b c) (z : Reaches f (SpokePlace side n (at + 2) n) c d) where
    pub rings_step : Reaches f (RingsPlace n at (side + 1)) old d
    rings_step =
        reaches_part (reaches_more (reaches_more (reaches_more m x) y) z)
        (λ t s. below_or_last s.0 side s.4
        (λ o. inl (inl (inl (s.0, s.1, s.2, s.3, o, s.5, s.6, s.7))))
        (λ q. here t s.1 s.2 s.3 (subst (λ (i : ℕ). t ≡ at + 3 * ring_at n i s.1 s.2 + s.3) q s.7) s.5 s.6))
      where
        there : (x r : ℕ) → at + x + 3 * r ≡ at + 3 * r + x
        there x r = omega arith

        here : (t k j axis : ℕ) → t ≡ at + 3 * ring_at n side k j + axis → j < n - suc k → axis < 3
            → ((RingsPlace n at side t ⊎ SpokePlace side n at n t) ⊎ SpokePlace side n (at + 1) n t) ⊎ SpokePlace side n (at + 2) n t
        here t k j zero q b o = inl (inl (inr (k, j, omega arith, b, q ∙ none (at + 3 * ring_at n side k j))))
          where
            none : (x : ℕ) → x + 0 ≡ x
            none x = omega arith
        here t k j (suc zero) q b o = inl (inr (k, j, omega arith, b, q ∙ sym (there 1 (ring_at n side k j))))
        here t k j (suc (suc zero)) q b o = inr (k, j, omega arith, b, q ∙ sym (there 2 (ring_at n side k j)))
        here t k j (suc (suc (suc x))) q b o = absurd (omega arith)

-- ---- a border, axis by axis
module _ (numbers : List ℤ) (side m at : ℕ) (some : 1 ≤ m) (f : ℕ → ℤ) (aim : CurveAim numbers side m at f) where
  pub curve_row : (axis x : ℕ) → axis < 3 → x ≡ at + axis → (p : Matrix5) → InTurn numbers side axis p → (old new : List ℤ)
      → RowPut (row_of (polynomial_of p (pos m)) 0) m 1 (m - 1) x old new → Reaches f (λ t. (j : ℕ) × (j < m - 1) × (t ≡ x + 3 * j)) old new
  curve_row axis x a q p t old new r =
      row_reaches r f (λ j l.
      ap f (let z : x + 3 * j ≡ at + 3 * j + axis = omega arith in z) ∙ aim j axis (omega arith) a ∙ sym (t.samples m 0 (j + 1) (omega arith))
      ∙ ap (λ (z : ℤ). round z (pos (m ^ 4)))
      (sym (row_value p m 0 (j + 1) (omega arith)) ∙ ap (polynomial_at (row_of (polynomial_of p (pos m)) 0)) (let z : j + 1 ≡ 1 + j = omega arith in z)))

  module _ (a b c d : List ℤ) (x : Reaches f (λ t. (j : ℕ) × (j < m - 1) × (t ≡ at + 3 * j)) a b)
      (y : Reaches f (λ t. (j : ℕ) × (j < m - 1) × (t ≡ at + 1 + 3 * j)) b c) (z : Reaches f (λ t. (j : ℕ) × (j < m - 1) × (t ≡ at + 2 + 3 * j)) c d) where
    pub curve_all : Reaches f (CurvePlace m at) a d
    curve_all = reaches_part (reaches_more (reaches_more x y) z) (λ t s. here t s.0 s.1 s.2 s.3 s.4)
      where
        here : (t j axis : ℕ) → j + 1 < m → axis < 3 → t ≡ at + 3 * j + axis
            → (((j : ℕ) × (j < m - 1) × (t ≡ at + 3 * j)) ⊎ ((j : ℕ) × (j < m - 1) × (t ≡ at + 1 + 3 * j))) ⊎ ((j : ℕ) × (j < m - 1) × (t ≡ at + 2 + 3 * j))
        here t j zero h o q = inl (inl (j, omega arith, omega arith))
        here t j (suc zero) h o q = inl (inr (j, omega arith, omega arith))
        here t j (suc (suc zero)) h o q = inr (j, omega arith, omega arith)
        here t j (suc (suc (suc x))) h o q = absurd (omega arith)
