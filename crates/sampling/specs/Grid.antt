-- Control points that can be sampled, and where the samples of a triangle stand in a list.
use Rattle.std.specs.Prelude.{◌≡◌, List, ℕ, zero, suc, ◌+◌, ◌-◌, ◌*◌, ◌^◌, ◌≤◌, ◌<◌, length, get_or, ℤ, pos, nat_abs}
use Rattle.paper.specs.Numbers.{round}
use Rattle.paper.specs.Sampling.{weights, side_at}
use Rattle.paper.specs.Tangents.{tangent_along, tangent_inward}
use Rattle.sampling.specs.declared.Tangent.{Tangent}
use Rattle.bernstein.specs.declared.Vector5.{Vector5}
use Rattle.bernstein.specs.declared.Matrix5.{Matrix5}
use Rattle.bernstein.specs.Sums.{AllSized, Tapered, polynomial_at, quartic_sum}

-- ---- control points that can be sampled in n parts: no sum of theirs is too large
pub record Sampleable (p : Matrix5) (n : ℕ) : Type 0 where
  pub sized : AllSized (2 ^ 27) p
  pub some : 1 ≤ n
  pub few : n ≤ 16
  pub small : (i j k : ℕ) → i + j + k ≡ n → nat_abs (quartic_sum p (pos i) (pos j) (pos k)) ≤ 2 ^ 27 * n ^ 4

-- `count` of a row of them from `first` on
pub record RowSampleable (e : Vector5) (n first count : ℕ) : Type 0 where
  pub tapers : Tapered (5 * 2 ^ 34) e
  pub some : 1 ≤ n
  pub few : n ≤ 16
  pub short : first + count ≤ 17
  pub early : first ≤ 16
  pub small : (j : ℕ) → j < count → nat_abs (polynomial_at e (first + j)) ≤ 2 ^ 27 * n ^ 4

-- ---- every third number from `from` on, `count` of them, is a value of e over n^4, from that at `first` on; the others are as before
pub record RowPut (e : Vector5) (n first count from : ℕ) (old new : List ℤ) : Type 0 where
  pub same : length new ≡ length old
  pub values : (j : ℕ) → j < count → get_or new (from + 3 * j) (pos 0) ≡ round (polynomial_at e (first + j)) (pos (n ^ 4))
  pub others : (t : ℕ) → ((j : ℕ) → j < count → t ≡ from + 3 * j → ⊥) → get_or new t (pos 0) ≡ get_or old t (pos 0)

-- the samples before row k of a triangle in n parts
unfoldable pub samples_before : ℕ → ℕ → ℕ
samples_before n zero = 0
samples_before n (suc k) = samples_before n k + (n - k + 1)

-- the first `rows` rows of samples on an axis are written; the other numbers are as before
pub record RowsPut (p : Matrix5) (n axis rows : ℕ) (old new : List ℤ) : Type 0 where
  pub same : length new ≡ length old
  pub values : (k j : ℕ) → k < rows → k + j ≤ n
      → get_or new (3 * (samples_before n k + j) + axis) (pos 0) ≡ round (quartic_sum p (pos (n - k - j)) (pos j) (pos k)) (pos (n ^ 4))
  pub others : (t : ℕ) → ((u : ℕ) → u < samples_before n rows → t ≡ 3 * u + axis → ⊥) → get_or new t (pos 0) ≡ get_or old t (pos 0)

-- ---- the two tangents of a side on an axis, where the tail has the weight j and the centre the weight k; the head has the rest
pub record TangentOn (numbers : List ℤ) (side axis j k n : ℕ) (r : Tangent) : Type 0 where
  pub first : (i : ℕ) → i + j + k ≡ n → r.along ≡ tangent_along numbers (side_at side) (weights i j k n) axis
  pub second : (i : ℕ) → i + j + k ≡ n → r.inward ≡ tangent_inward numbers (side_at side) (weights i j k n) axis
  pub first_size : nat_abs r.along ≤ 2 ^ 62
  pub second_size : nat_abs r.inward ≤ 2 ^ 62
