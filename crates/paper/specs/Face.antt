-- "Face points": one refined face of m points V[j], given as a function p of the place j that repeats after m.
use Rattle.std.specs.Prelude.{ℕ, ◌+◌, ◌-◌, ◌*◌, ℤ, pos, ◌+ℤ◌, ◌*ℤ◌}
use Rattle.paper.specs.Numbers.{sum_by, Numbers}
use Rattle.paper.specs.Cosines.{unit, cosine}

-- 3·2^30 + 2C(m,k) + 2C(m,k-1)
unfoldable pub weight : ℕ → ℕ → ℤ
weight m k = pos (3 * unit) +ℤ pos 2 *ℤ cosine m k +ℤ pos 2 *ℤ cosine m (k + (m - 1))

module _ (S : Numbers) where
  infixl 7 ◌·◌ ◌÷◌
  open S use {Number, whole, ◌⊕◌, ◌·◌, ◌÷◌}

  -- the centre, r(ΣV / m)
  unfoldable pub centre : (ℕ → Number) → ℕ → Number
  centre p m = sum_by ◌⊕◌ (whole (pos 0)) p m ÷ m

  -- towards the side from V[i] to V[i+1]: r of the sum of V[j] · weight k over all places j = i + k, divided by 3m·2^30
  unfoldable pub toward : (ℕ → Number) → ℕ → ℕ → Number
  toward p m i = sum_by ◌⊕◌ (whole (pos 0)) (λ k. weight m k · p (i + k)) m ÷ (3 * unit * m)
