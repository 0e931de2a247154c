-- The part of an accepted mesh's lists that links rest on.
use Rattle.std.specs.Prelude.{◌≡◌, false, List, ℕ, ◌<◌, length}
use Rattle.paper.specs.Corners.{sum_of}
use Rattle.paper.specs.Faults.{fault10, fault11}

-- side counts and corner list with no fault of 6, 10 and 11: each leaving edge leaves one corner and has its reverse
pub record Closed (sides corners : List ℕ) : Type 0 where
  pub sums : sum_of sides ≡ length corners
  pub ten : (c : ℕ) → c < length corners → fault10 sides corners c ≡ false
  pub eleven : (c : ℕ) → c < length corners → fault11 sides corners c ≡ false
