-- What the loop over the vertices holds: the sums of the vertex before.
use Rattle.std.specs.Prelude.{List, ℕ, zero, suc}
use Rattle.paper.specs.Archive.{sum_at}

-- the sum on an axis of the vertex before; 0 before the first vertex
unfoldable pub sum_before : List ℕ → ℕ → ℕ → ℕ → ℕ
sum_before bytes n zero a = 0
sum_before bytes n (suc v) a = sum_at bytes n v a
