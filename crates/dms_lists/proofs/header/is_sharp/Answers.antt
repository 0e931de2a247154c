-- The test of the number read is the test of the file's.
use mathlib.Core.Path.{ap}
use Prim.Native.Nat.{ℕ}
use lib.Dec.{eqb}
use Rattle.paper.specs.File.{sharp}
use Rattle.dms_lists.proofs.header.is_sharp.Goals as goal

pub returns : goal.returns
unfolding sharp
returns c = ap (λ (n : ℕ). eqb n 2) c.half.ensures.0
