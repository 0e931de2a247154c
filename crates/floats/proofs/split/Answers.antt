-- `floats::split` meets its contract: the test picks the case, and each float carries its part.
use mathlib.Core.Path.{◌≡◌}
use mathlib.Core.Bool.{true}
use Prim.Native.Nat.{◌^◌, ◌≤◌}
use lib.IntN.{ℤ, nat_abs}
use Rattle.floats.proofs.Laws.{bits, asked, near_split, far_split}
use Rattle.floats.proofs.split.Goals as goal

-- what `first` asks of the differences
module _ (n : goal.After-is_near-near) where
  abbrev Asked : ℤ → Type 0
  Asked z = (nat_abs (bits z) ≤ 2 ^ 28) × (n.is_near-near.result ≡ true → nat_abs (bits z) ≤ 2 ^ 24)

  ask : Asked n.args.x × Asked n.args.y × Asked n.args.z
  ask = asked n.args.x n.args.y n.args.z n.requires.0 n.requires.1 n.requires.2 n.is_near-near.ensures

pub first-requires : goal.first-requires
first-requires c = (ask c).0

pub first-requires-2 : goal.first-requires-2
first-requires-2 c = (ask (search)).1

pub first-requires-3 : goal.first-requires-3
first-requires-3 c = (ask (search)).2

pub returns-then-near : goal.returns-then-near
returns-then-near c = search near_split

pub returns : goal.returns
returns c = search far_split
