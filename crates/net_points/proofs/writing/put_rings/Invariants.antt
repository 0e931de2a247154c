-- `net_points::writing::put_rings` meets its contract: the sides before are put.
use Prim.Native.Nat.{ℕ}
use lib.IntN.{ℤ}
use Rattle.net_points.specs.writing.Laid.{Reaches, RingsAim, RingsPlace}
use Rattle.net_points.proofs.writing.put_rings.Given as goal

abbrev pub invariant-loop-side : goal.invariant-loop-side
invariant-loop-side l = (f : ℕ → ℤ) → RingsAim l.numbers l.n l.at f → Reaches f (RingsPlace l.n l.at l.side) l.initial.points l.points
