-- `net_points::writing::put_spokes` meets its contract: before ring k + 1 the states are those of row k, and the rows of the rings before it are put.
use mathlib.Core.Path.{◌≡◌}
use Prim.Native.Nat.{ℕ}
use lib.IntN.{ℤ, pos}
use Rattle.bernstein.specs.declared.Matrix5.{Matrix5}
use Rattle.bernstein.specs.Sums.{polynomial_of, states_of}
use Rattle.net_points.specs.writing.Laid.{Reaches, SpokeAim, SpokePlace}
use Rattle.net_points.proofs.writing.put_spokes.Given as goal

abbrev pub invariant-loop-k : goal.invariant-loop-k
invariant-loop-k l =
    (p : Matrix5) → l.initial.s ≡ states_of (polynomial_of p (pos l.n)) 0
    → (l.s ≡ states_of (polynomial_of p (pos l.n)) l.k)
    × ((f : ℕ → ℤ) → SpokeAim p l.side l.n l.at f → Reaches f (SpokePlace l.side l.n l.at l.k) l.initial.points l.points)
