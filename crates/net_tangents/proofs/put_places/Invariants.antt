-- `put_places` meets its contract: before each turn the tangents at the places before are written, and the numbers are those of this place.
use Prim.Native.Nat.{ℕ, ◌+◌, ◌*◌}
use Rattle.bernstein.specs.declared.Matrix5.{Matrix5}
use Rattle.strips.specs.PointRows.{Fills}
use Rattle.net_tangents.specs.Lanes.{Lanes, SixStates, rows_at, value_number}
use Rattle.net_tangents.proofs.put_places.Given as goal

abbrev pub invariant-loop-j : goal.invariant-loop-j
invariant-loop-j l =
    (F : ℕ → Matrix5) (k : ℕ) → Lanes F l.lane (l.lane + 6) k l.table
    → SixStates (rows_at F l.lane k) (l.first + l.j) l.states × Fills (value_number (rows_at F l.lane k) l.first) l.at (6 * l.j) l.initial.out l.out
