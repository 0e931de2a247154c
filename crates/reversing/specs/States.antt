-- The states of the faces while turns spread: 0 before a face is reached, then 1 where it is kept and 2 where it is turned.
use Rattle.std.specs.Prelude.{Bool, List, ℕ, ◌-◌, eqb, get_or}
use Rattle.paper.specs.Scan.{pick_n}

-- the choice that the states tell
abbrev pub turns_by : List ℕ → ℕ → Bool
turns_by states f = eqb (get_or states f 0) 2

-- the state across an edge: the other one where its two corners leave in the same direction
abbrev pub state_across : ℕ → Bool → ℕ
state_across state same = pick_n same (3 - state) state
