-- `bernstein::states` meets its contract, row by row.
use Rattle.bernstein.specs.Sums.{states_of, state_of}
use Rattle.bernstein.proofs.Rows.{rows_are}
use Rattle.bernstein.proofs.states.Goals as goal

pub returns : goal.returns
unfolding states_of
returns c = let e = c.map.ensures in rows_are (λ f. state_of f 0) _ c.map.result e.0.1 e.1.1 e.2.1 e.3.1 e.4.1
