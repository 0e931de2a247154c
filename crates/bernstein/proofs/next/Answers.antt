-- `bernstein::next` meets its contract, state by state.
use Rattle.bernstein.specs.Sums.{steps_of, step_of}
use Rattle.bernstein.proofs.Rows.{rows_are}
use Rattle.bernstein.proofs.next.Goals as goal

pub returns : goal.returns
unfolding steps_of
returns c = let e = c.map.ensures in rows_are step_of _ c.map.result e.0.1 e.1.1 e.2.1 e.3.1 e.4.1
