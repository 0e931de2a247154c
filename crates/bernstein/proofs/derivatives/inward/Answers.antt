-- `bernstein::derivatives::inward` meets its contract, row by row.
use Rattle.bernstein.specs.Tangents.{inward_of, slope_of}
use Rattle.bernstein.proofs.Rows.{rows_are}
use Rattle.bernstein.proofs.derivatives.inward.Goals as goal

pub returns : goal.returns
unfolding inward_of
returns c = let e = c.map.ensures in rows_are slope_of _ c.map.result e.0.1 e.1.1 e.2.1 e.3.1 e.4.1
