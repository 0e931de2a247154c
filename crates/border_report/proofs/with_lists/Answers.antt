-- `border_report::with_lists` meets its contract: the short copies have room for the lists where these have few entries in all, and the long ones for
-- those of every file whose header passes.
use native.Mathlib.Omega.{arith}
use Rattle.border_report.proofs.Laws.{few_rows}
use Rattle.border_report.proofs.with_lists.Goals as goal

pub with_copies-requires : goal.with_copies-requires
with_copies-requires c =
    let few = few_rows _ _ c.table_rows.ensures (omega arith) in
    record { file = c.requires; room = record { coordinates_fit = omega arith; sides_fit = omega arith; corners_fit = omega arith; sharpness_fit = omega arith } }

pub with_copies-requires-2 : goal.with_copies-requires-2
with_copies-requires-2 c =
    record { file = c.requires; room = record { coordinates_fit = omega arith; sides_fit = omega arith; corners_fit = omega arith; sharpness_fit = omega arith } }
