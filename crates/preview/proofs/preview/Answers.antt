-- `preview` meets its contract: 29; 4 of a list that is too long for the copy; else what building answers and writes on the moved list.
use Prim.Native.Nat.{◌*◌}
use native.Mathlib.Omega.{arith}
use lib.IntN.{ℤ, pos}
use lib.ListN.{length-replicate}
use Rattle.paper.specs.Mesh.{of_lists}
use Rattle.mesh.specs.Tables.{small_mesh}
use Rattle.mesh.proofs.Tables.{rows_suffice}
use Rattle.preview.proofs.Laws.{preview_none, preview_long, preview_built}
use borrow.Author.Rules.{rules}
use Rattle.preview.proofs.preview.Goals as goal

pub returns-then-lists-vertex : goal.returns-then-lists-vertex
returns-then-lists-vertex c = preview_none (of_lists c.args.lists) c.args.to _ _ _ _ (search rules)

pub returns-then-lists-gt-MOST_NUMBERS : goal.returns-then-lists-gt-MOST_NUMBERS
returns-then-lists-gt-MOST_NUMBERS c =
    preview_long (of_lists c.args.lists) c.args.to _ _ _ _ (search rules) (search rules)

pub build_moved-requires : goal.build_moved-requires
build_moved-requires c =
    record { vertex = search rules; room = omega (arith, rows_suffice _ _ c.table_rows.ensures (omega arith), length-replicate {A = ℤ} (3 * small_mesh) (pos 0)) }

pub returns-then-table_rows-eq-SMALL_MESH : goal.returns-then-table_rows-eq-SMALL_MESH
returns-then-table_rows-eq-SMALL_MESH c =
    preview_built (of_lists c.args.lists) c.args.to _ _ _ _ (search rules) _ _ c.build_moved.ensures

pub returns : goal.returns
returns c =
    preview_built (of_lists c.args.lists) c.args.to _ _ _ _ (search rules) _ _ c.build_moved-2.ensures
