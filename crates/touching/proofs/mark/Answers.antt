-- `mark` meets its contract: a vertex is marked where it stands in a face with this one, and that is where this one touches its corners.
use mathlib.Core.Path.{◌≡◌, ◌∙◌}
use mathlib.Core.List.{List}
use Prim.Native.Nat.{ℕ}
use lib.ListN.{length-replicate}
use Rattle.paper.specs.Mesh.{most_vertices}
use Rattle.mesh.specs.Tables.{Named}
use Rattle.touching.proofs.Laws.{marks_are}
use native.Mathlib.Omega.{arith}
use Rattle.touching.proofs.mark.Goals as goal

-- the table has a mark for each vertex
named_in : (corners : List ℕ) (n : ℕ) → Named corners most_vertices → n ≡ most_vertices → Named corners n
named_in corners n h e d l = omega (arith, h d l)

pub mark_corners-requires : goal.mark_corners-requires
mark_corners-requires c =
    (named_in _ _ c.requires.named.0 (omega (arith, c.mark_vertices.auto.sharing, length-replicate {A = ℕ} most_vertices 0)), c.requires.named.1)

pub returns : goal.returns
returns c =
    marks_are c.args.sides.now c.args.corners.now c.args.vertex c.requires.faces.1 c.mark_vertices.new.sharing c.mark_corners.new.marks
    c.mark_vertices.ensures (named_in _ _ c.requires.named.0 (omega (arith, c.mark_vertices.auto.sharing, length-replicate {A = ℕ} most_vertices 0)))
    (c.mark_corners.auto.marks ∙ c.requires.named.1) c.mark_corners.ensures
